-- `tablefile::layout::default_payload` meets its contract: the default goes by the tag.
use Rattle.tablefile.specs.Layout.{default_payload}
use Rattle.tablefile.proofs.layout.default_payload.Goals as goal

pub returns-then-row : goal.returns-then-row
unfolding default_payload
returns-then-row c = rw c.if-row.true

pub returns-else-row : goal.returns-else-row
unfolding default_payload
returns-else-row c = rw c.if-row.false
