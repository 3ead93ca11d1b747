-- `recordread::fits::is_record` meets its contract: a header that fits keeps the rows within the places.
use mathlib.Core.Path.{sym, ◌∙◌}
use native.Mathlib.Omega.{arith}
use Rattle.recordbytes.proofs.Laws.{head_words_lem}
use Rattle.recordread.proofs.fits.is_record.Goals as goal

pub rows_fit-requires : goal.rows_fit-requires
rows_fit-requires c = let few = (head_words_lem _ (sym c.head_fits.ensures ∙ c.if-not-head_fits.false)).rows in omega (arith, c.word-n.ensures)

pub lasts_fit-requires : goal.lasts_fit-requires
lasts_fit-requires c = let few = (head_words_lem _ (sym c.head_fits.ensures ∙ c.if-not-head_fits.false)).rows in omega (arith, c.word-n.ensures)
