-- `sheets::sheet::put_refusal` meets its contract: a refusal's line has at most 50 bytes.
use native.Mathlib.Omega.{arith}
use Rattle.texts.specs.declared.text.Answer.TheVariants.{Refused}
use Rattle.texts.proofs.Laws.{answer_put, at_most}
use Rattle.sheets.proofs.sheet.put_refusal.Goals as goal

pub returns : goal.returns
returns c =
    rw (← c.number.ensures.value, ← c.place.ensures) (at_most {m = 50} (omega arith) (answer_put (Refused c.number.result c.place.result) (omega arith) c.put_answer.ensures.value c.put_answer.ensures.out_after))
