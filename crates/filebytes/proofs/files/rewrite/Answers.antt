-- `filebytes::files::rewrite` meets its contract: each refusal comes before the first byte.
use Rattle.filebytes.proofs.Refusals.{unnamed, rewrite_misread, rewritten}
use Rattle.filebytes.proofs.files.rewrite.Goals as goal

pub returns-in_default : goal.returns-in_default
returns-in_default c = unnamed _ _ _ c.in_default.ensures c.code.ensures

pub returns-in-Ok : goal.returns-in-Ok
returns-in-Ok c =
    rewritten _ _ c.in-Some.ensures.0 _ c.in-Ok.ensures c.in-Some.ensures.1 c.write.result c.write.ensures c.of_writing.ensures

pub returns-in-Err : goal.returns-in-Err
returns-in-Err c = rewrite_misread _ _ c.in-Some.ensures.0 _ c.in-Err.m c.in-Err.ensures c.of_misread.ensures
