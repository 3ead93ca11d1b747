-- `runs::input::answer_all` meets its contract: nothing is read, or all of the bytes.
use Rattle.runs.proofs.Reading.{not_read, has_room_lem, is_read_lem}
use Rattle.runs.proofs.input.answer_all.Goals as goal

pub returns-then-not-is_read : goal.returns-then-not-is_read
returns-then-not-is_read c = not_read _ _ _ c.is_read.ensures c.if-not-is_read.true

pub answers-requires : goal.answers-requires
answers-requires c = has_room_lem c.args.run c.args.s.now c.args.out.now c.is_read.ensures c.if-not-is_read.false

pub returns : goal.returns
returns c = is_read_lem _ _ _ c.is_read.ensures c.if-not-is_read.false c.answers.ensures
