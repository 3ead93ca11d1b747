-- `saved::saved::call` meets its contract: by whether the call can be read, its answer fits, the bytes are a record, and the call is refused.
use mathlib.Core.Path.{sym, ◌∙◌}
use Rattle.std.specs.Prelude.{Ok, Err}
use borrow.Author.Rules.{rules}
use Rattle.words.proofs.Laws.{bytes_each}
use Rattle.saved.proofs.Reaching.{owned_turn, asked_for, call_unread, call_short, call_broken, call_refused, call_done}
use Rattle.saved.proofs.saved.call.Goals as goal

pub returns-in_default : goal.returns-in_default
returns-in_default c = call_unread _ _ _ (sym c.read_call.ensures ∙ c.in_default.is) c.code.ensures

pub returns-then-answer-lt-ANSWER_SIZE : goal.returns-then-answer-lt-ANSWER_SIZE
returns-then-answer-lt-ANSWER_SIZE c = call_short _ _ _ (sym c.read_call.ensures ∙ c.in-Some.is) c.if-answer-lt-ANSWER_SIZE.true c.code-then-answer-lt-ANSWER_SIZE.ensures

pub returns-in_default-read_record : goal.returns-in_default-read_record
returns-in_default-read_record c =
    call_broken _ _ _ (sym c.read_call.ensures ∙ c.in-Some.is) c.if-answer-lt-ANSWER_SIZE.false (sym c.read_record.ensures ∙ c.in_default-read_record.is) c.write_reply.ensures

pub returns-in-Ok : goal.returns-in-Ok
returns-in-Ok c =
    let p = c.in-Some-read_record.p in
    let known = sym c.read_call.ensures ∙ c.in-Some.is in
    let bytes = bytes_each c.args.saved.now (λ j. search rules) in
    let comes = asked_for c.args.saved.now c.args.call.now c.args.answer.now known c.if-answer-lt-ANSWER_SIZE.false p (Ok c.in-Ok.j) (rw c.in-Ok.is at c.turn.ensures c.is_sound.ensures) in
    let fits = owned_turn c.read_record.result _ c.read_record.type_inv c.turn.result _ c.turn.type_inv p c.in-Some-read_record.is c.in-Ok.j c.in-Ok.is in
    call_done _ _ _ known c.if-answer-lt-ANSWER_SIZE.false (sym c.read_record.ensures ∙ c.in-Some-read_record.is) c.in-Ok.j comes fits (rw c.passed.ensures at c.write_reply-in-Ok.ensures) bytes c.carry.ensures

pub returns-in-Err : goal.returns-in-Err
returns-in-Err c =
    let known = sym c.read_call.ensures ∙ c.in-Some.is in
    let denied = asked_for c.args.saved.now c.args.call.now c.args.answer.now known c.if-answer-lt-ANSWER_SIZE.false c.in-Some-read_record.p (Err c.in-Err.d) (rw c.in-Err.is at c.turn.ensures c.is_sound.ensures) in
    call_refused _ _ _ known c.if-answer-lt-ANSWER_SIZE.false (sym c.read_record.ensures ∙ c.in-Some-read_record.is) denied c.write_reply-in-Err.ensures
