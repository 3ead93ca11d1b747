-- `effects::records::change` meets its contract: each case is a law of `Laws`.
use Rattle.effects.proofs.Laws.{left_a, left_b, left_best, joined_a, joined_b, joined_best}
use Rattle.effects.proofs.records.change.Goals as goal

pub returns-in-LeftA : goal.returns-in-LeftA
returns-in-LeftA c = rw c.in-LeftA.is (left_a c.args.p.now c.shifted-p.result c.shifted-p.ensures)

pub returns-in-LeftB : goal.returns-in-LeftB
returns-in-LeftB c = rw c.in-LeftB.is (left_b c.args.p.now c.shifted-p-in-LeftB.result c.shifted-p-in-LeftB.ensures)

pub returns-in-LeftBest : goal.returns-in-LeftBest
returns-in-LeftBest c = rw c.in-LeftBest.is (left_best c.args.p.now c.shifted-p-in-LeftBest.result c.shifted-p-in-LeftBest.ensures)

pub returns-in-JoinedA : goal.returns-in-JoinedA
returns-in-JoinedA c =
    rw (c.in-JoinedA.is, c.note.ensures.value) (joined_a c.args.p.now c.note.ensures.places c.in-JoinedA.f c.pushed-p.result c.pushed-p.ensures)

pub returns-in-JoinedB : goal.returns-in-JoinedB
returns-in-JoinedB c =
    rw (c.in-JoinedB.is, c.note-in-JoinedB.ensures.value) (joined_b c.args.p.now c.note-in-JoinedB.ensures.places c.in-JoinedB.f c.pushed-p-in-JoinedB.result c.pushed-p-in-JoinedB.ensures)

pub returns-in-JoinedBest : goal.returns-in-JoinedBest
returns-in-JoinedBest c = rw c.in-JoinedBest.is (joined_best c.args.p.now c.in-JoinedBest.f c.pushed-p-in-JoinedBest.result c.pushed-p-in-JoinedBest.ensures)
