-- The port of a file that is not refused is the start of a run, and so is any record with the same parts and the same table.
use Rattle.std.specs.Prelude.{Ok}
use Prim.Native.Nat.{ℕ}
use mathlib.Core.List.{List, []}
use mathlib.Core.Path.{◌≡◌, sym, ◌∙◌}
use Rattle.tablefile.specs.Reading.{read_file}
use Rattle.machine.specs.declared.Port.{Port}
use Rattle.machine.specs.State.{view}
use Rattle.machine.specs.Run.{Run, opened}
use Rattle.codes.proofs.Laws.{opened_accepted}
use Rattle.turns.specs.Turns.{FreshOf}

pub start : (file : List ℕ) {p q : Port} → FreshOf file p → view q ≡ view p → q.table ≡ p.table → Run (read_file file).table [] q
start file {p} {q} made e f =
    let ok = (opened_accepted file made.check).1 in
    opened {r = record { answer = Ok tt; port = q }} (record { verdict = sym ok; port = e ∙ made.fresh; table = f ∙ made.table }) ok
