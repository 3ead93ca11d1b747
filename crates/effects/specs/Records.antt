-- Records and their instants, place by place, and a port's parts.
use Rattle.std.specs.Prelude.{ℕ, cond, List, ltb, set, Option, Some, None}
use Rattle.table.specs.declared.Class.TheVariants.{A, B}
use Rattle.table.specs.Limits.{most_rows, class_places}
use Rattle.machine.specs.declared.Frame.{Frame}
use Rattle.machine.specs.declared.Port.{Port}
use Rattle.machine.specs.declared.Change.{Change}
use Rattle.machine.specs.declared.Change.TheVariants.{LeftA, LeftB, LeftBest, JoinedA, JoinedB, JoinedBest}
use Rattle.machine.specs.declared.Effect.{Effect}
use Rattle.machine.specs.Limits.{best_places}
use Rattle.machine.specs.State.{State, at, instants_for, with_queue, with_best, with_last}
use Rattle.machine.specs.Effects.{moved_to}
use Rattle.effects.specs.Queues.{with_frame, without_head}

-- A record with an effect's clock, credits and wire, and all else as it was.
abbrev pub settled_on : Effect → Port → Port
settled_on e p = record { table = p.table; bounds = p.bounds; clock = e.clock; credita = e.credita; creditb = e.creditb; a = p.a; b = p.b; best = p.best; last = p.last; wire = e.wire }

-- The last instants with that of a row's frame.
abbrev pub instants_with : Frame → List (Option ℕ) → List (Option ℕ)
instants_with f ls = cond (ltb f.source most_rows) (set ls f.source (Some f.taken)) ls

-- The port's parts with a queue changed as far as it has places, and the instant of a row's frame noted if the row is there. (Where there is room for the change it is `changed_by`.)
abbrev pub noted_in : Frame → State → State
noted_in f s = with_last (cond (ltb f.source most_rows) (instants_for s.table.rows (set s.last f.source (at f.taken))) s.last) s

abbrev pub changed_in : Option Change → State → State
changed_in None s = s
changed_in (Some LeftA) s = with_queue A (without_head class_places s.a) s
changed_in (Some LeftB) s = with_queue B (without_head class_places s.b) s
changed_in (Some LeftBest) s = with_best (without_head best_places s.best) s
changed_in (Some (JoinedA f)) s = noted_in f (with_queue A (with_frame class_places f s.a) s)
changed_in (Some (JoinedB f)) s = noted_in f (with_queue B (with_frame class_places f s.b) s)
changed_in (Some (JoinedBest f)) s = with_best (with_frame best_places f s.best) s

abbrev pub applied_to : Effect → State → State
applied_to e s = moved_to e (changed_in e.change s)
