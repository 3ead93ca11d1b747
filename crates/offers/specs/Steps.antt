-- What the private functions of the offers promise each other. No public promise cites this file.
use Rattle.std.specs.Prelude.{Some, None}
use Rattle.table.specs.declared.Class.{Class}
use Rattle.table.specs.declared.Class.TheVariants.{A, B}
use Rattle.machine.specs.declared.Frame.{Frame}
use Rattle.machine.specs.declared.Port.{Port}
use Rattle.machine.specs.declared.Change.{Change}
use Rattle.machine.specs.declared.Change.TheVariants.{JoinedA, JoinedB}
use Rattle.machine.specs.declared.Effect.{Effect}

-- The effect of an offer that is taken: no clock, no credit and no wire moves.
abbrev pub effect_on : Port → Change → Effect
effect_on p c = record { passed = None; clock = p.clock; credita = p.credita; creditb = p.creditb; wire = p.wire; change = Some c }

-- A row's frame joins its class's queue.
abbrev pub joined_in : Class → Frame → Change
joined_in A f = JoinedA f
joined_in B f = JoinedB f
