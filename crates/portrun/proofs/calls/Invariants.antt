-- `portrun::calls` meets its contract: each turn reads on.
use Rattle.runs.specs.Runs.{standing}
use Rattle.runs.specs.Led.{LedOn}
use Rattle.portrun.proofs.calls.Given as goal

abbrev pub invariant-loop : goal.invariant-loop
invariant-loop l = LedOn l.initial.run.port.table (standing l.initial.run) l.run
