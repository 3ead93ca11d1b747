-- What the call with a lent record promises.
use Rattle.std.specs.Prelude.{ℕ, Result}
use Rattle.machine.specs.declared.Denial.{Denial}
use Rattle.machine.specs.declared.Passed.{Passed}
use Rattle.machine.specs.declared.Port.{Port}
use Rattle.machine.specs.Calls.{Advanced}

-- The advance of a lent record: the answer r, and behind the reference the record q, as the advance by value of the record p gives them.
abbrev pub LentAdvanced : Port → ℕ → Result Passed Denial → Port → Type 0
LentAdvanced p n r q = Advanced p n (record { answer = r; port = q })
