-- What the private functions of the advance promise each other. No public promise cites this file.
use Rattle.std.specs.Prelude.{ℕ, Bool, true, false, leb, Option, Some, None}
use Rattle.machine.specs.declared.Passed.{Passed}
use Rattle.machine.specs.declared.Port.{Port}
use Rattle.machine.specs.declared.Change.{Change}
use Rattle.machine.specs.declared.Change.TheVariants.{LeftA, LeftB, LeftBest}
use Rattle.bytetime.specs.declared.Sender.{Sender}
use Rattle.bytetime.specs.declared.Sender.TheVariants.{Nobody, ClassA, ClassB, BestEffort}
use Rattle.bytetime.specs.declared.Hot.{Hot}

-- The numbers of a port, by whose frame is on the wire and its bytes left.
abbrev pub hot_with : Port → Sender → ℕ → Hot
hot_with p w left =
    record {
      credita = p.credita;
      creditb = p.creditb;
      left = left;
      sender = w;
      moved = false;
      waitsa = leb 1 p.a.count;
      waitsb = leb 1 p.b.count;
      waitsbest = leb 1 p.best.count;
    }

-- The queue whose head went out, by whether one has and whose it was.
abbrev pub left_by : Bool → Sender → Option Change
left_by false w = None
left_by true Nobody = None
left_by true ClassA = Some LeftA
left_by true ClassB = Some LeftB
left_by true BestEffort = Some LeftBest

-- What an advance has passed, by its effect. (The effect of an advance says it.)
abbrev pub passed_of : Option Passed → Passed
passed_of None = record { count = 0; ended = None }
passed_of (Some x) = x
