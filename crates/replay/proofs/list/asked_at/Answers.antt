-- `replay::list::asked_at` meets its contract: the part that is read has the bytes of call i.
use Rattle.std.specs.Prelude.{Option}
use Prim.Native.Nat.{ℕ, ◌+◌, ◌-◌, ◌*◌}
use mathlib.Core.List.{List}
use mathlib.Core.Path.{◌≡◌, refl, ◌∙◌}
use native.Mathlib.Omega.{arith}
use lib.ListN.{take, drop}
use Rattle.callbytes.specs.declared.Asked.{Asked}
use Rattle.callbytes.specs.Calls.{call_size, read_call}
use Rattle.replay.specs.List.{asked_at}
use Rattle.replay.proofs.list.asked_at.Goals as goal

its-part : (s : List ℕ) (i : ℕ) {r : Option Asked} → r ≡ read_call (take (call_size * i + call_size - call_size * i) (drop (call_size * i) s)) → r ≡ asked_at s i
unfolding asked_at
its-part s i e =
    let z : call_size * i + call_size - call_size * i ≡ call_size = omega arith in
    e ∙ rw z refl

pub returns : goal.returns
returns c = its-part _ _ c.read_call.ensures
