-- What the crates above may cite.
use mathlib.Core.Bool.{false, true≢false}
use mathlib.Core.Path.{◌≡◌, refl}
use Rattle.callbytes.specs.declared.Asked.{Asked}
use Rattle.callbytes.specs.declared.Asked.TheVariants.{Offer, OfferBest, Advance, Join, Leave}
use Rattle.callbytes.specs.Calls.{call_of}
use Rattle.turns.specs.Turns.{is_patch, plain_call}
pub use Rattle.turns.proofs.Starts.{start}

-- a call that is no join and no leave is judged as it is asked for
pub plain_is : (a : Asked) → is_patch a ≡ false → plain_call a ≡ call_of a
plain_is (Offer row payload) e = refl
plain_is (OfferBest payload) e = refl
plain_is (Advance n) e = refl
plain_is (Join number row) e = absurd (true≢false e)
plain_is (Leave number) e = absurd (true≢false e)
