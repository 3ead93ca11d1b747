-- What the private functions promise each other. No public promise cites this file.
use Rattle.std.specs.Prelude.{ℕ}
use Rattle.callbytes.specs.declared.Asked.{Asked}
use Rattle.callbytes.specs.declared.Asked.TheVariants.{Offer, OfferBest, Advance, Join, Leave}

-- How many byte-times an advance asks for.
abbrev pub span_of : Asked → ℕ
span_of (Offer row payload) = 0
span_of (OfferBest payload) = 0
span_of (Advance n) = n
span_of (Join number row) = 0
span_of (Leave number) = 0
