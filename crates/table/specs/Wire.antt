-- Wire sizes, periods and shares: what a row says of its own stream.
use Rattle.std.specs.Prelude.{ℕ, ◌+◌, ◌-◌, ◌*◌, ◌/◌, max, cond}
use Rattle.table.specs.declared.Pace.{Pace}
use Rattle.table.specs.declared.Pace.TheVariants.{Period, Rated}
use Rattle.table.specs.declared.Row.{Row}
use Rattle.table.specs.Limits.{D, second}

-- A quotient, rounded up. (A quotient by 0 is 0.)
unfoldable pub ceil_div : ℕ → ℕ → ℕ
ceil_div n d = (n + (d - 1)) / d

-- A payload of p bytes has wire size 42 + max(42, p).
unfoldable pub wire_size : ℕ → ℕ
wire_size p = 42 + max 42 p

-- With a redundancy tag, 6 bytes before the payload, it is 48 + max(36, p).
unfoldable pub tagged_size : ℕ → ℕ
tagged_size p = 48 + max 36 p

-- The wire size of a row's frame with p bytes of payload.
unfoldable pub size_for : Row → ℕ → ℕ
size_for r p = cond r.tagged (tagged_size p) (wire_size p)

-- C: a row's wire size, that of a frame with its whole payload.
unfoldable pub size_of : Row → ℕ
size_of r = size_for r r.payload

-- The period of a pace, in byte-times: the one that it states, or samples × 125,000,000 / rate, rounded down.
unfoldable pub paced : Pace → ℕ
paced (Period p) = p
paced (Rated samples rate) = samples * second / rate

-- P: a row's period.
unfoldable pub period_of : Row → ℕ
period_of r = paced r.pace

-- A row's share is D × C / P, rounded up.
unfoldable pub share_of : Row → ℕ
share_of r = ceil_div (D * size_of r) (period_of r)
