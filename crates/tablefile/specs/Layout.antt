-- The layout of a table file in an edition, in the terms that reader and writer share.
use Rattle.std.specs.Prelude.{ℕ, zero, suc, ◌+◌, ◌*◌, ◌/◌, ◌%◌, Bool, true, false, not, cond, ◌&&◌, List, [], ◌∷◌, ◌++◌, leb, eqb, get_or}
use Rattle.table.specs.declared.Class.{Class}
use Rattle.table.specs.declared.Class.TheVariants.{A, B}
use Rattle.table.specs.declared.Pace.{Pace}
use Rattle.table.specs.declared.Pace.TheVariants as paces
use Rattle.table.specs.declared.Row.{Row}
use Rattle.table.specs.Wire.{period_of}
use Rattle.tablefile.specs.declared.Edition.{Edition}
use Rattle.tablefile.specs.declared.Edition.TheVariants.{Avb1, Avb2}

-- The header, 15 bytes, opens with the edition's four letters: AVB1 or AVB2.
abbrev pub last_letter : Edition → ℕ
last_letter Avb1 = 49
last_letter Avb2 = 50

abbrev pub letters : Edition → List ℕ
letters e = 65 ∷ 86 ∷ 66 ∷ last_letter e ∷ []

abbrev pub header_size : ℕ
header_size = 15

-- Where its fields stand: I of A and of B, the best-effort payload, the row count.
abbrev pub idlea_place : ℕ
idlea_place = 4

abbrev pub idleb_place : ℕ
idleb_place = 8

abbrev pub best_place : ℕ
best_place = 12

abbrev pub count_place : ℕ
count_place = 14

-- Fields are unsigned and big-endian: what the bytes of a field of some width say at a place, and the bytes of a value.
unfoldable pub value_at : (width : ℕ) → List ℕ → ℕ → ℕ
value_at zero s at = 0
value_at (suc n) s at = 256 * value_at n s at + get_or s (at + n) 0

unfoldable pub bytes_of : (width : ℕ) → ℕ → List ℕ
bytes_of zero v = []
bytes_of (suc n) v = bytes_of n (v / 256) ++ v % 256 ∷ []

-- The fields of a row, in bit order. Rate and samples share a bit.
pub data Field : Type 0 where
  Payload : Field
  Period : Field
  Deadline : Field
  Rate : Field
  Samples : Field

-- What a row says in a field. A row with a period has no rate and no samples, and one with a rate states no period: 0 stands for what it does not say.
abbrev pub rated : Pace → Bool
rated (paces.Period p) = false
rated (paces.Rated samples rate) = true

abbrev pub stated_of : Pace → ℕ
stated_of (paces.Period p) = p
stated_of (paces.Rated samples rate) = 0

abbrev pub rate_of : Pace → ℕ
rate_of (paces.Period p) = 0
rate_of (paces.Rated samples rate) = rate

abbrev pub samples_of : Pace → ℕ
samples_of (paces.Period p) = 0
samples_of (paces.Rated samples rate) = samples

abbrev pub value_of : Field → Row → ℕ
value_of Payload r = r.payload
value_of Period r = stated_of r.pace
value_of Deadline r = r.deadline
value_of Rate r = rate_of r.pace
value_of Samples r = samples_of r.pace

-- Payload u16, period u32, deadline u32, rate u32, samples u8.
abbrev pub width_of : Field → ℕ
width_of Payload = 2
width_of Period = 4
width_of Deadline = 4
width_of Rate = 4
width_of Samples = 1

-- Defaults in an edition: payload 42, of a tagged row 36; period 15,625 for A, 31,250 for B; deadline the row's period.
unfoldable pub default_payload : Edition → Row → ℕ
default_payload e r = cond r.tagged 36 42

abbrev pub period_for : Class → ℕ
period_for A = 15625
period_for B = 31250

unfoldable pub default_period : Edition → Row → ℕ
default_period e r = period_for r.class

unfoldable pub default_deadline : Edition → Row → ℕ
default_deadline e r = period_of r

-- A field at its default. Rate and samples have none.
abbrev pub usual : Edition → Field → Row → Bool
usual e Payload r = eqb r.payload (default_payload e r)
usual e Period r = eqb (stated_of r.pace) (default_period e r)
usual e Deadline r = eqb r.deadline (default_deadline e r)
usual e Rate r = false
usual e Samples r = false

-- The fields that a row's file states: those that are not at their default; a period only of a row that has one, rate and samples only of a rated row.
abbrev pub carries : Field → Pace → Bool
carries Payload p = true
carries Period p = not (rated p)
carries Deadline p = true
carries Rate p = rated p
carries Samples p = rated p

abbrev pub states : Edition → Field → Row → Bool
states e f r = carries f r.pace && not (usual e f r)

-- The map byte: bit 0 payload, bit 1 period, bit 2 deadline, bit 3 rate and samples, bit 4 set for a tagged row, bit 7 set for class B.
abbrev pub weight_of : Field → ℕ
weight_of Payload = 1
weight_of Period = 2
weight_of Deadline = 4
weight_of Rate = 8
weight_of Samples = 8

unfoldable pub bit_of : Field → ℕ → Bool
bit_of f m = eqb (m / weight_of f % 2) 1

-- Reserved bits stand for nothing, and are 0: 5 and 6, and in AVB1 bit 4 too.
abbrev pub reserved : Edition → ℕ → ℕ
reserved Avb1 m = m / 16 % 8
reserved Avb2 m = m / 32 % 4

abbrev pub reserved_clear : Edition → ℕ → Bool
reserved_clear e m = eqb (reserved e m) 0

-- So a tagged row stands in an AVB2 file alone.
abbrev pub has_tags : Edition → Bool
has_tags Avb1 = false
has_tags Avb2 = true

unfoldable pub allows : Edition → Row → Bool
allows e r = cond r.tagged (has_tags e) true

abbrev pub tag_weight : ℕ
tag_weight = 16

unfoldable pub tagged_of : Edition → ℕ → Bool
tagged_of e m = has_tags e && eqb (m / tag_weight % 2) 1

abbrev pub tag_bit : Bool → ℕ
tag_bit tagged = cond tagged tag_weight 0

-- Bit 3 stands in place of bit 1, never beside it.
abbrev pub two_paces : ℕ → Bool
two_paces m = bit_of Period m && bit_of Rate m

abbrev pub class_weight : ℕ
class_weight = 128

abbrev pub class_by : Bool → Class
class_by true = B
class_by false = A

abbrev pub class_of : ℕ → Class
class_of m = class_by (leb class_weight m)

abbrev pub class_bit : Class → ℕ
class_bit A = 0
class_bit B = class_weight

-- Only fields whose bit stands follow, in bit order: how many bytes each takes, where it stands, counted from the map byte, and the row's size.
abbrev pub size_in : Field → ℕ → ℕ
size_in f m = cond (bit_of f m) (width_of f) 0

abbrev pub place_of : Field → ℕ → ℕ
place_of Payload m = 1
place_of Period m = 1 + size_in Payload m
place_of Deadline m = 1 + size_in Payload m + size_in Period m
place_of Rate m = 1 + size_in Payload m + size_in Period m + size_in Deadline m
place_of Samples m = 1 + size_in Payload m + size_in Period m + size_in Deadline m + size_in Rate m

abbrev pub row_size : ℕ → ℕ
row_size m = place_of Samples m + size_in Samples m
