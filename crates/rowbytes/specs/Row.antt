-- A row as words: class (0 A, 1 B), tag (1 if its frames carry one, else 0), payload, deadline, pace: 0 and the period; or 1, the rate and the samples.
use Rattle.std.specs.Prelude.{ℕ, ◌+◌, ◌%◌, Bool, true, false, not, cond, ◌&&◌, List, [], ◌∷◌, leb, eqb}
use Rattle.table.specs.declared.Class.{Class}
use Rattle.table.specs.declared.Class.TheVariants.{A, B}
use Rattle.table.specs.declared.Pace.{Pace}
use Rattle.table.specs.declared.Pace.TheVariants.{Period, Rated}
use Rattle.table.specs.declared.Row.{Row}
use Rattle.words.specs.Words.{word_at}

-- The words of a pace and of a row.
abbrev pub pace_width : ℕ
pace_width = 3

abbrev pub row_width : ℕ
row_width = 4 + pace_width

abbrev pub class_word : Class → ℕ
class_word A = 0
class_word B = 1

abbrev pub tag_word : Bool → ℕ
tag_word false = 0
tag_word true = 1

-- Of a pace that states a period, only its mark and the period.
abbrev pub pace_words : Pace → List ℕ
pace_words (Period p) = 0 ∷ p ∷ []
pace_words (Rated samples rate) = 1 ∷ rate ∷ samples ∷ []

abbrev pub row_words : Row → List ℕ
row_words r = class_word r.class ∷ tag_word r.tagged ∷ r.payload ∷ r.deadline ∷ pace_words r.pace

-- ---- the row that words name: of a word that is larger than its field, what the field can hold
abbrev pub u8_of : ℕ → ℕ
u8_of w = w % 256

abbrev pub u16_of : ℕ → ℕ
u16_of w = w % 65536

abbrev pub u32_of : ℕ → ℕ
u32_of w = w % 4294967296

abbrev pub class_of : ℕ → Class
class_of w = cond (eqb w 0) A B

abbrev pub tagged_of : ℕ → Bool
tagged_of w = not (eqb w 0)

unfoldable pub pace_at : List ℕ → ℕ → Pace
pace_at s k = cond (eqb (word_at s k) 1) (Rated (u8_of (word_at s (k + 2))) (u32_of (word_at s (k + 1)))) (Period (u32_of (word_at s (k + 1))))

abbrev pub row_at : List ℕ → ℕ → Row
row_at s k = record { class = class_of (word_at s k); tagged = tagged_of (word_at s (k + 1)); payload = u16_of (word_at s (k + 2)); pace = pace_at s (k + 4); deadline = u32_of (word_at s (k + 3)) }

-- ---- whether words name a row: each of them fits its field
abbrev pub fits_u8 : ℕ → Bool
fits_u8 w = leb w 255

abbrev pub fits_u16 : ℕ → Bool
fits_u16 w = leb w 65535

abbrev pub fits_u32 : ℕ → Bool
fits_u32 w = leb w 4294967295

-- A class, a tag or a mark.
abbrev pub fits_mark : ℕ → Bool
fits_mark w = leb w 1

unfoldable pub pace_fits : List ℕ → ℕ → Bool
pace_fits s k = cond (eqb (word_at s k) 1) (fits_u32 (word_at s (k + 1)) && fits_u8 (word_at s (k + 2))) (eqb (word_at s k) 0 && fits_u32 (word_at s (k + 1)))

abbrev pub row_fits : List ℕ → ℕ → Bool
row_fits s k = (fits_mark (word_at s k) && fits_mark (word_at s (k + 1))) && (fits_u16 (word_at s (k + 2)) && (fits_u32 (word_at s (k + 3)) && pace_fits s (k + 4)))
