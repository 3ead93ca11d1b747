-- A field's bytes and a row's, as the code stores them.
use Prim.Native.Nat.{ℕ, ◌+◌, ◌≤◌}
use mathlib.Core.Bool.{Bool, not, cond}
use mathlib.Core.List.{List, [], ◌∷◌, ◌++◌}
use mathlib.Core.Path.{◌≡◌, refl, sym, ◌∙◌, ap}
use native.Mathlib.Omega.{arith}
use lib.Dec.{eqb}
use lib.ListN.{length, drop, length-append}
use lib.Seq.{sets}
use Rattle.std.specs.Int.{w16, w32, to_be_bytes}
use Rattle.table.specs.declared.Pace.TheVariants as paces
use Rattle.table.specs.declared.Row.{Row}
use Rattle.tablefile.specs.declared.Edition.{Edition}
use Rattle.tablefile.specs.Layout.{bytes_of, Field, Payload, Period, Deadline, Rate, Samples, value_of, width_of, default_payload, default_period, default_deadline, weight_of, bit_of, tag_bit, class_bit, size_in, place_of, row_size}
use Rattle.tablefile.specs.Writing.{bit_for, map_byte, field_bytes, row_bytes}
use Rattle.tablefile.proofs.Laws.{field_size, row_length}
use Rattle.tablewrite.proofs.Stores.{sets_next, sets_front}

-- ---- the bytes of a number, as the library gives them
alike : {a b : ℕ} {p q : List ℕ} → a ≡ b → p ≡ q → a ∷ p ≡ b ∷ q
alike e f = cc

pub one_byte : (v : ℕ) → v ≤ 255 → v ∷ [] ≡ bytes_of 1 v
unfolding bytes_of
one_byte v h = alike (omega arith) refl

pub two_bytes : (v : ℕ) → to_be_bytes w16 v ≡ bytes_of 2 v
unfolding bytes_of
two_bytes v = alike (omega arith) (alike (omega arith) refl)

pub four_bytes : (v : ℕ) → to_be_bytes w32 v ≡ bytes_of 4 v
unfolding bytes_of
four_bytes v = alike (omega arith) (alike (omega arith) (alike (omega arith) (alike (omega arith) refl)))

-- ---- the map byte
module _ (ed : Edition) (r : Row) where
  -- a row with a period states it unless it is the default, and no rate
  pub period_stated : {p d b : ℕ} → r.pace ≡ paces.Period p → d ≡ default_period ed r → b ≡ cond (not (eqb p d)) (weight_of Period) 0 → b ≡ bit_for ed Period r + bit_for ed Rate r
  unfolding default_period
  period_stated e ex eb = rw (e, eb, ex) (omega arith)

  -- a rated row states its rate, and no period
  pub rate_stated : {h n : ℕ} → r.pace ≡ paces.Rated h n → weight_of Rate ≡ bit_for ed Period r + bit_for ed Rate r
  rate_stated e = rw e refl

  pub map_is : {p d a b e g k : ℕ} → p ≡ default_payload ed r → d ≡ default_deadline ed r
      → a ≡ cond (not (eqb r.payload p)) (weight_of Payload) 0 → e ≡ cond (not (eqb r.deadline d)) (weight_of Deadline) 0 → b ≡ bit_for ed Period r + bit_for ed Rate r → g ≡ tag_bit r.tagged → k ≡ class_bit r.class → a + b + e + g + k ≡ map_byte ed r
  unfolding map_byte
  map_is ep ex ea ee eb eg ek = rw (ea, eb, ee, eg, ek, ep, ex) (omega arith)

-- ---- a row
-- the stores so far, from the front on, and where they end
pub record Stored (xs x done : List ℕ) (n : ℕ) : Type 0 where
  pub stores : x ≡ sets xs 0 done
  pub end : length done ≡ n

module _ (ed : Edition) (r : Row) {m : ℕ} (em : m ≡ map_byte ed r) where
  pub size_is : {n : ℕ} → n ≡ row_size m → n ≡ length (row_bytes ed r)
  size_is e = e ∙ rw em (sym (row_length ed r))

  pub map_stored : (xs : List ℕ) {x : List ℕ} → x ≡ sets xs 0 (m ∷ []) → Stored xs x (map_byte ed r ∷ []) 1
  map_stored xs e = record { stores = rw em at e; end = refl }

  -- a field lies within the row
  lies_within : (f : Field) → place_of f (map_byte ed r) + size_in f (map_byte ed r) ≤ row_size (map_byte ed r)
  lies_within Payload = omega arith
  lies_within Period = omega arith
  lies_within Deadline = omega arith
  lies_within Rate = omega arith
  lies_within Samples = omega arith

  module _ (f : Field) {b : Bool} {at : ℕ} {bytes : List ℕ} (eb : b ≡ bit_of f m) (ea : at ≡ place_of f m) (ev : bytes ≡ bytes_of (width_of f) (value_of f r)) where
    part_is : cond b bytes [] ≡ field_bytes ed f r
    part_is = rw (eb, em, ev) refl

    pub field_room : at + length (cond b bytes []) ≤ length (row_bytes ed r)
    field_room = rw (part_is, ea, em, field_size ed f r, row_length ed r) (lies_within f)

    pub field_stored : {xs x y done : List ℕ} → Stored xs x done (place_of f (map_byte ed r)) → y ≡ sets x at (cond b bytes []) → Stored xs y (done ++ field_bytes ed f r) (place_of f (map_byte ed r) + size_in f (map_byte ed r))
    field_stored {xs} {x} {done = done} e ey =
        record {
          stores = ey ∙ ap (sets x at) part_is ∙ sets_next done (field_bytes ed f r) xs e.stores (ea ∙ rw em (sym e.end));
          end = length-append done (field_bytes ed f r) ∙ rw (e.end, field_size ed f r) refl;
        }

  pub row_stored : (xs : List ℕ) {y : List ℕ} {n : ℕ} → length (row_bytes ed r) ≤ length xs
      → Stored xs y (map_byte ed r ∷ field_bytes ed Payload r ++ field_bytes ed Period r ++ field_bytes ed Deadline r ++ field_bytes ed Rate r ++ field_bytes ed Samples r) n → y ≡ row_bytes ed r ++ drop (length (row_bytes ed r)) xs
  unfolding row_bytes
  row_stored xs h e = e.stores ∙ sets_front (row_bytes ed r) xs h
