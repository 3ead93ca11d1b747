-- What the crates above may know of a table besides its definitions.
use Prim.Native.Nat.{ℕ, zero, suc, ◌*◌, ◌≤◌, ◌<◌}
use mathlib.Core.Bool.{Bool, true, false, not, cond, ◌&&◌, false≢true}
use mathlib.Core.List.{List, [], ◌∷◌}
use mathlib.Core.Path.{◌≡◌, refl, sym, ◌∙◌, ap}
use native.Mathlib.Nat.{le_of_suc-le-suc, div-lt_iff_lt-mul, le-div_iff_mul-le}
use native.Mathlib.Omega.{arith}
use lib.Dec.{leb, ltb, eqb}
use lib.ListN.{length, get_or}
use borrow.Author.Tests.{leb-true, le-leb, lt-leb, lt-ltb, le-ltb, ltb-true, ne_eqb, not-true, not-false}
use Rattle.table.specs.declared.Class.{Class}
use Rattle.table.specs.declared.Class.TheVariants.{A, B}
use Rattle.table.specs.declared.Pace.{Pace}
use Rattle.table.specs.declared.Pace.TheVariants.{Period, Rated}
use Rattle.table.specs.declared.Row.{Row}
use Rattle.table.specs.declared.Header.{Header}
use Rattle.table.specs.declared.Table.{Table}
use Rattle.table.specs.declared.Refusal.{Refusal}
use Rattle.table.specs.declared.Refusal.TheVariants.{RowCount, Value, Slopes, Shares, Deadline, Frames}
use Rattle.std.specs.Prelude.{Result, Ok, Err}
use Rattle.table.specs.Limits.{most_rows, most_slope, most_payload, least_size, most_size, least_period, most_period, least_rate, most_rate, most_samples, most_deadline, second}
use Rattle.table.specs.Wire.{wire_size, tagged_size, size_for, size_of, paced, period_of}
use Rattle.table.specs.Rows.{no_row, is_zero, is_there, Contents, contents, row_at, in_use, InUse, same_class}
use Rattle.table.specs.Checks.{Outcome, accepted, refused, number_of, place_of, outcome_of, unless, passing, unless_row, first}
use Rattle.table.specs.Ranges.{count_ok, header_ok, within, rate_ok, samples_ok, pace_ok, deadline_ok, row_ok, range_checks, ranged, Every, InRange, Ranges}
use Rattle.table.proofs.Shape.{row_here}
-- a table record's places and rows, and quotients rounded up
pub use Rattle.table.proofs.Shape.{places, rows_length, rows_are, row_in_place, next_row, no_row_lem}
pub use Rattle.table.proofs.Search.{Passed, none_yet, fails_here, passes_here, all_passed, found_at, none_found}
pub use Rattle.table.proofs.Ranged.{count_is, count_few, count_right_lem, count_low, count_high, header_wrong, row_wrong, all_right}
-- rows that join and leave
pub use Rattle.table.proofs.Patched.{not_there, no_row_there, there_used, with_length, with_same, with_other, row_with, row_with_other, with_used, with_still, with_before, row_without, without_gone, without_before, without_count, without_length, trimmed_length}
pub use Rattle.table.proofs.Division.{ceil_covers, ceil_most, ceil_above, ceil_le, div_grows, ceil_grows}

-- ---- outcomes: a refusal is no acceptance, and each verdict has an outcome of its own
pub never : {n p : ℕ} {X : Type 0} → refused n p ≡ accepted → X
never e = let z : ◌≡◌ {A = ℕ} 0 1 = cc in absurd (omega arith)

-- what an outcome says was answered
abbrev pub class_by : ℕ → Class
class_by zero = A
class_by (suc n) = B

abbrev pub refusal_by : ℕ → ℕ → Refusal
refusal_by n p = cond (eqb n 3) RowCount (cond (eqb n 5) (Value p) (cond (eqb n 8) Slopes (cond (eqb n 9) (Shares (class_by p)) (cond (eqb n 10) (Deadline p) (Frames (class_by p))))))

pub refusal_said : (r : Refusal) → refusal_by (number_of r) (place_of r) ≡ r
refusal_said RowCount = refl
refusal_said (Value p) = refl
refusal_said Slopes = refl
refusal_said (Shares A) = refl
refusal_said (Shares B) = refl
refusal_said (Deadline k) = refl
refusal_said (Frames A) = refl
refusal_said (Frames B) = refl

abbrev verdict_by : Outcome → Result (Unit {0}) Refusal
verdict_by accepted = Ok tt
verdict_by (refused n p) = Err (refusal_by n p)

said : (v : Result (Unit {0}) Refusal) → verdict_by (outcome_of v) ≡ v
said (Ok u) = refl
said (Err r) = ap Err (refusal_said r)

-- different verdicts have different numbers or places, so an outcome fixes the verdict
pub same_verdict : (v w : Result (Unit {0}) Refusal) → outcome_of v ≡ outcome_of w → v ≡ w
same_verdict v w e = sym (said v) ∙ ap verdict_by e ∙ said w

-- the first to refuse is none: each accepts
abbrev pub Accept : List Outcome → Type 0
Accept [] = Unit {0}
Accept (x ∷ xs) = (x ≡ accepted) × Accept xs

pub all_accept : (xs : List Outcome) → first xs ≡ accepted → Accept xs
all_accept [] e = tt
all_accept (accepted ∷ xs) e = (refl, all_accept xs e)
all_accept (refused n p ∷ xs) e = never e

pub unless_passes : (b : Bool) (n p : ℕ) → unless b n p ≡ accepted → b ≡ true
unless_passes true n p e = refl
unless_passes false n p e = never e

pub and-true : (a b : Bool) → (a && b) ≡ true → (a ≡ true) × (b ≡ true)
and-true true b e = (refl, e)
and-true false b e = absurd (false≢true e)

pub and_all : (a : Bool) → (a && true) ≡ a
and_all true = refl
and_all false = refl

-- what a call's answer says of the test that it stands for
pub fails : {r t : Bool} → r ≡ t → not r ≡ true → t ≡ false
fails {r} e h = sym e ∙ not-true r h

pub holds : {r t : Bool} → r ≡ t → not r ≡ false → t ≡ true
holds {r} e h = sym e ∙ not-false r h

-- ---- what holds of every row holds of the row at a number
pub every_at : (P : Row → Type 0) (rs : List Row) → Every P rs → (k : ℕ) → k < length rs → P (get_or rs k no_row)
every_at P [] e k h = absurd (omega arith)
every_at P (r ∷ rs) e zero h = e.0
every_at P (r ∷ rs) e (suc k) h = every_at P rs e.1 k (le_of_suc-le-suc h)

pub every_all : (P : Row → Type 0) (rs : List Row) → ((k : ℕ) → k < length rs → P (get_or rs k no_row)) → Every P rs
every_all P [] h = tt
every_all P (r ∷ rs) h = (h 0 (omega arith), every_all P rs (λ k g. h (suc k) (omega arith)))

pub every_map : (P Q : Row → Type 0) → ((r : Row) → P r → Q r) → (rs : List Row) → Every P rs → Every Q rs
every_map P Q f [] e = tt
every_map P Q f (r ∷ rs) e = (f r e.0, every_map P Q f rs e.1)

-- every row passes a test exactly if as many pass as there are
all_pass : (ok : Row → Bool) (rs : List Row) → length rs ≤ passing ok rs → Every (λ r. ok r ≡ true) rs
unfolding passing
all_pass ok [] h = tt
all_pass ok (r ∷ rs) h = go (ok r) refl (all_pass ok rs)
  where
    go : (b : Bool) → ok r ≡ b → (length rs ≤ passing ok rs → Every (λ x. ok x ≡ true) rs) → (ok r ≡ true) × Every (λ x. ok x ≡ true) rs
    go true e rest = (e, rest (le_of_suc-le-suc (rw e at h)))
    go false e rest = let none : suc (length rs) ≤ 0 = rw e at h in absurd (omega arith)

-- no more pass than there are
pub passing_most : (ok : Row → Bool) (rs : List Row) → passing ok rs ≤ length rs
unfolding passing
passing_most ok [] = omega arith
passing_most ok (r ∷ rs) = go (ok r) (passing_most ok rs)
  where
    go : (b : Bool) → passing ok rs ≤ length rs → cond b (suc (passing ok rs)) 0 ≤ suc (length rs)
    go true h = omega arith
    go false h = omega arith

pass_all : (ok : Row → Bool) (rs : List Row) → Every (λ r. ok r ≡ true) rs → passing ok rs ≡ length rs
unfolding passing
pass_all ok [] e = refl
pass_all ok (r ∷ rs) e = rw e.0 (ap suc (pass_all ok rs e.1))

pub unless_row_passes : (ok : Row → Bool) (rs : List Row) (n : ℕ) → unless_row ok rs n ≡ accepted → Every (λ r. ok r ≡ true) rs
unless_row_passes ok rs n e = all_pass ok rs (leb-true _ _ (unless_passes (leb (length rs) (passing ok rs)) n (passing ok rs) e))

pub unless_row_accepts : (ok : Row → Bool) (rs : List Row) (n : ℕ) → Every (λ r. ok r ≡ true) rs → unless_row ok rs n ≡ accepted
unless_row_accepts ok rs n e = rw (le-leb (length rs) (passing ok rs) (omega (arith, pass_all ok rs e))) refl

-- ---- numbers in use
pub used : (t : Contents) (k : ℕ) → InUse t k → in_use t k ≡ true
unfolding in_use
used t k u = rw (lt-ltb _ _ u.below, u.there) refl

pub unused : (t : Contents) (k : ℕ) → length t.rows ≤ k → in_use t k ≡ false
unfolding in_use
unused t k h = rw (le-ltb k (length t.rows) h) refl

pub empty : (t : Contents) (k : ℕ) → is_there (row_at t k) ≡ false → in_use t k ≡ false
unfolding in_use
empty t k e = rw e (none (ltb k (length t.rows)))
  where
    none : (b : Bool) → (b && false) ≡ false
    none true = refl
    none false = refl

pub is_used : (t : Contents) (k : ℕ) → in_use t k ≡ true → InUse t k
unfolding in_use
is_used t k e = let p = and-true (ltb k (length t.rows)) (is_there (row_at t k)) e in record { below = ltb-true k (length t.rows) p.0; there = p.1 }

-- a row in range is there
pub in_range_there : (r : Row) → 1 ≤ r.deadline → is_there r ≡ true
unfolding is_there
in_range_there r h = rw (ne_eqb r.deadline 0 (λ e. omega arith)) (none ((same_class A r.class && not r.tagged) && eqb r.payload 0) (is_zero r.pace))
  where
    none : (x y : Bool) → not (x && (y && false)) ≡ true
    none true true = refl
    none true false = refl
    none false y = refl

-- ---- a table record: the row at a number in use stands at its place
module _ (t : Table) (long : length t.rows ≡ 32) (few : t.count ≤ most_rows) (k : ℕ) (h : k < t.count) where
  pub row_at_lem : row_at (contents t) k ≡ get_or t.rows k no_row
  row_at_lem = row_here t long few k h

  pub in_use_lem : is_there (get_or t.rows k no_row) ≡ true → InUse (contents t) k
  in_use_lem e = record { below = rw (rows_length t) h; there = rw row_at_lem e }

-- ---- classes
pub same_self : (c : Class) → same_class c c ≡ true
same_self A = refl
same_self B = refl

pub same_is : (c d : Class) → same_class c d ≡ true → c ≡ d
same_is A A e = refl
same_is A B e = cc
same_is B A e = cc
same_is B B e = refl

-- ---- wire sizes
pub wire_least : (p : ℕ) → least_size ≤ wire_size p
unfolding wire_size
wire_least p = omega arith

pub wire_most : (p : ℕ) → p ≤ most_payload → wire_size p ≤ most_size
unfolding wire_size
wire_most p h = omega arith

pub wire_grows : (p q : ℕ) → p ≤ q → wire_size p ≤ wire_size q
unfolding wire_size
wire_grows p q h = omega arith

-- of a row's frame, with a tag or without
by_tag : (b : Bool) (x y : ℕ) (P : ℕ → Type 0) → P x → P y → P (cond b x y)
by_tag true x y P a b = a
by_tag false x y P a b = b

tagged_least : (p : ℕ) → least_size ≤ tagged_size p
unfolding tagged_size
tagged_least p = omega arith

tagged_most : (p : ℕ) → p ≤ most_payload → tagged_size p ≤ most_size
unfolding tagged_size
tagged_most p h = omega arith

tagged_grows : (p q : ℕ) → p ≤ q → tagged_size p ≤ tagged_size q
unfolding tagged_size
tagged_grows p q h = omega arith

pub frame_least : (r : Row) (p : ℕ) → least_size ≤ size_for r p
unfolding size_for
frame_least r p = by_tag r.tagged (tagged_size p) (wire_size p) (λ n. least_size ≤ n) (tagged_least p) (wire_least p)

pub frame_within : (r : Row) (p : ℕ) → p ≤ r.payload → size_for r p ≤ size_of r
unfolding size_for size_of
frame_within r p h = go r.tagged
  where
    go : (b : Bool) → cond b (tagged_size p) (wire_size p) ≤ cond b (tagged_size r.payload) (wire_size r.payload)
    go true = tagged_grows p r.payload h
    go false = wire_grows p r.payload h

pub size_least : (r : Row) → least_size ≤ size_of r
unfolding size_of
size_least r = frame_least r r.payload

pub size_most : (r : Row) → r.payload ≤ most_payload → size_of r ≤ most_size
unfolding size_of size_for
size_most r h = by_tag r.tagged (tagged_size r.payload) (wire_size r.payload) (λ n. n ≤ most_size) (tagged_most r.payload h) (wire_most r.payload h)

-- ---- rules 3 and 5
pub is_within : (low high v : ℕ) → within low high v ≡ true → (low ≤ v) × (v ≤ high)
is_within low high v e = let p = and-true (leb low v) (leb v high) e in (leb-true low v p.0, leb-true v high p.1)

-- a pace in range has a period in range: of a rate and samples, one of 625 to 31,875,000 byte-times
pub rated_period : (samples rate : ℕ) → pace_ok (Rated samples rate) ≡ true → (625 ≤ paced (Rated samples rate)) × (paced (Rated samples rate) ≤ 31875000)
unfolding pace_ok paced
rated_period samples rate e =
    let p = and-true (rate_ok rate) (samples_ok samples) e in
    let r = is_within least_rate most_rate rate p.0 in
    let s = is_within 1 most_samples samples p.1 in
    let least : 625 * rate ≤ samples * second = omega (arith, r.1, s.0) in
    let above : samples * second < 31875001 * rate = omega (arith, r.0, s.1) in
    let some : 0 < rate = omega (arith, r.0) in
    ((le-div_iff_mul-le {k = rate} {x = 625} {y = samples * second} some).1 least, omega (arith, (div-lt_iff_lt-mul {k = rate} {x = samples * second} {y = 31875001} some).1 above))

paced_range : (p : Pace) → pace_ok p ≡ true → (least_period ≤ paced p) × (paced p ≤ most_period)
unfolding pace_ok paced
paced_range (Period p) e = is_within least_period most_period p e
paced_range (Rated samples rate) e = let q = rated_period samples rate e in (omega (arith, q.0), omega (arith, q.1))

pub period_range : (r : Row) → pace_ok r.pace ≡ true → (least_period ≤ period_of r) × (period_of r ≤ most_period)
unfolding period_of
period_range r e = paced_range r.pace e

pub row_in_range : (r : Row) → r.payload ≤ most_payload → pace_ok r.pace ≡ true → 1 ≤ r.deadline → r.deadline ≤ most_deadline → InRange r
row_in_range r a p b c = record { payload = a; pace = p; shortest = (period_range r p).0; longest = (period_range r p).1; positive = b; deadline = c }

pub in_range : (r : Row) → row_ok r ≡ true → InRange r
unfolding row_ok
in_range r e =
    let p = and-true (leb r.payload most_payload && pace_ok r.pace) (deadline_ok r.deadline) e in
    let q = and-true (leb r.payload most_payload) (pace_ok r.pace) p.0 in
    let v = is_within 1 most_deadline r.deadline p.1 in
    row_in_range r (leb-true _ _ q.0) q.1 v.0 v.1

pub row_passes_lem : (r : Row) → InRange r → row_ok r ≡ true
unfolding row_ok
row_passes_lem r e = rw (le-leb _ _ e.payload, e.pace, le-leb _ _ e.positive, le-leb _ _ e.deadline) refl

pub count_limits : (rs : List Row) → count_ok rs ≡ true → (1 ≤ length rs) × (length rs ≤ most_rows)
unfolding count_ok
count_limits rs e = let p = and-true (leb 1 (length rs)) (leb (length rs) most_rows) e in (leb-true _ _ p.0, leb-true _ _ p.1)

pub header_limits : (h : Header) → header_ok h ≡ true → (h.idlea ≤ most_slope) × (h.idleb ≤ most_slope) × (h.payload ≤ most_payload)
unfolding header_ok
header_limits h e =
    let p = and-true (leb h.idlea most_slope && leb h.idleb most_slope) (leb h.payload most_payload) e in
    let q = and-true (leb h.idlea most_slope) (leb h.idleb most_slope) p.0 in
    (leb-true _ _ q.0, leb-true _ _ q.1, leb-true _ _ p.1)

-- a table is in range exactly if rules 3 and 5 let it pass
pub ranged_if : (t : Contents) → ranged t ≡ accepted → Ranges t
unfolding ranged
ranged_if t e =
    let a = all_accept (range_checks t) e in
    let n = count_limits t.rows (unless_passes (count_ok t.rows) 3 0 a.0) in
    let h = header_limits t.header (unless_passes (header_ok t.header) 5 32 a.1.0) in
    record { some = n.0; most = n.1; idlea = h.0; idleb = h.1; best = h.2; rows = every_map (λ r. row_ok r ≡ true) InRange in_range t.rows (unless_row_passes row_ok t.rows 5 a.1.1.0) }

pub ranged_only_if : (t : Contents) → Ranges t → ranged t ≡ accepted
unfolding ranged count_ok header_ok
ranged_only_if t ok =
    rw (
      le-leb 1 (length t.rows) ok.some,
      le-leb (length t.rows) most_rows ok.most,
      le-leb t.header.idlea most_slope ok.idlea,
      le-leb t.header.idleb most_slope ok.idleb,
      le-leb t.header.payload most_payload ok.best,
      unless_row_accepts row_ok t.rows 5 (every_map InRange (λ r. row_ok r ≡ true) row_passes_lem t.rows ok.rows),
    )
    refl

-- more than 32 rows are refused with 3, whatever they say
pub too_many : (t : Contents) → most_rows < length t.rows → ranged t ≡ refused 3 0
unfolding ranged count_ok
too_many t h = rw (le-leb 1 (length t.rows) (omega arith), lt-leb (length t.rows) most_rows h) refl
