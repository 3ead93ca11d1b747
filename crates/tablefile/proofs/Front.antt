-- A list of bytes that is longer than any table file reads as its front does: the checks look at places of a file, and what stands behind the last row is refused alike.
use Prim.Native.Nat.{ℕ, zero, suc, ◌+◌, ◌*◌, ◌≤◌, ◌<◌}
use mathlib.Core.Bool.{Bool, true, false, cond, ◌&&◌, true≢false}
use mathlib.Core.List.{List}
use mathlib.Core.Path.{◌≡◌, refl, sym, ◌∙◌, ap}
use native.Mathlib.Omega.{arith}
use lib.Dec.{leb}
use lib.ListN.{length, get_or, take, drop, length-drop}
use lib.Seq.{length-take-le, take_all, get_or-take, get_or-drop}
use borrow.Author.Tests.{leb-true, leb-false, le-leb, lt-leb}
use Rattle.table.specs.declared.Pace.TheVariants as paces
use Rattle.table.specs.declared.Pace.TheVariants.{Rated}
use Rattle.table.specs.declared.Row.{Row}
use Rattle.table.specs.Checks.{Outcome, accepted, refused, first}
use Rattle.table.proofs.Laws as law
use Rattle.tablefile.specs.declared.Edition.{Edition}
use Rattle.tablefile.specs.Layout.{header_size, idlea_place, idleb_place, best_place, count_place, value_at, Field, Payload, Period, Deadline, Rate, Samples, width_of, default_payload, default_period, default_deadline, bit_of, reserved_clear, tagged_of, two_paces, class_of, size_in, place_of, row_size}
use Rattle.tablefile.specs.Reading.{opens, header, row_count, map_of, number_in, said, blank, with_payload, pace_from, with_pace, with_deadline, paced_from, row_from, presence, present, row, behind_row, rows_checks, rows_end, file_end, file_checks, read_as, edition_of, read_file}
use Rattle.tablefile.specs.Front.{most_row, most_file, FrontReads}
use Rattle.table.specs.Limits.{most_rows}
use Rattle.tablefile.proofs.Sizes.{bit_shared}
use Rattle.tablefile.proofs.Rows.{row_if}
use Rattle.tablefile.proofs.HeaderTrip.{header_if}

-- ---- two lists that agree in their first n bytes, and have so many
record Alike (n : ℕ) (s u : List ℕ) : Type 0 where
  byte : (i : ℕ) → i < n → get_or s i 0 ≡ get_or u i 0
  left : n ≤ length s
  right : n ≤ length u

value_same : {n : ℕ} {s u : List ℕ} → Alike n s u → (w at : ℕ) → at + w ≤ n → value_at w s at ≡ value_at w u at
unfolding value_at
value_same a zero at h = refl
value_same a (suc w) at h = rw (value_same a w at (omega arith), a.byte (at + w) (omega arith)) refl

behind_same : {m n : ℕ} {s u : List ℕ} → Alike n s u → (at : ℕ) → at + m ≤ n → Alike m (drop at s) (drop at u)
behind_same {s = s} {u = u} a at h =
    record {
      byte = λ i g. get_or-drop at s i 0 ∙ a.byte (at + i) (omega arith) ∙ sym (get_or-drop at u i 0);
      left = omega (arith, length-drop at s, a.left);
      right = omega (arith, length-drop at u, a.right);
    }

-- ---- the header
header_same : (ed : Edition) {s u : List ℕ} → Alike header_size s u → header ed s ≡ header ed u
unfolding header opens
header_same ed {s} {u} a =
    let byte : (i : ℕ) → i < header_size → get_or s i 0 ≡ get_or u i 0 = a.byte in
    let value : (w at : ℕ) → at + w ≤ header_size → value_at w s at ≡ value_at w u at = value_same a in
    rw (le-leb header_size (length s) a.left, le-leb header_size (length u) a.right, byte 0 (omega arith), byte 1 (omega arith), byte 2 (omega arith), byte 3 (omega arith))
    (rw (value 4 idlea_place (omega arith), value 4 idleb_place (omega arith), value 2 best_place (omega arith), byte count_place (omega arith)) refl)

-- ---- a row: without two paces no field that stands ends behind its most bytes
size_most : (f : Field) (m : ℕ) → size_in f m ≤ width_of f
size_most f m = by_bit (bit_of f m)
  where
    by_bit : (b : Bool) → cond b (width_of f) 0 ≤ width_of f
    by_bit true = omega arith
    by_bit false = omega arith

-- period, rate and samples together take five bytes at most
paces_most : (m : ℕ) → two_paces m ≡ false → size_in Period m + size_in Rate m + size_in Samples m ≤ 5
paces_most m e = rw (← bit_shared m) (by_bits (bit_of Period m) (bit_of Rate m) e)
  where
    by_bits : (p q : Bool) → (p && q) ≡ false → cond p (width_of Period) 0 + cond q (width_of Rate) 0 + cond q (width_of Samples) 0 ≤ 5
    by_bits true true h = absurd (true≢false h)
    by_bits true false h = omega arith
    by_bits false true h = omega arith
    by_bits false false h = omega arith

row_most : (m : ℕ) → two_paces m ≡ false → row_size m ≤ most_row
row_most m e = omega (arith, size_most Payload m, size_most Deadline m, paces_most m e)

-- a field that stands ends within the row
place_most : (f : Field) (m : ℕ) → two_paces m ≡ false → bit_of f m ≡ true → place_of f m + width_of f ≤ most_row
place_most f m e h = let here : size_in f m ≡ width_of f = rw h refl in by_field f here
  where
    by_field : (g : Field) → size_in g m ≡ width_of g → place_of g m + width_of g ≤ most_row
    by_field Payload w = omega arith
    by_field Period w = omega (arith, size_most Payload m)
    by_field Deadline w = omega (arith, size_most Payload m, size_most Period m)
    by_field Rate w = omega (arith, w, row_most m e)
    by_field Samples w = omega (arith, w, row_most m e)

module _ (ed : Edition) {s u : List ℕ} (a : Alike most_row s u) where
  map_same : map_of s ≡ map_of u
  map_same = a.byte 0 (omega arith)

  module _ (e : two_paces (map_of u) ≡ false) where
    -- what a field that stands says, and whether it is there
    number_same : (f : Field) → bit_of f (map_of u) ≡ true → number_in f s ≡ number_in f u
    number_same f h = rw map_same (value_same a (width_of f) (place_of f (map_of u)) (place_most f (map_of u) e h))

    chosen : {X : Type 0} (b : Bool) (x y z : X) → (b ≡ true → x ≡ y) → cond b x z ≡ cond b y z
    chosen true x y z h = h refl
    chosen false x y z h = refl

    said_same : (f : Field) (d : ℕ) → said f s d ≡ said f u d
    said_same f d = ap (λ m. cond (bit_of f m) (number_in f s) d) map_same ∙ chosen (bit_of f (map_of u)) (number_in f s) (number_in f u) d (number_same f)

    rated_same : bit_of Rate (map_of u) ≡ true → Rated (number_in Samples s) (number_in Rate s) ≡ Rated (number_in Samples u) (number_in Rate u)
    rated_same h = rw (number_same Rate h, number_same Samples (sym (bit_shared (map_of u)) ∙ h)) refl

    pace_same : (r : Row) → pace_from ed s r ≡ pace_from ed u r
    pace_same r =
        let own = paces.Period (said Period s (default_period ed r)) in
        ap (λ m. cond (bit_of Rate m) (Rated (number_in Samples s) (number_in Rate s)) own) map_same
        ∙ chosen (bit_of Rate (map_of u)) (Rated (number_in Samples s) (number_in Rate s)) (Rated (number_in Samples u) (number_in Rate u)) own rated_same
        ∙ ap (λ v. cond (bit_of Rate (map_of u)) (Rated (number_in Samples u) (number_in Rate u)) (paces.Period v)) (said_same Period (default_period ed r))

    paced_same : paced_from ed s ≡ paced_from ed u
    unfolding paced_from default_payload default_period
    paced_same =
        let none = blank (class_of (map_of u)) (tagged_of ed (map_of u)) in
        ap (λ m. with_pace ed s (with_payload ed s (blank (class_of m) (tagged_of ed m)))) map_same
        ∙ ap (λ v. with_pace ed s (record { class = none.class; tagged = none.tagged; payload = v; pace = paces.Period 0; deadline = 0 })) (said_same Payload (default_payload ed none))
        ∙ ap (λ p. record { class = none.class; tagged = none.tagged; payload = (with_payload ed u none).payload; pace = p; deadline = 0 }) (pace_same (with_payload ed u none))

    from_same : row_from ed s ≡ row_from ed u
    unfolding row_from
    from_same = ap (with_deadline ed s) paced_same ∙ ap (λ v. record { class = (paced_from ed u).class; tagged = (paced_from ed u).tagged; payload = (paced_from ed u).payload; pace = (paced_from ed u).pace; deadline = v }) (said_same Deadline (default_deadline ed (paced_from ed u)))

    present_same : (f : Field) (at : ℕ) → present f s at ≡ present f u at
    present_same f at = rw map_same (by_bit (bit_of f (map_of u)) refl)
      where
        by_bit : (b : Bool) → bit_of f (map_of u) ≡ b → presence b (leb (place_of f (map_of u) + width_of f) (length s)) (at + place_of f (map_of u)) ≡ presence b (leb (place_of f (map_of u) + width_of f) (length u)) (at + place_of f (map_of u))
        by_bit true h =
            let end = place_of f (map_of u) + width_of f in
            let most = place_most f (map_of u) e h in
            rw (le-leb end (length s) (omega (arith, most, a.left)), le-leb end (length u) (omega (arith, most, a.right))) refl
        by_bit false h = refl

  long_left : leb 1 (length s) ≡ true
  long_left = le-leb 1 (length s) (omega (arith, a.left))

  long_right : leb 1 (length u) ≡ true
  long_right = le-leb 1 (length u) (omega (arith, a.right))

  one_row : (at : ℕ) → two_paces (map_of u) ≡ false → row ed s at ≡ row ed u at
  unfolding row
  one_row at e =
      rw (long_left, long_right, present_same e Payload at, present_same e Period at, present_same e Deadline at, present_same e Rate at, present_same e Samples at)
      (rw (from_same e, map_same) refl)

  -- with two paces the map byte decides
  two_rows : (at : ℕ) → two_paces (map_of u) ≡ true → (c : Bool) → reserved_clear ed (map_of u) ≡ c → row ed s at ≡ row ed u at
  unfolding row
  two_rows at e true f = rw (long_left, long_right, map_same, f, e) refl
  two_rows at e false f = rw (long_left, long_right, map_same, f) refl

  row_same : (at : ℕ) → row ed s at ≡ row ed u at
  row_same at = by_paces (two_paces (map_of u)) refl
    where
      by_paces : (b : Bool) → two_paces (map_of u) ≡ b → row ed s at ≡ row ed u at
      by_paces true e = two_rows at e (reserved_clear ed (map_of u)) refl
      by_paces false e = one_row at e

-- ---- rows one behind the other
record RowsAlike (ed : Edition) (n : ℕ) (s u : List ℕ) (at : ℕ) : Type 0 where
  checks : first (rows_checks ed n s at) ≡ first (rows_checks ed n u at)
  end : first (rows_checks ed n u at) ≡ accepted → rows_end n s at ≡ rows_end n u at
  most : first (rows_checks ed n u at) ≡ accepted → rows_end n u at ≤ at + n * most_row

-- a row that is let pass has one pace
one_pace : (ed : Edition) (s : List ℕ) (at : ℕ) → row ed s at ≡ accepted → two_paces (map_of s) ≡ false
one_pace ed s at e = (row_if ed s at e).one

rows_same : (ed : Edition) {k : ℕ} {s u : List ℕ} → Alike k s u → (n at : ℕ) → at + n * most_row ≤ k → RowsAlike ed n s u at
unfolding rows_checks rows_end
rows_same ed a zero at h = record { checks = refl; end = λ e. refl; most = λ e. omega arith }
rows_same ed {k = k} {s = s} {u = u} a (suc n) at h = by_row (λ g. rows_same ed a n (behind_row u at) g) (row ed (drop at u) at) refl
  where
    here : Alike most_row (drop at s) (drop at u)
    here = behind_same a at (omega arith)

    next : behind_row s at ≡ behind_row u at
    next = ap (λ m. at + row_size m) (map_same ed here)

    by_row : (behind_row u at + n * most_row ≤ k → RowsAlike ed n s u (behind_row u at)) → (o : Outcome) → row ed (drop at u) at ≡ o → RowsAlike ed (suc n) s u at
    by_row again accepted e =
        let most = row_most (map_of (drop at u)) (one_pace ed (drop at u) at e) in
        let rest = again (omega arith) in
        record {
          checks = rw (row_same ed here at, e, next) rest.checks;
          end = λ f. rw next (rest.end (rw e at f));
          most = λ f. omega (arith, rest.most (rw e at f));
        }
    by_row again (refused number place) e = record { checks = rw (row_same ed here at, e) refl; end = λ f. law.never (rw e at f); most = λ f. law.never (rw e at f) }

-- ---- the file
module _ (ed : Edition) {k : ℕ} {s u : List ℕ} (more : most_file < k) (a : Alike k s u) where
  head : Alike header_size s u
  head = behind_same a 0 (omega arith)

  count_same : row_count s ≡ row_count u
  count_same = head.byte count_place (omega arith)

  module _ (e : header ed u ≡ accepted) where
    few : row_count u ≤ most_rows
    few = (header_if ed u e).most

    rows : RowsAlike ed (row_count u) s u header_size
    rows = rows_same ed a (row_count u) header_size (omega (arith, few))

    module _ (f : first (rows_checks ed (row_count u) u header_size) ≡ accepted) where
      ends : file_end u < k
      ends = omega (arith, rows.most f, few)

      goes_on : (n : ℕ) → k ≤ n → leb n (file_end u) ≡ false
      goes_on n h = lt-leb n (file_end u) (omega (arith, ends))

    rows_checks_same : (o : Outcome) → first (rows_checks ed (row_count u) u header_size) ≡ o → first (file_checks ed s) ≡ first (file_checks ed u)
    rows_checks_same accepted f =
        rw (header_same ed head, e, count_same, rows.checks, f, rows.end f, goes_on f (length s) a.left, goes_on f (length u) a.right) refl
    rows_checks_same (refused n p) f = rw (header_same ed head, e, count_same, rows.checks, f) refl

  checks_same : (o : Outcome) → header ed u ≡ o → first (file_checks ed s) ≡ first (file_checks ed u)
  checks_same accepted e = rows_checks_same e (first (rows_checks ed (row_count u) u header_size)) refl
  checks_same (refused n p) e = rw (header_same ed head, e) refl

  not_whole : first (file_checks ed u) ≡ accepted → ⊥
  not_whole e =
      let x = law.all_accept (file_checks ed u) e in
      let last : length u ≤ file_end u = leb-true (length u) (file_end u) (law.unless_passes (leb (length u) (file_end u)) 7 (file_end u) x.1.1.0) in
      omega (arith, ends x.0 x.1.0, a.right)

  reads_same : (o : Outcome) → first (file_checks ed u) ≡ o → read_as ed s ≡ read_as ed u
  unfolding read_as
  reads_same accepted e = absurd (not_whole e)
  reads_same (refused n p) e = rw (checks_same (header ed u) refl, e) refl

edition_same : {s u : List ℕ} → Alike header_size s u → edition_of s ≡ edition_of u
unfolding edition_of opens
edition_same a = rw (a.byte 0 (omega arith), a.byte 1 (omega arith), a.byte 2 (omega arith), a.byte 3 (omega arith)) refl

pub front_reads : FrontReads
unfolding read_file
front_reads k s more = by_length (leb k (length s)) refl
  where
    by_length : (b : Bool) → leb k (length s) ≡ b → read_file (take k s) ≡ read_file s
    by_length true e =
        let long : k ≤ length s = leb-true k (length s) e in
        let few : length (take k s) ≡ k = length-take-le k s long in
        let alike : Alike k (take k s) s = record { byte = λ i h. get_or-take k s i 0 h; left = omega arith; right = long } in
        ap (λ (x : Edition). read_as x (take k s)) (edition_same (behind_same alike 0 (omega arith))) ∙ reads_same (edition_of s) more alike (first (file_checks (edition_of s) s)) refl
    by_length false e = ap read_file (take_all k s (omega (arith, leb-false k (length s) e)))
