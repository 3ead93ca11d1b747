-- The words of a port's parts, stored one behind the other.
use Prim.Native.Nat.{ℕ, ◌+◌, ◌-◌, ◌≤◌, ◌<◌, min}
use mathlib.Core.Bool.{Bool, true, false, cond}
use mathlib.Core.List.{List, [], ◌∷◌, ◌++◌, append-nil}
use mathlib.Core.Path.{◌≡◌, refl, sym, ◌∙◌, ap}
use native.Mathlib.Omega.{arith}
use lib.Dec.{leb}
use lib.ListN.{length, get_or, take, replicate, length-take}
use lib.Seq.{take_all, take_at}
use borrow.Author.Tests.{le-leb, leb-true, leb-false}
use Rattle.std.specs.declared.option.Option.{Option}
use Rattle.std.specs.declared.option.Option.TheVariants.{None}
use Rattle.table.specs.declared.Row.{Row}
use Rattle.table.specs.declared.Table.{Table}
use Rattle.table.specs.Limits.{most_rows}
use Rattle.table.specs.Rows.{no_row, is_there, rows_of, contents}
use Rattle.table.proofs.Laws.{rows_length, row_in_place}
use Rattle.machine.specs.declared.Frame.{Frame}
use Rattle.machine.specs.declared.Port.{Port}
use Rattle.machine.specs.Limits.{class_places, best_places}
use Rattle.machine.specs.State.{Instant, never, no_frame, waiting, instant_of, instants_of, kept_of, view}
use Rattle.machine.proofs.Places.{waiting_length, instant_at_lem}
use Rattle.words.specs.Words.{flat, stored, spread}
use Rattle.words.proofs.Laws.{more, four}
use Rattle.rowbytes.specs.Row.{row_width, row_words}
use Rattle.recordbytes.specs.Layout.{version, head_start, rows_start, clock_start, queuea_start, queueb_start, best_start, wire_start, idlea_place, idleb_place, payload_place, count_place, frame_width, record_size}
use Rattle.recordbytes.specs.Record.{signed_word, head_words, frame_words, last_words, marked, marked_words, wire_words, table_over, queue_over, lasts_over, bounds_over, record_over}
use Rattle.recordbytes.proofs.Laws.{marked_length, marked_at}
use Rattle.recordwrite.specs.Written.{written, patched}

pub head_put : (s : List ℕ) (x : Table) {l t u v z : List ℕ} → l ≡ stored s head_start (version ∷ []) → t ≡ stored l idlea_place (x.header.idlea ∷ []) → u ≡ stored t idleb_place (x.header.idleb ∷ []) → v ≡ stored u payload_place (x.header.payload ∷ []) → z ≡ stored v count_place (x.count ∷ []) → z ≡ stored s head_start (head_words (contents x))
head_put s x e f g h i =
    let words = version ∷ x.header.idlea ∷ x.header.idleb ∷ x.header.payload ∷ [] in
    rw (rows_length x) (more s head_start words (x.count ∷ []) (four s head_start version x.header.idlea x.header.idleb x.header.payload e f g h) refl i)

-- ---- as many things as have a place
module _ {X : Type 0} (d : X) (n places : ℕ) (xs : List X) (long : length xs ≡ places) where
  pub in_places_lem : take (min n places) xs ≡ take places (take n xs ++ replicate (n - length xs) d)
  in_places_lem = go (leb n places) refl
    where
      go : (b : Bool) → leb n places ≡ b → take (min n places) xs ≡ take places (take n xs ++ replicate (n - length xs) d)
      go true e =
          let h : n ≤ places = leb-true n places e in
          let none : n - length xs ≡ 0 = omega arith in
          let least : min n places ≡ n = omega arith in
          rw (none, append-nil, least) (sym (take_all places (take n xs) (rw length-take (omega arith))))
      go false e =
          let h : places < n = leb-false n places e in
          let least : min n places ≡ places = omega arith in
          rw (take_all n xs (omega arith), least) (take_all places xs (omega arith) ∙ sym (take_at xs (replicate (n - length xs) d) places long))

pub rows_placed : (t : Table) → length t.rows ≡ most_rows → take (min t.count most_rows) t.rows ≡ take most_rows (rows_of t)
unfolding rows_of
rows_placed t long = in_places_lem no_row t.count most_rows t.rows long

pub bounds_placed : (n : ℕ) (bs : List ℕ) → length bs ≡ most_rows → take (min n most_rows) bs ≡ take most_rows (kept_of n bs)
unfolding kept_of
bounds_placed n bs long = in_places_lem 0 n most_rows bs long

-- ---- the last instants of numbers in use
module _ (s : List ℕ) (k : ℕ) (r : Row) (i : Instant) where
  pub mark_put : {t : List ℕ} → is_there r ≡ true → t ≡ stored s k (last_words i) → t ≡ stored s k (marked_words (r, i))
  mark_put e f = f ∙ rw e refl

  pub no_mark_lem : is_there r ≡ false → s ≡ stored s k (marked_words (r, i))
  unfolding stored flat
  no_mark_lem e = rw e refl

module _ (t : Table) (ls : List (Option ℕ)) where
  abbrev pub marks : List (Row × Instant)
  marks = marked (rows_of t) (instants_of (rows_of t) ls)

  pub marks_length : length marks ≡ t.count
  marks_length = marked_length (rows_of t) (instants_of (rows_of t) ls) ∙ rows_length t

  pub mark_at : length t.rows ≡ most_rows → (i : ℕ) → i < t.count → i < most_rows → marked_words (get_or t.rows i no_row, instant_of (get_or ls i None)) ≡ marked_words (get_or marks i (no_row, never))
  mark_at long i h g =
      rw (marked_at (rows_of t) (instants_of (rows_of t) ls) i (rw (rows_length t) h), row_in_place t long i h g) (go (is_there (get_or t.rows i no_row)) refl)
    where
      go : (b : Bool) → is_there (get_or t.rows i no_row) ≡ b → cond b (last_words (instant_of (get_or ls i None))) [] ≡ cond b (last_words (get_or (instants_of (rows_of t) ls) i never)) []
      go true e = sym (ap last_words (instant_at_lem (rows_of t) ls i (rw (row_in_place t long i h g) e)))
      go false e = refl

  -- as many numbers as have a place
  pub marks_placed : take (min t.count most_rows) marks ≡ take most_rows marks
  marks_placed = go (leb t.count most_rows) refl
    where
      go : (b : Bool) → leb t.count most_rows ≡ b → take (min t.count most_rows) marks ≡ take most_rows marks
      go true e =
          let h : t.count ≤ most_rows = leb-true t.count most_rows e in
          take_all (min t.count most_rows) marks (omega (arith, marks_length)) ∙ sym (take_all most_rows marks (omega (arith, marks_length)))
      go false e =
          let h : most_rows < t.count = leb-false t.count most_rows e in
          let least : min t.count most_rows ≡ most_rows = omega arith in
          rw least refl

pub table_put : (t : Table) (s : List ℕ) {l u : List ℕ} → l ≡ stored s head_start (head_words (contents t)) → u ≡ spread row_words row_width rows_start (take most_rows (rows_of t)) l → u ≡ table_over (contents t) s
unfolding table_over
table_put t s e f = f ∙ rw e refl

pub queue_put : (k places n : ℕ) (fs : List Frame) (s : List ℕ) {t u : List ℕ} → length fs ≡ places → t ≡ stored s k (n ∷ []) → u ≡ spread frame_words frame_width (k + 1) (take (min n places) fs) t → u ≡ queue_over k places (waiting n fs) s
unfolding queue_over
queue_put k places n fs s long e f = f ∙ rw (e, in_places_lem no_frame n places fs long, waiting_length n fs) refl

-- ---- the whole record
pub written_fits : (s : List ℕ) (p : Port) → record_size ≤ length s → written p s ≡ record_over (view p) s
unfolding written
written_fits s p h = rw (le-leb record_size (length s) h) refl

pub record_put : (s : List ℕ) (p : Port) → record_size ≤ length s → {b2 b3 b4 b5 b6 b7 b8 b9 : List ℕ} → b2 ≡ table_over (contents p.table) s
    → b3 ≡ stored b2 clock_start (p.clock ∷ signed_word p.credita ∷ signed_word p.creditb ∷ []) → b4 ≡ queue_over queuea_start class_places (waiting p.a.count p.a.frames) b3 → b5 ≡ queue_over queueb_start class_places (waiting p.b.count p.b.frames) b4
    → b6 ≡ queue_over best_start best_places (waiting p.best.count p.best.frames) b5 → b7 ≡ lasts_over (rows_of p.table) (instants_of (rows_of p.table) p.last) b6 → b8 ≡ bounds_over (kept_of p.table.count p.bounds) b7
    → b9 ≡ stored b8 wire_start (wire_words p.wire) → b9 ≡ written p s
unfolding record_over view
record_put s p h e2 e3 e4 e5 e6 e7 e8 e9 = e9 ∙ rw (e8, e7, e6, e5, e4, e3, e2) (sym (written_fits s p h))

-- ---- a table, its last instants and its bounds
module _ (s : List ℕ) (t : Table) (last : List (Option ℕ)) (bounds : List ℕ) where
  pub patched_fits : record_size ≤ length s → patched t last bounds s ≡ bounds_over (kept_of t.count bounds) (lasts_over (rows_of t) (instants_of (rows_of t) last) (table_over (contents t) s))
  unfolding patched
  patched_fits h = rw (le-leb record_size (length s) h) refl

  pub patch_put : record_size ≤ length s → {b2 b3 b4 : List ℕ} → b2 ≡ table_over (contents t) s → b3 ≡ lasts_over (rows_of t) (instants_of (rows_of t) last) b2 → b4 ≡ bounds_over (kept_of t.count bounds) b3 → b4 ≡ patched t last bounds s
  patch_put h e2 e3 e4 = e4 ∙ rw (e3, e2) (sym (patched_fits h))
