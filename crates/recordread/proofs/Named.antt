-- The parts of a port from the words that name them.
use Prim.Native.Nat.{ℕ, zero, suc, ◌+◌, ◌*◌, ◌<◌}
use mathlib.Core.Bool.{cond}
use mathlib.Core.List.{List, [], ◌∷◌, map}
use mathlib.Core.Path.{◌≡◌, refl, ◌∙◌, ap}
use native.Mathlib.Numerals.{add-one}
use native.Mathlib.Omega.{arith}
use lib.IntN.{ℤ}
use lib.ListN.{length, get_or, set, take, replicate, length-map, get_or-map}
use lib.Seq.{take-suc, take_all, length-take-le}
use Rattle.std.specs.declared.option.Option.{Option}
use Rattle.std.specs.declared.option.Option.TheVariants.{None}
use Rattle.table.specs.declared.Row.{Row}
use Rattle.table.specs.declared.Table.{Table}
use Rattle.table.specs.Limits.{most_rows}
use Rattle.table.specs.Rows.{no_row, is_there}
use Rattle.machine.specs.declared.Wire.{Wire}
use Rattle.machine.specs.declared.Queue.{Queue}
use Rattle.machine.specs.declared.Port.{Port}
use Rattle.machine.specs.Limits.{class_places, best_places}
use Rattle.machine.specs.State.{Instant, never, instants_for, zero_frame, placed, last_of, port_of}
use Rattle.machine.proofs.Instants.{for_length}
use Rattle.words.specs.Words.{word_at, gathered}
use Rattle.words.proofs.Laws.{gathered_length, gathered_none, gathered_next}
use Rattle.rowbytes.specs.Row.{row_width, u16_of, u32_of, row_at}
use Rattle.recordbytes.specs.Layout.{rows_start, clock_start, queuea_start, queueb_start, best_start, last_start, bounds_start, wire_start, idlea_place, idleb_place, payload_place, count_place, last_width, bound_width}
use Rattle.recordbytes.specs.Record.{signed_of, instant_at, queue_at, wire_at, state_of}
use Rattle.recordbytes.specs.Port.{table_from, port_from}
use Rattle.recordbytes.proofs.Laws.{gathered_at, placed_none, placed_next}

-- ---- a loop that gathers things into places
module _ {X : Type 0} (z : X) (n : ℕ) (f : ℕ → X) (size k : ℕ) where
  pub none_gathered : {x : X} → x ≡ z → replicate n x ≡ placed n z (gathered f size k 0)
  none_gathered e = rw (e, ← gathered_none f size k) (placed_none z n)

  pub one_more : (i : ℕ) {x : X} {xs : List X} → i < n → xs ≡ placed n z (gathered f size k i) → x ≡ f (k + size * i) → set xs i x ≡ placed n z (gathered f size k (i + 1))
  one_more i {x} {xs} h e g =
      let l : length (gathered f size k i) ≡ i = gathered_length f size k i in
      let p = placed_next z n (gathered f size k i) (f (k + size * i)) (omega (arith, l)) in
      rw (e, g, gathered_next f size k i) (rw l at p)

-- ---- the last instants of the first numbers
for_each : (rs : List Row) (is : List Instant) (k : ℕ) → k < length rs → k < length is → get_or (instants_for rs is) k never ≡ cond (is_there (get_or rs k no_row)) (get_or is k never) never
unfolding instants_for
for_each [] is k h g = absurd (omega arith)
for_each (r ∷ rs) [] k h g = absurd (omega arith)
for_each (r ∷ rs) (i ∷ is) zero h g = refl
for_each (r ∷ rs) (i ∷ is) (suc k) h g = for_each rs is k (omega arith) (omega arith)

module _ (s : List ℕ) (n : ℕ) where
  abbrev rows : List Row
  rows = gathered (row_at s) row_width rows_start n

  abbrev instants : List Instant
  instants = gathered (instant_at s) last_width last_start n

  abbrev pub named : List (Option ℕ)
  named = map last_of (instants_for rows instants)

  lasts_length : length named ≡ n
  lasts_length = length-map (instants_for rows instants) last_of ∙ for_length rows instants ∙ gathered_length (row_at s) row_width rows_start n

  pub no_lasts : {l : Option ℕ} → l ≡ None → replicate most_rows l ≡ placed most_rows None (take 0 named)
  no_lasts e = rw e (placed_none None most_rows)

  pub next_last : (i : ℕ) {l : Option ℕ} {ls : List (Option ℕ)} → i < n → i < most_rows → ls ≡ placed most_rows None (take i named) → l ≡ last_of (cond (is_there (row_at s (rows_start + row_width * i))) (instant_at s (last_start + last_width * i)) never) → set ls i l ≡ placed most_rows None (take (i + 1) named)
  next_last i h g e f =
      let m : length (take i named) ≡ i = length-take-le i named (omega (arith, lasts_length)) in
      let p = placed_next None most_rows (take i named) (get_or named i None) (omega (arith, m)) in
      let instant = for_each rows instants i (rw (gathered_length (row_at s) row_width rows_start n) h) (rw (gathered_length (instant_at s) last_width last_start n) h) in
      let here = get_or-map last_of (instants_for rows instants) i never ∙ ap last_of (rw (gathered_at (row_at s) row_width rows_start n i no_row h, gathered_at (instant_at s) last_width last_start n i never h) at instant) in
      rw (e, f, ← here, add-one, take-suc named i None (omega (arith, lasts_length))) (rw m at p)

  pub all_lasts : {ls : List (Option ℕ)} → ls ≡ placed most_rows None (take n named) → ls ≡ placed most_rows None named
  all_lasts e = e ∙ rw (take_all n named (omega (arith, lasts_length))) refl

-- ---- the parts
pub table_named : (s : List ℕ) {w a b c : ℕ} {rows : List Row} → w ≡ word_at s count_place → rows ≡ placed most_rows no_row (gathered (row_at s) row_width rows_start w) → a ≡ u32_of (word_at s idlea_place) → b ≡ u32_of (word_at s idleb_place) → c ≡ u16_of (word_at s payload_place)
    → ◌≡◌ {A = Table} (record { header = record { idlea = a; idleb = b; payload = c }; count = w; rows = rows }) (table_from (state_of s).table)
unfolding table_from state_of
table_named s e f ea eb ec = rw (f, ea, eb, ec, e, gathered_length (row_at s) row_width rows_start (word_at s count_place)) refl

pub count_named : (s : List ℕ) → (table_from (state_of s).table).count ≡ word_at s count_place
unfolding table_from state_of
count_named s = gathered_length (row_at s) row_width rows_start (word_at s count_place)

pub port_named : (s : List ℕ) {t : Table} {w : ℕ} {x y : ℤ} {bs : List ℕ} {a b : Queue class_places} {q : Queue best_places} {ls : List (Option ℕ)} {v : Wire} → t ≡ table_from (state_of s).table → a ≡ record { count = length (queue_at s queuea_start); frames = placed class_places zero_frame (queue_at s queuea_start) } → b ≡ record { count = length (queue_at s queueb_start); frames = placed class_places zero_frame (queue_at s queueb_start) } → q ≡ record { count = length (queue_at s best_start); frames = placed best_places zero_frame (queue_at s best_start) }
    → ls ≡ placed most_rows None (named s t.count) → bs ≡ placed most_rows 0 (gathered (word_at s) bound_width bounds_start t.count) → v ≡ wire_at s wire_start → w ≡ word_at s clock_start → x ≡ signed_of (word_at s (clock_start + 1)) → y ≡ signed_of (word_at s (clock_start + 2))
    → ◌≡◌ {A = Port} (record { table = t; bounds = bs; clock = w; credita = x; creditb = y; a = a; b = b; best = q; last = ls; wire = v }) (port_from (state_of s))
unfolding port_from port_of state_of
port_named s {t = t} et ea eb eq el ebs ev ew ex ey =
    let n : t.count ≡ word_at s count_place = ap (λ (x : Table). x.count) et ∙ count_named s in
    let lasts = rw n at el in
    let bounds = rw n at ebs in
    rw (lasts, bounds, et, ea, eb, eq, ev, ew, ex, ey) refl
