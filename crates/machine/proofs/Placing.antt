-- Things in places, with zeros behind them: the port record that is made of a port's parts has these parts.
use Prim.Native.Nat.{ℕ, ◌-◌, ◌≤◌}
use mathlib.Core.Bool.{cond}
use mathlib.Core.List.{List, [], ◌∷◌, ◌++◌, map, append-nil}
use mathlib.Core.Path.{◌≡◌, refl, sym, ◌∙◌, ap}
use native.Mathlib.Omega.{arith}
use lib.ListN.{length, take, replicate, length-append, length-take, length-map, length-replicate}
use lib.Seq.{take-append_seam, take-take}
use Rattle.std.specs.declared.option.Option.{Option}
use Rattle.std.specs.declared.option.Option.TheVariants.{None}
use Rattle.table.specs.declared.Row.{Row}
use Rattle.table.specs.declared.Table.{Table}
use Rattle.table.specs.Limits.{most_rows}
use Rattle.table.specs.Rows.{is_there, Contents, rows_of, contents}
use Rattle.table.proofs.Laws.{rows_length}
use Rattle.planner.specs.Bound.{bound, if_there, bounds_of, bounds}
use Rattle.machine.specs.declared.Frame.{Frame}
use Rattle.machine.specs.Limits.{class_places, best_places}
use Rattle.machine.specs.State.{Instant, never, at, zero_frame, waiting, instant_of, instants_for, instants_of, kept_of, State, view, placed, last_of, port_of, Placed}
use Rattle.machine.proofs.Instants.{for_length}

module _ {X : Type 0} (z : X) where
  -- every place is filled
  pub placed_length : (n : ℕ) (xs : List X) → length (placed n z xs) ≡ n
  unfolding placed
  placed_length n xs = rw (length-take, length-append, length-replicate) (omega arith)

  -- the things that are placed
  pub placed_shows : (n : ℕ) (xs : List X) → length xs ≤ n → take (length xs) (placed n z xs) ≡ xs
  unfolding placed
  placed_shows n xs h = take-take (length xs) n (xs ++ replicate n z) h ∙ take-append_seam xs (replicate n z)

-- ---- the parts of what was made of parts
waiting_back : (n : ℕ) (q : List Frame) → length q ≤ n → waiting (length q) (placed n zero_frame q) ≡ q
waiting_back n q h =
    let none : length q - n ≡ 0 = omega arith in
    rw (placed_length zero_frame n q, none, append-nil) (placed_shows zero_frame n q h)

instants_back : (is : List Instant) → map instant_of (map last_of is) ≡ is
instants_back [] = refl
instants_back (never ∷ is) = ap (λ (l : List Instant). never ∷ l) (instants_back is)
instants_back (at k ∷ is) = ap (λ (l : List Instant). at k ∷ l) (instants_back is)

-- of the places only those of numbers count
for_front : (rs : List Row) (ls : List (Option ℕ)) → instants_of rs ls ≡ instants_of rs (take (length rs) ls)
unfolding instants_for
for_front [] ls = refl
for_front (r ∷ rs) [] = refl
for_front (r ∷ rs) (l ∷ ls) = ap (λ (x : List Instant). cond (is_there r) (instant_of l) never ∷ x) (for_front rs ls)

last_back : (rs : List Row) (is : List Instant) → length is ≡ length rs → length rs ≤ most_rows → instants_of rs (placed most_rows None (map last_of is)) ≡ instants_for rs is
last_back rs is n h =
    let m : length (map last_of is) ≡ length rs = length-map is last_of ∙ n in
    for_front rs (placed most_rows None (map last_of is))
    ∙ ap (λ (ls : List (Option ℕ)). instants_of rs ls) (rw m at (placed_shows None most_rows (map last_of is) (rw m h)))
    ∙ ap (λ (xs : List Instant). instants_for rs xs) (instants_back is)

bounds_back : (bs : List ℕ) → length bs ≤ most_rows → kept_of (length bs) (placed most_rows 0 bs) ≡ bs
unfolding kept_of
bounds_back bs h =
    let none : length bs - most_rows ≡ 0 = omega arith in
    rw (placed_length 0 most_rows bs, none, append-nil) (placed_shows 0 most_rows bs h)

-- of a sheet's 32 bounds those of the numbers below the row count are kept
pub kept_bounds : (t : Contents) → length t.rows ≤ most_rows → kept_of (length t.rows) (bounds t) ≡ bounds_of t
unfolding bounds kept_of bounds_of
kept_bounds t h =
    let n : length (map (if_there (bound t)) t.rows) ≡ length t.rows = length-map t.rows (if_there (bound t)) in
    let none : length t.rows - length (map (if_there (bound t)) t.rows ++ replicate (most_rows - length t.rows) 0) ≡ 0 = rw (length-append, n) (omega arith) in
    rw (none, append-nil) (rw n at (take-append_seam (map (if_there (bound t)) t.rows) (replicate (most_rows - length t.rows) 0)))

pub view_back : (t : Table) (s : State) → contents t ≡ s.table → Placed s → view (port_of t s) ≡ s
unfolding view port_of
view_back t s e h =
    let rows : rows_of t ≡ s.table.rows = ap (λ (c : Contents). c.rows) e in
    let n : t.count ≡ length s.bounds = sym (rows_length t) ∙ ap (λ (c : Contents). length c.rows) e ∙ sym h.bounds in
    let m : length s.last ≡ length s.table.rows = ap (λ (l : List Instant). length l) (sym h.last) ∙ for_length s.table.rows s.last in
    let last : instants_of (rows_of t) (placed most_rows None (map last_of s.last)) ≡ s.last = rw rows (last_back s.table.rows s.last m h.rows ∙ h.last) in
    let kept : kept_of t.count (placed most_rows 0 s.bounds) ≡ s.bounds = rw n (bounds_back s.bounds (omega (arith, h.bounds, h.rows))) in
    let a = waiting_back class_places s.a h.a in
    let b = waiting_back class_places s.b h.b in
    let best = waiting_back best_places s.best h.best in
    λ i. record { table = e i; bounds = kept i; clock = s.clock; credita = s.credita; creditb = s.creditb; a = a i; b = b i; best = best i; last = last i; wire = s.wire }
