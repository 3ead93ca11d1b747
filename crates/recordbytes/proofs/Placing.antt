-- Things in places, with zeros behind them: one thing more, and the port record that is made of a port's parts.
use Prim.Native.Nat.{ℕ, zero, suc, ◌+◌, ◌-◌, ◌≤◌, ◌<◌}
use mathlib.Core.List.{List, [], ◌∷◌, ◌++◌, append_assoc}
use mathlib.Core.Path.{◌≡◌, refl, sym, ◌∙◌, ap}
use native.Mathlib.Omega.{arith}
use lib.ListN.{length, take, set, replicate, length-replicate}
use lib.Seq.{take-append-add, take_all}
use Rattle.table.specs.Limits.{most_rows}
use Rattle.table.specs.Rows.{no_row, Contents, contents}
use Rattle.table.proofs.Laws.{rows_are}
use Rattle.machine.specs.State.{State, view, placed, Placed}
use Rattle.machine.proofs.Placing.{placed_length, placed_shows, view_back}
use Rattle.recordbytes.specs.Port.{table_from, port_from}

module _ {X : Type 0} (z : X) where
  -- nothing is placed
  pub placed_none : (n : ℕ) → replicate n z ≡ placed n z []
  unfolding placed
  placed_none n = sym (take_all n (replicate n z) (rw (length-replicate n z) (omega arith)))

  -- one thing more
  zeros : (n m l : ℕ) → n ≤ m → n ≤ l → take n (replicate m z) ≡ take n (replicate l z)
  zeros zero m l h g = refl
  zeros (suc n) zero l h g = absurd (omega arith)
  zeros (suc n) (suc m) zero h g = absurd (omega arith)
  zeros (suc n) (suc m) (suc l) h g = ap (λ (xs : List X). z ∷ xs) (zeros n m l (omega arith) (omega arith))

  enough : (xs : List X) (n m l : ℕ) → n ≤ length xs + m → n ≤ length xs + l → take n (xs ++ replicate m z) ≡ take n (xs ++ replicate l z)
  enough [] n m l h g = zeros n m l (omega arith) (omega arith)
  enough (x ∷ xs) zero m l h g = refl
  enough (x ∷ xs) (suc n) m l h g = ap (λ (ys : List X). x ∷ ys) (enough xs n m l (omega arith) (omega arith))

  put_behind : (xs : List X) (x : X) (n m : ℕ) → length xs < n → set (take n (xs ++ replicate (suc m) z)) (length xs) x ≡ take n (xs ++ x ∷ replicate m z)
  put_behind [] x zero m h = absurd (omega arith)
  put_behind [] x (suc n) m h = refl
  put_behind (y ∷ xs) x zero m h = absurd (omega arith)
  put_behind (y ∷ xs) x (suc n) m h = ap (λ (ys : List X). y ∷ ys) (put_behind xs x n m (omega arith))

  pub placed_next : (n : ℕ) (xs : List X) (x : X) → length xs < n → set (placed n z xs) (length xs) x ≡ placed n z (xs ++ x ∷ [])
  unfolding placed
  placed_next n xs x h =
      let more : take n (xs ++ replicate n z) ≡ take n (xs ++ replicate (suc n) z) = enough xs n n (suc n) (omega arith) (omega arith) in
      rw (more, put_behind xs x n n h) (sym (ap (take n) (append_assoc xs (x ∷ []) (replicate n z))))

-- ---- the parts of what was made of parts
contents_back : (t : Contents) → length t.rows ≤ most_rows → contents (table_from t) ≡ t
unfolding table_from
contents_back t h =
    let few : length t.rows ≤ length (placed most_rows no_row t.rows) = rw (placed_length no_row most_rows t.rows) h in
    rw (rows_are (table_from t) few, placed_shows no_row most_rows t.rows h) refl

pub view_from : (s : State) → Placed s → view (port_from s) ≡ s
unfolding port_from
view_from s h = view_back (table_from s.table) s (contents_back s.table h.rows) h

-- ---- places as reading a file fills them
take_zeros : {X : Type 0} (z : X) (n m : ℕ) → n ≤ m → take n (replicate m z) ≡ replicate n z
take_zeros z zero m h = refl
take_zeros z (suc n) zero h = absurd (omega arith)
take_zeros {X} z (suc n) (suc m) h = ap (λ (xs : List X). z ∷ xs) (take_zeros z n m (omega arith))

pub placed_are : {X : Type 0} (z : X) (n : ℕ) (xs : List X) → length xs ≤ n → placed n z xs ≡ xs ++ replicate (n - length xs) z
unfolding placed
placed_are {X} z n xs h =
    let all : n ≡ length xs + (n - length xs) = omega arith in
    ap (λ (m : ℕ). take m (xs ++ replicate n z)) all ∙ take-append-add xs (replicate n z) (n - length xs) ∙ ap (λ (ys : List X). xs ++ ys) (take_zeros z (n - length xs) n (omega arith))
