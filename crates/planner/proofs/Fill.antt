-- Places that are filled one after the other, with what they held behind.
use Prim.Native.Nat.{ℕ, zero, suc, ◌+◌, ◌<◌}
use mathlib.Core.List.{List, [], ◌∷◌, ◌++◌, map, append_assoc}
use mathlib.Core.Path.{◌≡◌, refl, ◌∙◌, ap}
use native.Mathlib.Nat.{le_of_suc-le-suc}
use native.Mathlib.Numerals.{add-one}
use native.Mathlib.Omega.{arith}
use lib.ListN.{length, get_or, take, drop, set, length-map}
use lib.Seq.{take-suc, drop-cons, length-take-le, set_at}

module _ {A : Type 0} (f : A → ℕ) where
  map_append : (l m : List A) → map f (l ++ m) ≡ map f l ++ map f m
  map_append [] m = refl
  map_append (r ∷ l) m = ap (λ (x : List ℕ). f r ∷ x) (map_append l m)

  pub get_d_map_in : (l : List A) (i : ℕ) (d : A) (e : ℕ) → i < length l → get_or (map f l) i e ≡ f (get_or l i d)
  get_d_map_in [] i d e h = absurd (omega arith)
  get_d_map_in (r ∷ l) zero d e h = refl
  get_d_map_in (r ∷ l) (suc i) d e h = get_d_map_in l i d e (le_of_suc-le-suc h)

  -- one place more
  pub fill_next : (l : List A) (xs : List ℕ) (i : ℕ) (d : A) {ys : List ℕ} {v : ℕ} → ys ≡ map f (take i l) ++ drop i xs → i < length l → i < length xs → v ≡ f (get_or l i d) → set ys i v ≡ map f (take (i + 1) l) ++ drop (i + 1) xs
  fill_next l xs i d {v = v} is h room e =
      let front : length (map f (take i l)) ≡ i = length-map (take i l) f ∙ length-take-le i l (omega arith) in
      rw (is, drop-cons xs i 0 room, set_at (map f (take i l)) (get_or xs i 0) (drop (suc i) xs) v i front, add-one, take-suc l i d h, map_append, append_assoc, e)
      refl
