-- What is noted of the rows' frames, one frame after the other: how many there are, which is the newest, and that frames in turn are a period apart.
use Prim.Native.Nat.{ℕ, zero, suc, ◌+◌, ◌-◌, ◌≤◌, ◌<◌, max}
use mathlib.Core.Bool.{Bool, true, false, cond, false≢true}
use mathlib.Core.List.{List, [], ◌∷◌, ◌++◌, append-nil}
use mathlib.Core.Path.{◌≡◌, refl, sym, ◌∙◌, ap}
use native.Mathlib.Omega.{arith}
use lib.Dec.{eqb}
use lib.ListN.{length, get_or, set, replicate, length-set, length-append, length-replicate, get_or-replicate}
use Rattle.std.proofs.lemmas.List.{get_or-map}
use lib.Seq.{get_or-set_same, get_or-set_other}
use borrow.Author.Tests.{eqb-true, eqb-false, ne_eqb, leb-true, le-leb}
use Rattle.table.specs.declared.Table.{Table}
use Rattle.table.specs.Limits.{most_rows}
use Rattle.table.specs.Wire.{period_of}
use Rattle.table.specs.Rows.{no_row}
use Rattle.table.proofs.Laws as table
use Rattle.machine.specs.declared.Frame.{Frame}
use Rattle.machine.specs.declared.Wire.{Wire}
use Rattle.machine.specs.declared.Wire.TheVariants.{Free, Sending}
use Rattle.machine.specs.Record.{taken_in, sending, apart, apart_from, spaced, newest_of}
use Rattle.machine.proofs.FromSound.{taken_append}
use denote.Enum.Bare.{sameb}
use Rattle.notes.specs.contracts.Order as order
use Rattle.notes.specs.declared.Noted.{Noted}
use Rattle.notes.specs.declared.Order.{Order}
use Rattle.notes.specs.declared.Order.TheVariants.{Broken, Rising, Mixed}
use Rattle.notes.specs.Notes.{newests, counts, in_turn, Notes, Apart}

-- ---- one instant behind others
newest_append : (xs ys : List ℕ) → newest_of (xs ++ ys) ≡ max (newest_of xs) (newest_of ys)
newest_append [] ys = omega arith
newest_append (x ∷ xs) ys = omega (arith, newest_append xs ys)

-- a period or more behind the newest of instants that are a period apart
far_behind : (p y x : ℕ) (ys : List ℕ) → y + p ≤ x → apart_from p y ys ≡ true → apart_from p y (ys ++ x ∷ []) ≡ true
far_behind p y x [] h e = rw (le-leb p ((y - x) + (x - y)) (omega arith)) refl
far_behind p y x (z ∷ zs) h e = let q = table.and-true (apart p y z) (apart_from p y zs) e in rw q.0 (far_behind p y x zs h q.1)

behind : (p x : ℕ) (ys : List ℕ) → newest_of ys + p ≤ x → spaced p ys ≡ true → spaced p (ys ++ x ∷ []) ≡ true
behind p x [] h e = refl
behind p x (y ∷ ys) h e =
    let q = table.and-true (apart_from p y ys) (spaced p ys) e in
    rw (far_behind p y x ys (omega arith) q.0) (behind p x ys (omega arith) q.1)

in_turn_lem : (p x : ℕ) (ys : List ℕ) → in_turn p (length ys) (newest_of ys) x ≡ true → spaced p ys ≡ true → spaced p (ys ++ x ∷ []) ≡ true
unfolding in_turn
in_turn_lem p x [] t e = refl
in_turn_lem p x (y ∷ ys) t e = behind p x (y ∷ ys) (leb-true _ _ (rw (ne_eqb (suc (length ys)) 0 (λ z. absurd (omega arith))) at t)) e

-- a row has no more frames than there are
pub taken_few : (k : ℕ) (fs : List Frame) → length (taken_in k fs) ≤ length fs
taken_few k [] = omega arith
taken_few k (f ∷ fs) = go (eqb f.source k) (taken_few k fs)
  where
    go : (b : Bool) → length (taken_in k fs) ≤ length fs → length (cond b (f.taken ∷ taken_in k fs) (taken_in k fs)) ≤ suc (length fs)
    go true h = omega arith
    go false h = omega arith

-- no frame yet
abbrev pub zero_noted : Noted
zero_noted = record { newest = 0; count = 0 }

-- a row's place
module _ (xs : List Noted) (k : ℕ) (h : k < length xs) where
  pub newest_at : get_or (newests xs) k 0 ≡ (get_or xs k zero_noted).newest
  newest_at = get_or-map (λ (n : Noted). n.newest) xs k zero_noted 0 h

  pub count_at : get_or (counts xs) k 0 ≡ (get_or xs k zero_noted).count
  count_at = get_or-map (λ (n : Noted). n.count) xs k zero_noted 0 h

newests_none : (n : ℕ) → newests (replicate n zero_noted) ≡ replicate n 0
newests_none zero = refl
newests_none (suc n) = ap (λ (l : List ℕ). 0 ∷ l) (newests_none n)

counts_none : (n : ℕ) → counts (replicate n zero_noted) ≡ replicate n 0
counts_none zero = refl
counts_none (suc n) = ap (λ (l : List ℕ). 0 ∷ l) (counts_none n)

pub none_noted : Notes [] (newests (replicate most_rows zero_noted)) (counts (replicate most_rows zero_noted))
none_noted =
    rw (newests_none most_rows, counts_none most_rows) (record {
      places = (length-replicate {A = ℕ} most_rows 0, length-replicate {A = ℕ} most_rows 0);
      newest = λ k h. get_or-replicate {A = ℕ} most_rows k 0 0 h;
      counts = λ k h. get_or-replicate {A = ℕ} most_rows k 0 0 h;
    })

-- ---- one frame more, of a row or of none
module _ (fs : List Frame) (xs ns : List ℕ) (n : Notes fs xs ns) (f : Frame) where
  pub noted_here : f.source < most_rows → Notes (fs ++ f ∷ []) (set xs f.source (max (get_or xs f.source 0) f.taken)) (set ns f.source (get_or ns f.source 0 + 1))
  noted_here h =
      record {
        places = (length-set xs _ _ ∙ n.places.0, length-set ns _ _ ∙ n.places.1);
        newest = λ k g. newest k g (eqb f.source k) refl;
        counts = λ k g. counts k g (eqb f.source k) refl;
      }
    where
      newest : (k : ℕ) → k < most_rows → (b : Bool) → eqb f.source k ≡ b → get_or (set xs f.source (max (get_or xs f.source 0) f.taken)) k 0 ≡ newest_of (taken_in k (fs ++ f ∷ []))
      newest k g true e =
          rw (taken_append k fs (f ∷ []), e, ← eqb-true f.source k e, get_or-set_same xs f.source (max (get_or xs f.source 0) f.taken) 0 (rw n.places.0 h)) (omega (arith, n.newest f.source h, newest_append (taken_in f.source fs) (f.taken ∷ [])))
      newest k g false e =
          rw (taken_append k fs (f ∷ []), e, append-nil, get_or-set_other xs f.source k _ 0 (λ z. eqb-false f.source k e (sym z))) (n.newest k g)

      counts : (k : ℕ) → k < most_rows → (b : Bool) → eqb f.source k ≡ b → get_or (set ns f.source (get_or ns f.source 0 + 1)) k 0 ≡ length (taken_in k (fs ++ f ∷ []))
      counts k g true e =
          rw (taken_append k fs (f ∷ []), e, ← eqb-true f.source k e, get_or-set_same ns f.source (get_or ns f.source 0 + 1) 0 (rw n.places.1 h)) (omega (arith, n.counts f.source h, length-append (taken_in f.source fs) (f.taken ∷ [])))
      counts k g false e =
          rw (taken_append k fs (f ∷ []), e, append-nil, get_or-set_other ns f.source k _ 0 (λ z. eqb-false f.source k e (sym z))) (n.counts k g)

  pub not_noted : most_rows ≤ f.source → Notes (fs ++ f ∷ []) xs ns
  not_noted h = record { places = n.places; newest = λ k g. rw (none k g) (n.newest k g); counts = λ k g. rw (none k g) (n.counts k g) }
    where
      none : (k : ℕ) → k < most_rows → taken_in k (fs ++ f ∷ []) ≡ taken_in k fs
      none k g = rw (taken_append k fs (f ∷ []), ne_eqb f.source k (λ z. absurd (omega arith)), append-nil) refl

  -- in turn
  pub apart_here : (t : Table) → f.source < most_rows → in_turn (period_of (get_or t.rows f.source no_row)) (get_or ns f.source 0) (get_or xs f.source 0) f.taken ≡ true → Apart t fs → Apart t (fs ++ f ∷ [])
  apart_here t h e a k g = go (eqb f.source k) refl
    where
      go : (b : Bool) → eqb f.source k ≡ b → spaced (period_of (get_or t.rows k no_row)) (taken_in k (fs ++ f ∷ [])) ≡ true
      go true q =
          rw (taken_append k fs (f ∷ []), q, ← eqb-true f.source k q) (in_turn_lem (period_of (get_or t.rows f.source no_row)) f.taken (taken_in f.source fs) (rw (n.counts f.source h, n.newest f.source h) at e) (a f.source h))
      go false q = rw (taken_append k fs (f ∷ []), q, append-nil) (a k g)

-- one frame alone
pub one_apart : (t : Table) (w : Wire) → Apart t (sending w)
one_apart t Free k h = refl
one_apart t (Sending f left) k h = go (eqb f.source k)
  where
    go : (b : Bool) → spaced (period_of (get_or t.rows k no_row)) (cond b (f.taken ∷ []) []) ≡ true
    go true = refl
    go false = refl

pub one_sending : (w : Wire) → length (sending w) ≤ 1
one_sending Free = omega arith
one_sending (Sending f left) = omega arith

-- two orders that are compared
module _ {r : Bool} where
  pub is_order : (o q : Order) → r ≡ sameb order.the_type o q → r ≡ true → o ≡ q
  is_order Broken Broken e h = refl
  is_order Broken Rising e h = absurd (false≢true (sym e ∙ h))
  is_order Broken Mixed e h = absurd (false≢true (sym e ∙ h))
  is_order Rising Broken e h = absurd (false≢true (sym e ∙ h))
  is_order Rising Rising e h = refl
  is_order Rising Mixed e h = absurd (false≢true (sym e ∙ h))
  is_order Mixed Broken e h = absurd (false≢true (sym e ∙ h))
  is_order Mixed Rising e h = absurd (false≢true (sym e ∙ h))
  is_order Mixed Mixed e h = refl

  same_order : (o : Order) → r ≡ sameb order.the_type o o → r ≡ true
  same_order Broken e = e
  same_order Rising e = e
  same_order Mixed e = e

  pub no_order : (o q : Order) → r ≡ sameb order.the_type o q → r ≡ false → o ≡ q → ⊥
  no_order o q e h i = false≢true (sym h ∙ same_order o (rw (← i) at e))
