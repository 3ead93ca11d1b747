-- A port without a frame and without credit keeps the invariant: the fresh port of an accepted table, and one that a row has left.
use Prim.Native.Nat.{ℕ, zero, suc, ◌-◌, ◌*◌, ◌≤◌}
use mathlib.Core.Bool.{true}
use mathlib.Core.List.{List, []}
use mathlib.Core.Path.{◌≡◌, refl, sym, ◌∙◌, ap}
use native.Mathlib.Nat.{le_refl}
use native.Mathlib.Omega.{arith}
use lib.IntN.{pos}
use lib.ListN.{length, get_or, replicate}
use Rattle.table.specs.declared.Class.{Class}
use Rattle.table.specs.declared.Class.TheVariants.{A, B}
use Rattle.table.specs.Wire.{period_of}
use Rattle.table.specs.Rows.{is_there, Contents, row_at, InUse}
use Rattle.table.specs.Checks.{accepted}
use Rattle.table.proofs.Laws as table
use Rattle.planner.specs.Sums.{largest, send}
use Rattle.planner.specs.Bound.{bounds_of}
use Rattle.planner.specs.Opening.{opening, IsAccepted}
use Rattle.planner.proofs.Laws as law
use Rattle.machine.specs.declared.Wire.TheVariants.{Free}
use Rattle.machine.specs.Limits.{last_clock}
use Rattle.machine.specs.State.{Instant, never, instants_for, State, queue, fresh}
use Rattle.machine.specs.Record.{taken_in}
use Rattle.machine.proofs.Instants.{for_length, for_fresh}
use Rattle.machine.proofs.Tokens.{tokens, tokens_most}
use Rattle.machine.proofs.OneClass.{other, All, Ground, Kept}
use Rattle.machine.proofs.Chain.{Chain}
use Rattle.machine.proofs.Invariant.{RowFrame, class_frames, NoneAfter, terms, GroundOf, KeptOf, Inv, each}

-- no frame, no credit
abbrev pub calm : Contents → List ℕ → ℕ → List Instant → State
calm t bs now is = record { table = t; bounds = bs; clock = now; credita = pos 0; creditb = pos 0; a = []; b = []; best = []; last = is; wire = Free }

-- credit 0: headroom is the floor
abbrev pub rest : Contents → Class → ℕ
rest t c = send c t * largest c t

module _ (t : Contents) (ok : IsAccepted t) (bs : List ℕ) (now : ℕ) (is : List Instant) where
  class_ground : (c : Class) → Ground (terms c t) now (pos 0) [] other (rest t c)
  class_ground c = record { head = omega arith; floor = tt; past = tt; sends = tt }

  class_kept : (c : Class) → Kept (terms c t) now (tokens c now t.rows is) [] other (rest t c)
  class_kept c = record { rest = le_refl _; arrivals = omega (arith, tokens_most c now t.rows is, law.total_sum c t); waiting = tt; due = tt }

  no_frames : (k : ℕ) (c : Class) → Chain (period_of (row_at t k)) (taken_in k (class_frames c (calm t bs now is))) (get_or is k never)
  no_frames k A = tt
  no_frames k B = tt

  pub calm_kept : now ≤ last_clock → InUse t (length t.rows - 1) → bs ≡ bounds_of t → instants_for t.rows is ≡ is → NoneAfter now is → Inv (calm t bs now is) (rest t)
  calm_kept clock count kept used none =
      record {
        always =
            record {
              accepted = ok;
              count = count;
              bounds = kept;
              clock = clock;
              ground = each (λ c. GroundOf c (calm t bs now is) (rest t c)) (class_ground A) (class_ground B);
              frames = record { rows = each (λ c. All (RowFrame c t) (queue c (calm t bs now is))) tt tt; best = tt; few = omega arith; wire = tt };
              instants = record { lasts = sym (ap (λ (l : List Instant). length l) used) ∙ for_length t.rows is; in_use_lem = used; none_after_lem = none };
              chain = λ k h. no_frames k (row_at t k).class;
            };
        timed =
            record {
              kept = each (λ c. KeptOf c (calm t bs now is) (rest t c)) (class_kept A) (class_kept B);
              ceilings = record { ceiling = omega arith; behind = tt; potential = omega arith; behind_best = tt };
            };
      }

none_after_lem : (n : ℕ) → NoneAfter 0 (replicate n never)
none_after_lem zero = tt
none_after_lem (suc n) = none_after_lem n

-- a table that was opened has a row at each number
last_row : (t : Contents) → opening t ≡ accepted → InUse t (length t.rows - 1)
last_row t e =
    let ok = law.accepted_if t e in
    table.there_used t _ (table.every_at (λ r. is_there r ≡ true) t.rows (law.opened_full t e) (length t.rows - 1) (omega (arith, ok.ranges.some)))

pub fresh_kept : (t : Contents) → opening t ≡ accepted → Inv (fresh t) (rest t)
unfolding fresh
fresh_kept t e = calm_kept t (law.accepted_if t e) _ 0 _ (omega arith) (last_row t e) (rw e refl) (for_fresh t.rows) (none_after_lem (length t.rows))
