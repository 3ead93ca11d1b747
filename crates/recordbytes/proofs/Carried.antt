-- A port that a record can hold is one that it can hold after a call: the parts find their places, and every number fits its field.
use Rattle.std.specs.Prelude.{Option, Some, None}
use Prim.Native.Nat.{ℕ, zero, suc, ◌≤◌, ◌<◌, ◌^◌}
use mathlib.Core.Bool.{true}
use mathlib.Core.List.{List, [], ◌∷◌, ◌++◌}
use mathlib.Core.Path.{◌≡◌, ◌∙◌, ap}
use native.Mathlib.Omega.{arith}
use lib.ListN.{length, set, length-append}
use lib.Signed.{mag}
use mir.Val.{Val}
use denote.Laws.{Is}
use denote.Struct.Declared as struct
use denote.Enum.Declared as enum
use Rattle.table.specs.Limits.{class_places}
use Rattle.table.specs.Rows.{is_there, row_at}
use Rattle.machine.specs.declared.Frame.{Frame}
use Rattle.machine.specs.declared.Change.{Change}
use Rattle.machine.specs.declared.Change.TheVariants.{LeftA, LeftB, LeftBest, JoinedA, JoinedB, JoinedBest}
use Rattle.machine.specs.declared.Effect.{Effect}
use Rattle.machine.specs.Limits.{best_places}
use Rattle.machine.specs.State.{Instant, at, instants_for, State, Placed}
use Rattle.machine.specs.Time.{behind_head}
use Rattle.machine.specs.Effects.{changed_by, carried_out, Room}
use Rattle.std.specs.contracts.option.Option as option
use Rattle.machine.specs.contracts.Change as change
use Rattle.machine.specs.contracts.Effect as effect
use Rattle.machine.proofs.Instants.{for_set}
use Rattle.words.specs.Words.{Every, Word}
use Rattle.recordbytes.specs.Fits.{FrameFits, InstantFits, WireFits, Numbered, Fits}
use Rattle.recordbytes.proofs.Lists.{every_append}
use Rattle.recordbytes.proofs.Owned.{frame_owned, wire_owned}

-- ---- what owning an effect tells
abbrev ChangeFits : Option Change → Type 0
ChangeFits None = Unit {0}
ChangeFits (Some LeftA) = Unit {0}
ChangeFits (Some LeftB) = Unit {0}
ChangeFits (Some LeftBest) = Unit {0}
ChangeFits (Some (JoinedA f)) = FrameFits f
ChangeFits (Some (JoinedB f)) = FrameFits f
ChangeFits (Some (JoinedBest f)) = FrameFits f

pub record EffectFits (e : Effect) : Type 0 where
  clock : Word e.clock
  credita : mag e.credita < 2 ^ 63
  creditb : mag e.creditb < 2 ^ 63
  wire : WireFits e.wire
  change : ChangeFits e.change

change_owned : (c : Change) (vs : List Val) → Is (enum.row change.the_type) c vs → ChangeFits (Some c)
change_owned LeftA vs e = tt
change_owned LeftB vs e = tt
change_owned LeftBest vs e = tt
change_owned (JoinedA f) vs e = frame_owned f _ e.1.1.1.1.0
change_owned (JoinedB f) vs e = frame_owned f _ e.1.1.1.1.0
change_owned (JoinedBest f) vs e = frame_owned f _ e.1.1.1.1.0

option_owned : (c : Option Change) (vs : List Val) → Is (enum.row (option.the_type change.the_row)) c vs → ChangeFits c
option_owned None vs e = tt
option_owned (Some c) vs e = change_owned c _ e.1.1.1.1.0

pub owned_effect : (e : Effect) (vs : List Val) → Is (struct.row effect.the_type) e vs → EffectFits e
owned_effect e vs o =
    let r = o.1.1.1 in
    record { clock = r.0.1; credita = r.1.0.1; creditb = r.1.1.0.1; wire = wire_owned e.wire _ r.1.1.1.0; change = option_owned e.change _ r.1.1.1.1.0 }

-- ---- lists with one element more, less or other
behind_few : (q : List Frame) (n : ℕ) → length q ≤ n → length (behind_head q) ≤ n
behind_few [] n h = h
behind_few (x ∷ q) n h = omega arith

behind_fits : (q : List Frame) → Every FrameFits q → Every FrameFits (behind_head q)
behind_fits [] f = tt
behind_fits (x ∷ q) f = f.1

one_more : (q : List Frame) (x : Frame) (n : ℕ) → length q < n → length (q ++ x ∷ []) ≤ n
one_more q x n h = rw length-append (omega arith)

more_fits : (q : List Frame) (x : Frame) → Every FrameFits q → FrameFits x → Every FrameFits (q ++ x ∷ [])
more_fits q x f g = every_append FrameFits q (x ∷ []) f (g, tt)

other_fits : (ls : List Instant) (i : ℕ) (x : Instant) → Every InstantFits ls → InstantFits x → Every InstantFits (set ls i x)
other_fits [] i x f g = tt
other_fits (l ∷ ls) zero x f g = (g, f.1)
other_fits (l ∷ ls) (suc i) x f g = (f.0, other_fits ls i x f.1 g)

-- ---- a port after a call
module _ (s : State) (fits : Fits s) where
  abbrev p : Placed s
  p = fits.placed

  abbrev n : Numbered s
  n = fits.numbered

  other_placed : (k : ℕ) (x : Instant) → k < length s.last → is_there (row_at s.table k) ≡ true → instants_for s.table.rows (set s.last k x) ≡ set s.last k x
  other_placed k x h e = for_set s.table.rows s.last k x e h ∙ ap (λ (ls : List Instant). set ls k x) p.last

  changed_placed : (c : Option Change) → Room c s → Placed (changed_by c s)
  changed_placed None r = p
  changed_placed (Some LeftA) r = record { rows = p.rows; bounds = p.bounds; a = behind_few s.a class_places p.a; b = p.b; best = p.best; last = p.last }
  changed_placed (Some LeftB) r = record { rows = p.rows; bounds = p.bounds; a = p.a; b = behind_few s.b class_places p.b; best = p.best; last = p.last }
  changed_placed (Some LeftBest) r = record { rows = p.rows; bounds = p.bounds; a = p.a; b = p.b; best = behind_few s.best best_places p.best; last = p.last }
  changed_placed (Some (JoinedA f)) r = record { rows = p.rows; bounds = p.bounds; a = one_more s.a f class_places r.0; b = p.b; best = p.best; last = other_placed f.source (at f.taken) r.1.1 r.1.2 }
  changed_placed (Some (JoinedB f)) r = record { rows = p.rows; bounds = p.bounds; a = p.a; b = one_more s.b f class_places r.0; best = p.best; last = other_placed f.source (at f.taken) r.1.1 r.1.2 }
  changed_placed (Some (JoinedBest f)) r = record { rows = p.rows; bounds = p.bounds; a = p.a; b = p.b; best = one_more s.best f best_places r; last = p.last }

  changed_numbered : (c : Option Change) → ChangeFits c → Numbered (changed_by c s)
  changed_numbered None f = n
  changed_numbered (Some LeftA) f = record { header = n.header; rows = n.rows; bounds = n.bounds; clock = n.clock; credita = n.credita; creditb = n.creditb; a = behind_fits s.a n.a; b = n.b; best = n.best; last = n.last; wire = n.wire }
  changed_numbered (Some LeftB) f = record { header = n.header; rows = n.rows; bounds = n.bounds; clock = n.clock; credita = n.credita; creditb = n.creditb; a = n.a; b = behind_fits s.b n.b; best = n.best; last = n.last; wire = n.wire }
  changed_numbered (Some LeftBest) f = record { header = n.header; rows = n.rows; bounds = n.bounds; clock = n.clock; credita = n.credita; creditb = n.creditb; a = n.a; b = n.b; best = behind_fits s.best n.best; last = n.last; wire = n.wire }
  changed_numbered (Some (JoinedA x)) f =
      record { header = n.header; rows = n.rows; bounds = n.bounds; clock = n.clock; credita = n.credita; creditb = n.creditb; a = more_fits s.a x n.a f; b = n.b; best = n.best; last = other_fits s.last x.source (at x.taken) n.last f.taken; wire = n.wire }
  changed_numbered (Some (JoinedB x)) f =
      record { header = n.header; rows = n.rows; bounds = n.bounds; clock = n.clock; credita = n.credita; creditb = n.creditb; a = n.a; b = more_fits s.b x n.b f; best = n.best; last = other_fits s.last x.source (at x.taken) n.last f.taken; wire = n.wire }
  changed_numbered (Some (JoinedBest x)) f = record { header = n.header; rows = n.rows; bounds = n.bounds; clock = n.clock; credita = n.credita; creditb = n.creditb; a = n.a; b = n.b; best = more_fits s.best x n.best f; last = n.last; wire = n.wire }

  pub carried_fits : (e : Effect) → EffectFits e → Room e.change s → Fits (carried_out e s)
  carried_fits e f r =
      let q = changed_placed e.change r in
      let m = changed_numbered e.change f.change in
      record {
        placed = record { rows = q.rows; bounds = q.bounds; a = q.a; b = q.b; best = q.best; last = q.last };
        numbered = record { header = m.header; rows = m.rows; bounds = m.bounds; clock = f.clock; credita = f.credita; creditb = f.creditb; a = m.a; b = m.b; best = m.best; last = m.last; wire = f.wire };
      }
