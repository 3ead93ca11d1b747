-- An effect carried out on a record, case by case: what the crates above may cite.
use Rattle.std.specs.Prelude.{Option, Some, None}
use mathlib.Core.Bool.{Bool, true, false, cond}
use native.Mathlib.Omega.{arith}
use Prim.Native.Nat.{ℕ}
use mathlib.Core.List.{List, map}
use mathlib.Core.Path.{◌≡◌, refl, sym, ◌∙◌, ap}
use borrow.Author.Tests.{ltb-true, lt-ltb}
use lib.Dec.{ltb}
use lib.ListN.{length, set}
use Rattle.std.specs.declared.option.Option.TheVariants.{Some}
use Rattle.table.specs.declared.Row.{Row}
use Rattle.table.specs.Limits.{most_rows}
use Rattle.table.specs.Rows.{rows_of}
use Rattle.machine.specs.declared.Frame.{Frame}
use Rattle.machine.specs.declared.Queue.{Queue}
use Rattle.machine.specs.declared.Port.{Port}
use Rattle.machine.specs.declared.Denial.{Denial}
use Rattle.machine.specs.declared.Change.{Change}
use Rattle.machine.specs.declared.Change.TheVariants.{LeftA, LeftB, LeftBest, JoinedA, JoinedB, JoinedBest}
use Rattle.machine.specs.declared.Effect.{Effect}
use Rattle.machine.specs.Limits.{class_places, best_places}
use Rattle.machine.specs.State.{Instant, State, at, waiting, instant_of, instants_for, instants_of, view}
use Rattle.machine.specs.Calls.{Call, denied, after, answer, number_of, place_of, Gives, Became}
use Rattle.machine.specs.Effects.{passed_answer, changed_by, moved_to, HasRow, Room, Stays, Comes, Denied}
use Rattle.machine.proofs.Effects.{gives}
use Rattle.machine.proofs.Instants.{for_again, for_set}
use Rattle.effects.specs.Queues.{with_frame, without_head}
use Rattle.effects.specs.Records.{settled_on, instants_with, changed_in, applied_to}
use Rattle.effects.proofs.Waits.{room_left, head_leaves, instant_set}

-- a record with another queue, and with the instant of a row's frame
abbrev pub in_a : Queue class_places → Port → Port
in_a x p = record { table = p.table; bounds = p.bounds; clock = p.clock; credita = p.credita; creditb = p.creditb; a = x; b = p.b; best = p.best; last = p.last; wire = p.wire }

abbrev pub in_b : Queue class_places → Port → Port
in_b x p = record { table = p.table; bounds = p.bounds; clock = p.clock; credita = p.credita; creditb = p.creditb; a = p.a; b = x; best = p.best; last = p.last; wire = p.wire }

abbrev pub in_best : Queue best_places → Port → Port
in_best x p = record { table = p.table; bounds = p.bounds; clock = p.clock; credita = p.credita; creditb = p.creditb; a = p.a; b = p.b; best = x; last = p.last; wire = p.wire }

abbrev pub noting : Frame → Port → Port
noting f p = record { table = p.table; bounds = p.bounds; clock = p.clock; credita = p.credita; creditb = p.creditb; a = p.a; b = p.b; best = p.best; last = instants_with f p.last; wire = p.wire }

-- what `applied` promises: q is p with the effect carried out, and p itself where that changes nothing
abbrev pub Carried : Port → Effect → Port → Type 0
Carried p e q = Became (applied_to e (view p)) p q × (Stays p e → q ≡ p)

module _ (p : Port) where
  module _ (e : Effect) where
    stays : Stays p e → settled_on e p ≡ p
    stays s = rw (s.clock, s.credita, s.creditb, s.wire) refl

    pub carried_none : e.change ≡ None → Carried p e (settled_on e p)
    unfolding view
    carried_none h = (record { port = rw h refl; table = refl }, stays)

    pub carried_some : {c : Change} {q : Port} → e.change ≡ Some c → Became (changed_in (Some c) (view p)) p q → Carried p e (settled_on e q)
    unfolding view
    carried_some h b = (record { port = rw h (ap (moved_to e) b.port); table = b.table }, λ s. let z : ◌≡◌ {A = ℕ} 0 1 = cc (h, s.change) in absurd (omega arith))

  -- a head has left its queue
  pub left_a : (x : Queue class_places) → waiting x.count x.frames ≡ without_head class_places (waiting p.a.count p.a.frames) → Became (changed_in (Some LeftA) (view p)) p (in_a x p)
  unfolding view
  left_a x w = record { port = rw w refl; table = refl }

  pub left_b : (x : Queue class_places) → waiting x.count x.frames ≡ without_head class_places (waiting p.b.count p.b.frames) → Became (changed_in (Some LeftB) (view p)) p (in_b x p)
  unfolding view
  left_b x w = record { port = rw w refl; table = refl }

  pub left_best : (x : Queue best_places) → waiting x.count x.frames ≡ without_head best_places (waiting p.best.count p.best.frames) → Became (changed_in (Some LeftBest) (view p)) p (in_best x p)
  unfolding view
  left_best x w = record { port = rw w refl; table = refl }

  -- a frame has joined a queue, and the instant of a row's frame is the row's last
  abbrev rows : List Row
  rows = rows_of p.table

  instant_by : length p.last ≡ most_rows → (f : Frame) (b : Bool) → ltb f.source most_rows ≡ b → instants_of rows (cond b (set p.last f.source (Some f.taken)) p.last) ≡ cond b (instants_for rows (set (instants_of rows p.last) f.source (at f.taken))) (instants_of rows p.last)
  instant_by places f true h = instant_set rows p.last f.source (Some f.taken) (rw places (ltb-true f.source most_rows h))
  instant_by places f false h = refl

  instant_is : length p.last ≡ most_rows → (f : Frame) → instants_of rows (instants_with f p.last) ≡ cond (ltb f.source most_rows) (instants_for rows (set (instants_of rows p.last) f.source (at f.taken))) (instants_of rows p.last)
  instant_is places f = instant_by places f (ltb f.source most_rows) refl

  pub joined_a : length p.last ≡ most_rows → (f : Frame) → (x : Queue class_places) → waiting x.count x.frames ≡ with_frame class_places f (waiting p.a.count p.a.frames) → Became (changed_in (Some (JoinedA f)) (view p)) p (in_a x (noting f p))
  unfolding view
  joined_a places f x w = record { port = rw (w, instant_is places f) refl; table = refl }

  pub joined_b : length p.last ≡ most_rows → (f : Frame) → (x : Queue class_places) → waiting x.count x.frames ≡ with_frame class_places f (waiting p.b.count p.b.frames) → Became (changed_in (Some (JoinedB f)) (view p)) p (in_b x (noting f p))
  unfolding view
  joined_b places f x w = record { port = rw (w, instant_is places f) refl; table = refl }

  pub joined_best : (f : Frame) → (x : Queue best_places) → waiting x.count x.frames ≡ with_frame best_places f (waiting p.best.count p.best.frames) → Became (changed_in (Some (JoinedBest f)) (view p)) p (in_best x p)
  unfolding view
  joined_best f x w = record { port = rw w refl; table = refl }

-- a record shows no instant of an empty number
view_used : (p : Port) → instants_for (view p).table.rows (view p).last ≡ (view p).last
unfolding view
view_used p = for_again (rows_of p.table) (map instant_of p.last)

-- where there is room for a change it is made whole
noted : (f : Frame) (s : State) → instants_for s.table.rows s.last ≡ s.last → HasRow f s → cond (ltb f.source most_rows) (instants_for s.table.rows (set s.last f.source (at f.taken))) s.last ≡ set s.last f.source (at f.taken)
noted f s used h = rw (lt-ltb f.source most_rows h.0) (for_set s.table.rows s.last f.source (at f.taken) h.2 h.1 ∙ ap (λ (l : List Instant). set l f.source (at f.taken)) used)

whole : (c : Option Change) (s : State) → instants_for s.table.rows s.last ≡ s.last → Room c s → changed_in c s ≡ changed_by c s
whole None s u r = refl
whole (Some LeftA) s u r = rw (head_leaves class_places s.a r) refl
whole (Some LeftB) s u r = rw (head_leaves class_places s.b r) refl
whole (Some LeftBest) s u r = rw (head_leaves best_places s.best r) refl
whole (Some (JoinedA f)) s u r = rw (room_left class_places s.a f r.0, noted f s u r.1) refl
whole (Some (JoinedB f)) s u r = rw (room_left class_places s.b f r.0, noted f s u r.1) refl
whole (Some (JoinedBest f)) s u r = rw (room_left best_places s.best f r) refl

-- what a call comes to, carried out, is what it gives
pub carries : {p q : Port} {c : Call} {e : Effect} → Comes p c e → Carried p e q → Gives p c (passed_answer e.passed) q
carries {p = p} {e = e} m b = gives m (record { port = b.0.port ∙ ap (moved_to e) (whole e.change (view p) (view_used p) m.room); table = b.0.table })

-- a call that a check refuses is denied
pub refuses : (p : Port) (c : Call) (d : Denial) → answer (view p) c ≡ denied (number_of d) (place_of d) → after (view p) c ≡ view p → Denied p c d
refuses p c d a v = record { answer = sym a; port = sym v }
