-- One class and its look at the wire, over the class's terms: line 1 of the proof in docs/PROMISES.md, which holds of any port, and lines 2, 7, 8 and 9, which need the planner's timing.
-- One proof serves A and B.
use Prim.Native.Nat.{ℕ, zero, suc, ◌+◌, ◌-◌, ◌*◌, ◌≤◌}
use mathlib.Core.Bool.{Bool, true, false}
use mathlib.Core.List.{List, [], ◌∷◌, ◌++◌}
use mathlib.Core.Path.{◌≡◌, refl}
use native.Mathlib.Nat.{sub_self, mul-zero, mul-suc}
use native.Mathlib.Omega.{arith}
use lib.IntN.{ℤ, pos, ◌-ℤ◌}
use Rattle.table.specs.Limits.{D}
use Rattle.machine.specs.declared.Frame.{Frame}
use Rattle.machine.specs.Time.{ready, earned, settled}
use Rattle.machine.proofs.Credit.{Headroom, gains, loses, capped, rises, ready_credit, idle_credit}

-- the class's own frame with its bytes left, or not its own
pub data Look : Type 0 where
  mine : Frame → ℕ → Look
  other : Look

abbrev pub is_mine : Look → Bool
is_mine (mine f l) = true
is_mine other = false

abbrev pub bytes : Look → ℕ
bytes (mine f l) = l
bytes other = 0

-- the look after a byte
abbrev pub next : Look → Look
next (mine f zero) = other
next (mine f (suc zero)) = other
next (mine f (suc (suc l))) = mine f (suc l)
next other = other

abbrev pub All : (Frame → Type 0) → List Frame → Type 0
All P [] = Unit {0}
All P (f ∷ fs) = P f × All P fs

abbrev pub sizes : List Frame → ℕ
sizes [] = 0
sizes (f ∷ fs) = f.size + sizes fs

-- a class's terms: its slopes, its floor S × L, the sum of C, and a row's wire size and residence
pub record Terms : Type 0 where
  pub idle : ℕ
  pub send : ℕ
  pub floor : ℕ
  pub total : ℕ
  pub size : ℕ → ℕ
  pub residence : ℕ → ℕ

module _ (x : Terms) where
  -- ---- what holds of any port
  -- the class's frame on the wire: its bytes left, and that the floor covers what it costs
  pub record Sends (now : ℕ) (f : Frame) (l : ℕ) : Type 0 where
    pub past : f.taken ≤ now
    pub some : 1 ≤ l
    pub whole : l ≤ f.size
    pub costs : x.send * f.size ≤ x.floor

  abbrev pub Sending-of : ℕ → Look → Type 0
  Sending-of now (mine f l) = Sends now f l
  Sending-of now other = Unit {0}

  -- line 1: a frame on the wire started at credit 0 or more
  abbrev pub Floor : ℕ → Look → Type 0
  Floor u (mine f l) = x.floor + x.send * l ≤ u + x.send * f.size
  Floor u other = Unit {0}

  pub record Ground (now : ℕ) (c : ℤ) (q : List Frame) (m : Look) (u : ℕ) : Type 0 where
    pub head : Headroom u c x.floor
    pub floor : Floor u m
    pub past : All (λ f. f.taken ≤ now) q
    pub sends : Sending-of now m

  -- how a byte-time moves the headroom; a class that has no frame afterwards has no credit above 0
  abbrev pub Shift : Look → List Frame → ℕ → ℕ → Type 0
  Shift (mine f zero) q u v = v + x.send ≡ u
  Shift (mine f (suc zero)) [] u v = (v + x.send ≤ u) × (v ≤ x.floor)
  Shift (mine f (suc zero)) (g ∷ q) u v = v + x.send ≡ u
  Shift (mine f (suc (suc l))) q u v = v + x.send ≡ u
  Shift other [] u v = (v ≤ u + x.idle) × (v ≤ x.floor)
  Shift other (g ∷ q) u v = v ≡ u + x.idle

  pub pays : (f : Frame) (l : ℕ) (q : List Frame) (u v : ℕ) → Shift (mine f l) q u v → v + x.send ≤ u
  pays f zero q u v h = omega arith
  pays f (suc zero) [] u v h = h.0
  pays f (suc zero) (g ∷ q) u v h = omega arith
  pays f (suc (suc l)) q u v h = omega arith

  pub earns : (q : List Frame) (u v : ℕ) → Shift other q u v → v ≤ u + x.idle
  earns [] u v h = h.0
  earns (g ∷ q) u v h = omega arith

  pub record Moved (now : ℕ) (c : ℤ) (q : List Frame) (m n : Look) (u : ℕ) : Type 0 where
    pub room : ℕ
    pub ground : Ground now c q n room
    pub shift : Shift m q u room

  past_step : (now : ℕ) (q : List Frame) → All (λ f. f.taken ≤ now) q → All (λ f. f.taken ≤ suc now) q
  past_step now [] p = tt
  past_step now (f ∷ q) p = (omega (arith, p.0), past_step now q p.1)

  affords : (u : ℕ) (f : Frame) (l : ℕ) → x.floor + x.send * suc l ≤ u + x.send * f.size → x.send * f.size ≤ x.floor → x.send ≤ u
  affords u f l h g = omega arith

  pub byte_grounds : (now : ℕ) (c : ℤ) (q : List Frame) (m : Look) (u : ℕ) → Ground now c q m u → Moved (suc now) (settled (is_mine (next m)) q (earned (is_mine m) q x.idle x.send c)) q m (next m) u
  byte_grounds now c q (mine f zero) u κ = absurd (omega (arith, κ.sends.some))
  byte_grounds now c [] (mine f (suc zero)) u κ =
      let enough : x.send ≤ u = affords u f 0 κ.floor κ.sends.costs in
      let low = capped (c -ℤ pos x.send) (u - x.send) x.floor (loses c u x.floor x.send enough κ.head) in
      record { room = low.room; ground = record { head = low.head; floor = tt; past = tt; sends = tt }; shift = (omega (arith, low.below), low.rests) }
  byte_grounds now c (g ∷ q) (mine f (suc zero)) u κ =
      let enough : x.send ≤ u = affords u f 0 κ.floor κ.sends.costs in
      record { room = u - x.send; ground = record { head = loses c u x.floor x.send enough κ.head; floor = tt; past = past_step now (g ∷ q) κ.past; sends = tt }; shift = omega arith }
  byte_grounds now c q (mine f (suc (suc l))) u κ =
      let enough : x.send ≤ u = affords u f (suc l) κ.floor κ.sends.costs in
      record {
        room = u - x.send;
        ground =
            record {
              head = loses c u x.floor x.send enough κ.head;
              floor = omega (arith, κ.floor);
              past = past_step now q κ.past;
              sends = record { past = omega (arith, κ.sends.past); some = omega arith; whole = omega (arith, κ.sends.whole); costs = κ.sends.costs };
            };
        shift = omega arith;
      }
  byte_grounds now c [] other u κ =
      let low = rises c u x.floor x.idle κ.head in
      record { room = low.room; ground = record { head = low.head; floor = tt; past = tt; sends = tt }; shift = (low.below, low.rests) }
  byte_grounds now c (g ∷ q) other u κ =
      record { room = u + x.idle; ground = record { head = gains c u x.floor x.idle κ.head; floor = tt; past = past_step now (g ∷ q) κ.past; sends = tt }; shift = refl }

  -- the head goes out: its credit is at least 0
  pub head_grounds : (now : ℕ) (c : ℤ) (f : Frame) (q : List Frame) (u : ℕ) → Ground now c (f ∷ q) other u → ready c (f ∷ q) ≡ true → 1 ≤ f.size → x.send * f.size ≤ x.floor → Ground now c q (mine f f.size) u
  head_grounds now c f q u κ r some costs =
      let credit : x.floor ≤ u = ready_credit c (f ∷ q) u x.floor r κ.head in
      record { head = κ.head; floor = omega arith; past = κ.past.1; sends = record { past = κ.past.0; some = some; whole = omega arith; costs = costs } }

  past_more : (now : ℕ) (q : List Frame) (f : Frame) → f.taken ≤ now → All (λ g. g.taken ≤ now) q → All (λ g. g.taken ≤ now) (q ++ f ∷ [])
  past_more now [] f h p = (h, tt)
  past_more now (g ∷ q) f h p = (p.0, past_more now q f h p.1)

  pub offer_grounds : (now : ℕ) (c : ℤ) (q : List Frame) (m : Look) (f : Frame) (u : ℕ) → f.taken ≡ now → Ground now c q m u → Ground now c (q ++ f ∷ []) m u
  offer_grounds now c q m f u e κ = record { head = κ.head; floor = κ.floor; past = past_more now q f (omega arith) κ.past; sends = κ.sends }

  -- ---- what needs the planner's timing
  -- line 2: no frame, no credit above 0
  abbrev pub Rest : ℕ → List Frame → Look → Type 0
  Rest u [] other = u ≤ x.floor
  Rest u [] (mine f l) = Unit {0}
  Rest u (g ∷ q) m = Unit {0}

  -- line 8: each waiting frame, with n bytes before it
  abbrev pub Waits : ℕ → ℕ → ℕ → List Frame → Type 0
  Waits now u n [] = Unit {0}
  Waits now u n (f ∷ q) = (x.idle * (now - f.taken) + D * n + D * x.size f.source ≤ u + D * x.total) × Waits now u (n + f.size) q

  -- line 9: the frame on the wire is over within its residence
  abbrev pub Due : ℕ → Look → Type 0
  Due now (mine f l) = (now - f.taken) + l ≤ x.residence f.source
  Due now other = Unit {0}

  -- line 7: arrivals
  pub record Kept (now tok : ℕ) (q : List Frame) (m : Look) (u : ℕ) : Type 0 where
    pub rest : Rest u q m
    pub arrivals : D * (sizes q + bytes m) + tok ≤ u + D * x.total
    pub waiting : Waits now u (bytes m) q
    pub due : Due now m

  age_step : (now k : ℕ) → k ≤ now → x.idle * (suc now - k) ≡ x.idle * (now - k) + x.idle
  age_step now j h = let e : suc now - j ≡ suc (now - j) = omega arith in rw e (mul-suc x.idle (now - j))

  -- a byte-time raises an age by 1; u and the bytes before move so that line 8 stays
  waits_step : (now u v n m : ℕ) (q : List Frame) → u + x.idle + D * m ≤ v + D * n → All (λ f. f.taken ≤ now) q → Waits now u n q → Waits (suc now) v m q
  waits_step now u v n m [] h p w = tt
  waits_step now u v n m (f ∷ q) h p w =
      (omega (arith, w.0, age_step now f.taken p.0), waits_step now u v (n + f.size) (m + f.size) q (omega arith) p.1 w.1)

  waits_same : (now u n m : ℕ) (q : List Frame) → n ≡ m → Waits now u n q → Waits now u m q
  waits_same now u n m q e w = rw e at w

  rest_mine : (u : ℕ) (q : List Frame) (f : Frame) (l : ℕ) → Rest u q (mine f l)
  rest_mine u [] f l = tt
  rest_mine u (g ∷ q) f l = tt

  rests : (now tok : ℕ) (q : List Frame) (u : ℕ) → Kept now tok q other u → q ≡ [] → u ≤ x.floor
  rests now tok [] u κ e = κ.rest
  rests now tok (g ∷ q) u κ e = let z : ◌≡◌ {A = ℕ} 0 1 = cc in absurd (omega arith)

  rest_more : (u : ℕ) (q : List Frame) (f : Frame) (m : Look) → Rest u (q ++ f ∷ []) m
  rest_more u [] f m = tt
  rest_more u (g ∷ q) f m = tt

  sizes_more : (q : List Frame) (f : Frame) → sizes (q ++ f ∷ []) ≡ sizes q + f.size
  sizes_more [] f = omega arith
  sizes_more (g ∷ q) f = omega (arith, sizes_more q f)

  waits_new : (now u n : ℕ) (f : Frame) → f.taken ≡ now → D * n + D * x.size f.source ≤ u + D * x.total → x.idle * (now - f.taken) + D * n + D * x.size f.source ≤ u + D * x.total
  waits_new now u n f e h = rw (e, sub_self, mul-zero) (omega arith)

  waits_more : (now u n : ℕ) (q : List Frame) (f : Frame) → x.idle * (now - f.taken) + D * (n + sizes q) + D * x.size f.source ≤ u + D * x.total → Waits now u n q → Waits now u n (q ++ f ∷ [])
  waits_more now u n [] f h w = (omega arith, tt)
  waits_more now u n (g ∷ q) f h w = (w.0, waits_more now u (n + g.size) q f (omega arith) w.1)

  -- a byte passes: `tok` and `tok'` are the class's tokens before and after
  module _ (balance : x.idle + x.send ≡ D) (now tok tok' : ℕ) (up : tok' ≤ tok + x.idle) (full : tok' ≤ D * x.total) where
    pub byte_passes : (c : ℤ) (q : List Frame) (m : Look) (u v : ℕ) → Ground now c q m u → Shift m q u v → Kept now tok q m u → Kept (suc now) tok' q (next m) v
    byte_passes c q (mine f zero) u v g h κ = absurd (omega (arith, g.sends.some))
    byte_passes c [] (mine f (suc zero)) u v g h κ = record { rest = h.1; arrivals = omega arith; waiting = tt; due = tt }
    byte_passes c (e ∷ q) (mine f (suc zero)) u v g h κ =
        record { rest = tt; arrivals = omega (arith, κ.arrivals); waiting = waits_step now u v 1 0 (e ∷ q) (omega arith) g.past κ.waiting; due = tt }
    byte_passes c q (mine f (suc (suc l))) u v g h κ =
        record {
          rest = rest_mine v q f (suc l);
          arrivals = omega (arith, κ.arrivals);
          waiting = waits_step now u v (suc (suc l)) (suc l) q (omega arith) g.past κ.waiting;
          due = omega (arith, κ.due, g.sends.past);
        }
    byte_passes c [] other u v g h κ = record { rest = h.1; arrivals = omega arith; waiting = tt; due = tt }
    byte_passes c (e ∷ q) other u v g h κ =
        record { rest = tt; arrivals = omega (arith, κ.arrivals); waiting = waits_step now u v 0 0 (e ∷ q) (omega arith) g.past κ.waiting; due = tt }

  -- the head goes out: line 8 of the head gives line 9. `top` is the ceiling, I × H
  pub head_goes : (top now tok : ℕ) (f : Frame) (q : List Frame) (u : ℕ) → ((age : ℕ) → x.idle * age + D * x.size f.source ≤ top + x.floor + D * x.total → age + x.size f.source ≤ x.residence f.source) → Kept now tok (f ∷ q) other u → u ≤ top + x.floor → f.size ≤ x.size f.source → Kept now tok q (mine f f.size) u
  head_goes top now tok f q u bounded κ ceiling small =
      record {
        rest = rest_mine u q f f.size;
        arrivals = omega (arith, κ.arrivals);
        waiting = waits_same now u (0 + f.size) f.size q (omega arith) κ.waiting.1;
        due = omega (arith, bounded (now - f.taken) (omega (arith, κ.waiting.0)));
      }

  -- a class whose head does not go out, on a free wire
  pub head_stays : (now tok : ℕ) (c : ℤ) (q : List Frame) (u : ℕ) → Ground now c q other u → Kept now tok q other u → ready c q ≡ false → u ≤ x.floor
  head_stays now tok c q u g κ r = idle_credit c q u x.floor r (rests now tok q u κ) g.head

  -- an offer: the row's token pays for its frame
  pub frame_joins : (now tok tok' : ℕ) (q : List Frame) (m : Look) (f : Frame) (u : ℕ) → f.taken ≡ now → f.size ≤ x.size f.source → tok' + D * x.size f.source ≡ tok → Kept now tok q m u → Kept now tok' (q ++ f ∷ []) m u
  frame_joins now tok tok' q m f u e small paid κ =
      record {
        rest = rest_more u q f m;
        arrivals = rw (sizes_more q f) (omega (arith, κ.arrivals));
        waiting = waits_more now u (bytes m) q f (waits_new now u (bytes m + sizes q) f e (omega (arith, κ.arrivals))) κ.waiting;
        due = κ.due;
      }
