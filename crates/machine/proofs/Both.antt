-- Both classes together: the ceiling of A (line 3) and the ceiling of B by the potential SA × u_b + IB × u_a (line 4), in headroom.
use Prim.Native.Nat.{ℕ, zero, suc, ◌+◌, ◌*◌, ◌≤◌}
use mathlib.Core.Path.{◌≡◌, ap}
use native.Mathlib.Nat.{mul-add, mul_comm, mul-le-mul, mul-le-mul_left, le-mul_of_pos_right, le_of_mul-le-mul_left}
use native.Mathlib.Omega.{arith}
use Rattle.table.specs.Limits.{D}
use Rattle.machine.proofs.OneClass.{Terms}

-- who has the wire: nobody, a frame of A, or a frame of B or of best effort with its size and its bytes left
pub data Line : Type 0 where
  free : Line
  by_a : ℕ → Line
  by_b : ℕ → ℕ → Line
  by_best_lem : ℕ → ℕ → Line

abbrev pub next_line_lem : Line → Line
next_line_lem free = free
next_line_lem (by_a zero) = free
next_line_lem (by_a (suc zero)) = free
next_line_lem (by_a (suc (suc l))) = by_a (suc l)
next_line_lem (by_b z zero) = free
next_line_lem (by_b z (suc zero)) = free
next_line_lem (by_b z (suc (suc l))) = by_b z (suc l)
next_line_lem (by_best_lem z zero) = free
next_line_lem (by_best_lem z (suc zero)) = free
next_line_lem (by_best_lem z (suc (suc l))) = by_best_lem z (suc l)

-- the terms of A and B, HA and LC
module _ (ca cb : Terms) (ha lc : ℕ) where
  -- A gains while another frame has the wire
  abbrev pub Behind : Line → ℕ → Type 0
  Behind free ua = Unit {0}
  Behind (by_a l) ua = Unit {0}
  Behind (by_b z l) ua = (ua + ca.idle * l ≤ ca.floor + ca.idle * z) × (z ≤ ha) × (1 ≤ l)
  Behind (by_best_lem z l) ua = (ua + ca.idle * l ≤ ca.floor + ca.idle * z) × (z ≤ ha) × (1 ≤ l)

  -- both gain while best effort has the wire
  abbrev pub BehindBest : Line → ℕ → ℕ → Type 0
  BehindBest free ua ub = Unit {0}
  BehindBest (by_a l) ua ub = 1 ≤ l
  BehindBest (by_b z l) ua ub = Unit {0}
  BehindBest (by_best_lem z l) ua ub = (ca.send * ub + cb.idle * ua + D * (cb.idle * l) ≤ D * (cb.idle * z) + (ca.send * cb.floor + cb.idle * ca.floor)) × (z ≤ lc)

  pub record Ceilings (ln : Line) (ua ub : ℕ) : Type 0 where
    pub ceiling : ua ≤ ca.floor + ca.idle * ha
    pub behind : Behind ln ua
    pub potential : ca.send * ub + cb.idle * ua ≤ D * (cb.idle * lc) + (ca.send * cb.floor + cb.idle * ca.floor)
    pub behind_best : BehindBest ln ua ub

  -- on a free wire that stays free neither class has credit above 0
  abbrev pub Idle : Line → ℕ → ℕ → Type 0
  Idle free ua ub = (ua ≤ ca.floor) × (ub ≤ cb.floor)
  Idle (by_a l) ua ub = Unit {0}
  Idle (by_b z l) ua ub = Unit {0}
  Idle (by_best_lem z l) ua ub = Unit {0}

  -- by how much the headrooms may have moved in a byte-time
  abbrev pub ShiftA : Line → ℕ → ℕ → Type 0
  ShiftA free u v = v ≤ u + ca.idle
  ShiftA (by_a l) u v = v + ca.send ≤ u
  ShiftA (by_b z l) u v = v ≤ u + ca.idle
  ShiftA (by_best_lem z l) u v = v ≤ u + ca.idle

  abbrev pub ShiftB : Line → ℕ → ℕ → Type 0
  ShiftB free u v = v ≤ u + cb.idle
  ShiftB (by_a l) u v = v ≤ u + cb.idle
  ShiftB (by_b z l) u v = v + cb.send ≤ u
  ShiftB (by_best_lem z l) u v = v ≤ u + cb.idle

  -- both slopes leave room for each other
  pub record Room : Type 0 where
    pub balance : ca.idle + ca.send ≡ D
    pub b_below : cb.idle ≤ ca.send
    pub a_below : ca.idle ≤ cb.send
    pub ha_some : 1 ≤ ha
    pub lc_some : 1 ≤ lc

  module _ (room : Room) where
    spread : cb.idle * ca.idle + ca.send * cb.idle ≡ D * cb.idle
    spread = rw (mul_comm ca.send cb.idle, ← mul-add, room.balance) (mul_comm cb.idle D)

    grow : (m u v n : ℕ) → v ≤ u + m → n * v ≤ n * u + n * m
    grow m u v n h = rw (mul-add n u m) at (mul-le-mul_left n h)

    shrink : (m u v n : ℕ) → v + m ≤ u → n * v + n * m ≤ n * u
    shrink m u v n h = rw (mul-add n v m) at (mul-le-mul_left n h)

    -- from what holds behind another frame to the ceiling
    under : (z l ua : ℕ) → ua + ca.idle * l ≤ ca.floor + ca.idle * z → z ≤ ha → ua ≤ ca.floor + ca.idle * ha
    under z l ua h g = omega (arith, mul-le-mul_left ca.idle g)

    under_best : (z l ua ub : ℕ) → ca.send * ub + cb.idle * ua + D * (cb.idle * l) ≤ D * (cb.idle * z) + (ca.send * cb.floor + cb.idle * ca.floor) → z ≤ lc → ca.send * ub + cb.idle * ua ≤ D * (cb.idle * lc) + (ca.send * cb.floor + cb.idle * ca.floor)
    under_best z l ua ub h g = omega (arith, mul-le-mul_left cb.idle g)

    -- the potential does not rise while A or B sends
    a_sends : (ua ub va vb : ℕ) → va + ca.send ≤ ua → vb ≤ ub + cb.idle → ca.send * vb + cb.idle * va ≤ ca.send * ub + cb.idle * ua
    a_sends ua ub va vb h g = omega (arith, shrink ca.send ua va cb.idle h, grow cb.idle ub vb ca.send g, mul_comm ca.send cb.idle)

    b_sends : (ua ub va vb : ℕ) → va ≤ ua + ca.idle → vb + cb.send ≤ ub → ca.send * vb + cb.idle * va ≤ ca.send * ub + cb.idle * ua
    b_sends ua ub va vb h g = omega (arith, grow ca.idle ua va cb.idle h, shrink cb.send ub vb ca.send g, mul-le-mul room.b_below room.a_below)

    -- and rises by at most IB × D while neither does
    both_gain : (ua ub va vb : ℕ) → va ≤ ua + ca.idle → vb ≤ ub + cb.idle → ca.send * vb + cb.idle * va ≤ ca.send * ub + cb.idle * ua + D * cb.idle
    both_gain ua ub va vb h g = omega (arith, grow ca.idle ua va cb.idle h, grow cb.idle ub vb ca.send g, spread)

    pub byte_passes : (ln : Line) (ua ub va vb : ℕ) → Ceilings ln ua ub → Idle ln ua ub → ShiftA ln ua va → ShiftB ln ub vb → Ceilings (next_line_lem ln) va vb
    byte_passes free ua ub va vb c idle a b =
        record {
          ceiling = omega (arith, le-mul_of_pos_right ca.idle room.ha_some);
          behind = tt;
          potential = omega (arith, both_gain ua ub va vb a b, mul-le-mul_left cb.idle idle.0, mul-le-mul_left ca.send idle.1, le-mul_of_pos_right cb.idle room.lc_some);
          behind_best = tt;
        }
    byte_passes (by_a zero) ua ub va vb c idle a b = absurd (omega (arith, c.behind_best))
    byte_passes (by_a (suc zero)) ua ub va vb c idle a b =
        record { ceiling = omega (arith, c.ceiling); behind = tt; potential = omega (arith, c.potential, a_sends ua ub va vb a b); behind_best = tt }
    byte_passes (by_a (suc (suc l))) ua ub va vb c idle a b =
        record { ceiling = omega (arith, c.ceiling); behind = tt; potential = omega (arith, c.potential, a_sends ua ub va vb a b); behind_best = omega arith }
    byte_passes (by_b z zero) ua ub va vb c idle a b = absurd (omega (arith, c.behind.2))
    byte_passes (by_b z (suc zero)) ua ub va vb c idle a b =
        record { ceiling = under z 0 va (omega (arith, c.behind.0)) c.behind.1; behind = tt; potential = omega (arith, c.potential, b_sends ua ub va vb a b); behind_best = tt }
    byte_passes (by_b z (suc (suc l))) ua ub va vb c idle a b =
        let h : va + ca.idle * suc l ≤ ca.floor + ca.idle * z = omega (arith, c.behind.0) in
        record { ceiling = under z (suc l) va h c.behind.1; behind = (h, c.behind.1, omega arith); potential = omega (arith, c.potential, b_sends ua ub va vb a b); behind_best = tt }
    byte_passes (by_best_lem z zero) ua ub va vb c idle a b = absurd (omega (arith, c.behind.2))
    byte_passes (by_best_lem z (suc zero)) ua ub va vb c idle a b =
        record {
          ceiling = under z 0 va (omega (arith, c.behind.0)) c.behind.1;
          behind = tt;
          potential = under_best z 0 va vb (omega (arith, c.behind_best.0, both_gain ua ub va vb a b)) c.behind_best.1;
          behind_best = tt;
        }
    byte_passes (by_best_lem z (suc (suc l))) ua ub va vb c idle a b =
        let h : va + ca.idle * suc l ≤ ca.floor + ca.idle * z = omega (arith, c.behind.0) in
        let g : ca.send * vb + cb.idle * va + D * (cb.idle * suc l) ≤ D * (cb.idle * z) + (ca.send * cb.floor + cb.idle * ca.floor) = omega (arith, c.behind_best.0, both_gain ua ub va vb a b) in
        record { ceiling = under z (suc l) va h c.behind.1; behind = (h, c.behind.1, omega arith); potential = under_best z (suc l) va vb g c.behind_best.1; behind_best = (g, c.behind_best.1) }

    -- a start: whoever does not go out has no credit above 0
    module _ (ua ub : ℕ) (c : Ceilings free ua ub) where
      pub starts_a : (l : ℕ) → 1 ≤ l → Ceilings (by_a l) ua ub
      starts_a l h = record { ceiling = c.ceiling; behind = tt; potential = c.potential; behind_best = h }

      pub starts_b : (z : ℕ) → 1 ≤ z → z ≤ ha → ua ≤ ca.floor → Ceilings (by_b z z) ua ub
      starts_b z h g a = record { ceiling = c.ceiling; behind = (omega arith, g, h); potential = c.potential; behind_best = tt }

      pub starts_best : (z : ℕ) → 1 ≤ z → z ≤ ha → z ≤ lc → ua ≤ ca.floor → ub ≤ cb.floor → Ceilings (by_best_lem z z) ua ub
      starts_best z h g f a b = record { ceiling = c.ceiling; behind = (omega arith, g, h); potential = c.potential; behind_best = (omega (arith, mul-le-mul_left cb.idle a, mul-le-mul_left ca.send b), f) }

    -- B's ceiling, from the potential: HB × SA is at least LA × SA + D × LC, and A's headroom is not below 0
    pub ceiling_b : (hb la : ℕ) → ca.floor ≡ ca.send * la → la * ca.send + D * lc ≤ hb * ca.send → 1 ≤ ca.send → (ln : Line) (ua ub : ℕ) → Ceilings ln ua ub → ub ≤ cb.floor + cb.idle * hb
    ceiling_b hb la e h pos ln ua ub c =
        let lift : cb.idle * (la * ca.send + D * lc) ≤ cb.idle * (hb * ca.send) = mul-le-mul_left cb.idle h in
        let floor : cb.idle * ca.floor ≡ cb.idle * (ca.send * la) = ap (λ (x : ℕ). cb.idle * x) e in
        le_of_mul-le-mul_left {m = ub} {n = cb.floor + cb.idle * hb} {k = ca.send} (omega (arith, c.potential)) pos
