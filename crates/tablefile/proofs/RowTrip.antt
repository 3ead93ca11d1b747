-- A row's bytes, there and back.
use Prim.Native.Nat.{ℕ, ◌+◌, ◌≤◌, ◌<◌}
use mathlib.Core.Bool.{Bool, true, false, not, cond, ◌&&◌, true≢false, false≢true}
use mathlib.Core.List.{List, [], ◌∷◌, ◌++◌, append_assoc}
use mathlib.Core.Path.{◌≡◌, refl, sym, ◌∙◌, ap}
use native.Mathlib.Nat.{add-zero}
use native.Mathlib.Omega.{arith}
use lib.ListN.{length, drop, length-append, length-drop}
use borrow.Author.Tests.{eqb-true, eq-eqb, leb-true, le-leb, not-true, not-false}
use Rattle.table.specs.declared.Class.{Class}
use Rattle.table.specs.declared.Pace.{Pace}
use Rattle.table.specs.declared.Pace.TheVariants as paces
use Rattle.table.specs.declared.Row.{Row}
use Rattle.table.specs.Limits.{most_payload, least_period, most_period, least_rate, most_rate, most_samples, most_deadline}
use Rattle.table.specs.Wire.{period_of}
use Rattle.table.specs.Checks.{accepted}
use Rattle.table.specs.Ranges.{period_ok, rate_ok, samples_ok, pace_ok, InRange}
use Rattle.tablefile.specs.declared.Edition.{Edition}
use Rattle.tablefile.specs.Layout.{bytes_of, Field, Payload, Period, Deadline, Rate, Samples, rated, stated_of, rate_of, samples_of, value_of, width_of, default_payload, default_period, default_deadline, usual, carries, states, bit_of, allows, tagged_of, class_of, size_in, place_of, row_size}
use Rattle.tablefile.specs.Reading.{map_of, number_in, said, blank, pace_from, with_payload, with_pace, with_deadline, paced_from, row_from, fine, row}
use Rattle.tablefile.specs.Writing.{map_byte, field_bytes, row_bytes}
use Rattle.tablefile.specs.RoundTrip.{Bytes}
use Rattle.tablefile.proofs.Rows.{Judged, RowRead, pace_in_range, row_only_if}
use Rattle.tablefile.proofs.Sizes.{bit_shared, bytes_length, field_size, row_length}
use Rattle.tablefile.proofs.FieldTrip.{below, value_back, byte_below, bytes_at, behind}
use Rattle.tablefile.proofs.MapTrip.{map_for, map_says, tag_allowed, map_back}
use Rattle.table.proofs.Laws as law

-- ---- a row's bytes read as the row, whatever follows
-- a pace in range: what it states is, and each number fits its bytes
stated_fine : (p : Pace) → pace_ok p ≡ true → not (rated p) ≡ true → period_ok (stated_of p) ≡ true
unfolding pace_ok
stated_fine (paces.Period p) g e = g
stated_fine (paces.Rated samples rate) g e = cc

rate_fine : (p : Pace) → pace_ok p ≡ true → rated p ≡ true → rate_ok (rate_of p) ≡ true
unfolding pace_ok
rate_fine (paces.Period p) g e = cc
rate_fine (paces.Rated samples rate) g e = (law.and-true (rate_ok rate) (samples_ok samples) g).0

samples_fine : (p : Pace) → pace_ok p ≡ true → rated p ≡ true → samples_ok (samples_of p) ≡ true
unfolding pace_ok
samples_fine (paces.Period p) g e = cc
samples_fine (paces.Rated samples rate) g e = (law.and-true (rate_ok rate) (samples_ok samples) g).1

stated_most : (p : Pace) → pace_ok p ≡ true → stated_of p ≤ most_period
unfolding pace_ok
stated_most (paces.Period p) g = (law.is_within least_period most_period p g).1
stated_most (paces.Rated samples rate) g = omega arith

rate_most : (p : Pace) → pace_ok p ≡ true → rate_of p ≤ most_rate
unfolding pace_ok
rate_most (paces.Period p) g = omega arith
rate_most (paces.Rated samples rate) g = (law.is_within least_rate most_rate rate (law.and-true (rate_ok rate) (samples_ok samples) g).0).1

samples_most : (p : Pace) → pace_ok p ≡ true → samples_of p ≤ most_samples
unfolding pace_ok
samples_most (paces.Period p) g = omega arith
samples_most (paces.Rated samples rate) g = (law.is_within 1 most_samples samples (law.and-true (rate_ok rate) (samples_ok samples) g).1).1

fine_in : (r : Row) → InRange r → (f : Field) → carries f r.pace ≡ true → fine f r ≡ true
fine_in r g Payload e = le-leb _ _ g.payload
fine_in r g Period e = stated_fine r.pace g.pace e
fine_in r g Deadline e = rw (le-leb _ _ g.positive, le-leb _ _ g.deadline) refl
fine_in r g Rate e = rate_fine r.pace g.pace e
fine_in r g Samples e = samples_fine r.pace g.pace e

fits : (r : Row) → InRange r → (f : Field) → value_of f r < below (width_of f)
fits r g Payload = omega (arith, g.payload)
fits r g Period = omega (arith, stated_most r.pace g.pace)
fits r g Deadline = omega (arith, g.deadline)
fits r g Rate = omega (arith, rate_most r.pace g.pace)
fits r g Samples = omega (arith, samples_most r.pace g.pace)

-- of two values the one that a bit chooses, and what two values have in common
pick : {X : Type 0} (b : Bool) (x y v : X) → (b ≡ true → x ≡ v) → (b ≡ false → y ≡ v) → cond b x y ≡ v
pick true x y v f g = f refl
pick false x y v f g = g refl

at_default : (c u : Bool) → (c && not u) ≡ false → c ≡ true → u ≡ true
at_default true u e h = not-false u e
at_default false u e h = absurd (false≢true h)

both : {samples rate x y : ℕ} → x ≡ samples → y ≡ rate → paces.Rated x y ≡ paces.Rated samples rate
both e f = cc

width_some : (f : Field) → 1 ≤ width_of f
width_some Payload = omega arith
width_some Period = omega arith
width_some Deadline = omega arith
width_some Rate = omega arith
width_some Samples = omega arith

-- the row's bytes and what follows them, field after field
module _ (ed : Edition) (r : Row) (rest : List ℕ) where
  abbrev after : Field → List ℕ
  after Samples = rest
  after Rate = field_bytes ed Samples r ++ rest
  after Deadline = field_bytes ed Rate r ++ (field_bytes ed Samples r ++ rest)
  after Period = field_bytes ed Deadline r ++ (field_bytes ed Rate r ++ (field_bytes ed Samples r ++ rest))
  after Payload = field_bytes ed Period r ++ (field_bytes ed Deadline r ++ (field_bytes ed Rate r ++ (field_bytes ed Samples r ++ rest)))

  abbrev spread : List ℕ
  spread = map_byte ed r ∷ field_bytes ed Payload r ++ after Payload

  spread_out : row_bytes ed r ++ rest ≡ spread
  unfolding row_bytes
  spread_out = simp append_assoc

  -- behind a field's bytes the next field stands
  next_at : (f : Field) → drop (place_of f (map_byte ed r)) spread ≡ field_bytes ed f r ++ after f → drop (place_of f (map_byte ed r) + size_in f (map_byte ed r)) spread ≡ after f
  next_at f e = rw (← field_size ed f r) (behind spread (place_of f (map_byte ed r)) (field_bytes ed f r) (after f) e)

  stands_at : (f : Field) → drop (place_of f (map_byte ed r)) spread ≡ field_bytes ed f r ++ after f
  stands_at Payload = refl
  stands_at Period = next_at Payload refl
  stands_at Deadline = next_at Period (next_at Payload refl)
  stands_at Rate = next_at Deadline (next_at Period (next_at Payload refl))
  stands_at Samples = next_at Rate (next_at Deadline (next_at Period (next_at Payload refl)))

  -- a field that stands is within the bytes
  here : (f : Field) → bit_of f (map_byte ed r) ≡ true → drop (place_of f (map_byte ed r)) spread ≡ bytes_of (width_of f) (value_of f r) ++ after f
  here f e = rw e at (stands_at f)

  inside : (f : Field) → bit_of f (map_byte ed r) ≡ true → place_of f (map_byte ed r) + width_of f ≤ length spread
  inside f e =
      omega (arith, sym (length-drop (place_of f (map_byte ed r)) spread) ∙ ap length (here f e), length-append (bytes_of (width_of f) (value_of f r)) (after f), bytes_length (width_of f) (value_of f r), width_some f)

  module _ (g : InRange r) (may : allows ed r ≡ true) where
    -- and reads as its value
    number : (f : Field) → bit_of f (map_byte ed r) ≡ true → number_in f spread ≡ value_of f r
    number f e = value_back (width_of f) (value_of f r) spread (place_of f (map_byte ed r)) (after f) (fits r g f) (here f e)

    -- one that does not is at its default, if the row has it
    silent : (f : Field) → bit_of f (map_byte ed r) ≡ false → carries f r.pace ≡ true → usual ed f r ≡ true
    silent f e h = at_default (carries f r.pace) (usual ed f r) (sym ((map_says ed r).field f) ∙ e) h

    payload_back : said Payload spread (default_payload ed r) ≡ r.payload
    payload_back = pick (bit_of Payload (map_byte ed r)) (number_in Payload spread) (default_payload ed r) r.payload (number Payload) (λ e. sym (eqb-true r.payload (default_payload ed r) (silent Payload e refl)))

    deadline_back : said Deadline spread (default_deadline ed r) ≡ r.deadline
    deadline_back = pick (bit_of Deadline (map_byte ed r)) (number_in Deadline spread) (default_deadline ed r) r.deadline (number Deadline) (λ e. sym (eqb-true r.deadline (default_deadline ed r) (silent Deadline e refl)))

    period_back : rated r.pace ≡ false → said Period spread (default_period ed r) ≡ stated_of r.pace
    period_back own =
        let has : carries Period r.pace ≡ true = rw own refl in
        pick (bit_of Period (map_byte ed r)) (number_in Period spread) (default_period ed r) (stated_of r.pace) (number Period) (λ e. sym (eqb-true (stated_of r.pace) (default_period ed r) (silent Period e has)))

    rate_bit : bit_of Rate (map_byte ed r) ≡ rated r.pace
    rate_bit = (map_says ed r).field Rate ∙ law.and_all (rated r.pace)

    pace_back : pace_from ed spread r ≡ r.pace
    pace_back = go r.pace refl
      where
        go : (p : Pace) → r.pace ≡ p → pace_from ed spread r ≡ p
        go (paces.Period p) e =
            pick (bit_of Rate (map_byte ed r)) (paces.Rated (number_in Samples spread) (number_in Rate spread)) (paces.Period (said Period spread (default_period ed r))) (paces.Period p)
            (λ bit. absurd (true≢false (sym bit ∙ rate_bit ∙ ap rated e)))
            (λ bit. ap paces.Period (period_back (ap rated e) ∙ ap stated_of e))
        go (paces.Rated samples rate) e =
            pick (bit_of Rate (map_byte ed r)) (paces.Rated (number_in Samples spread) (number_in Rate spread)) (paces.Period (said Period spread (default_period ed r))) (paces.Rated samples rate)
            (λ bit. both (number Samples (sym (bit_shared (map_byte ed r)) ∙ bit) ∙ ap samples_of e) (number Rate bit ∙ ap rate_of e))
            (λ bit. absurd (true≢false (sym (rate_bit ∙ ap rated e) ∙ bit)))

    spread_back : row_from ed spread ≡ r
    unfolding row_from paced_from default_payload default_period default_deadline period_of
    spread_back =
        ap (λ (c : Class). with_deadline ed spread (with_pace ed spread (with_payload ed spread (blank c (tagged_of ed (map_byte ed r)))))) (map_says ed r).class
        ∙ ap (λ (g : Bool). with_deadline ed spread (with_pace ed spread (with_payload ed spread (blank r.class g)))) ((map_says ed r).tag may)
        ∙ ap (λ (v : ℕ). with_deadline ed spread (with_pace ed spread (record { class = r.class; tagged = r.tagged; payload = v; pace = paces.Period 0; deadline = 0 }))) payload_back
        ∙ ap (λ (p : Pace). with_deadline ed spread (record { class = r.class; tagged = r.tagged; payload = r.payload; pace = p; deadline = 0 })) pace_back
        ∙ ap (λ (v : ℕ). record { class = r.class; tagged = r.tagged; payload = r.payload; pace = r.pace; deadline = v }) deadline_back

    judged : (f : Field) → bit_of f (map_byte ed r) ≡ true → Judged (fine f r) (usual ed f r)
    judged f e =
        let x = law.and-true (carries f r.pace) (not (usual ed f r)) (sym ((map_says ed r).field f) ∙ e) in
        record { ok = fine_in r g f x.0; other = not-true (usual ed f r) x.1 }

    judged_read : (f : Field) → bit_of f (map_byte ed r) ≡ true → Judged (fine f (row_from ed spread)) (usual ed f (row_from ed spread))
    judged_read f e = rw spread_back (judged f e)

    spread_reads : RowRead ed spread
    spread_reads = record { long = omega arith; bits = (map_says ed r).rest may; one = (map_says ed r).one; inside = λ f e. le-leb _ _ (inside f e); fit = judged_read }

-- the row is read back, and accepted at any place
pub row_back : (ed : Edition) (r : Row) (rest s : List ℕ) → InRange r → allows ed r ≡ true → s ≡ row_bytes ed r ++ rest → row_from ed s ≡ r
row_back ed r rest s g h e = rw (e ∙ spread_out ed r rest) (spread_back ed r rest g h)

pub row_accepted : (ed : Edition) (r : Row) (rest s : List ℕ) (at : ℕ) → InRange r → allows ed r ≡ true → s ≡ row_bytes ed r ++ rest → row ed s at ≡ accepted
row_accepted ed r rest s at g h e = rw (e ∙ spread_out ed r rest) (row_only_if ed (spread ed r rest) at (spread_reads ed r rest g h))

pub row_size_back : (ed : Edition) (r : Row) (rest s : List ℕ) → s ≡ row_bytes ed r ++ rest → row_size (map_of s) ≡ length (row_bytes ed r)
row_size_back ed r rest s e = rw (e ∙ spread_out ed r rest) (sym (row_length ed r))

-- ---- bytes that read as a row are the row's bytes, and the row is in range and allowed
pub record RowOf (ed : Edition) (s : List ℕ) : Type 0 where
  pub bytes : s ≡ row_bytes ed (row_from ed s) ++ drop (row_size (map_of s)) s
  pub range : InRange (row_from ed s)
  pub allowed : allows ed (row_from ed s) ≡ true

-- a default is in range, the deadline's where the pace is
payload_default : (ed : Edition) (r : Row) → default_payload ed r ≤ most_payload
unfolding default_payload
payload_default ed r = go r.tagged
  where
    go : (g : Bool) → cond g 36 42 ≤ most_payload
    go true = omega arith
    go false = omega arith

deadline_default : (ed : Edition) (r : Row) → pace_ok r.pace ≡ true → (1 ≤ default_deadline ed r) × (default_deadline ed r ≤ most_deadline)
unfolding default_deadline
deadline_default ed r e = (omega (arith, (law.period_range r e).0), omega (arith, (law.period_range r e).1))

-- beside a period's bit no rate's stands
no_rate : (p q : Bool) → (p && q) ≡ false → p ≡ true → q ≡ false
no_rate true q e h = e
no_rate false q e h = cc

module _ (ed : Edition) (s : List ℕ) (x : RowRead ed s) where
  abbrev m : ℕ
  m = map_of s

  abbrev r : Row
  r = row_from ed s

  -- a field that stands says its number
  stated : (f : Field) → bit_of f m ≡ true → value_of f r ≡ number_in f s
  unfolding row_from paced_from
  stated Payload e = rw e refl
  stated Period e = rw (no_rate (bit_of Period m) (bit_of Rate m) x.one e, e) refl
  stated Deadline e = rw e refl
  stated Rate e = rw e refl
  stated Samples e = rw (bit_shared m ∙ e) refl

  -- one that does not is at its default, or not the row's to state
  payload_unstated : bit_of Payload m ≡ false → r.payload ≡ default_payload ed r
  unfolding row_from paced_from default_payload
  payload_unstated e = rw e refl

  deadline_unstated : bit_of Deadline m ≡ false → r.deadline ≡ default_deadline ed r
  unfolding row_from default_deadline period_of
  deadline_unstated e = rw e refl

  period_unstated : bit_of Rate m ≡ false → bit_of Period m ≡ false → stated_of r.pace ≡ default_period ed r
  unfolding row_from paced_from default_period
  period_unstated e f = rw (e, f) refl

  rated_read : rated r.pace ≡ bit_of Rate m
  unfolding row_from paced_from
  rated_read = go (bit_of Rate m) refl
    where
      go : (b : Bool) → bit_of Rate m ≡ b → rated (pace_from ed s (with_payload ed s (blank (class_of m) (tagged_of ed m)))) ≡ b
      go true e = rw e refl
      go false e = rw e refl

  payload_range : r.payload ≤ most_payload
  payload_range = go (bit_of Payload m) refl
    where
      go : (b : Bool) → bit_of Payload m ≡ b → r.payload ≤ most_payload
      go true e = leb-true _ _ (x.fit Payload e).ok
      go false e = rw (payload_unstated e) (payload_default ed r)

  pace_range : pace_ok r.pace ≡ true
  unfolding row_from
  pace_range = pace_in_range ed s x

  deadline_range : (1 ≤ r.deadline) × (r.deadline ≤ most_deadline)
  deadline_range = go (bit_of Deadline m) refl
    where
      go : (b : Bool) → bit_of Deadline m ≡ b → (1 ≤ r.deadline) × (r.deadline ≤ most_deadline)
      go true e = law.is_within 1 most_deadline r.deadline (x.fit Deadline e).ok
      go false e = let y = deadline_default ed r pace_range in (omega (arith, y.0, deadline_unstated e), omega (arith, y.1, deadline_unstated e))

  in_range : InRange r
  in_range = law.row_in_range r payload_range pace_range deadline_range.0 deadline_range.1

  -- the row states the fields whose bits stand
  by_default : (b u : Bool) → (b ≡ true → u ≡ false) → (b ≡ false → u ≡ true) → b ≡ (true && not u)
  by_default true u f g = rw (f refl) refl
  by_default false u f g = rw (g refl) refl

  read_states : (f : Field) → bit_of f m ≡ states ed f r
  read_states Payload = by_default (bit_of Payload m) (usual ed Payload r) (λ e. (x.fit Payload e).other) (λ e. eq-eqb _ _ (payload_unstated e))
  read_states Period = go (bit_of Period m) (bit_of Rate m) refl refl
    where
      go : (a b : Bool) → bit_of Period m ≡ a → bit_of Rate m ≡ b → a ≡ states ed Period r
      go true b e f = rw (rated_read, no_rate (bit_of Period m) (bit_of Rate m) x.one e, (x.fit Period e).other) refl
      go false true e f = rw (rated_read, f) refl
      go false false e f = rw (rated_read, f, eq-eqb _ _ (period_unstated f e)) refl
  read_states Deadline = by_default (bit_of Deadline m) (usual ed Deadline r) (λ e. (x.fit Deadline e).other) (λ e. eq-eqb _ _ (deadline_unstated e))
  read_states Rate = sym rated_read ∙ sym (law.and_all (rated r.pace))
  read_states Samples = sym (bit_shared m) ∙ sym rated_read ∙ sym (law.and_all (rated r.pace))

  class_read : r.class ≡ class_of m
  unfolding row_from paced_from
  class_read = refl

  tag_read : r.tagged ≡ tagged_of ed m
  unfolding row_from paced_from
  tag_read = refl

  row_allowed : allows ed r ≡ true
  unfolding allows
  row_allowed = rw tag_read (tag_allowed ed m)

  map_read : Bytes s → map_byte ed r ≡ m
  map_read b = map_for ed r ∙ rw (← read_states Payload, ← read_states Period, ← read_states Deadline, ← read_states Rate, tag_read, class_read) (sym (map_back ed m (byte_below s b 0) x.bits))

  field_read : Bytes s → (f : Field) → drop (place_of f m) s ≡ field_bytes ed f r ++ drop (place_of f m + size_in f m) s
  field_read b f = rw (map_read b) (go (bit_of f m) refl)
    where
      go : (a : Bool) → bit_of f m ≡ a → drop (place_of f m) s ≡ cond a (bytes_of (width_of f) (value_of f r)) [] ++ drop (place_of f m + cond a (width_of f) 0) s
      go true e = rw (stated f e) (bytes_at (width_of f) s (place_of f m) b (leb-true _ _ (x.inside f e)))
      go false e = rw (add-zero (place_of f m)) refl

  then : Bytes s → (f : Field) {q : List ℕ} → drop (place_of f m + size_in f m) s ≡ q → drop (place_of f m) s ≡ field_bytes ed f r ++ q
  then b f e = field_read b f ∙ ap (λ l. field_bytes ed f r ++ l) e

pub row_of : (ed : Edition) (s : List ℕ) → Bytes s → RowRead ed s → RowOf ed s
row_of ed [] b x = absurd (omega (arith, x.long))
row_of ed (m ∷ p) b x =
    let s = m ∷ p in
    let r = row_from ed s in
    let end = drop (row_size m) s in
    let all : p ≡ field_bytes ed Payload r ++ after ed r end Payload = then ed s x b Payload (then ed s x b Period (then ed s x b Deadline (then ed s x b Rate (then ed s x b Samples refl)))) in
    record {
      bytes = ap (λ q. m ∷ q) all ∙ ap (λ q. q ∷ field_bytes ed Payload r ++ after ed r end Payload) (sym (map_read ed s x b)) ∙ sym (spread_out ed r end);
      range = in_range ed s x;
      allowed = row_allowed ed s x;
    }
