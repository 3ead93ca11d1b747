-- The bytes of an input, one after the other.
use Prim.Native.Nat.{ℕ, ◌+◌, ◌*◌, ◌≤◌, ◌<◌}
use mathlib.Core.Bool.{Bool, true, false, cond}
use mathlib.Core.List.{List, [], ◌∷◌, ◌++◌, append_assoc, append-nil}
use mathlib.Core.Path.{◌≡◌, refl, sym, ◌∙◌, ap}
use native.Mathlib.Numerals.{add-one}
use native.Mathlib.Omega.{arith}
use lib.ListN.{length, drop, get_or, drop_of_length-le}
use lib.Seq.{drop-cons}
use Rattle.table.specs.declared.Table.{Table}
use Rattle.machine.specs.State.{State, view}
use Rattle.machine.specs.Calls.{Answer, answer, after, patches, KeepsTable}
use Rattle.texts.specs.declared.lines.Call.{Call}
use Rattle.texts.specs.declared.lines.Call.TheVariants.{Offer, Best, Advance}
use Rattle.texts.specs.declared.lines.Line.{Line}
use Rattle.texts.specs.declared.lines.Line.TheVariants.{Empty}
use Rattle.texts.specs.declared.lines.Stepped.{Stepped}
use Rattle.texts.specs.declared.lines.Stepped.TheVariants.{More, Whole, Other}
use Rattle.machine.specs.declared.Port.{Port}
use Rattle.machine.specs.declared.After.{After}
use Rattle.texts.specs.declared.text.Answer as text
use Rattle.texts.specs.Lines.{step_of}
use Rattle.runs.specs.Answers.{answer_of, call_of, Made}
use Rattle.texts.specs.Text.{line_of, line_size, put_at, used_by}
use Rattle.runs.specs.Runs.{Told, printed, on_step, told, going_on, Shows}
use Rattle.texts.proofs.Laws.{answer_put}
use Rattle.runs.proofs.Buffers.{none_put, same_size, front_used, put_behind, used_behind}

pub none_left : (s : State) (l : Line) → told [] s l ≡ record { text = []; state = s; line = l; live = true }
unfolding told
none_left s l = refl

pub next_byte : (b : ℕ) (bytes : List ℕ) (s : State) (l : Line) → told (b ∷ bytes) s l ≡ on_step (told bytes) s l (step_of l b)
unfolding told
next_byte b bytes s l = refl

printed_both : (t u : List ℕ) (r : Told) → printed t (printed u r) ≡ printed (t ++ u) r
printed_both t u r = rw append_assoc

-- The calls of an input change no table.
same_table : (c : Call) (a : Answer) {t u : Table} → KeepsTable (patches (call_of c) a) t u → u ≡ t
same_table (Offer row payload) a k = k
same_table (Best payload) a k = k
same_table (Advance n) a k = k

-- What is told, where its text stands at the front of a buffer.
shown : {u : Told} {t : Table} {text buffer out : List ℕ} {at : ℕ} (port : Port) (line : Line) (live : Bool) → record { text = text; state = view port; line = line; live = live } ≡ u → port.table ≡ t → length text ≤ length buffer → at ≡ length text → out ≡ put_at text 0 buffer → Shows u t buffer out (record { run = record { port = port; line = line; live = live }; count = at })
shown {text = text} {buffer = buffer} port line live e f room n put =
    rw (← e) (record { text = put; count = n ∙ front_used text buffer room; state = refl; table = f; line = refl; live = refl })

-- The answers to the first i bytes stand in the buffer, and the bytes that are left decide the rest.
pub record Sofar (bytes : List ℕ) (first : Port) (begun : Line) (buffer out : List ℕ) (port : Port) (line : Line) (at i : ℕ) : Type 0 where
  pub text : List ℕ
  pub within : i ≤ length bytes
  pub few : length text ≤ line_size * i
  pub count : at ≡ length text
  pub put : out ≡ put_at text 0 buffer
  pub left : told bytes (view first) begun ≡ printed text (told (drop i bytes) (view port) line)
  pub table : port.table ≡ first.table

pub same_sized : {bytes : List ℕ} {first : Port} {begun : Line} {buffer out : List ℕ} {port : Port} {line : Line} {at i : ℕ} → Sofar bytes first begun buffer out port line at i → length out ≡ length buffer
same_sized {buffer = buffer} so = ap length so.put ∙ same_size so.text buffer

module _ (bytes : List ℕ) (first : Port) (begun : Line) (buffer : List ℕ) (room : line_size * length bytes ≤ length buffer) where
  pub none_yet : Sofar bytes first begun buffer buffer first begun 0 0
  none_yet = record { text = []; within = omega arith; few = omega arith; count = refl; put = sym (none_put buffer); left = refl; table = refl }

  module _ {out : List ℕ} {port : Port} {line : Line} {at i : ℕ} (so : Sofar bytes first begun buffer out port line at i) where
    pub ends : length bytes ≤ i → Shows (told bytes (view first) begun) first.table buffer out (record { run = record { port = port; line = line; live = true }; count = at })
    ends h =
        let e : record { text = so.text; state = view port; line = line; live = true } ≡ told bytes (view first) begun = sym (so.left ∙ rw (drop_of_length-le bytes h, none_left, append-nil)) in
        shown port line true e so.table (omega arith) so.count so.put

    module _ (r : Stepped) (inside : i < length bytes) (stepped : r ≡ step_of line (get_or bytes i 0)) where
      one_more : told bytes (view first) begun ≡ printed so.text (on_step (told (drop (i + 1) bytes)) (view port) line r)
      one_more = so.left ∙ ap (printed so.text) (rw (add-one, drop-cons bytes i 0 inside, next_byte, stepped))

      pub goes_on : (next : Line) → r ≡ More next → Sofar bytes first begun buffer out port next at (i + 1)
      goes_on next e = record { text = so.text; within = omega arith; few = omega (arith, so.few); count = so.count; put = so.put; left = one_more ∙ rw e; table = so.table }

      pub stops : r ≡ Other → Shows (told bytes (view first) begun) first.table buffer out (record { run = record { port = port; line = line; live = false }; count = at })
      stops e =
          let f : record { text = so.text; state = view port; line = line; live = false } ≡ told bytes (view first) begun = sym (one_more ∙ rw (e, append-nil)) in
          shown port line false f so.table (omega arith) so.count so.put

      pub answers : (c : Call) (m : After text.Answer) {next : ℕ} {filled : List ℕ} → r ≡ Whole c → Made port (call_of c) m → next ≡ used_by (line_of m.answer) at out → filled ≡ put_at (line_of m.answer) at out → Sofar bytes first begun buffer filled m.port Empty next (i + 1)
      answers c m {next} {filled} e made n f =
          let line = line_of m.answer in
          let size = same_sized so in
          let fits = answer_put m.answer (omega (arith, so.few)) n f in
          let all_fit : length so.text + length line ≤ length buffer = omega (arith, fits.few, fits.long, so.few) in
          let long : next ≡ length (so.text ++ line) = n ∙ rw (so.count, so.put) (used_behind so.text line buffer all_fit) in
          let rest = told (drop (i + 1) bytes) (after (view port) (call_of c)) Empty in
          let y : told bytes (view first) begun ≡ printed so.text (printed (line_of (answer_of (answer (view port) (call_of c)))) rest) = one_more ∙ rw e in
          record {
            text = so.text ++ line;
            within = omega arith;
            few = omega (arith, fits.few, so.few);
            count = long;
            put = f ∙ rw (so.count, so.put) (put_behind so.text line buffer all_fit);
            left = y ∙ printed_both so.text (line_of (answer_of (answer (view port) (call_of c)))) rest ∙ rw (made.answer, made.gives.port);
            table = same_table c (answer (view port) (call_of c)) made.gives.table ∙ so.table;
          }

later : (t : List ℕ) (r rest : Told) (b : Bool) → printed t (cond b (printed r.text rest) r) ≡ cond b (printed (t ++ r.text) rest) (printed t r)
later t r rest true = printed_both t r.text rest
later t r rest false = refl

module _ (xs ys : List ℕ) (behind : (s : State) (l : Line) → told (xs ++ ys) s l ≡ going_on (told xs s l) ys) (s : State) (l : Line) where
  cut_step : (r : Stepped) → on_step (told (xs ++ ys)) s l r ≡ going_on (on_step (told xs) s l r) ys
  cut_step (More next) = behind s next
  cut_step (Whole c) =
      let line = line_of (answer_of (answer s (call_of c))) in
      let r = told xs (after s (call_of c)) Empty in
      ap (printed line) (behind (after s (call_of c)) Empty) ∙ later line r (told ys r.state r.line) r.live
  cut_step Other = refl

-- However the input is cut into reads, the same text is printed.
pub cut : (xs ys : List ℕ) (s : State) (l : Line) → told (xs ++ ys) s l ≡ going_on (told xs s l) ys
unfolding told
cut [] ys s l = refl
cut (b ∷ xs) ys s l = cut_step xs ys (cut xs ys) s l (step_of l b)

pub goes_further : (u : Told) (xs ys : List ℕ) → going_on (going_on u xs) ys ≡ going_on u (xs ++ ys)
goes_further u xs ys = by_live u.live refl
  where
    by_live : (b : Bool) → u.live ≡ b → going_on (cond b (printed u.text (told xs u.state u.line)) u) ys ≡ cond b (printed u.text (told (xs ++ ys) u.state u.line)) u
    by_live true e =
        let r = told xs u.state u.line in
        sym (ap (printed u.text) (cut xs ys u.state u.line) ∙ later u.text r (told ys r.state r.line) r.live)
    by_live false e = rw e refl
