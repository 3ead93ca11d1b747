-- A port kept as bytes, and the list of calls that has led to it.
use Rattle.std.specs.Prelude.{Option, Some, None, Result, Ok, Err}
use Prim.Native.Nat.{ℕ, ◌≤◌, ◌<◌}
use mathlib.Core.Bool.{Bool, true, false, cond, true≢false, false≢true}
use mathlib.Core.List.{List, [], ◌∷◌}
use mathlib.Core.Path.{◌≡◌, refl, sym, ◌∙◌, ap, subst}
use native.Mathlib.Omega.{arith}
use lib.ListN.{length, length-append, length-drop, length-replicate}
use mir.Val.{Val}
use denote.Laws.{Is}
use denote.Struct.Declared as struct
use denote.Enum.Declared as enum
use borrow.Author.Tests.{le-leb, lt-leb}
use Rattle.table.specs.declared.Table.{Table}
use Rattle.table.specs.Limits.{most_rows}
use Rattle.table.specs.Rows.{no_row, rows_of, contents}
use Rattle.table.specs.Checks.{accepted, refused, over}
use Rattle.table.proofs.Laws.{never, rows_length}
use Rattle.planner.proofs.Laws.{accepted_if}
use Rattle.tablefile.specs.declared.Unopened.{Unopened}
use Rattle.tablefile.specs.contracts.Unopened as unopened
use Rattle.tablefile.specs.Reading.{unopened_by, read_file}
use Rattle.tablefile.proofs.Laws.{read_filled}
use Rattle.machine.specs.declared.Port.{Port}
use Rattle.machine.specs.contracts.Port as port
use Rattle.machine.specs.declared.Denial.{Denial}
use Rattle.machine.specs.declared.Passed.{Passed}
use Rattle.machine.specs.declared.Patch.{Patch}
use Rattle.machine.specs.declared.Change.{Change}
use Rattle.machine.specs.declared.Change.TheVariants.{LeftA, LeftB, LeftBest, JoinedA, JoinedB, JoinedBest}
use Rattle.machine.specs.declared.Effect.{Effect}
use Rattle.machine.specs.State.{State, view, port_of, Placed}
use Rattle.machine.specs.Calls as machines
use Rattle.machine.specs.Calls.{Call, Answer, taken, passed, denied, number_of, place_of, Keeps, patches, KeepsTable, Gives}
use Rattle.machine.specs.Effects.{passed_answer, changed_by, carried_out, Room, Comes, Denied, cleared_at, patched_by}
use Rattle.machine.specs.Run.{Event, event, Run, called}
use Rattle.machine.proofs.Effects.{keeps}
use Rattle.machine.proofs.Theorem.{every_run, run_placed}
use Rattle.words.specs.Words.{Bytes}
use Rattle.codes.specs.Codes.{code_of, file_check}
use Rattle.codes.proofs.Laws.{kept, opened_accepted}
use Rattle.recordbytes.specs.Layout.{record_size}
use Rattle.recordbytes.specs.Record.{record_over, state_of, is_record}
use Rattle.recordbytes.specs.Fits.{Numbered, Fits}
use Rattle.recordbytes.specs.Port.{table_from, port_from, read_record}
use Rattle.recordbytes.proofs.Laws.{named_placed, long, placed_are, EffectFits, carried_fits, over_patched, owned_effect, owned_patched, owned_numbered}
use Rattle.recordbytes.proofs.Trip.{reading_written, read_fits, same_parts}
use Rattle.recordwrite.specs.Written.{written, patched}
use Rattle.recordwrite.proofs.Laws.{written_fits, patched_fits}
use Rattle.callbytes.specs.declared.Asked.{Asked}
use Rattle.callbytes.specs.Calls.{answer_size, call_of, read_call, call_or_none, answer_bytes, fronted, is_denied}
use Rattle.callbytes.proofs.Laws.{answer_length, answer_fits}
use Rattle.turns.specs.declared.Judged.{Judged}
use Rattle.turns.specs.declared.Judged.TheVariants as judged
use Rattle.std.specs.contracts.option.Option as option
use Rattle.std.specs.contracts.result.Result as result
use Rattle.machine.specs.contracts.Denial as denial
use Rattle.turns.specs.contracts.Judged as judged_type
use Rattle.turns.specs.Turns.{FreshOf, passed_by, Turns}
use Rattle.turns.proofs.Laws.{start}
use Rattle.saved.specs.Saved.{Reached, open_check, cleared, OpenedInto, call_check, answer_on, bytes_by, bytes_after, CarriedOver, Called}

-- a record with the same parts and the same table
table_from_lem : (s : State) → (port_from s).table ≡ table_from s.table
unfolding port_from port_of
table_from_lem s = refl

view_table : (p : Port) → (view p).table ≡ contents p.table
unfolding view
view_table p = refl

-- the table of the port that is handed out for a port's parts
same_table : (p : Port) → table_from (contents p.table) ≡ p.table → (port_from (view p)).table ≡ p.table
same_table p e = table_from_lem (view p) ∙ ap table_from (view_table p) ∙ e

-- bytes that a port was written over hold it: if the port that is handed out for them is led to by a list, they are
holds : {t : Table} {es : List Event} (n : State) (s : List ℕ) → Fits n → record_size ≤ length s → Run t es (port_from n) → Reached t es (record_over n s)
holds {t} {es} n s fits room run =
    let back = reading_written n s fits room in
    record { record_bytes = back.record_bytes; run = rw back.port run; demand3 = rw back.port (every_run t es (port_from n) run) }

-- ---- opening
cleared_length : (s : List ℕ) → record_size ≤ length s → length (cleared s) ≡ length s
unfolding cleared
cleared_length s h = rw (length-append, length-replicate, length-drop) (omega arith)

module _ (file before : List ℕ) where
  not_opened : {r : ℕ} → r ≡ code_of (open_check file (length before)) → (r ≡ 0 → ⊥) → OpenedInto file before before r
  not_opened e h = record { code = e; buffer = kept (open_check file (length before)) _ before e h; reached = λ z. absurd (h (e ∙ ap code_of z)) }

  pub open_short : {r : ℕ} → length before < record_size → r ≡ code_of (refused 103 0) → OpenedInto file before before r
  unfolding open_check
  open_short h e = not_opened (rw (lt-leb record_size (length before) h) e) (λ z. omega (arith, e, z))

  module _ (room : record_size ≤ length before) where
    pub open_refused : (e : Unopened) {r : ℕ} → file_check file ≡ unopened_by e → r ≡ code_of (unopened_by e) → OpenedInto file before before r
    unfolding open_check
    open_refused e h c =
        record { code = rw (le-leb record_size (length before) room, h) c; buffer = rw (le-leb record_size (length before) room, h) refl; reached = λ z. never (rw (le-leb record_size (length before) room, h) at z) }

    module _ {p : Port} (made : FreshOf file p) where
      -- the table that was read has zeros in its unused places
      own_table : table_from (contents p.table) ≡ p.table
      unfolding table_from
      own_table =
          let both = opened_accepted file made.check in
          let few : length (contents (read_file file).table).rows ≤ most_rows = (accepted_if (contents (read_file file).table) both.1).ranges.most in
          let f = read_filled file both.0 (omega (arith, few, rows_length (read_file file).table)) in
          rw (made.table, placed_are no_row most_rows (rows_of (read_file file).table) few, ← f.rows, ← f.count) refl

      pub open_done : {zeros after : List ℕ} → Numbered (view p) → zeros ≡ cleared before → after ≡ written p zeros → OpenedInto file before after 0
      unfolding open_check
      open_done {zeros} {after} small c w =
          let n : length (cleared before) ≡ length before = cleared_length before room in
          let e : after ≡ record_over (view p) (cleared before) = w ∙ rw c (written_fits (cleared before) p (rw n room)) in
          let ok : open_check file (length before) ≡ accepted = rw (le-leb record_size (length before) room, made.check) refl in
          let same : view (port_from (view p)) ≡ view p = same_parts (view p) few in
          let run : Run (read_file file).table [] (port_from (view p)) = start file made same (same_table p own_table) in
          record {
            code = rw ok refl;
            buffer = rw ok (e ∙ ap (λ (s : State). record_over s (cleared before)) made.fresh);
            reached = λ _. rw e (holds (view p) (cleared before) (record { placed = few; numbered = small }) (rw n room) run);
          }
        where
          few : Placed (view p)
          few = run_placed (start file made refl refl)

-- ---- what owning a port that was opened tells
pub owned_opened : (r : Result Port Unopened) (vs : List Val) → Is (enum.row (result.the_type port.the_row unopened.the_row)) r vs → (p : Port) → r ≡ Ok p → Numbered (view p)
owned_opened (Ok q) vs i p e = let same : q ≡ p = cc in subst (λ (x : Port). Numbered (view x)) same (owned_numbered q _ i.1.1.1.1.0)
owned_opened (Err x) vs i p e = cc

-- ---- a call
free : (p q : Port) (a : Answer) → is_denied a ≡ false → Keeps a p q
free p q taken e = tt
free p q (passed n x) e = tt
free p q (denied n l) e = absurd (true≢false e)

table_stays : (c : Option Change) (s : State) → (changed_by c s).table ≡ s.table
table_stays None s = refl
table_stays (Some LeftA) s = refl
table_stays (Some LeftB) s = refl
table_stays (Some LeftBest) s = refl
table_stays (Some (JoinedA f)) s = refl
table_stays (Some (JoinedB f)) s = refl
table_stays (Some (JoinedBest f)) s = refl

table_by_lem : (b : Bool) {t u : Table} → u ≡ t → KeepsTable b t u
table_by_lem true e = tt
table_by_lem false e = e

not_denied : (x : Option Passed) → is_denied (passed_answer x) ≡ false
not_denied None = refl
not_denied (Some x) = refl

bytes_new : (a : Answer) (s : State) (old : List ℕ) → is_denied a ≡ false → bytes_by a s old ≡ record_over s old
bytes_new taken s old e = refl
bytes_new (passed n x) s old e = refl
bytes_new (denied n l) s old e = absurd (true≢false e)

bytes_old : (a : Answer) (s : State) (old : List ℕ) → is_denied a ≡ true → bytes_by a s old ≡ old
bytes_old taken s old e = absurd (false≢true e)
bytes_old (passed n x) s old e = absurd (false≢true e)
bytes_old (denied n l) s old e = refl

-- ---- what owning what a call has come to tells
abbrev JudgedFits : Port → Judged → Type 0
JudgedFits p (judged.Effect e) = EffectFits e
JudgedFits p (judged.Patch x) = Numbered (view (patched_by x p))

owned_judged : (p : Port) (ws : List Val) → Is (struct.row port.the_type) p ws → (j : Judged) (vs : List Val) → Is (enum.row judged_type.the_type) j vs → JudgedFits p j
owned_judged p ws o (judged.Effect e) vs i = owned_effect e _ i.1.1.1.1.0
owned_judged p ws o (judged.Patch x) vs i = owned_patched p ws o x _ i.1.1.1.1.0

pub owned_turn : (o : Option Port) (ws : List Val) → Is (enum.row (option.the_type port.the_row)) o ws → (r : Result Judged Denial) (vs : List Val) → Is (enum.row (result.the_type judged_type.the_row denial.the_row)) r vs → (p : Port) → o ≡ Some p → (j : Judged) → r ≡ Ok j → JudgedFits p j
owned_turn (Some q) ws o (Ok k) vs i p f j e =
    let port : q ≡ p = cc in
    let same : k ≡ j = cc in
    subst (λ (x : Port). JudgedFits x j) port (subst (λ (x : Judged). JudgedFits q x) same (owned_judged q _ o.1.1.1.1.0 k _ i.1.1.1.1.0))
owned_turn (Some q) ws o (Err d) vs i p f j e = cc
owned_turn None ws o r vs i p f j e = cc

module _ (saved call before : List ℕ) where
  not_called : {r : ℕ} → r ≡ code_of (call_check call (length before)) → (r ≡ 0 → ⊥) → Called saved saved call before before r
  not_called e h =
      let o = call_check call (length before) in
      record { code = e; answer = kept o _ before e h; port = kept o _ saved e h; reached = λ z. absurd (h (e ∙ ap code_of z)) }

  pub call_unread : {r : ℕ} → read_call call ≡ None → r ≡ code_of (refused 102 0) → Called saved saved call before before r
  unfolding call_check
  call_unread h e = not_called (rw h e) (λ z. omega (arith, e, z))

  module _ {asked : Asked} (known : read_call call ≡ Some asked) where
    pub call_short : {r : ℕ} → length before < answer_size → r ≡ code_of (refused 103 0) → Called saved saved call before before r
    unfolding call_check
    call_short h e = not_called (rw (known, lt-leb answer_size (length before) h) e) (λ z. omega (arith, e, z))

    module _ (long_enough : answer_size ≤ length before) where
      abbrev c : Call
      c = call_or_none (read_call call)

      ready : call_check call (length before) ≡ accepted
      unfolding call_check
      ready = rw (known, le-leb answer_size (length before) long_enough) refl

      answered : {after : List ℕ} (a : Answer) → a ≡ answer_on saved c → after ≡ fronted (answer_bytes a) before → after ≡ over (call_check call (length before)) (answer_bytes (answer_on saved c)) before
      answered a e h = rw (ready, ← e, answer_length a) (h ∙ answer_fits a before long_enough)

      -- what is asked for is what the bytes say
      pub asked_for : (p : Port) (r : Result Judged Denial) → Turns p (call_of asked) r → Turns p c r
      asked_for p r m = rw known m

      pub call_broken : {after : List ℕ} → read_record saved ≡ None → after ≡ fronted (answer_bytes (denied 18 0)) before → Called saved saved call before after 0
      unfolding read_record answer_on bytes_after
      call_broken {after} unread e = broken (go (is_record saved) refl unread)
        where
          go : (b : Bool) → is_record saved ≡ b → cond b (Some (port_from (state_of saved))) None ≡ None → is_record saved ≡ false
          go true q u = cc
          go false q u = q

          broken : is_record saved ≡ false → Called saved saved call before after 0
          broken bad =
              let is : denied 18 0 ≡ answer_on saved c = rw bad refl in
              record {
                code = rw ready refl;
                answer = answered (denied 18 0) is e;
                port = rw (ready, ← is) refl;
                reached = λ _ t es h. absurd (true≢false (sym h.record_bytes ∙ bad));
              }

      module _ {p : Port} (read : read_record saved ≡ Some p) where
        -- the port that the bytes name, and its parts
        found : (is_record saved ≡ true) × (p ≡ port_from (state_of saved))
        unfolding read_record
        found = go (is_record saved) refl read
          where
            go : (b : Bool) → is_record saved ≡ b → cond b (Some (port_from (state_of saved))) None ≡ Some p → (is_record saved ≡ true) × (p ≡ port_from (state_of saved))
            go true q e = (q, cc)
            go false q e = cc

        good : is_record saved ≡ true
        good = found.0

        named : p ≡ port_from (state_of saved)
        named = found.1

        parts : view p ≡ state_of saved
        parts = ap view named ∙ same_parts (state_of saved) (named_placed saved good)

        module _ (a : Answer) {after : List ℕ} (put : after ≡ fronted (answer_bytes a) before) where
          is : a ≡ machines.answer (view p) c → a ≡ answer_on saved c
          unfolding answer_on
          is told = told ∙ rw (good, ← parts) refl

          longer : {t : Table} {es : List Event} {q : Port} → Reached t es saved → Gives p c a q → Run t (event c a ∷ es) q
          longer h g = called (rw (← named) at h.run) g

          stayed : is_denied a ≡ true → Gives p c a p → Called saved saved call before after 0
          unfolding bytes_after
          stayed denial g =
              let said = is g.answer in
              record {
                code = rw ready refl;
                answer = answered a said put;
                port = rw (ready, ← said) (sym (bytes_old a _ saved denial));
                reached = λ _ t es h. rw (← said) (record { record_bytes = good; run = rw (← named) (longer h g); demand3 = rw (← named) (every_run t (event c a ∷ es) p (longer h g)) });
              }

          -- the port that is handed out for the new bytes is what the call gives
          moved : {kept : List ℕ} (n : State) → is_denied a ≡ false → a ≡ machines.answer (view p) c → n ≡ machines.after (view p) c → kept ≡ record_over n saved → KeepsTable (patches c a) p.table (port_from n).table → ((t : Table) (es : List Event) → Reached t es saved → Fits n) → Called saved kept call before after 0
          unfolding bytes_after
          moved {kept} n on told next whole table fits =
              let said = is told in
              let gives : Fits n → Gives p c a (port_from n) = λ f. record { answer = told; port = same_parts n f.placed ∙ next; table = table; kept = free _ _ a on } in
              record {
                code = rw ready refl;
                answer = answered a said put;
                port = rw (ready, ← said) (whole ∙ (ap (λ (x : State). record_over x saved) (rw parts at next) ∙ sym (bytes_new a _ saved on)));
                reached = λ _ t es h. let f = fits t es h in rw (← said, whole) (holds n saved f (long saved good) (longer h (gives f)));
              }

        pub call_refused : {d : Denial} {after : List ℕ} → Denied p c d → after ≡ fronted (answer_bytes (denied (number_of d) (place_of d))) before → Called saved saved call before after 0
        call_refused m put = stayed _ put refl (keeps m)

        effect_done : {e : Effect} {after kept : List ℕ} → Comes p c e → after ≡ fronted (answer_bytes (passed_answer e.passed)) before → Bytes saved → EffectFits e → (is_record saved ≡ true → Room e.change (state_of saved) → kept ≡ record_over (carried_out e (state_of saved)) saved) → Called saved kept call before after 0
        effect_done {e} comes put b f w =
            let n = carried_out e (state_of saved) in
            let places : Room e.change (state_of saved) = rw parts at comes.room in
            let table : (port_from n).table ≡ p.table = table_from_lem n ∙ rw (table_stays e.change (state_of saved), named) (sym (table_from_lem (state_of saved))) in
            moved _ put n (not_denied e.passed) comes.answer (rw (← parts) comes.port) (w good places) (table_by_lem (patches c (passed_answer e.passed)) table) (λ t es h. carried_fits (state_of saved) (read_fits saved b good) e f places)

        -- a join or a leave
        patch_done : (x : Patch) {after kept : List ℕ} → Gives p c taken (patched_by x p) → patches c taken ≡ true → after ≡ fronted (answer_bytes taken) before → Bytes saved → Numbered (view (patched_by x p)) → kept ≡ patched x.table (cleared_at x.cleared p.last) x.bounds saved → Called saved kept call before after 0
        patch_done x g made put bytes small w =
            let q = patched_by x p in
            let whole = w ∙ (patched_fits saved x.table _ x.bounds (long saved good) ∙ over_patched saved bytes good p x parts) in
            moved taken put (view q) refl g.answer g.port whole (rw made tt) (λ t es h. record { placed = run_placed (longer taken put h g); numbered = small })

        pub call_done : (j : Judged) {after kept : List ℕ} → Turns p c (Ok j) → JudgedFits p j → after ≡ fronted (answer_bytes (passed_answer (passed_by j))) before → Bytes saved → CarriedOver p j saved kept → Called saved kept call before after 0
        call_done (judged.Effect e) m f put b w = effect_done m put b f w
        call_done (judged.Patch x) m f put b w = patch_done x m.0 m.1 put b f w
