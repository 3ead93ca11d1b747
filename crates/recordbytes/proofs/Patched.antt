-- A row that joins or leaves: what is written of the table, the last instants and the bounds is all that the port, written over a record's bytes, changes; and a record can hold that port.
use Rattle.std.specs.Prelude.{Option, Some, None}
use Prim.Native.Nat.{ℕ, zero, suc, ◌≤◌}
use mathlib.Core.Bool.{Bool, true, false, cond}
use mathlib.Core.List.{List, [], ◌∷◌}
use mathlib.Core.Path.{◌≡◌, refl, sym, ◌∙◌, ap}
use native.Mathlib.Omega.{arith}
use lib.Dec.{ltb}
use lib.ListN.{length, set}
use mir.Val.{Val}
use denote.Plain.{UInt}
use mir.Syntax.{w64}
use denote.Laws.{Is}
use denote.Struct.Declared as struct
use Rattle.std.specs.declared.option.Option.{Option}
use Rattle.std.specs.declared.option.Option.TheVariants.{None}
use Rattle.table.specs.Limits.{most_rows, class_places}
use Rattle.table.specs.Rows.{rows_of, Contents, contents}
use Rattle.machine.specs.declared.Patch.{Patch}
use Rattle.machine.specs.declared.Port.{Port}
use Rattle.machine.specs.Limits.{best_places}
use Rattle.machine.specs.State.{Instant, instants_of, kept_of, State, view, Placed}
use Rattle.machine.specs.Effects.{cleared_at, patched_by}
use Rattle.machine.specs.contracts.Patch as patch
use Rattle.machine.specs.contracts.Port as port
use Rattle.words.specs.Words.{Every, Word, Bytes}
use Rattle.words.proofs.Laws.{Rest, rest_whole}
use Rattle.recordbytes.specs.Layout.{clock_start, queuea_start, queueb_start, best_start, wire_start, record_size}
use Rattle.recordbytes.specs.Record.{number_words, wire_words, table_over, lasts_over, bounds_over, record_over, state_of, is_record}
use Rattle.recordbytes.specs.Fits.{Numbered}
use Rattle.recordbytes.proofs.Tested.{long, named_placed}
use Rattle.recordbytes.proofs.Stands.{Stands, wire_wide, named_stands}
use Rattle.recordbytes.proofs.Kept.{table_rest, lasts_rest, bounds_rest, words_kept, queue_kept}
use Rattle.recordbytes.proofs.Owned.{every_owned, TableFits, table_owned, LastFits, lasts_owned, instants_fit, kept_fits, owned_numbered}

-- a port with another table, other bounds and other last instants
abbrev with : Contents → List ℕ → List Instant → State → State
with t bounds last p = record { table = t; bounds = bounds; clock = p.clock; credita = p.credita; creditb = p.creditb; a = p.a; b = p.b; best = p.best; last = last; wire = p.wire }

abbrev over : Contents → List ℕ → List Instant → List ℕ → List ℕ
over t bounds last s = bounds_over bounds (lasts_over t.rows last (table_over t s))

module _ (s : List ℕ) (b : Bytes s) (ok : is_record s ≡ true) where
  abbrev p : State
  p = state_of s

  few : Placed p
  few = named_placed s ok

  st : Stands p s
  st = named_stands s b ok

  room : record_size ≤ length s
  room = long s ok

  over_with : (t : Contents) (bounds : List ℕ) (last : List Instant) → over t bounds last s ≡ record_over (with t bounds last p) s
  unfolding record_over
  over_with t bounds last =
      let r : Rest clock_start s (table_over t s) = table_rest (rest_whole s b) t (omega arith) in
      let w : Rest wire_start s (over t bounds last s) = bounds_rest (lasts_rest r t.rows last (omega arith)) bounds (omega arith) in
      rw (
        words_kept r room clock_start (number_words p) (omega arith) (omega arith) st.numbers,
        queue_kept r room p.a queuea_start class_places (omega arith) few.a (omega arith) st.a,
        queue_kept r room p.b queueb_start class_places (omega arith) few.b (omega arith) st.b,
        queue_kept r room p.best best_start best_places (omega arith) few.best (omega arith) st.best,
        words_kept w room wire_start (wire_words p.wire) (omega arith) (omega (arith, wire_wide p.wire)) st.wire,
      )
      refl

  pub over_patched : (q : Port) (x : Patch) → view q ≡ p → over (contents x.table) (kept_of x.table.count x.bounds) (instants_of (rows_of x.table) (cleared_at x.cleared q.last)) s ≡ record_over (view (patched_by x q)) s
  unfolding view
  over_patched q x e =
      let t = contents x.table in
      let bounds = kept_of x.table.count x.bounds in
      let last = instants_of (rows_of x.table) (cleared_at x.cleared q.last) in
      over_with t bounds last ∙ ap (λ (y : State). record_over (with t bounds last y) s) (sym e)

-- every number of that port fits its field
cleared_fits : (c : Option ℕ) (ls : List (Option ℕ)) → Every LastFits ls → Every LastFits (cleared_at c ls)
cleared_fits None ls f = f
cleared_fits (Some k) ls f = go (ltb k most_rows)
  where
    one : (i : ℕ) (l : List (Option ℕ)) → Every LastFits l → Every LastFits (set l i None)
    one i [] h = tt
    one zero (y ∷ l) h = (tt, h.1)
    one (suc i) (y ∷ l) h = (h.0, one i l h.1)

    go : (c : Bool) → Every LastFits (cond c (set ls k None) ls)
    go true = one k ls f
    go false = f

pub owned_patched : (q : Port) (vs : List Val) → Is (struct.row port.the_type) q vs → (x : Patch) (us : List Val) → Is (struct.row patch.the_type) x us → Numbered (view (patched_by x q))
unfolding view
owned_patched q vs o x us e =
    let n : Numbered (view q) = owned_numbered q vs o in
    let t : TableFits x.table = table_owned x.table _ e.1.1.0 in
    record {
      header = t.header;
      rows = t.rows;
      bounds = kept_fits x.table.count x.bounds (every_owned (UInt w64).own_val Word (λ w vs e. e.1) x.bounds _ e.1.1.1.0.1.1);
      clock = n.clock;
      credita = n.credita;
      creditb = n.creditb;
      a = n.a;
      b = n.b;
      best = n.best;
      last = instants_fit (rows_of x.table) (cleared_at x.cleared q.last) (cleared_fits x.cleared q.last (lasts_owned q vs o));
      wire = n.wire;
    }
