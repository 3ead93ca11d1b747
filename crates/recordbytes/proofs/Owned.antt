-- What owning a port record tells of its parts: every number fits its field.
use mathlib.Core.List.{List, [], ◌∷◌, map}
use native.Mathlib.Omega.{arith}
use lib.ListN.{length, take}
use mir.Val.{Val}
use base.Fml.{Fml}
use denote.Shadow.{shadow}
use denote.Laws.{Is}
use denote.Struct.Declared as struct
use denote.Enum.Declared as enum
use denote.Array.{each}
use denote.Plain.{UInt}
use mir.Syntax.{w64}
use Prim.Native.Nat.{ℕ, ◌-◌}
use Rattle.std.specs.declared.option.Option.{Option}
use Rattle.std.specs.declared.option.Option.TheVariants.{Some, None}
use Rattle.std.specs.contracts.option.Option as option
use Rattle.table.specs.declared.Pace.{Pace}
use Rattle.table.specs.declared.Pace.TheVariants.{Period, Rated}
use Rattle.table.specs.declared.Row.{Row}
use Rattle.table.specs.declared.Table.{Table}
use Rattle.table.specs.Rows.{no_row, rows_of}
use Rattle.machine.specs.declared.Frame.{Frame}
use Rattle.machine.specs.declared.Wire.{Wire}
use Rattle.machine.specs.declared.Wire.TheVariants.{Free, Sending}
use Rattle.machine.specs.declared.Port.{Port}
use Rattle.machine.specs.State.{no_frame, waiting, instant_of, instants_of, kept_of, view}
use Rattle.table.specs.contracts.Pace as pace
use Rattle.table.specs.contracts.Row as row
use Rattle.table.specs.contracts.Table as table
use Rattle.machine.specs.contracts.Frame as frame
use Rattle.machine.specs.contracts.Wire as wire
use Rattle.machine.specs.contracts.Port as port
use Rattle.words.specs.Words.{Every, Word}
use Rattle.rowbytes.specs.Fits.{PaceFits, RowFits}
use Rattle.recordbytes.specs.Fits.{HeaderFits, FrameFits, InstantFits, WireFits, Numbered}
use Rattle.recordbytes.proofs.Lists.{every_append, every_take, every_same, every_map}
use Rattle.recordbytes.proofs.Marks.{for_fits}

pace_owned : (p : Pace) (vs : List Val) → Is (enum.row pace.the_type) p vs → PaceFits p
pace_owned (Period p) vs e = e.1.1.1.1.0.1
pace_owned (Rated samples rate) vs e = (e.1.1.1.1.1.0.1, e.1.1.1.1.0.1)

row_owned : (r : Row) (vs : List Val) → Is (struct.row row.the_type) r vs → RowFits r
row_owned r vs e = record { payload = e.1.1.1.1.0.1; pace = pace_owned r.pace _ e.1.1.1.1.1.0; deadline = e.1.1.1.1.1.1.0.1 }

pub frame_owned : (x : Frame) (vs : List Val) → Is (struct.row frame.the_type) x vs → FrameFits x
frame_owned x vs e = record { source = e.1.1.0.1; size = e.1.1.1.0.1; taken = e.1.1.1.1.0.1 }

abbrev pub LastFits : Option ℕ → Type 0
LastFits l = InstantFits (instant_of l)

last_owned : (l : Option ℕ) (vs : List Val) → Is (option.the_row (UInt w64)) l vs → LastFits l
last_owned None vs e = tt
last_owned (Some k) vs e = e.1.1.1.1.0.1

pub wire_owned : (w : Wire) (vs : List Val) → Is (enum.row wire.the_type) w vs → WireFits w
wire_owned Free vs e = tt
wire_owned (Sending x left) vs e = (frame_owned x _ e.1.1.1.1.0, e.1.1.1.1.1.0.1)

pub every_owned : {X : Type 0} (own : X → List Val → Fml) (P : X → Type 0) → ((x : X) (vs : List Val) → shadow (own x vs) → P x) → (xs : List X) (us : List Val) → shadow (each X own xs us) → Every P xs
every_owned own P f [] us e = tt
every_owned own P f (x ∷ xs) [] e = absurd e
every_owned own P f (x ∷ xs) (u ∷ us) e = (f x (u ∷ []) e.0, every_owned own P f xs us e.1)

-- ---- from the places to the parts
waiting_fits : (n : ℕ) (fs : List Frame) → Every FrameFits fs → Every FrameFits (waiting n fs)
waiting_fits n fs f = every_append FrameFits (take n fs) _ (every_take FrameFits n fs f) (every_same FrameFits (n - length fs) no_frame (record { source = omega arith; size = omega arith; taken = omega arith }))

pub instants_fit : (rs : List Row) (ls : List (Option ℕ)) → Every LastFits ls → Every InstantFits (instants_of rs ls)
instants_fit rs ls f = for_fits rs (map instant_of ls) (every_map InstantFits instant_of LastFits (λ l h. h) ls f)

pub kept_fits : (n : ℕ) (ws : List ℕ) → Every Word ws → Every Word (kept_of n ws)
unfolding kept_of
kept_fits n ws f = every_append Word (take n ws) _ (every_take Word n ws f) (every_same Word (n - length ws) 0 (omega arith))

-- a table, and the bounds of some numbers
pub record TableFits (t : Table) : Type 0 where
  pub header : HeaderFits t.header
  pub rows : Every RowFits (rows_of t)

pub table_owned : (t : Table) (vs : List Val) → Is (struct.row table.the_type) t vs → TableFits t
unfolding rows_of
table_owned t vs e =
    let h = e.1.1 in
    let rows = every_owned (struct.row row.the_type).own_val RowFits row_owned t.rows e.1.1.1.1.0.0 h.1.1.0.1.1 in
    record {
      header = record { idlea = h.0.1.1.0.1; idleb = h.0.1.1.1.0.1; payload = h.0.1.1.1.1.0.1 };
      rows = every_append RowFits (take t.count t.rows) _ (every_take RowFits t.count t.rows rows) (every_same RowFits (t.count - length t.rows) no_row (record { payload = omega arith; pace = omega arith; deadline = omega arith }));
    }

-- every port that a program holds
pub lasts_owned : (p : Port) (vs : List Val) → Is (struct.row port.the_type) p vs → Every LastFits p.last
lasts_owned p vs e = every_owned (option.the_row (UInt w64)).own_val LastFits last_owned p.last e.1.1.1.1.1.1.1.1.1.0.0 e.1.1.1.1.1.1.1.1.1.0.1.1

pub owned_numbered : (p : Port) (vs : List Val) → Is (struct.row port.the_type) p vs → Numbered (view p)
unfolding view
owned_numbered p vs e =
    let t = table_owned p.table _ e.1.1.0 in
    let r = e.1.1.1 in
    let q = r.1.1.1 in
    record {
      header = t.header;
      rows = t.rows;
      bounds = kept_fits p.table.count p.bounds (every_owned (UInt w64).own_val Word (λ w vs e. e.1) p.bounds _ q.1.1.1.1.0.1.1);
      clock = r.0.1;
      credita = r.1.0.1;
      creditb = r.1.1.0.1;
      a = waiting_fits p.a.count p.a.frames (every_owned (struct.row frame.the_type).own_val FrameFits frame_owned p.a.frames _ q.0.1.1.1.0.1.1);
      b = waiting_fits p.b.count p.b.frames (every_owned (struct.row frame.the_type).own_val FrameFits frame_owned p.b.frames _ q.1.0.1.1.1.0.1.1);
      best = waiting_fits p.best.count p.best.frames (every_owned (struct.row frame.the_type).own_val FrameFits frame_owned p.best.frames _ q.1.1.0.1.1.1.0.1.1);
      last = instants_fit (rows_of p.table) p.last (lasts_owned p vs e);
      wire = wire_owned p.wire _ q.1.1.1.1.1.0;
    }
