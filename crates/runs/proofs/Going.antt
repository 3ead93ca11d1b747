-- A run from one read to the next.
use Prim.Native.Nat.{ℕ, ◌*◌, ◌≤◌}
use mathlib.Core.Bool.{Bool, true, false, cond, false≢true}
use mathlib.Core.List.{List, [], ◌++◌}
use mathlib.Core.Path.{◌≡◌, refl, sym, ◌∙◌, ap}
use native.Mathlib.Omega.{arith}
use lib.ListN.{length}
use borrow.Author.Tests.{le-leb}
use Rattle.table.specs.declared.Table.{Table}
use Rattle.table.specs.Checks.{accepted}
use Rattle.tablefile.specs.Reading.{read_file}
use Rattle.machine.specs.State.{view}
use Rattle.machine.specs.Run as machine
use Rattle.machine.proofs.Theorem.{every_run}
use Rattle.codes.specs.Codes.{file_check}
use Rattle.texts.specs.Text.{line_size}
use Rattle.texts.proofs.Laws.{within}
use Rattle.runs.specs.declared.Run.{Run}
use Rattle.runs.specs.declared.Answered.{Answered}
use Rattle.runs.specs.Runs.{Told, printed, told, going_on, standing, told_of, Shows, AnswersTo}
use Rattle.runs.specs.Opened.{Begins}
use Rattle.runs.specs.Printed.{events_of}
use Rattle.runs.specs.Led.{stopped, Led, LedOn, Plays}
use Rattle.runs.proofs.Runs.{none_left, goes_further}
use Rattle.runs.proofs.Printed.{run_to}

-- ---- a run whose text was written, or that has stopped
pub goes_on : (run : Run) → Led run.port.table (standing run) run
goes_on run = record { state = refl; table = refl; line = refl; live = λ e. e }

pub stops : {t : Table} {u : Told} {mid r : Run} → Led t u mid → r ≡ stopped mid → Led t u r
stops h e = rw e (record { state = h.state; table = h.table; line = h.line; live = λ z. absurd (false≢true z) })

-- ---- more bytes
-- what leads to a run, and then from it to another
then_none : {t : Table} {u : Told} {r : Run} → Led t u r → Led t (going_on u []) r
then_none {t} {u} {r} h = by_live u.live refl
  where
    by_live : (b : Bool) → u.live ≡ b → Led t (cond b (printed u.text (told [] u.state u.line)) u) r
    by_live true e = rw (none_left u.state u.line) (record { state = h.state; table = h.table; line = h.line; live = λ z. refl })
    by_live false e = h

then_some : {t : Table} {u : Told} {mid r : Run} (bytes : List ℕ) → Led t u mid → Led mid.port.table (going_on (standing mid) bytes) r → LedOn t u r
then_some {t} {u} {mid} {r} bytes h g = by_live mid.live refl g
  where
    by_live : (b : Bool) → mid.live ≡ b → Led mid.port.table (cond b (told bytes (view mid.port) mid.line) (standing mid)) r → LedOn t u r
    by_live true e k =
        let z : told bytes (view mid.port) mid.line ≡ told bytes u.state u.line = rw (h.state, h.line) refl in
        record { bytes = bytes; led = rw (h.live e) (record { state = k.state ∙ ap (λ (v : Told). v.state) z; table = k.table ∙ h.table; line = k.line ∙ ap (λ (v : Told). v.line) z; live = λ w. sym (ap (λ (v : Told). v.live) z) ∙ k.live w }) }
    by_live false e k = record { bytes = []; led = then_none {u = u} (record { state = k.state ∙ h.state; table = k.table ∙ h.table; line = k.line ∙ h.line; live = λ w. h.live (k.live w) }) }

pub then_on : {t : Table} {u : Told} {mid r : Run} → LedOn t u mid → LedOn mid.port.table (standing mid) r → LedOn t u r
then_on {t} {u} {mid} {r} h g =
    let k = then_some g.bytes h.led g.led in
    record { bytes = h.bytes ++ k.bytes; led = rw (← goes_further u h.bytes k.bytes) k.led }

pub none_read : {t : Table} {u : Told} {r : Run} → Led t u r → LedOn t u r
none_read h = record { bytes = []; led = then_none h }

-- ---- what a call's promise says of the run that it is left with
module _ {u : Told} {t : Table} {before after : List ℕ} {a : Answered} (s : Shows u t before after a) where
  pub count_fits : a.count ≤ length before
  count_fits = within 0 u.text before s.count (omega arith)

  shown_led : {r : Run} → Led a.run.port.table (standing a.run) r → Led t u r
  shown_led h = record { state = h.state ∙ s.state; table = h.table ∙ s.table; line = h.line ∙ s.line; live = λ w. sym s.live ∙ h.live w }

pub answers_led : {run r : Run} {bytes before after : List ℕ} {a : Answered} → AnswersTo run bytes before after a → line_size * length bytes ≤ length before → Led a.run.port.table (standing a.run) r → Led run.port.table (going_on (standing run) bytes) r
answers_led {run} {r} {bytes} {before} p room h =
    let z : told_of run bytes before ≡ going_on (standing run) bytes = rw (le-leb (line_size * length bytes) (length before) room) refl in
    rw (← z) (shown_led p.shows h)

pub begins_led : {file before after : List ℕ} {a : Answered} {mid r : Run} → Begins file before after a → Led a.run.port.table (standing a.run) mid → LedOn mid.port.table (standing mid) r → Plays file r
begins_led {file} {r = r} b h g =
    let k = then_on (none_read (shown_led b h)) g in
    let ran : file_check file ≡ accepted → machine.Run (read_file file).table (events_of file k.bytes) r.port = λ e. run_to file k.bytes e r.port k.led.state k.led.table in
    record { bytes = k.bytes; led = k.led; run = ran; demand3 = λ e. every_run (read_file file).table (events_of file k.bytes) r.port (ran e) }
