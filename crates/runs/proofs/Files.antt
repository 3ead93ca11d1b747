-- A table file that is opened: its own refusal, then its table's.
use Rattle.std.specs.Prelude.{Result, Ok, Err, MatchResult, IsErrAnd}
use Rattle.std.proofs.lemmas.Result.{err_from_is_err_and}
use Prim.Native.Nat.{ℕ}
use mathlib.Core.Bool.{true}
use mathlib.Core.List.{List}
use mathlib.Core.Path.{◌≡◌, refl, sym, ◌∙◌, ap}
use Rattle.table.specs.declared.Table.{Table}
use Rattle.table.specs.declared.Refusal.{Refusal}
use Rattle.table.specs.Rows.{contents}
use Rattle.table.specs.Checks.{Outcome, accepted, refused, outcome_of}
use Rattle.tablefile.specs.declared.Loaded.{Loaded}
use Rattle.tablefile.specs.declared.Misread.{Misread}
use Rattle.tablefile.specs.declared.Unopened.{Unopened}
use Rattle.tablefile.specs.declared.Unopened.TheVariants as unopened
use Rattle.tablefile.specs.Reading.{refusal_of, no_table, table_by, read_as, edition_of, read_file, Whole}
use Rattle.machine.specs.declared.After.{After}
use Rattle.machine.specs.State.{fresh}
use Rattle.machine.specs.Calls.{Opened}
use Rattle.codes.proofs.Laws.{misread, whole}
use Rattle.texts.specs.declared.lines.Line.TheVariants.{Empty}
use Rattle.runs.specs.declared.opened.Said.{Said}
use Rattle.runs.specs.Opened.{Begins}
use Rattle.runs.specs.Steps.{tried, FileTried, Says}
use Rattle.runs.proofs.Buffers.{none_put, none_used}

pub by_outcome : {o u : Outcome} {before after : List ℕ} {r : Said} → u ≡ o → Says o before after r → Says u before after r
by_outcome e s = rw e s

-- ---- what is said: nothing is printed for a file that is accepted
pub accepted_said : (buffer : List ℕ) → Says accepted buffer buffer (record { live = true; count = 0 })
accepted_said buffer = record { text = sym (none_put buffer); count = sym (none_used buffer); live = refl }

-- ---- the file's port
-- a file that is misread stands for a table of zeros
no_table_read : (file : List ℕ) {n p : ℕ} → (read_file file).outcome ≡ refused n p → (read_file file).table ≡ no_table
unfolding read_file read_as
no_table_read file e = ap (λ (o : Outcome). table_by (edition_of file) o file) e

pub misread_tried : (file : List ℕ) (m : Misread) → (read_file file).outcome ≡ refusal_of m → {t : Table} → t ≡ no_table → {o : After (Result (Unit {0}) Refusal)} → Opened t o → FileTried file (record { answer = Err (unopened.Misread m); port = o.port })
misread_tried file m e et made =
    let same = et ∙ sym (no_table_read file e) in
    record { answer = sym (misread file m e); port = made.port ∙ ap (λ (t : Table). fresh (contents t)) same; table = made.table ∙ same }

pub whole_tried : (file : List ℕ) {l : Loaded} → Whole (read_file file) l → {o : After (Result (Unit {0}) Refusal)} → Opened l.table o → (a : Result (Unit {0}) Unopened) → tried a ≡ outcome_of o.answer → FileTried file (record { answer = a; port = o.port })
whole_tried file read made a e =
    record {
      answer = e ∙ made.verdict ∙ sym (whole file read refl);
      port = made.port ∙ ap (λ (t : Table). fresh (contents t)) read.table;
      table = made.table ∙ read.table;
    }

-- a table's refusal is the file's
pub told_on : (a : Result (Unit {0}) Refusal) (r : Result (Unit {0}) Unopened) → MatchResult a (λ x. r ≡ Ok x) (λ e. IsErrAnd r (λ u. u ≡ unopened.Refused e)) → tried r ≡ outcome_of a
told_on (Ok x) r e = ap tried e
told_on (Err x) r e = let p = err_from_is_err_and r e in ap tried (p.1 ∙ ap Err p.2)

-- ---- the run on the port
pub begins : (file : List ℕ) {o : After (Result (Unit {0}) Unopened)} → FileTried file o → {before after : List ℕ} {r : Said} → Says (tried o.answer) before after r → Begins file before after (record { run = record { port = o.port; line = Empty; live = r.live }; count = r.count })
begins file made said =
    let s = by_outcome (sym made.answer) said in
    record {
      text = s.text;
      count = s.count;
      state = made.port;
      table = made.table;
      line = refl;
      live = s.live;
    }
