-- A file that is opened.
use Rattle.std.specs.Prelude.{Result, Ok, Err, IsErrAnd}
use Rattle.std.proofs.lemmas.Result.{err_from_is_err_and}
use Prim.Native.Nat.{ℕ}
use mathlib.Core.List.{List}
use mathlib.Core.Path.{◌≡◌, sym, ◌∙◌, ap}
use Rattle.table.specs.declared.Refusal.{Refusal}
use Rattle.table.specs.Checks.{outcome_of}
use Rattle.tablefile.specs.declared.Loaded.{Loaded}
use Rattle.tablefile.specs.declared.Unopened.{Unopened}
use Rattle.tablefile.specs.Reading.{unopened_by, read_file, Whole}
use Rattle.machine.specs.declared.After.{After}
use Rattle.machine.specs.declared.Port.{Port}
use Rattle.machine.specs.Calls.{Opened}
use Rattle.codes.specs.Codes.{file_check}
use Rattle.codes.proofs.Laws.{whole}
use Rattle.turns.specs.Turns.{FileOpened}

pub not_opened : (file : List ℕ) (r : Result Port Unopened) (e : Unopened) → IsErrAnd r (λ y. y ≡ e) → file_check file ≡ unopened_by e → FileOpened file r
not_opened file r e h f = let p = err_from_is_err_and r h in let is : r ≡ Err e = p.1 ∙ ap Err p.2 in rw is f

module _ (file : List ℕ) {l : Loaded} (read : Whole (read_file file) l) {g : After (Result (Unit {0}) Refusal)} (made : Opened l.table g) where
  pub table_refused : (x : Refusal) → g.answer ≡ Err x → file_check file ≡ outcome_of (Err x)
  table_refused x e = whole file read (sym made.verdict ∙ ap outcome_of e)

  pub opened_file : {u : Unit {0}} → g.answer ≡ Ok u → FileOpened file (Ok g.port)
  opened_file e =
      record { check = whole file read (sym made.verdict ∙ ap outcome_of e); fresh = rw (← read.table) made.port; table = made.table ∙ read.table }
