-- `tableread::read::read` meets its contract: the file is read in the edition that its letters name.
use mathlib.Core.Path.{◌≡◌, sym, ◌∙◌, ap}
use Prim.Native.Nat.{ℕ}
use mathlib.Core.List.{List}
use Rattle.std.specs.Prelude.{Result}
use Rattle.table.specs.declared.Table.{Table}
use Rattle.tablefile.specs.declared.Edition.{Edition}
use Rattle.tablefile.specs.declared.Misread.{Misread}
use Rattle.tablefile.specs.declared.Loaded.{Loaded}
use Rattle.tablefile.specs.Reading.{read_as, edition_of, read_file, Reads}
use Rattle.tableread.specs.Results.{loaded}
use Rattle.tableread.proofs.Faults.{handed_on}
use Rattle.tableread.proofs.read.read.Goals as goal

found : (s : List ℕ) {e : Edition} (q : Result Table Misread) {r : Result Loaded Misread} → e ≡ edition_of s → Reads (read_as e s) (loaded e q) → r ≡ loaded e q → Reads (read_file s) r
unfolding read_file
found s q h read e = rw (e, ← h) read

pub returns-in_err-table : goal.returns-in_err-table
returns-in_err-table c =
    found _ c.read_as.result c.edition_of-edition.ensures c.read_as.ensures (handed_on c.from_residual.result c.from_residual.ensures.1 ∙ sym (ap (loaded c.edition_of-edition.result) c.in_err-table.was))

pub returns : goal.returns
returns c = found _ c.read_as.result c.edition_of-edition.ensures c.read_as.ensures (sym (ap (loaded c.edition_of-edition.result) c.in_ok-table.was))
