-- What reading hands on for the rows that were read.
use Rattle.std.specs.Prelude.{Result, Ok, Err}
use Rattle.table.specs.declared.Table.{Table}
use Rattle.tablefile.specs.declared.Edition.{Edition}
use Rattle.tablefile.specs.declared.Misread.{Misread}
use Rattle.tablefile.specs.declared.Loaded.{Loaded}

-- A table that was read in an edition.
abbrev pub loaded : Edition → Result Table Misread → Result Loaded Misread
loaded e (Ok t) = Ok (record { edition = e; table = t })
loaded e (Err m) = Err m
