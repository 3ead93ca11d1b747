-- More bytes than a table file has decide the text.
use mathlib.Core.Path.{refl}
use Rattle.tablefile.proofs.Front.{front_reads}
use Rattle.codes.specs.Codes.{file_check}
use Rattle.sheets.specs.Sheet.{sheet_text, FrontDecides}

pub front_decides : FrontDecides
unfolding sheet_text file_check
front_decides k input more = rw (front_reads k input more) refl
