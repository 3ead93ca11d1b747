-- `tableread::read::read_as` meets its contract: what is wrong with the header is the file's first refusal, and behind a header that passes the rows decide.
use mathlib.Core.Path.{sym, ◌∙◌, ap}
use Rattle.tablefile.specs.Reading.{outcome_of}
use Rattle.tableread.specs.Results.{loaded}
use Rattle.tableread.proofs.Faults.{handed_on}
use Rattle.tableread.proofs.Files.{refused_header}
use Rattle.tableread.proofs.read.read_as.Goals as goal

pub returns-in_err-read_header : goal.returns-in_err-read_header
returns-in_err-read_header c =
    refused_header _ _ _ (ap (loaded c.args.edition) (handed_on c.from_residual.result c.from_residual.ensures.1)) (sym c.read_header.ensures ∙ ap outcome_of c.in_err-read_header.was)

pub read_rows-requires : goal.read_rows-requires
read_rows-requires c =
    record { s_value = sym c.read_header.ensures ∙ ap outcome_of c.in_ok-read_header.was; start_value = c.header_table.ensures }
