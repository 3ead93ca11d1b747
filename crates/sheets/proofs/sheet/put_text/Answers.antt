-- `sheets::sheet::put_text` meets its contract: what is refused has a line, and else the table is put.
use Rattle.sheets.proofs.Lines.{of_file}
use Rattle.sheets.proofs.sheet.put_text.Goals as goal

pub put_table-requires : goal.put_table-requires
put_table-requires c = record { most_text_in_bounds = c.requires; shown = c.in-Ok.sheet.shown }

pub returns-in-Ok : goal.returns-in-Ok
returns-in-Ok c = rw (of_file c.args.file.now c.in-Ok.ensures.1, ← c.in-Ok.ensures.0) c.put_table.ensures

pub returns-in-Err : goal.returns-in-Err
returns-in-Err c = rw (of_file c.args.file.now c.in-Err.ensures) c.put_refusal.ensures
