-- `saved::saved::open` meets its contract: by whether the buffer is long enough and the file is refused.
use native.Mathlib.Omega.{arith}
use Rattle.saved.proofs.Reaching.{open_short, open_refused, open_done, owned_opened}
use Rattle.saved.proofs.saved.open.Goals as goal

pub returns-then-out-lt-RECORD_SIZE : goal.returns-then-out-lt-RECORD_SIZE
returns-then-out-lt-RECORD_SIZE c = open_short _ _ (omega (arith, c.if-out-lt-RECORD_SIZE.true)) c.code.ensures

pub returns-in-Ok : goal.returns-in-Ok
returns-in-Ok c =
    open_done _ _ c.if-out-lt-RECORD_SIZE.false c.in-Ok.ensures (owned_opened c.open_file.result _ c.open_file.type_inv _ c.in-Ok.is) c.clear.ensures c.write_record.ensures

pub returns-in-Err : goal.returns-in-Err
returns-in-Err c = open_refused _ _ c.if-out-lt-RECORD_SIZE.false c.in-Err.e c.in-Err.ensures c.of_unopened.ensures
