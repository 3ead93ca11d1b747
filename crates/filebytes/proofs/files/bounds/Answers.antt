-- `filebytes::files::bounds` meets its contract: each refusal comes before the first byte.
use Rattle.filebytes.proofs.Refusals.{too_short, bounds_refused, bounds_written}
use Rattle.filebytes.proofs.files.bounds.Goals as goal

pub returns-then-out-lt-BOUNDS_SIZE : goal.returns-then-out-lt-BOUNDS_SIZE
returns-then-out-lt-BOUNDS_SIZE c = too_short _ _ c.if-out-lt-BOUNDS_SIZE.true c.code.ensures

pub returns-in-Ok : goal.returns-in-Ok
returns-in-Ok c = bounds_written _ _ c.if-out-lt-BOUNDS_SIZE.false c.in-Ok.ensures c.put_bounds.ensures

pub returns-in-Err : goal.returns-in-Err
returns-in-Err c = bounds_refused _ _ c.if-out-lt-BOUNDS_SIZE.false c.in-Err.e c.in-Err.ensures c.of_unopened.ensures
