-- `replay::list::replay` meets its contract: the first check that fails decides, and past them the answers are the machine's, whose every list of calls is a run.
use mathlib.Core.Path.{sym}
use Rattle.replay.proofs.Outcomes.{list_accepted, misfit, file_refused, all_answered}
use Rattle.replay.proofs.list.replay.Goals as goal

pub returns-in-Err : goal.returns-in-Err
returns-in-Err c = misfit _ _ _ c.in-Err.f c.in-Err.ensures c.fault_code.ensures

pub steps-requires : goal.steps-requires
steps-requires c =
    let fit = list_accepted _ _ (sym c.in_default.ensures) in
    record { room = fit.1; readable = fit.0 }

pub returns-in-Ok : goal.returns-in-Ok
returns-in-Ok c = all_answered _ _ _ (sym c.in_default.ensures) c.in-Ok.ensures c.steps.ensures

pub returns-in-Err-open_file : goal.returns-in-Err-open_file
returns-in-Err-open_file c = file_refused _ _ _ (sym c.in_default.ensures) c.in-Err-open_file.e c.in-Err-open_file.ensures c.of_unopened.ensures
