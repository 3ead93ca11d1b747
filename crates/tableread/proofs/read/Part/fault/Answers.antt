-- `tableread::read::Part::fault` meets its contract: the parts are asked in the order of the checks, and the first that refuses decides.
use Prim.Native.Nat.{ℕ}
use mathlib.Core.List.{List, [], ◌∷◌, ◌++◌}
use mathlib.Core.Path.{◌∙◌}
use Rattle.table.specs.Checks.{Outcome}
use Rattle.tablefile.specs.declared.Edition.{Edition}
use Rattle.tablefile.specs.Layout.{Payload, Period, Deadline, Rate, Samples}
use Rattle.tablefile.specs.Reading.{present, judged, map_checks, field_checks, row}
use Rattle.tableread.proofs.Faults.{alone, stop, pass, stop_in, pass_in}
use Rattle.tableread.proofs.read.Part.fault.Goals as goal

-- the checks that are left behind each part
module _ (ed : Edition) (s : List ℕ) (at : ℕ) where
  abbrev last : List Outcome
  last = judged ed Deadline s at ∷ []

  abbrev from_samples : List Outcome
  from_samples = field_checks ed Samples s at ++ last

  abbrev from_rate : List Outcome
  from_rate = field_checks ed Rate s at ++ from_samples

  abbrev from_deadline : List Outcome
  from_deadline = present Deadline s at ∷ from_rate

  abbrev from_period : List Outcome
  from_period = field_checks ed Period s at ++ from_deadline

  abbrev from_payload : List Outcome
  from_payload = field_checks ed Payload s at ++ from_period

pub returns-in_err-map_fault : goal.returns-in_err-map_fault
unfolding row
returns-in_err-map_fault c =
    stop_in c.from_residual.result (map_checks c.args.self.edition c.args.self.bytes.now c.args.self.at) (from_payload c.args.self.edition c.args.self.bytes.now c.args.self.at) c.from_residual.ensures.1 c.in_err-map_fault.was c.map_fault.ensures

pub returns-in_err-payload_fault : goal.returns-in_err-payload_fault
unfolding row
returns-in_err-payload_fault c =
    pass_in (map_checks c.args.self.edition c.args.self.bytes.now c.args.self.at) (from_payload c.args.self.edition c.args.self.bytes.now c.args.self.at) c.in_ok-map_fault.was c.map_fault.ensures
    (stop_in c.from_residual-in_err-payload_fault.result (field_checks c.args.self.edition Payload c.args.self.bytes.now c.args.self.at) (from_period c.args.self.edition c.args.self.bytes.now c.args.self.at) c.from_residual-in_err-payload_fault.ensures.1 c.in_err-payload_fault.was c.payload_fault.ensures)

pub returns-in_err-period_fault : goal.returns-in_err-period_fault
unfolding row
returns-in_err-period_fault c =
    pass_in (map_checks c.args.self.edition c.args.self.bytes.now c.args.self.at) (from_payload c.args.self.edition c.args.self.bytes.now c.args.self.at) c.in_ok-map_fault.was c.map_fault.ensures
    (pass_in (field_checks c.args.self.edition Payload c.args.self.bytes.now c.args.self.at) (from_period c.args.self.edition c.args.self.bytes.now c.args.self.at) c.in_ok-payload_fault.was c.payload_fault.ensures
    (stop_in c.from_residual-in_err-period_fault.result (field_checks c.args.self.edition Period c.args.self.bytes.now c.args.self.at) (from_deadline c.args.self.edition c.args.self.bytes.now c.args.self.at) c.from_residual-in_err-period_fault.ensures.1 c.in_err-period_fault.was c.period_fault.ensures))

pub returns-in_err-deadline_absent : goal.returns-in_err-deadline_absent
unfolding row
returns-in_err-deadline_absent c =
    pass_in (map_checks c.args.self.edition c.args.self.bytes.now c.args.self.at) (from_payload c.args.self.edition c.args.self.bytes.now c.args.self.at) c.in_ok-map_fault.was c.map_fault.ensures
    (pass_in (field_checks c.args.self.edition Payload c.args.self.bytes.now c.args.self.at) (from_period c.args.self.edition c.args.self.bytes.now c.args.self.at) c.in_ok-payload_fault.was c.payload_fault.ensures
    (pass_in (field_checks c.args.self.edition Period c.args.self.bytes.now c.args.self.at) (from_deadline c.args.self.edition c.args.self.bytes.now c.args.self.at) c.in_ok-period_fault.was c.period_fault.ensures
    (stop c.from_residual-in_err-deadline_absent.result (from_rate c.args.self.edition c.args.self.bytes.now c.args.self.at) c.from_residual-in_err-deadline_absent.ensures.1 c.in_err-deadline_absent.was c.deadline_absent.ensures)))

pub returns-in_err-rate_fault : goal.returns-in_err-rate_fault
unfolding row
returns-in_err-rate_fault c =
    pass_in (map_checks c.args.self.edition c.args.self.bytes.now c.args.self.at) (from_payload c.args.self.edition c.args.self.bytes.now c.args.self.at) c.in_ok-map_fault.was c.map_fault.ensures
    (pass_in (field_checks c.args.self.edition Payload c.args.self.bytes.now c.args.self.at) (from_period c.args.self.edition c.args.self.bytes.now c.args.self.at) c.in_ok-payload_fault.was c.payload_fault.ensures
    (pass_in (field_checks c.args.self.edition Period c.args.self.bytes.now c.args.self.at) (from_deadline c.args.self.edition c.args.self.bytes.now c.args.self.at) c.in_ok-period_fault.was c.period_fault.ensures
    (pass (from_rate c.args.self.edition c.args.self.bytes.now c.args.self.at) c.in_ok-deadline_absent.was c.deadline_absent.ensures
    (stop_in c.from_residual-in_err-rate_fault.result (field_checks c.args.self.edition Rate c.args.self.bytes.now c.args.self.at) (from_samples c.args.self.edition c.args.self.bytes.now c.args.self.at) c.from_residual-in_err-rate_fault.ensures.1 c.in_err-rate_fault.was c.rate_fault.ensures))))

pub returns-in_err-samples_fault : goal.returns-in_err-samples_fault
unfolding row
returns-in_err-samples_fault c =
    pass_in (map_checks c.args.self.edition c.args.self.bytes.now c.args.self.at) (from_payload c.args.self.edition c.args.self.bytes.now c.args.self.at) c.in_ok-map_fault.was c.map_fault.ensures
    (pass_in (field_checks c.args.self.edition Payload c.args.self.bytes.now c.args.self.at) (from_period c.args.self.edition c.args.self.bytes.now c.args.self.at) c.in_ok-payload_fault.was c.payload_fault.ensures
    (pass_in (field_checks c.args.self.edition Period c.args.self.bytes.now c.args.self.at) (from_deadline c.args.self.edition c.args.self.bytes.now c.args.self.at) c.in_ok-period_fault.was c.period_fault.ensures
    (pass (from_rate c.args.self.edition c.args.self.bytes.now c.args.self.at) c.in_ok-deadline_absent.was c.deadline_absent.ensures
    (pass_in (field_checks c.args.self.edition Rate c.args.self.bytes.now c.args.self.at) (from_samples c.args.self.edition c.args.self.bytes.now c.args.self.at) c.in_ok-rate_fault.was c.rate_fault.ensures
    (stop_in c.from_residual-in_err-samples_fault.result (field_checks c.args.self.edition Samples c.args.self.bytes.now c.args.self.at) (last c.args.self.edition c.args.self.bytes.now c.args.self.at) c.from_residual-in_err-samples_fault.ensures.1 c.in_err-samples_fault.was c.samples_fault.ensures)))))

pub returns : goal.returns
unfolding row
returns c =
    pass_in (map_checks c.args.self.edition c.args.self.bytes.now c.args.self.at) (from_payload c.args.self.edition c.args.self.bytes.now c.args.self.at) c.in_ok-map_fault.was c.map_fault.ensures
    (pass_in (field_checks c.args.self.edition Payload c.args.self.bytes.now c.args.self.at) (from_period c.args.self.edition c.args.self.bytes.now c.args.self.at) c.in_ok-payload_fault.was c.payload_fault.ensures
    (pass_in (field_checks c.args.self.edition Period c.args.self.bytes.now c.args.self.at) (from_deadline c.args.self.edition c.args.self.bytes.now c.args.self.at) c.in_ok-period_fault.was c.period_fault.ensures
    (pass (from_rate c.args.self.edition c.args.self.bytes.now c.args.self.at) c.in_ok-deadline_absent.was c.deadline_absent.ensures
    (pass_in (field_checks c.args.self.edition Rate c.args.self.bytes.now c.args.self.at) (from_samples c.args.self.edition c.args.self.bytes.now c.args.self.at) c.in_ok-rate_fault.was c.rate_fault.ensures
    (pass_in (field_checks c.args.self.edition Samples c.args.self.bytes.now c.args.self.at) (last c.args.self.edition c.args.self.bytes.now c.args.self.at) c.in_ok-samples_fault.was c.samples_fault.ensures
    (c.deadline_fault.ensures ∙ alone _))))))
