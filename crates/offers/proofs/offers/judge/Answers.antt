-- `offers::offers::judge` meets its contract: each test that fails is the check that decides, and what passes finds a place.
use Prim.Native.Nat.{ℕ, ◌<◌}
use mathlib.Core.Bool.{Bool, true, false}
use mathlib.Core.Path.{◌≡◌, sym, ◌∙◌, ap}
use native.Mathlib.Omega.{arith}
use lib.ListN.{get_or}
use Rattle.std.specs.declared.option.Option.TheVariants.{None}
use Rattle.table.specs.declared.Row.{Row}
use Rattle.table.specs.Wire.{period_of}
use Rattle.table.specs.Rows.{no_row, is_there, row_at, in_use, InUse}
use Rattle.table.proofs.Laws as table
use Rattle.machine.specs.declared.Denial.TheVariants.{Broken, NoSuchRow, Payload, Early}
use Rattle.machine.specs.declared.Port.{Port}
use Rattle.machine.specs.declared.Change.{Change}
use Rattle.machine.specs.State.{instant_of, view}
use Rattle.machine.specs.Record.{sound}
use Rattle.machine.specs.Calls.{too_soon, early}
use Rattle.machine.proofs.Places.{Places, port_places}
use Rattle.offers.specs.Steps.{effect_on}
use Rattle.offers.proofs.Judged.{broken, no_such_row, too_large, too_early, few_rows, row_count_lem, in_use_lem, row_is, early_is, row_refused, row_accepted}
use Rattle.offers.proofs.offers.judge.Goals as goal

-- ---- past the record check
sound_here : {w b : Bool} → w ≡ b → w ≡ true → b ≡ true
sound_here e h = sym e ∙ h

-- ---- past the checks of the row's number: it is in use
module _ (port : Port) (row : ℕ) (ok : sound (view port) ≡ true) (places : Places port) (below : row < port.table.count) where
  payload-here : (row_at (view port).table row).payload ≡ (get_or port.table.rows row no_row).payload
  payload-here = ap (λ (r : Row). r.payload) (row_is port ok places row below)

  unused : {b : Bool} → b ≡ is_there (get_or port.table.rows row no_row) → b ≡ false → in_use (view port).table row ≡ false
  unused e h = table.empty _ _ (ap is_there (row_is port ok places row below) ∙ sym e ∙ h)

  module _ (there : is_there (get_or port.table.rows row no_row) ≡ true) where
    used : InUse (view port).table row
    used = in_use_lem port ok places row below there

    early-here : {b r : Bool} → b ≡ too_soon (instant_of (get_or port.last row None)) port.clock (period_of (get_or port.table.rows row no_row)) → b ≡ r → early (view port) row ≡ r
    early-here e h = early_is port ok places row below there ∙ sym e ∙ h

pub returns-then-not-whole : goal.returns-then-not-whole
returns-then-not-whole c w = row_refused _ _ _ Broken (broken _ _ _ (sym w ∙ c.if-not-whole.true))

pub returns-then-p-row : goal.returns-then-p-row
returns-then-p-row c w =
    row_refused _ _ _ NoSuchRow (no_such_row _ _ _ (sound_here w c.if-not-whole.false) (table.unused _ _ (rw (row_count_lem c.args.p) c.if-p-row.true)))

pub returns-then-row : goal.returns-then-row
returns-then-row c w = absurd (omega (arith, few_rows _ (sound_here w c.if-not-whole.false)))

pub returns-then-not-is_there : goal.returns-then-not-is_there
returns-then-not-is_there c w =
    let ok = sound_here w c.if-not-whole.false in
    row_refused _ _ _ NoSuchRow (no_such_row _ _ _ ok (unused c.args.p c.args.row ok (port_places c.args.p _ c.well_formed.0) c.if-p-row.false c.is_there.ensures c.if-not-is_there.true))

pub returns-then-stream-payload : goal.returns-then-stream-payload
returns-then-stream-payload c w =
    let ok = sound_here w c.if-not-whole.false in
    let places = port_places c.args.p _ c.well_formed.0 in
    let there = sym c.is_there.ensures ∙ c.if-not-is_there.false in
    row_refused _ _ _ Payload (too_large _ _ _ ok (used c.args.p c.args.row ok places c.if-p-row.false there) (omega (arith, payload-here c.args.p c.args.row ok places c.if-p-row.false, c.if-stream-payload.true)))

pub returns-then-too_soon : goal.returns-then-too_soon
unfolding period_of
returns-then-too_soon c w =
    let ok = sound_here w c.if-not-whole.false in
    let places = port_places c.args.p _ c.well_formed.0 in
    let there = sym c.is_there.ensures ∙ c.if-not-is_there.false in
    let soon : early (view c.args.p) c.args.row ≡ true = early-here c.args.p c.args.row ok places c.if-p-row.false there c.too_soon.ensures (assumption c) in
    row_refused _ _ _ Early (too_early _ _ _ ok (used c.args.p c.args.row ok places c.if-p-row.false there) (omega (arith, payload-here c.args.p c.args.row ok places c.if-p-row.false, c.if-stream-payload.false)) soon)

pub returns : goal.returns
unfolding period_of
returns c w =
    let ok = sound_here w c.if-not-whole.false in
    let places = port_places c.args.p _ c.well_formed.0 in
    let there = sym c.is_there.ensures ∙ c.if-not-is_there.false in
    let late : early (view c.args.p) c.args.row ≡ false = early-here c.args.p c.args.row ok places c.if-p-row.false there c.too_soon.ensures (assumption c) in
    row_accepted c.args.p ok places c.args.row c.if-p-row.false there _ c.size_for.result (omega (arith, payload-here c.args.p c.args.row ok places c.if-p-row.false, c.if-stream-payload.false)) late c.size_for.ensures.value (c.taken.ensures ∙ ap (λ (x : Change). effect_on c.args.p x) c.joined.ensures)
