-- `offers::opening::fresh_port` meets its contract: no place of a row has an instant, and the kept bounds are the planner's.
use Prim.Native.Nat.{ℕ}
use mathlib.Core.List.{List}
use mathlib.Core.Path.{◌≡◌, refl, sym, ◌∙◌, ap}
use lib.IntN.{pos}
use lib.ListN.{length, replicate}
use Rattle.std.specs.declared.option.Option.TheVariants.{None}
use Rattle.table.specs.declared.Table.{Table}
use Rattle.table.specs.Limits.{most_rows}
use Rattle.table.specs.Rows.{rows_of, Contents, contents}
use Rattle.table.specs.Checks.{Outcome, accepted, refused}
use Rattle.table.proofs.Laws as table
use Rattle.planner.specs.Opening.{opening}
use Rattle.planner.specs.Plan.{bounds_at}
use Rattle.planner.proofs.Laws as law
use Rattle.machine.specs.declared.Wire.TheVariants.{Free}
use Rattle.machine.specs.Limits.{class_places, best_places}
use Rattle.machine.specs.State.{kept_of, bounds_if, fresh, view}
use Rattle.machine.proofs.Places.{zero_frame}
use Rattle.machine.proofs.Placing.{kept_bounds}
use Rattle.offers.proofs.Waits.{no_instants, no_bounds}
use Rattle.offers.proofs.opening.fresh_port.Goals as goal

kept : (t : Contents) (o : Outcome) → opening t ≡ o → kept_of (length t.rows) (bounds_at o t) ≡ bounds_if o t
kept t accepted e = kept_bounds t (law.accepted_if t e).ranges.most
kept t (refused n p) e = no_bounds (length t.rows) most_rows

is-fresh : (t : Table) (bs : List ℕ) → bs ≡ bounds_at (opening (contents t)) (contents t) → view (record { table = t; bounds = bs; clock = 0; credita = pos 0; creditb = pos 0; a = record { count = 0; frames = replicate class_places zero_frame }; b = record { count = 0; frames = replicate class_places zero_frame }; best = record { count = 0; frames = replicate best_places zero_frame }; last = replicate most_rows None; wire = Free }) ≡ fresh (contents t)
unfolding view fresh
is-fresh t bs e =
    let k : kept_of t.count bs ≡ bounds_if (opening (contents t)) (contents t) = ap (λ (n : ℕ). kept_of n bs) (sym (table.rows_length t)) ∙ ap (λ (l : List ℕ). kept_of (length (rows_of t)) l) e ∙ kept (contents t) (opening (contents t)) refl in
    rw (k, no_instants (rows_of t) most_rows) refl

pub returns : goal.returns
returns c = record { result_value = is-fresh c.args.table c.args.bounds c.requires; table_value = refl }
