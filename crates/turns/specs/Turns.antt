-- The port of a table file, which calls are joins and leaves, and what a call comes to.
use Rattle.std.specs.Prelude.{ℕ, Bool, true, false, List, ◌≡◌, Option, None, Result, Ok, Err}
use Rattle.table.specs.Rows.{contents}
use Rattle.table.specs.Checks.{accepted}
use Rattle.tablefile.specs.declared.Unopened.{Unopened}
use Rattle.tablefile.specs.Reading.{unopened_by, read_file}
use Rattle.machine.specs.State.{fresh, view}
use Rattle.machine.specs.declared.Denial.{Denial}
use Rattle.machine.specs.declared.Passed.{Passed}
use Rattle.machine.specs.declared.Patch.{Patch}
use Rattle.machine.specs.declared.Port.{Port}
use Rattle.machine.specs.Calls.{Call, offer, offer_best, advance, taken, patches}
use Rattle.machine.specs.Effects.{Comes, Denied, Patches}
use Rattle.callbytes.specs.declared.Asked.{Asked}
use Rattle.callbytes.specs.declared.Asked.TheVariants.{Offer, OfferBest, Advance, Join, Leave}
use Rattle.codes.specs.Codes.{file_check}
use Rattle.turns.specs.declared.Judged.{Judged}
use Rattle.turns.specs.declared.Judged.TheVariants as judged

-- The port of a table file that is accepted: the fresh port of the table that was read. Of the port's record the places that belong to no part are free.
pub record FreshOf (file : List ℕ) (p : Port) : Type 0 where
  pub check : file_check file ≡ accepted
  pub fresh : view p ≡ fresh (contents (read_file file).table)
  pub table : p.table ≡ (read_file file).table

-- What opening a table file gives: its port, or the refusal of its check.
abbrev pub FileOpened : List ℕ → Result Port Unopened → Type 0
FileOpened file (Ok p) = FreshOf file p
FileOpened file (Err e) = file_check file ≡ unopened_by e

-- A join or a leave: `patch` makes it.
abbrev pub is_patch : Asked → Bool
is_patch (Offer row payload) = false
is_patch (OfferBest payload) = false
is_patch (Advance n) = false
is_patch (Join number row) = true
is_patch (Leave number) = true

-- A patch that changes nothing.
abbrev pub no_patch : Port → Patch
no_patch p = record { table = p.table; bounds = p.bounds; cleared = None }

-- The call that `effect` judges: any other as it is asked for, and an advance by 0 in the place of a join or a leave.
abbrev pub plain_call : Asked → Call
plain_call (Offer row payload) = offer row payload
plain_call (OfferBest payload) = offer_best payload
plain_call (Advance n) = advance n
plain_call (Join number row) = advance 0
plain_call (Leave number) = advance 0

-- What a call has passed, by what it comes to.
abbrev pub passed_by : Judged → Option Passed
passed_by (judged.Effect e) = e.passed
passed_by (judged.Patch x) = None

-- What a call comes to on a record: an effect, or, of a join or a leave, a patch; or its refusal.
abbrev pub Turns : Port → Call → Result Judged Denial → Type 0
Turns p c (Ok (judged.Effect e)) = Comes p c e
Turns p c (Ok (judged.Patch x)) = Patches p c (Ok x) × (patches c taken ≡ true)
Turns p c (Err d) = Denied p c d
