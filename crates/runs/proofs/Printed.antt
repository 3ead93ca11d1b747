-- What is printed is what a run gives.
use Prim.Native.Nat.{ℕ}
use mathlib.Core.List.{List, [], ◌∷◌, ◌++◌, append_assoc, append-nil}
use mathlib.Core.Path.{◌≡◌, refl, sym, ◌∙◌}
use Rattle.table.specs.declared.Table.{Table}
use Rattle.table.specs.Rows.{Contents, contents}
use Rattle.table.specs.Checks.{accepted}
use Rattle.tablefile.specs.Reading.{read_file}
use Rattle.machine.specs.declared.Port.{Port}
use Rattle.machine.specs.State.{State, fresh, view}
use Rattle.machine.specs.Calls.{Call, answer}
use Rattle.machine.specs.Run.{machine, answered, Run, SameTable}
use Rattle.machine.proofs.EveryList.{every_list, every_list_ran}
use Rattle.codes.specs.Codes.{file_check}
use Rattle.codes.proofs.Laws.{opened_accepted}
use Rattle.texts.specs.declared.lines.Call as lines
use Rattle.texts.specs.declared.lines.Call.TheVariants.{Offer, Best, Advance}
use Rattle.texts.specs.declared.lines.Line.{Line}
use Rattle.texts.specs.declared.lines.Line.TheVariants.{Empty}
use Rattle.texts.specs.declared.lines.Stepped.{Stepped}
use Rattle.texts.specs.declared.lines.Stepped.TheVariants.{More, Whole, Other}
use Rattle.texts.specs.Lines.{step_of}
use Rattle.texts.specs.Text.{line_of}
use Rattle.runs.specs.Answers.{answer_of, call_of}
use Rattle.runs.specs.Runs.{Told, on_step, told}
use Rattle.runs.specs.Printed.{on_call, calls_from, events_of, text_of, ended, prints, EveryRead, EveryInput, EveryRefusal}

-- ---- the calls of some bytes, answered by the machine behind others, tell what the bytes tell
module _ (t : Contents) where
  abbrev port_after : List Call → State
  port_after cs = machine t (answered t cs)

  record SameAs (cs later : List Call) (r : Told) : Type 0 where
    text : text_of (answered t cs) ++ r.text ≡ text_of (answered t later)
    state : r.state ≡ port_after later

  Same : List ℕ → Type 0
  Same bytes = (l : Line) (cs : List Call) → SameAs cs (calls_from bytes l cs) (told bytes (port_after cs) l)

  same_step : (bytes : List ℕ) → Same bytes → (l : Line) (cs : List Call) (r : Stepped) → SameAs cs (on_call (calls_from bytes) cs r) (on_step (told bytes) (port_after cs) l r)
  unfolding Same
  same_step bytes rest l cs (More next) = rest next cs
  same_step bytes rest l cs (Whole c) =
      let r = rest Empty (call_of c ∷ cs) in
      let line = line_of (answer_of (answer (port_after cs) (call_of c))) in
      record { text = sym (append_assoc (text_of (answered t cs)) line (told bytes (port_after (call_of c ∷ cs)) Empty).text) ∙ r.text; state = r.state }
  same_step bytes rest l cs Other = record { text = append-nil (text_of (answered t cs)); state = refl }

  same : (bytes : List ℕ) → Same bytes
  unfolding Same told calls_from
  same [] l cs = record { text = append-nil (text_of (answered t cs)); state = refl }
  same (b ∷ bytes) l cs = same_step bytes (same bytes) l cs (step_of l b)

-- ---- no row joins or leaves, so the table's record stays
module _ (t u : Table) where
  Kept : List Call → Type 0
  Kept cs = SameTable t (answered (contents t) cs) u

  KeptBehind : List ℕ → Type 0
  KeptBehind bytes = (l : Line) (cs : List Call) → Kept cs → Kept (calls_from bytes l cs)

  kept_call : (c : lines.Call) (cs : List Call) → Kept cs → Kept (call_of c ∷ cs)
  unfolding Kept
  kept_call (Offer row payload) cs k = k
  kept_call (Best payload) cs k = k
  kept_call (Advance n) cs k = k

  kept_step : (bytes : List ℕ) → KeptBehind bytes → (cs : List Call) (r : Stepped) → Kept cs → Kept (on_call (calls_from bytes) cs r)
  unfolding KeptBehind
  kept_step bytes rest cs (More next) k = rest next cs k
  kept_step bytes rest cs (Whole c) k = rest Empty (call_of c ∷ cs) (kept_call c cs k)
  kept_step bytes rest cs Other k = k

  kept : (bytes : List ℕ) → KeptBehind bytes
  unfolding KeptBehind calls_from
  kept [] l cs k = k
  kept (b ∷ bytes) l cs k = kept_step bytes (kept bytes) cs (step_of l b) k

-- ---- a table file, and what was read
of_file : (file bytes : List ℕ) → SameAs (contents (read_file file).table) [] (calls_from bytes Empty []) (told bytes (fresh (contents (read_file file).table)) Empty)
unfolding Same
of_file file bytes = same (contents (read_file file).table) bytes Empty []

pub every_read : EveryRead
every_read file bytes e =
    let w = of_file file bytes in
    let r = every_list_ran (read_file file).table (opened_accepted file e).1 (calls_from bytes Empty []) in
    record { ran = r; text = rw e w.text; port = rw e (w.state ∙ sym r.demand3.faithful.port) }

pub every_input : EveryInput
every_input file input e = every_read file (ended input) e

pub every_refusal : EveryRefusal
every_refusal file bytes number place e = rw e refl

-- The record that the bytes have led to is one that the run leads to.
pub run_to : (file bytes : List ℕ) → file_check file ≡ accepted → (p : Port) → view p ≡ (prints file bytes).state → p.table ≡ (read_file file).table → Run (read_file file).table (events_of file bytes) p
unfolding Kept KeptBehind
run_to file bytes e p v f = every_list (read_file file).table (opened_accepted file e).1 (calls_from bytes Empty []) p (v ∙ rw e (of_file file bytes).state) (kept (read_file file).table p.table bytes Empty [] f)
