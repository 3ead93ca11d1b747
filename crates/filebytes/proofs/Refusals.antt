-- What a call on a table file answers, by the checks in their order.
use Rattle.std.specs.Prelude.{Result}
use Prim.Native.Nat.{ℕ, ◌≤◌, ◌<◌}
use mathlib.Core.Bool.{true, false}
use mathlib.Core.List.{List}
use mathlib.Core.Path.{◌≡◌, refl, ◌∙◌}
use lib.ListN.{length}
use borrow.Author.Tests.{le-leb, lt-leb}
use Rattle.table.specs.Rows.{Contents, contents}
use Rattle.table.specs.Checks.{Outcome, accepted, refused, over}
use Rattle.table.specs.Ranges.{within}
use Rattle.planner.specs.Bound.{bounds}
use Rattle.planner.specs.Plan.{BoundsOf}
use Rattle.tablefile.specs.declared.Edition.{Edition}
use Rattle.tablefile.specs.declared.Loaded.{Loaded}
use Rattle.tablefile.specs.declared.Misread.{Misread}
use Rattle.tablefile.specs.declared.Unopened.{Unopened}
use Rattle.tablefile.specs.declared.Unwritten.{Unwritten}
use Rattle.tablefile.specs.Reading.{refusal_of, unopened_by, read_file, Whole}
use Rattle.tablefile.specs.Writing as writes
use Rattle.tablefile.specs.Writing.{Writes, file_of, write_check, length_by}
use Rattle.words.specs.Words.{flat, word_bytes}
use Rattle.codes.specs.Codes.{code_of, length_code, file_check}
use Rattle.codes.proofs.Laws.{first_one, whole}
use Rattle.filebytes.specs.Files.{bounds_size, bounds_check, BoundsWritten, edition_by, rewrite_check, Rewritten}

-- ---- a buffer shorter than the bounds
pub too_short : (file before : List ℕ) {r : ℕ} → length before < bounds_size → r ≡ code_of (refused 103 0) → BoundsWritten file before before r
unfolding bounds_check
too_short file before h e = record { code = rw (lt-leb bounds_size (length before) h) e; buffer = rw (lt-leb bounds_size (length before) h) refl }

-- ---- a length counts where nothing is refused
of_length : (o : Outcome) (e : Edition) (t : Contents) → length_code o (length_by o e t) ≡ length_code o (length (file_of e t))
of_length accepted e t = refl
of_length (refused n p) e t = refl

-- ---- the bounds of a file
pub own_bounds : (file : List ℕ) {l : Loaded} → Whole (read_file file) l → {bs : List ℕ} → BoundsOf (contents l.table) bs → (file_check file ≡ accepted) × (bs ≡ bounds (contents (read_file file).table))
own_bounds file read made = (whole file read made.verdict, rw (← read.table) made.bounds)

module _ (file before : List ℕ) (room : bounds_size ≤ length before) where
  pub bounds_refused : (e : Unopened) {r : ℕ} → file_check file ≡ unopened_by e → r ≡ code_of (unopened_by e) → BoundsWritten file before before r
  unfolding bounds_check
  bounds_refused e f c = record { code = rw (le-leb bounds_size (length before) room, f) c; buffer = rw (le-leb bounds_size (length before) room, f) refl }

  pub bounds_written : {bs after : List ℕ} → (file_check file ≡ accepted) × (bs ≡ bounds (contents (read_file file).table)) → after ≡ over accepted (flat word_bytes bs) before → BoundsWritten file before after 0
  unfolding bounds_check
  bounds_written ok put =
      record { code = rw (le-leb bounds_size (length before) room, ok.0) refl; buffer = rw (le-leb bounds_size (length before) room, ok.0, ← ok.1) put }

-- ---- a file written again, in an edition that there is
module _ (file : List ℕ) (n : ℕ) (named : within 1 2 n ≡ true) (before : List ℕ) where
  pub rewrite_misread : (m : Misread) {r : ℕ} → (read_file file).outcome ≡ refusal_of m → r ≡ code_of (refusal_of m) → Rewritten file n before before r
  unfolding rewrite_check
  rewrite_misread m e c = record { code = rw (named, e) c; buffer = rw (named, e) refl }

  pub rewritten : {l : Loaded} → Whole (read_file file) l → {x : Edition} → x ≡ edition_by n → (w : Result ℕ Unwritten) {after : List ℕ} {r : ℕ} → Writes x l.table before after w → r ≡ length_code (writes.outcome_of w) (writes.length_of w) → Rewritten file n before after r
  unfolding rewrite_check
  rewritten {l} read ex w written er =
      let told : Writes (edition_by n) l.table before _ w = rw ex at written in
      let same : rewrite_check file n before ≡ write_check (edition_by n) (contents l.table) before = rw (named, read.outcome, ← read.table) (first_one (write_check (edition_by n) (contents l.table) before)) in
      let size = rw (told.answer, told.size) at er in
      record { code = rw (same, ← read.table) (size ∙ of_length (write_check (edition_by n) (contents l.table) before) (edition_by n) (contents l.table)); buffer = rw (same, ← read.table) told.buffer }

-- ---- no such edition
pub unnamed : (file : List ℕ) (n : ℕ) (before : List ℕ) {r : ℕ} → within 1 2 n ≡ false → r ≡ code_of (refused 104 0) → Rewritten file n before before r
unfolding rewrite_check
unnamed file n before f e = record { code = rw f e; buffer = rw f refl }
