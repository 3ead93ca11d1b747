-- Table files from outside: the bounds of a file's table, and a file read and written again.
use Rattle.std.specs.Prelude.{ℕ, cond, List, [], ◌∷◌, ◌≡◌, leb, eqb, length}
use Rattle.table.specs.Rows.{contents}
use Rattle.table.specs.Checks.{Outcome, unless, first, over}
use Rattle.table.specs.Ranges.{within}
use Rattle.planner.specs.Bound.{bounds}
use Rattle.tablefile.specs.declared.Edition.{Edition}
use Rattle.tablefile.specs.declared.Edition.TheVariants.{Avb1, Avb2}
use Rattle.tablefile.specs.Reading.{read_file}
use Rattle.tablefile.specs.Writing.{file_of, write_check}
use Rattle.words.specs.Words.{flat, word_bytes}
use Rattle.codes.specs.Codes.{code_of, length_code, file_check}

-- The 32 bounds, a word each.
abbrev pub bounds_size : ℕ
bounds_size = 256

-- 103, fewer bytes than that. Then the file's refusals, then opening's.
unfoldable pub bounds_check : List ℕ → ℕ → Outcome
bounds_check file room = first (unless (leb bounds_size room) 103 0 ∷ file_check file ∷ [])

pub record BoundsWritten (file before after : List ℕ) (r : ℕ) : Type 0 where
  pub code : r ≡ code_of (bounds_check file (length before))
  pub buffer : after ≡ over (bounds_check file (length before)) (flat word_bytes (bounds (contents (read_file file).table))) before

-- The editions by number: 1 is AVB1, 2 is AVB2. (What another number gives does not matter: it is refused.)
abbrev pub edition_by : ℕ → Edition
edition_by n = cond (eqb n 2) Avb2 Avb1

-- 104, a number that names no edition. Then the file's refusals, whichever edition it has, then the writer's in the edition that is asked for, 23 and 17 among them.
unfoldable pub rewrite_check : List ℕ → ℕ → List ℕ → Outcome
rewrite_check file n buffer = first (unless (within 1 2 n) 104 0 ∷ (read_file file).outcome ∷ write_check (edition_by n) (contents (read_file file).table) buffer ∷ [])

pub record Rewritten (file : List ℕ) (n : ℕ) (before after : List ℕ) (r : ℕ) : Type 0 where
  pub code : r ≡ length_code (rewrite_check file n before) (length (file_of (edition_by n) (contents (read_file file).table)))
  pub buffer : after ≡ over (rewrite_check file n before) (file_of (edition_by n) (contents (read_file file).table)) before
