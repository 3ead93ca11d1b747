-- Reading and writing undo each other.
use Prim.Native.Nat.{ℕ, ◌-◌, ◌≤◌}
use mathlib.Core.Bool.{Bool, true, false, cond, ◌&&◌}
use mathlib.Core.List.{List, [], ◌∷◌, ◌++◌, append-nil}
use mathlib.Core.Path.{◌≡◌, refl, sym, ◌∙◌, ap}
use native.Mathlib.Omega.{arith}
use lib.Dec.{leb, eqb}
use lib.ListN.{length, get_or, drop, replicate, length-append, drop_of_length-le}
use lib.Seq.{take_at, drop_at}
use borrow.Author.Tests.{eqb-true, leb-true, le-leb}
use Rattle.table.specs.declared.Row.{Row}
use Rattle.table.specs.Limits.{most_rows}
use Rattle.table.specs.Rows.{no_row, Contents, rows_of, contents}
use Rattle.table.specs.Checks.{Outcome, accepted, unless_row, first}
use Rattle.table.specs.Ranges.{ranged, Every, Ranges}
use Rattle.tablefile.specs.declared.Edition.{Edition}
use Rattle.tablefile.specs.declared.Edition.TheVariants.{Avb1, Avb2}
use Rattle.tablefile.specs.Layout.{last_letter, header_size, allows}
use Rattle.tablefile.specs.Reading.{opens, header_of, row_count, header, rows_checks, rows_from, file_end, file_checks, table_of, table_by, read_as, edition_of, read_file}
use Rattle.tablefile.specs.Writing.{header_bytes, rows_bytes, file_of, writable}
use Rattle.tablefile.specs.RoundTrip.{Bytes, Found, ReadBack, ReadingWritten, WritingRead, ReadWritable, AsLong}
use Rattle.tablefile.proofs.Rows.{accept_first}
use Rattle.tablefile.proofs.RowsTrip.{RowsBack, rows_back, RowsOf, rows_of_lem}
use Rattle.tablefile.proofs.Filled.{rows_count}
use Rattle.tablefile.proofs.HeaderTrip.{header_if, count_back, rest_back, header_length, values_back, header_back, header_of_lem}
use Rattle.table.proofs.Laws as law

-- what a table says that was read: the header's values, and the rows that were read
contents_read : (s : List ℕ) (rs : List Row) → length rs ≡ row_count s → contents (table_of s rs) ≡ record { header = header_of s; rows = rs }
contents_read s rs e =
    let more = replicate (most_rows - length rs) no_row in
    let room : row_count s ≤ length (rs ++ more) = rw (length-append rs more) (omega arith) in
    let used : rows_of (table_of s rs) ≡ rs = law.rows_are (table_of s rs) room ∙ take_at rs more (row_count s) e in
    ap (λ (l : List Row). record { header = header_of s; rows = l }) used

-- ---- reading what was written
module _ (ed : Edition) (t : Contents) (g : Ranges t) (may : Every (λ r. allows ed r ≡ true) t.rows) where
  abbrev rest : List ℕ
  rest = rows_bytes ed t.rows

  abbrev file : List ℕ
  file = header_bytes ed t ++ rest

  rows : RowsBack ed t.rows file header_size
  rows = rows_back ed t.rows file header_size [] g.rows may (rest_back ed t rest ∙ sym (append-nil rest))

  rows_read : rows_from ed (row_count file) file header_size ≡ t.rows
  rows_read = rw (count_back ed t rest) rows.rows

  rows_pass : first (rows_checks ed (row_count file) file header_size) ≡ accepted
  rows_pass = rw (count_back ed t rest) (accept_first (rows_checks ed (length t.rows) file header_size) rows.checks)

  no_more : length file ≤ file_end file
  no_more = rw (count_back ed t rest, rows.end) (omega (arith, header_length ed t rest))

  passes : first (file_checks ed file) ≡ accepted
  passes = rw (header_back ed t rest g, rows_pass, le-leb (length file) (file_end file) no_more) refl

  table_read : (read_as ed file).table ≡ table_of file t.rows
  unfolding read_as
  table_read = ap (λ (o : Outcome). table_by ed o file) passes ∙ ap (table_of file) rows_read

  outcome_read : (read_as ed file).outcome ≡ accepted
  unfolding read_as
  outcome_read = passes

  edition_read : (read_as ed file).edition ≡ ed
  unfolding read_as
  edition_read = refl

  read_back : ReadBack ed t (read_as ed file)
  read_back =
      record {
        outcome = outcome_read;
        edition = edition_read;
        contents = ap contents table_read ∙ contents_read file t.rows (sym (count_back ed t rest)) ∙ rw (values_back ed t rest g) refl;
        unused = rw table_read (drop_at t.rows (replicate (most_rows - length t.rows) no_row) (length t.rows) refl);
      }

-- the letters of two editions differ, so what reads in an edition is found to be of it
finds : (e f : Edition) (s : List ℕ) → opens e s ≡ true → opens f s ≡ true → last_letter e ≡ last_letter f
unfolding opens
finds e f s h g =
    let last : (x : Edition) → opens x s ≡ true → get_or s 3 0 ≡ last_letter x = λ x k. eqb-true (get_or s 3 0) (last_letter x) (law.and-true (eqb (get_or s 2 0) 66) _ (law.and-true (eqb (get_or s 0 0) 65 && eqb (get_or s 1 0) 86) _ k).1).1 in
    sym (last e h) ∙ last f g

edition_found : (e : Edition) (s : List ℕ) → opens e s ≡ true → edition_of s ≡ e
unfolding edition_of
edition_found Avb2 s h = rw h refl
edition_found Avb1 s h = go (opens Avb2 s) refl
  where
    go : (b : Bool) → opens Avb2 s ≡ b → cond b Avb2 Avb1 ≡ Avb1
    go true g = absurd (omega (arith, finds Avb1 Avb2 s h g))
    go false g = refl

pub found : Found
unfolding read_file read_as
found e s ok = ap (λ (x : Edition). read_as x s) (edition_found e s (header_if e s (law.all_accept (file_checks e s) ok).0).letters)

may_stand : (e : Edition) (t : Contents) → writable e t ≡ accepted → (ranged t ≡ accepted) × Every (λ r. allows e r ≡ true) t.rows
unfolding writable
may_stand e t ok = let x = law.all_accept (ranged t ∷ unless_row (allows e) t.rows 23 ∷ []) ok in (x.0, law.unless_row_passes (allows e) t.rows 23 x.1.0)

may_write : (e : Edition) (t : Contents) → ranged t ≡ accepted → Every (λ r. allows e r ≡ true) t.rows → writable e t ≡ accepted
unfolding writable
may_write e t ok may = rw (ok, law.unless_row_accepts (allows e) t.rows 23 may) refl

pub reading_written : ReadingWritten
unfolding file_of
reading_written e t ok =
    let x = may_stand e t ok in
    let back = read_back e t (law.ranged_if t x.0) x.1 in
    rw (found e (file_of e t) back.outcome) back

-- ---- writing what was read
module _ (ed : Edition) (s : List ℕ) (b : Bytes s) (e : first (file_checks ed s) ≡ accepted) where
  abbrev read : List Row
  read = rows_from ed (row_count s) s header_size

  heads : header ed s ≡ accepted
  heads = (law.all_accept (file_checks ed s) e).0

  parts : RowsOf ed (row_count s) s header_size
  parts = rows_of_lem ed (row_count s) s header_size b (law.all_accept (rows_checks ed (row_count s) s header_size) (law.all_accept (file_checks ed s) e).1.0)

  counted : length read ≡ row_count s
  counted = rows_count ed (row_count s) s header_size

  ends : length s ≤ file_end s
  ends = leb-true (length s) (file_end s) (law.unless_passes (leb (length s) (file_end s)) 7 (file_end s) (law.all_accept (file_checks ed s) e).1.1.0)

  said : contents (read_as ed s).table ≡ record { header = header_of s; rows = read }
  unfolding read_as
  said = ap (λ (o : Outcome). contents (table_by ed o s)) e ∙ contents_read s read counted

  rows_written : rows_bytes ed read ≡ drop header_size s
  rows_written = sym (append-nil (rows_bytes ed read)) ∙ ap (λ q. rows_bytes ed read ++ q) (sym (drop_of_length-le s ends)) ∙ sym parts.bytes

  written : file_of ed (contents (read_as ed s).table) ≡ s
  unfolding file_of
  written = ap (file_of ed) said ∙ ap (λ q. header_bytes ed (record { header = header_of s; rows = read }) ++ q) rows_written ∙ sym (header_of_lem ed s read b (header_if ed s heads) counted)

  may_be_written : writable ed (contents (read_as ed s).table) ≡ accepted
  may_be_written =
      let h = header_if ed s heads in
      let range = law.ranged_only_if (record { header = header_of s; rows = read })
      (record {
        some = rw counted h.some;
        most = rw counted h.most;
        idlea = h.idlea;
        idleb = h.idleb;
        best = h.payload;
        rows = parts.range;
      }) in
      rw said (may_write ed (record { header = header_of s; rows = read }) range parts.allowed)

passed : (ed : Edition) (s : List ℕ) → (read_as ed s).outcome ≡ accepted → first (file_checks ed s) ≡ accepted
unfolding read_as
passed ed s e = e

pub writing_read : WritingRead
unfolding read_file read_as
writing_read s b e = written (edition_of s) s b (passed (edition_of s) s e)

pub read_writable : ReadWritable
unfolding read_file read_as
read_writable s b e = may_be_written (edition_of s) s b (passed (edition_of s) s e)

pub as_long : AsLong
as_long s b e = ap length (sym (writing_read s b e))
