-- `tablewrite::write::write` meets its contract: each refusal comes before the first store, and the stores are the file from the front.
use Rattle.std.specs.Prelude.{Result, Ok, Err, IsErrAnd}
use Rattle.std.proofs.lemmas.Result.{err_from_is_err_and}
use Prim.Native.Nat.{ℕ, ◌+◌, ◌≤◌, ◌<◌}
use mathlib.Core.Bool.{true, false}
use mathlib.Core.List.{List, ◌++◌}
use mathlib.Core.Path.{◌≡◌, refl, sym, ◌∙◌, ap}
use native.Mathlib.Omega.{arith}
use lib.Dec.{leb}
use lib.ListN.{length, take, drop}
use lib.Seq.{sets}
use borrow.Author.Tests.{le-leb, lt-leb}
use Rattle.table.specs.declared.Row.{Row}
use Rattle.table.specs.declared.Table.{Table}
use Rattle.table.specs.declared.Refusal.{Refusal}
use Rattle.table.specs.Limits.{most_rows}
use Rattle.table.specs.Rows.{rows_of, contents}
use Rattle.table.specs.Checks.{accepted, refused, passing}
use Rattle.table.specs.Ranges.{ranged}
use Rattle.table.specs.Checks as checks
use Rattle.table.proofs.Laws as law
use Rattle.table.proofs.Laws.{places}
use Rattle.tablefile.specs.declared.Edition.{Edition}
use Rattle.tablefile.specs.declared.Unwritten.{Unwritten}
use Rattle.tablefile.specs.declared.Unwritten.TheVariants.{TooShort, Tagged, Refused}
use Rattle.tablefile.specs.Layout.{header_size, allows}
use Rattle.tablefile.specs.Writing.{rows_bytes, header_bytes, file_of, writable, write_check, refusal_of, Writes}
use Rattle.tablewrite.proofs.Stores.{sets_next, sets_front}
use Rattle.tablewrite.proofs.Sizes.{file_size, header_length}
use Rattle.tablewrite.proofs.write.write.Goals as goal

-- a table whose values are in range has at most 32 rows
few : (t : Table) → ranged (contents t) ≡ accepted → t.count ≤ most_rows
few t e = rw (law.rows_length t) at (law.ranged_if (contents t) e).most

-- what the verdict on ranges says
told : (t : Table) {v w : Result (Unit {0}) Refusal} → checks.outcome_of v ≡ ranged (contents t) → v ≡ w → ranged (contents t) ≡ checks.outcome_of w
told t e f = sym e ∙ ap checks.outcome_of f

module _ (ed : Edition) (t : Table) (xs : List ℕ) where
  -- a check that refuses before the buffer is looked at
  refuses : (u : Unwritten) {n p : ℕ} → refusal_of u ≡ refused n p → writable ed (contents t) ≡ refused n p → Writes ed t xs xs (Err u)
  unfolding write_check
  refuses u o e = record { answer = o ∙ rw e refl; size = rw e refl; buffer = rw e refl }

  by-range : (w : Result ℕ Unwritten) (r : Refusal) → IsErrAnd w (λ u. u ≡ Refused r) → ranged (contents t) ≡ refused (checks.number_of r) (checks.place_of r) → Writes ed t xs xs w
  unfolding writable
  by-range w r h e = let p = err_from_is_err_and w h in rw (p.1, p.2) (refuses (Refused r) refl (rw e refl))

  module _ (e : ranged (contents t) ≡ accepted) {rows : List Row} (er : rows ≡ rows_of t) where
    by_tag : {k : ℕ} → (k ≡ passing (allows ed) rows) × (k < length rows) → Writes ed t xs xs (Err (Tagged k))
    unfolding writable
    by_tag {k} h = refuses (Tagged k) refl (rw (e, ← er, ← h.0, lt-leb _ _ h.1) refl)

    module _ (all : length rows ≤ passing (allows ed) rows) {n : ℕ} (s : n ≡ header_size + length (rows_bytes ed rows)) where
      may : writable ed (contents t) ≡ accepted
      unfolding writable
      may = rw (e, ← er, le-leb _ _ all) refl

      size : n ≡ length (file_of ed (contents t))
      size = rw (file_size ed (contents t), ← er) s

      too_short : length xs < n → Writes ed t xs xs (Err TooShort)
      unfolding write_check
      too_short h =
          let f : leb (length (file_of ed (contents t))) (length xs) ≡ false = lt-leb (length (file_of ed (contents t))) (length xs) (omega (arith, size)) in
          record { answer = rw (may, f) refl; size = rw (may, f) refl; buffer = rw (may, f) refl }

      module _ {a ys : List ℕ} (h : n ≤ length xs) (ea : a ≡ sets xs 0 (header_bytes ed (record { header = t.header; rows = rows }))) (ey : ys ≡ sets a header_size (rows_bytes ed rows)) where
        stored : ys ≡ file_of ed (contents t) ++ drop (length (file_of ed (contents t))) xs
        unfolding file_of
        stored =
            let all : ys ≡ sets xs 0 (file_of ed (contents t)) = ey ∙ sets_next (header_bytes ed (record { header = t.header; rows = rows })) (rows_bytes ed rows) xs ea (sym (header_length ed (record { header = t.header; rows = rows }))) ∙ rw er refl in
            all ∙ sets_front (file_of ed (contents t)) xs (omega (arith, size))

        written : Writes ed t xs ys (Ok n)
        unfolding write_check
        written =
            let f : leb (length (file_of ed (contents t))) (length xs) ≡ true = le-leb (length (file_of ed (contents t))) (length xs) (omega (arith, size)) in
            record { answer = rw (may, f) refl; size = rw (may, f) size; buffer = rw (may, f) stored }

-- the rows in use are those of the places below the count
used : (t : Table) → length t.rows ≡ 32 → ranged (contents t) ≡ accepted → take t.count t.rows ≡ rows_of t
used t long e = sym (law.rows_are t (omega (arith, long, few t e)))

used_few : (t : Table) → length t.rows ≡ 32 → ranged (contents t) ≡ accepted → length (take t.count t.rows) ≤ most_rows
used_few t long e = rw (used t long e, law.rows_length t) (few t e)

pub returns-in_err-ranges : goal.returns-in_err-ranges
returns-in_err-ranges c = by-range _ _ _ c.from_residual.result _ c.from_residual.ensures.1 (told _ c.ranges-2.ensures c.in_err-ranges.was)

pub shared_ref_as_front-rows : goal.shared_ref_as_front-rows
shared_ref_as_front-rows c = few _ (told _ c.ranges-2.ensures c.in_ok-ranges.was)

pub returns-in-Some : goal.returns-in-Some
returns-in-Some c =
    let e = told _ c.ranges-2.ensures c.in_ok-ranges.was in
    by_tag _ _ _ e (used c.args.t (places c.args.t _ c.well_formed.1.0) e) (law.found_at (allows c.args.edition) _ _ (sym c.barred.ensures ∙ c.in-Some.is))

pub rows_size-size-requires : goal.rows_size-size-requires
rows_size-size-requires c =
    used_few c.args.t (places c.args.t _ c.well_formed.1.0) (told _ c.ranges-2.ensures c.in_ok-ranges.was)

pub returns-then-out-size : goal.returns-then-out-size
returns-then-out-size c =
    let e = told _ c.ranges-2.ensures c.in_ok-ranges.was in
    too_short _ _ _ e (used c.args.t (places c.args.t _ c.well_formed.1.0) e) (law.none_found (allows c.args.edition) _ (sym c.barred.ensures ∙ c.in_default.is)) {n = header_size + c.rows_size-size.result} (omega arith) (omega arith)

pub returns : goal.returns
returns c =
    let e = told _ c.ranges-2.ensures c.in_ok-ranges.was in
    written _ _ _ e (used c.args.t (places c.args.t _ c.well_formed.1.0) e) (law.none_found (allows c.args.edition) _ (sym c.barred.ensures ∙ c.in_default.is)) (omega arith) (omega arith) c.write_header.ensures c.write_rows.ensures
