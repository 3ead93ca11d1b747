-- The header's bytes, there and back.
use Prim.Native.Nat.{ℕ, suc, ◌+◌, ◌≤◌, ◌<◌}
use mathlib.Core.Bool.{true, ◌&&◌}
use mathlib.Core.List.{List, [], ◌∷◌, ◌++◌}
use mathlib.Core.Path.{◌≡◌, refl, ◌∙◌, ap}
use native.Mathlib.Omega.{arith}
use lib.Dec.{leb, eqb}
use lib.ListN.{length, get_or, drop}
use lib.Seq.{drop-cons}
use borrow.Author.Tests.{eqb-true, eq-eqb, leb-true, le-leb}
use Rattle.table.specs.declared.Row.{Row}
use Rattle.table.specs.Limits.{most_rows, most_slope, most_payload}
use Rattle.table.specs.Rows.{Contents}
use Rattle.table.specs.Checks.{accepted}
use Rattle.table.specs.Ranges.{Ranges}
use Rattle.tablefile.specs.declared.Edition.{Edition}
use Rattle.tablefile.specs.Layout.{last_letter, letters, header_size, value_at, bytes_of}
use Rattle.tablefile.specs.Reading.{opens, header_of, row_count, header_checks, header}
use Rattle.tablefile.specs.Writing.{header_bytes}
use Rattle.tablefile.specs.RoundTrip.{Bytes}
use Rattle.tablefile.proofs.FieldTrip.{value_back, bytes_at}
use Rattle.table.proofs.Laws as law

-- ---- what it says of a list that its header is accepted
pub record Heads (ed : Edition) (s : List ℕ) : Type 0 where
  pub long : header_size ≤ length s
  pub letters : opens ed s ≡ true
  pub idlea : (header_of s).idlea ≤ most_slope
  pub idleb : (header_of s).idleb ≤ most_slope
  pub payload : (header_of s).payload ≤ most_payload
  pub some : 1 ≤ row_count s
  pub most : row_count s ≤ most_rows

pub header_if : (ed : Edition) (s : List ℕ) → header ed s ≡ accepted → Heads ed s
unfolding header
header_if ed s e =
    let x = law.all_accept (header_checks ed s) e in
    let count = law.and-true (leb 1 (row_count s)) (leb (row_count s) most_rows) (law.unless_passes _ 3 14 x.1.1.1.1.1.0) in
    record {
      long = leb-true header_size (length s) (law.unless_passes _ 1 0 x.0);
      letters = law.unless_passes (opens ed s) 2 0 x.1.0;
      idlea = leb-true _ most_slope (law.unless_passes (leb (header_of s).idlea most_slope) 5 4 x.1.1.0);
      idleb = leb-true _ most_slope (law.unless_passes (leb (header_of s).idleb most_slope) 5 8 x.1.1.1.0);
      payload = leb-true _ most_payload (law.unless_passes (leb (header_of s).payload most_payload) 5 12 x.1.1.1.1.0);
      some = leb-true 1 (row_count s) count.0;
      most = leb-true (row_count s) most_rows count.1;
    }

header_only_if : (ed : Edition) (s : List ℕ) → Heads ed s → header ed s ≡ accepted
unfolding header
header_only_if ed s h =
    rw (
      le-leb header_size (length s) h.long,
      h.letters,
      le-leb (header_of s).idlea most_slope h.idlea,
      le-leb (header_of s).idleb most_slope h.idleb,
      le-leb (header_of s).payload most_payload h.payload,
      le-leb 1 (row_count s) h.some,
      le-leb (row_count s) most_rows h.most,
    )
    refl

-- ---- a table's header reads as its header values, whatever follows
module _ (ed : Edition) (t : Contents) (rest : List ℕ) where
  pub count_back : row_count (header_bytes ed t ++ rest) ≡ length t.rows
  unfolding header_bytes bytes_of
  count_back = refl

  pub rest_back : drop header_size (header_bytes ed t ++ rest) ≡ rest
  unfolding header_bytes bytes_of
  rest_back = refl

  pub header_length : length (header_bytes ed t ++ rest) ≡ header_size + length rest
  unfolding header_bytes bytes_of
  header_length = omega arith

  letters_back : opens ed (header_bytes ed t ++ rest) ≡ true
  unfolding header_bytes opens
  letters_back = rw (eq-eqb (last_letter ed) (last_letter ed) refl) refl

  module _ (g : Ranges t) where
    idlea_back : value_at 4 (header_bytes ed t ++ rest) 4 ≡ t.header.idlea
    unfolding header_bytes bytes_of
    idlea_back = value_back 4 t.header.idlea (header_bytes ed t ++ rest) 4 (drop 8 (header_bytes ed t ++ rest)) (omega (arith, g.idlea)) refl

    idleb_back : value_at 4 (header_bytes ed t ++ rest) 8 ≡ t.header.idleb
    unfolding header_bytes bytes_of
    idleb_back = value_back 4 t.header.idleb (header_bytes ed t ++ rest) 8 (drop 12 (header_bytes ed t ++ rest)) (omega (arith, g.idleb)) refl

    payload_back : value_at 2 (header_bytes ed t ++ rest) 12 ≡ t.header.payload
    unfolding header_bytes bytes_of
    payload_back = value_back 2 t.header.payload (header_bytes ed t ++ rest) 12 (drop 14 (header_bytes ed t ++ rest)) (omega (arith, g.best)) refl

    pub values_back : header_of (header_bytes ed t ++ rest) ≡ t.header
    values_back = rw (idlea_back, idleb_back, payload_back) refl

    pub header_back : header ed (header_bytes ed t ++ rest) ≡ accepted
    header_back =
        header_only_if ed (header_bytes ed t ++ rest)
        (record {
          long = omega (arith, header_length);
          letters = letters_back;
          idlea = rw idlea_back g.idlea;
          idleb = rw idleb_back g.idleb;
          payload = rw payload_back g.best;
          some = rw count_back g.some;
          most = rw count_back g.most;
        })

-- ---- bytes whose header is accepted open with the header of their table
before : (p : List ℕ) {x y z : List ℕ} → x ≡ p ++ y → y ≡ z → x ≡ p ++ z
before p e f = e ∙ ap (λ q. p ++ q) f

letter_at : (s : List ℕ) (i c : ℕ) → i < length s → eqb (get_or s i 0) c ≡ true → drop i s ≡ (c ∷ []) ++ drop (suc i) s
letter_at s i c h e = drop-cons s i 0 h ∙ ap (λ x. x ∷ drop (suc i) s) (eqb-true (get_or s i 0) c e)

letters_at : (ed : Edition) (s : List ℕ) → Heads ed s → s ≡ letters ed ++ drop 4 s
unfolding opens
letters_at ed s h =
    let x = law.and-true (eqb (get_or s 0 0) 65 && eqb (get_or s 1 0) 86) (eqb (get_or s 2 0) 66 && eqb (get_or s 3 0) (last_letter ed)) h.letters in
    let front = law.and-true (eqb (get_or s 0 0) 65) (eqb (get_or s 1 0) 86) x.0 in
    let back = law.and-true (eqb (get_or s 2 0) 66) (eqb (get_or s 3 0) (last_letter ed)) x.1 in
    before (65 ∷ []) (letter_at s 0 65 (omega (arith, h.long)) front.0)
    (before (86 ∷ []) (letter_at s 1 86 (omega (arith, h.long)) front.1)
    (before (66 ∷ []) (letter_at s 2 66 (omega (arith, h.long)) back.0)
    (letter_at s 3 (last_letter ed) (omega (arith, h.long)) back.1)))

pub header_of_lem : (ed : Edition) (s : List ℕ) (rs : List Row) → Bytes s → Heads ed s → length rs ≡ row_count s → s ≡ header_bytes ed (record { header = header_of s; rows = rs }) ++ drop header_size s
unfolding header_bytes bytes_of
header_of_lem ed s rs b h e =
    rw e
    (before (letters ed) (letters_at ed s h)
    (before (bytes_of 4 (value_at 4 s 4)) (bytes_at 4 s 4 b (omega (arith, h.long)))
    (before (bytes_of 4 (value_at 4 s 8)) (bytes_at 4 s 8 b (omega (arith, h.long)))
    (before (bytes_of 2 (value_at 2 s 12)) (bytes_at 2 s 12 b (omega (arith, h.long)))
    (drop-cons s 14 0 h.long)))))
