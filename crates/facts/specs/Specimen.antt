-- Document 01's specimen port: what its table says, the table record that its file is read into, and the file's bytes; and the same with two rows that name a sample rate.
-- Behind it the tables of C-12: a deadline longer than the period, and rows whose frames fill a class queue; one of C-15, with small frames; and of C-16 an AVB2 file with tagged rows.
use Rattle.std.specs.Prelude.{ℕ, true, false, List, [], ◌∷◌, ◌++◌, replicate}
use Rattle.table.specs.declared.Class.{Class}
use Rattle.table.specs.declared.Class.TheVariants.{A, B}
use Rattle.table.specs.declared.Pace.TheVariants.{Period, Rated}
use Rattle.table.specs.declared.Row.{Row}
use Rattle.table.specs.declared.Header.{Header}
use Rattle.table.specs.declared.Table.{Table}
use Rattle.table.specs.Rows.{no_row, Contents}

abbrev pub specimen_header : Header
specimen_header = record { idlea = 250000; idleb = 200000; payload = 1500 }

abbrev pub row_a : Row
row_a = record { class = A; tagged = false; payload = 58; pace = Period 15625; deadline = 15625 }

abbrev pub row_b : Row
row_b = record { class = B; tagged = false; payload = 458; pace = Period 31250; deadline = 31250 }

-- C-15: a row that joins, with longer frames than the specimen's other rows of class A.
abbrev pub row_long : Row
row_long = record { class = A; tagged = false; payload = 458; pace = Period 31250; deadline = 31250 }

-- The specimen with a given deadline for row 1.
abbrev pub specimen_with : ℕ → Contents
specimen_with d =
    record {
      header = specimen_header;
      rows = row_a ∷ record { class = A; tagged = false; payload = 258; pace = Period 15625; deadline = d } ∷ row_b ∷ [];
    }

abbrev pub specimen : Contents
specimen = specimen_with 6000

-- Its record: three rows in 32 places, zeros behind them.
abbrev pub specimen_table : Table
specimen_table = record { header = specimen.header; count = 3; rows = specimen.rows ++ replicate 29 no_row }

-- Its file, 28 bytes: the letters, IA, IB, the best-effort payload and the row count; a row a line.
abbrev pub specimen_bytes : List ℕ
specimen_bytes =
    0x41 ∷ 0x56 ∷ 0x42 ∷ 0x31
    ∷ 0x00 ∷ 0x03 ∷ 0xD0 ∷ 0x90
    ∷ 0x00 ∷ 0x03 ∷ 0x0D ∷ 0x40
    ∷ 0x05 ∷ 0xDC
    ∷ 0x03
    ∷ 0x01 ∷ 0x00 ∷ 0x3A
    ∷ 0x05 ∷ 0x01 ∷ 0x02 ∷ 0x00 ∷ 0x00 ∷ 0x17 ∷ 0x70
    ∷ 0x81 ∷ 0x01 ∷ 0xCA
    ∷ []

-- The specimen with six samples a frame in rows 0 and 1, at 44,100 Hz and at 48,000: the period of row 1 is its class's default, and yet it is rated.
abbrev pub sampled : Contents
sampled =
    record {
      header = specimen_header;
      rows = record { class = A; tagged = false; payload = 58; pace = Rated 6 44100; deadline = 17006 } ∷ record { class = A; tagged = false; payload = 258; pace = Rated 6 48000; deadline = 6000 } ∷ row_b ∷ [];
    }

abbrev pub sampled_table : Table
sampled_table = record { header = specimen_header; count = 3; rows = sampled.rows ++ replicate 29 no_row }

-- Its file, 38 bytes: behind payload and deadline rate and samples.
abbrev pub sampled_bytes : List ℕ
sampled_bytes =
    0x41 ∷ 0x56 ∷ 0x42 ∷ 0x31
    ∷ 0x00 ∷ 0x03 ∷ 0xD0 ∷ 0x90
    ∷ 0x00 ∷ 0x03 ∷ 0x0D ∷ 0x40
    ∷ 0x05 ∷ 0xDC
    ∷ 0x03
    ∷ 0x09 ∷ 0x00 ∷ 0x3A ∷ 0x00 ∷ 0x00 ∷ 0xAC ∷ 0x44 ∷ 0x06
    ∷ 0x0D ∷ 0x01 ∷ 0x02 ∷ 0x00 ∷ 0x00 ∷ 0x17 ∷ 0x70 ∷ 0x00 ∷ 0x00 ∷ 0xBB ∷ 0x80 ∷ 0x06
    ∷ 0x81 ∷ 0x01 ∷ 0xCA
    ∷ []

-- C-12: one row, a frame every 120 byte-times, with a deadline of four periods; its bound is above three.
abbrev pub often_row : Row
often_row = record { class = A; tagged = false; payload = 42; pace = Period 120; deadline = 480 }

-- With a given best-effort payload.
abbrev pub often_with : ℕ → Contents
often_with best = record { header = record { idlea = 750000; idleb = 0; payload = best }; rows = often_row ∷ [] }

abbrev pub often : Contents
often = often_with 320

abbrev pub often_table : Table
often_table = record { header = often.header; count = 1; rows = often.rows ++ replicate 31 no_row }

-- Its file, 24 bytes: the row states period and deadline.
abbrev pub often_bytes : List ℕ
often_bytes =
    0x41 ∷ 0x56 ∷ 0x42 ∷ 0x31
    ∷ 0x00 ∷ 0x0B ∷ 0x71 ∷ 0xB0
    ∷ 0x00 ∷ 0x00 ∷ 0x00 ∷ 0x00
    ∷ 0x01 ∷ 0x40
    ∷ 0x01
    ∷ 0x06 ∷ 0x00 ∷ 0x00 ∷ 0x00 ∷ 0x78 ∷ 0x00 ∷ 0x00 ∷ 0x01 ∷ 0xE0
    ∷ []

-- A row that seldom has a frame.
abbrev pub seldom : Class → ℕ → Row
seldom c payload = record { class = c; tagged = false; payload = payload; pace = Period 1000000; deadline = 1000000 }

-- C-12: one class alone, whose first row has a frame every 120 byte-times and three neighbours with long frames; with a given best-effort payload, and a given deadline for row 0.
abbrev pub slopes_of : Class → ℕ → Header
slopes_of A best = record { idlea = 750000; idleb = 0; payload = best }
slopes_of B best = record { idlea = 0; idleb = 750000; payload = best }

abbrev pub crowded : Class → (best deadline : ℕ) → Contents
crowded c best d =
    record {
      header = slopes_of c best;
      rows = record { class = c; tagged = false; payload = 42; pace = Period 120; deadline = d } ∷ replicate 3 (seldom c 1300);
    }

-- C-15: two rows of A and one of B, all with the smallest frames.
abbrev pub small : Contents
small = record { header = record { idlea = 400000; idleb = 300000; payload = 0 }; rows = seldom A 0 ∷ seldom A 0 ∷ seldom B 0 ∷ [] }

-- C-16: two rows whose frames carry a redundancy tag.
abbrev pub tagged_row : Row
tagged_row = record { class = A; tagged = true; payload = 58; pace = Period 15625; deadline = 6000 }

abbrev pub tagged : Contents
tagged = record { header = specimen_header; rows = tagged_row ∷ record { class = B; tagged = true; payload = 36; pace = Period 31250; deadline = 20000 } ∷ [] }

abbrev pub tagged_table : Table
tagged_table = record { header = specimen_header; count = 2; rows = tagged.rows ++ replicate 30 no_row }

-- Its file, 27 bytes: both rows state their deadline, and the second has the default payload.
abbrev pub tagged_bytes : List ℕ
tagged_bytes =
    0x41 ∷ 0x56 ∷ 0x42 ∷ 0x32
    ∷ 0x00 ∷ 0x03 ∷ 0xD0 ∷ 0x90
    ∷ 0x00 ∷ 0x03 ∷ 0x0D ∷ 0x40
    ∷ 0x05 ∷ 0xDC
    ∷ 0x02
    ∷ 0x15 ∷ 0x00 ∷ 0x3A ∷ 0x00 ∷ 0x00 ∷ 0x17 ∷ 0x70
    ∷ 0x94 ∷ 0x00 ∷ 0x00 ∷ 0x4E ∷ 0x20
    ∷ []

-- Behind a row without a tag two that have one.
abbrev pub tagged_later : Contents
tagged_later = record { header = specimen_header; rows = row_a ∷ tagged.rows }
