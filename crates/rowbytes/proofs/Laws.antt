-- What the crates above may cite.
pub use Rattle.rowbytes.proofs.Fields.{both, bits_back, bits_fits, bits_same, bits_small, second, to_second, row_wide, row_words_lem, row_back, row_fits_lem, row_same, row_small}
