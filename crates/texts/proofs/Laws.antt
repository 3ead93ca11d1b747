-- What the crates above may cite.
pub use Rattle.texts.proofs.Texts.{within, same_text, text_put, number_put, answer_put, then, at_most, whole_text, whole_length, decimal_short, line_short}
