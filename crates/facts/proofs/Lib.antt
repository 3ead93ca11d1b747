pub mod TableOfFacts
