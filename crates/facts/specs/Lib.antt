-- Document 01's specimen port and its table of facts, the facts of rows that name a sample rate, those of deadlines longer than the period (C-12), of the gap behind a report (C-13), and of rows that join and leave (C-15).
pub mod Specimen
pub mod Facts
