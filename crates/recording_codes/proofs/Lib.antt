-- Lemmas of recording_codes: lists of codes, places in the table, columns, and what is known after a new code.
pub mod Numbers
pub mod Places
pub mod Rows
pub mod Tables
