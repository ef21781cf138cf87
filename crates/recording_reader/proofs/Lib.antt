-- Lemmas of recording_reader: words, numbers, codes, scopes, the first fault of a text, and where it declares its variables.
pub mod Changing
pub mod DeclarationWords
pub mod Firsts
pub mod Found
pub mod Innermost
pub mod Kept
pub mod Paths
pub mod Scanned
