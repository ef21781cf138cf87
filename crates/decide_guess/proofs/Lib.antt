-- Lemmas on guesses.
mod SourceBits
