-- Lemmas on whole worlds.
mod Filled
mod Reading
