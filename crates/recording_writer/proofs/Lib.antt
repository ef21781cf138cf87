-- Lemmas of recording_writer: texts that grow line by line, what isn't due, steps within a history, and histories of one text.
pub mod Grown
pub mod Marks
pub mod OneText
pub mod Places
