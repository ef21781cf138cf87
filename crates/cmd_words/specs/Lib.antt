-- Definitions of the words of a job.
pub mod Forms
pub mod Words
