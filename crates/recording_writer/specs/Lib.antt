-- Definitions of recording_writer: the text of the repaired recording.
pub mod Code
pub mod Declarations
pub mod Laws
pub mod Moments
pub mod Readers
pub mod Rows
pub mod Steps
pub mod Text
