-- Definitions of recording_reader: which text is a recording of what (IEEE 1364-2005, clause 18).
pub mod Bytes
pub mod Changes
pub mod Declarations
pub mod Faults
pub mod Kinds
pub mod Machine
pub mod Naming
pub mod Reading
pub mod Recording
pub mod RecordingFault
pub mod Scopes
pub mod Trees
pub mod Words
