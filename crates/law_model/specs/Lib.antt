-- Definitions of waveforms.
pub mod Places
pub mod Assignment
pub mod Class
pub mod Root
pub mod Cone
pub mod Query
pub mod Stated
pub mod Line
pub mod Yields
pub mod Sound
pub mod Growth
pub mod Laws
pub mod Mask
pub mod Node
pub mod WorkedClasses
pub mod WorkedRegisters
pub mod WorkedMultiplexer
