-- Definitions of walks over a waveform by what is due.
pub mod Sources
pub mod Walk
pub mod OfQuiet
pub mod OfWaveBytes
