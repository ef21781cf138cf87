-- Lemmas on waves.
pub mod FoundLines
mod GoingRuns
mod LineGrowth
mod NextClass
pub mod NextLines
mod OneWave
mod RootPlaces
mod WaveGrowth
mod WalkedWaves
mod Ways
