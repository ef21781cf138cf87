-- Lemmas on tables over sources.
pub mod KeptBlocks
pub mod ListedPlaces
pub mod OtherNumbers
pub mod ReachedNodes
pub mod RightTables
