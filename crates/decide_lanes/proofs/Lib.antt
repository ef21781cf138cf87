-- Lemmas on lanes.
pub mod CoveredLanes
pub mod EqualCones
pub mod EqualNodes
pub mod GraphNodes
pub mod GrownLanes
pub mod LanePairs
pub mod RootedPlaces
pub mod SharedLanes
pub mod SharedTables
