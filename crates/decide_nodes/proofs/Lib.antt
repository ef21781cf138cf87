-- Lemmas on the nodes of cones.
pub mod ChosenLanes
pub mod ConeBits
pub mod ConeLaws
pub mod EachLane
pub mod LaneTables
pub mod ListedPlaces
pub mod ListedSpots
pub mod NodeSources
pub mod NodeWorlds
pub mod PickedLists
pub mod RisingNumbers
