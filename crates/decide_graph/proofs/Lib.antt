-- Lemmas on essential arguments, tables, sets of places and graphs.
pub mod FallingPlaces
mod HeapPlaces
mod NotedPlaces
pub mod EssentialBits
pub mod NumberBits
pub mod RisingLists
pub mod GraphBits
pub mod GraphCones
pub mod GrownGraphs
pub mod KeptLists
pub mod Parts
pub mod PickedNodes
pub mod ReachedCones
pub mod ReadNodes
pub mod TurnedTables
pub mod Rising
pub mod TakenNodes
