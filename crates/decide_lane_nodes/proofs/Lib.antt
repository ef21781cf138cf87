-- Lemmas on nodes and literals.
pub mod ArgumentRoots
pub mod KeptLiterals
pub mod GoingRows
pub mod LiteralBits
pub mod LiteralSources
pub mod NearPlaces
pub mod NodeLists
pub mod SpanLists
pub mod Unions
pub mod WorkedLanes
