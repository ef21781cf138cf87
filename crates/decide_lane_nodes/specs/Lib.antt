-- Definitions of nodes and literals.
pub mod Covered
pub mod Given
pub mod InWave
pub mod Joined
pub mod Lists
pub mod Literal
pub mod Made
pub mod Nodes
pub mod Union
pub mod Rows
