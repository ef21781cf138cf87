-- Definitions of waves.
pub mod Contents
pub mod Advance
pub mod Kept
pub mod Token
pub mod Pairs
pub mod Shown
pub mod Laws
pub mod Row
