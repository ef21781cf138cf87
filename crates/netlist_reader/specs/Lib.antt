-- What a reader of netlists has before it, and what its functions do to it.
pub mod Groups
pub mod Shown
pub mod Ahead
pub mod Reads
pub mod Sizes
