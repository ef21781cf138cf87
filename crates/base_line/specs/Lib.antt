-- Definitions of lines of options.
pub mod Apart
pub mod Line
pub mod Read
pub mod Tables
pub mod Told
