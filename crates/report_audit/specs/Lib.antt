-- Definitions of an audit: where a replay knows what isn't so.
pub mod Listed
pub mod Row
pub mod Found
pub mod First
pub mod Groups
pub mod Counted
pub mod Seen
