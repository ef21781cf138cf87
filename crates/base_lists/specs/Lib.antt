-- Definitions of base_lists.
pub mod Text
