-- Definitions of base_trace.
pub mod Record
