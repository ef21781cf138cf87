-- Definitions of elab_joins.
pub mod Connect
pub mod Joined
