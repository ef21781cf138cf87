-- Definitions of design_order: loops, and what the listing keeps.
pub mod Held
pub mod Loop
pub mod Pending
pub mod Popped
pub mod Progress
pub mod Readers
pub mod Walk
