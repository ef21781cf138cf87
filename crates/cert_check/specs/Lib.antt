-- Definitions of checked certificates, and those of turns and conditions that their clauses cite.
pub mod Entries
pub mod Walk
pub mod Checked
pub mod Step
pub mod Standing
pub mod Laws
pub mod Words
pub use Rattle.cert_turns.specs.View
pub use Rattle.cert_turns.specs.Conditions
pub use Rattle.cert_turns.specs.TurnLines
