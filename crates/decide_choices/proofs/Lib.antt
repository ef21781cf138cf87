-- Laws of choices by numbers.
pub mod TableHalves
pub mod AddedChoices
pub mod AgreedTables
pub mod ChoiceBits
pub mod EmptyTables
pub mod ForcedHalves
pub mod JoinedChoices
