-- Laws of queries over nodes.
pub mod ConeLiterals
pub mod EarlyClauses
pub mod GrownLists
pub mod MadeQueries
pub mod ModelFillings
pub mod NameMatches
pub mod NextAnswers
pub mod NodeLiterals
pub mod OnceLists
pub mod PutLiterals
pub mod QueryClauses
pub mod SameCones
