-- The limits of decisions that options name.
use Rattle.std.specs.Prelude.{Option, codes}
use Rattle.base_line.specs.Line.{Text}
use Rattle.law_model.specs.declared.limits.Limits.{Limits}
use Rattle.cmd_words.specs.Words.{IsCount, IsSourceCount}

-- The clauses of a search, 1,000 where none are named, and the sources of which all fillings are tried.
pub record AreLimitsOf (option : Text → Option Text) (limits : Limits) : Type 0 where
  pub conflicts : IsCount (option (codes "conflicts")) 1000 100000 limits.conflicts
  pub enumerated : IsSourceCount (option (codes "enumerate")) limits.enumerated
