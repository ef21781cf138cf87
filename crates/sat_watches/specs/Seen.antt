-- What an analysis met.
use Rattle.std.specs.Prelude.{ℕ, ◌++◌, Bool, true, false, List, [], ◌∷◌, replicate, slice_set}
use Rattle.std.specs.List.{fold}
use Rattle.sat_watches.specs.declared.literal.Literal.{Literal}
use Rattle.sat_watches.specs.declared.literal.Variable.{Variable}

-- For each variable whether it was met, those that were, and the literals of the clause.
pub record SeenView : Type 0 where
  pub flags : List Bool
  pub met : List Variable
  pub clause : List Literal

-- So many variables, that weren't met, and an empty clause.
abbrev pub none_met : ℕ → SeenView
none_met vars = record { flags = replicate vars false; met = []; clause = [] }

-- The flags with those of some variables put back.
abbrev pub put_back : List Bool → List Variable → List Bool
put_back flags variables = fold (λ left variable. slice_set left variable.number false) flags variables

-- The flags of the variables that were met are put back, and the clause is empty.
abbrev pub forgotten : SeenView → SeenView
forgotten old = record { flags = put_back old.flags old.met; met = []; clause = [] }

-- The variable is met, and its flag says so.
abbrev pub with_met : SeenView → Variable → SeenView
with_met old variable = record old {
  flags = slice_set old.flags variable.number true;
  met = old.met ++ variable ∷ [];
}
