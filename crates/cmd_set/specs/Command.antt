-- What a command is, once for all, and the words that stand for one of its runs.
use Rattle.std.specs.Prelude.{◌≡◌, ℕ, Bool, IsTrue, List, [], ◌∷◌, Option, Some, None, map, string_bytes}
use Rattle.std.specs.Prelude.{option_map}
use Rattle.base_line.specs.declared.option.Opt.{Opt}
use Rattle.base_line.specs.Line.{IsLine, Item, Text, given}
use Rattle.base_line.specs.Read.{options_by}
use Rattle.base_line.specs.Tables.{Plain, plain}
use Rattle.base_shelf.specs.Shelf.{Files}
use Rattle.base_run.specs.Phases.{Answer, Phases}
use Rattle.cmd_set.specs.declared.inputs.Inputs.{Inputs}

pub record Command (C : Type 0) : Type 1 where
  pub word : Text
  pub table : List Plain
  pub has_files : Bool
  -- What its words name, and the FILEs among it.
  pub Values : Type 0
  pub files : Values → List Text
  -- The options give these values.
  pub Gives : (Text → Option Text) → Values → Type 0
  -- The files that it reads, and the most bytes that the longest of them may have.
  pub inputs : Values → List Text
  pub most : ℕ
  pub phases : Values → Phases Answer C
  -- The texts that the files hold are in order, and so aren't refused.
  pub InOrder : Files → Values → Type 0
  -- What its answer says of the texts that the files hold, and what a refusal of them does.
  pub Says : Files → Values → Answer → Type 0
  pub Fails : Files → Values → C → Type 0

-- The words after the command are a line of its options, and give these values.
pub record IsLineOf {C : Type 0} (c : Command C) (rest : List Text) (v : c.Values) : Type 0 where
  pub items : List Item
  pub options : List Opt
  pub table : map plain options ≡ c.table
  pub line : IsLine options c.has_files rest items (c.files v)
  pub gives : c.Gives (options_by (given items)) v

-- They give none.
abbrev pub IsNoLineOf : {C : Type 0} → Command C → List Text → Type 0
IsNoLineOf c rest = (v : c.Values) → IsLineOf c rest v → ⊥

-- The shelf reports what the files hold that a command reads: it reports all; or none is read.
abbrev pub ReportsInputs : List Text → Bool → Type 0
ReportsInputs [] told = Unit {0}
ReportsInputs (_ ∷ _) told = IsTrue told

-- ---- the files that a command reads

abbrev pub put_name : Option Text → List Text → List Text
put_name None names = names
put_name (Some name) names = name ∷ names

abbrev pub names_of : Inputs → List Text
names_of inputs =
    put_name (option_map (λ s. s.now) inputs.first) (put_name (option_map (λ s. s.now) inputs.second)
    (map string_bytes inputs.rest.now))

-- The words after the command are a line of it, by which it reads these.
pub record HasInputs {C : Type 0} (c : Command C) (rest : List Text) (inputs : Inputs) : Type 0 where
  pub values : c.Values
  pub line : IsLineOf c rest values
  pub names : names_of inputs ≡ c.inputs values
  pub most : inputs.most ≡ c.most

-- By these words it reads these, or none where they are no line of it.
abbrev pub AreInputs : {C : Type 0} → Command C → List Text → Option Inputs → Type 0
AreInputs c rest None = IsNoLineOf c rest
AreInputs c rest (Some inputs) = HasInputs c rest inputs
