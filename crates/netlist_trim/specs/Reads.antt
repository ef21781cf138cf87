-- What is read of the tokens that are left.
use Rattle.std.specs.Prelude.{Vec, ◌≡◌, ℕ, List, [], ◌∷◌, ◌++◌, Option, Some, None, Result, Ok, Err}
use Rattle.std.specs.declared.alloc.Global.{Global}
use Rattle.netlist_tokens.specs.declared.token.LexErr.{LexErr}
use Rattle.netlist_trim.specs.Shown.{Shown, Stream, seen}
use Rattle.netlist_trim.specs.declared.spelled.Spelled.{Spelled}
use Rattle.netlist_trim.specs.Definition.{Defined, Defines, Unclosed, closes}
use Rattle.netlist_trim.specs.Definition.{definition_of, from_first, mentions, opens, up_to_first}
use Rattle.netlist_trim.specs.declared.fault.TrimErr.{TrimErr}
use Rattle.netlist_trim.specs.declared.fault.TrimErr.TheVariants.{Refused, Memory}
use Rattle.netlist_trim.specs.declared.fault.TrimFault.TheVariants.{Token, Open, NoTop}

-- The first word that opens a definition is taken, with all before it.
abbrev pub Opens : Stream → Result (Option Spelled) LexErr → Stream → Type 0
Opens old (Ok (Some t)) new = (from_first opens old.tokens ≡ seen t ∷ new.tokens) × (new.fault ≡ old.fault)
Opens old (Ok None) new = (from_first opens old.tokens ≡ []) × (old.fault ≡ None)
Opens old (Err e) new = old.fault ≡ Some e

-- Why a definition that opens here isn't read: a fault, or it isn't closed.
abbrev pub Stays : Shown → Stream → Type 0 → TrimErr → Type 0
Stays opening old Unended (Refused (Token e)) = old.fault ≡ Some e
Stays opening old Unended (Refused (Open at)) = (old.fault ≡ None) × (at ≡ opening.token.start) × Unended
Stays opening old Unended (Refused (NoTop name)) = ⊥
Stays opening old Unended Memory = Unit {0}

-- What stands within a definition is taken, with the word that closes it: where it ends, and which names are mentioned.
pub record Closes (opening name : Shown) (old : Stream) (to : ℕ) (before after : List (List ℕ)) (new : Stream)
    : Type 0 where
  pub close : Shown
  pub at : from_first (closes opening) old.tokens ≡ close ∷ new.tokens
  pub is : to ≡ close.token.«end»
  pub names : after ≡ before ++ mentions opening name (up_to_first (closes opening) old.tokens)
  pub fault : new.fault ≡ old.fault

abbrev pub ReadsBody : Shown → Shown → Stream → Result ℕ TrimErr → List (List ℕ) → List (List ℕ) → Stream → Type 0
ReadsBody opening name old (Ok to) before after new = Closes opening name old to before after new
ReadsBody opening name old (Err e) before after new =
    Stays opening old (from_first (closes opening) old.tokens ≡ []) e

-- A definition is taken, after the word that opens it.
pub record IsDefinition (opening : Shown) (old : Stream) (d : Defined) (new : Stream) : Type 0 where
  pub name : Shown
  pub within : List Shown
  pub close : Shown
  pub named : old.tokens ≡ name ∷ within
  pub at : from_first (closes opening) within ≡ close ∷ new.tokens
  pub is : d ≡ definition_of opening name (up_to_first (closes opening) within) close
  pub fault : new.fault ≡ old.fault

-- It has no name, or nothing closes it.
abbrev pub IsUnended : Shown → List Shown → Type 0
IsUnended opening [] = Unit {0}
IsUnended opening (name ∷ within) = from_first (closes opening) within ≡ []

abbrev pub ReadsDefinition : Shown → Stream → Result Defined TrimErr → Stream → Type 0
ReadsDefinition opening old (Ok d) new = IsDefinition opening old d new
ReadsDefinition opening old (Err e) new = Stays opening old (IsUnended opening old.tokens) e

-- All is read: what the tokens define, or why they define nothing.
abbrev pub ReadsAll : Stream → Result (Vec Defined Global) TrimErr → Type 0
ReadsAll old (Ok ds) = (old.fault ≡ None) × Defines old.tokens ds.items
ReadsAll old (Err (Refused (Token e))) = old.fault ≡ Some e
ReadsAll old (Err (Refused (Open at))) = (old.fault ≡ None) × Unclosed old.tokens at
ReadsAll old (Err (Refused (NoTop name))) = ⊥
ReadsAll old (Err Memory) = Unit {0}
