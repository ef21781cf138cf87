-- What a text comes to, with a top: the definitions that the top needs, or the first reason why there are none.
use Rattle.std.specs.Prelude.{Vec, ◌≡◌, ℕ, List, [], ◌∷◌, ◌++◌, Some, None, Result, Ok, Err, slice_range}
use Rattle.std.specs.declared.alloc.Global.{Global}
use Rattle.netlist_trim.specs.Shown.{IsStream, Stream}
use Rattle.netlist_trim.specs.Definition.{Defined, Defines, Unclosed}
use Rattle.netlist_trim.specs.Needed.{Needed, first_named}
use Rattle.netlist_trim.specs.declared.fault.TrimFault.{TrimFault}
use Rattle.netlist_trim.specs.declared.fault.TrimFault.TheVariants.{Token, Open, NoTop}
use Rattle.netlist_trim.specs.declared.fault.TrimErr.{TrimErr}
use Rattle.netlist_trim.specs.declared.fault.TrimErr.TheVariants.{Refused, Memory}

-- The bytes of a definition, and a newline.
abbrev pub copy_of : List ℕ → Defined → List ℕ
copy_of text d = slice_range text d.start d.«end» ++ 10 ∷ []

-- Of these definitions, those whose name the top needs are kept in their order, each byte for byte.
pub data Keeps (text : List ℕ) (all : List Defined) (top : List ℕ) : List Defined → List ℕ → Type 0 where
  none : Keeps text all top [] []
  kept : {d : Defined} {ds : List Defined} {out : List ℕ} → Needed all top d.name → Keeps text all top ds out
      → Keeps text all top (d ∷ ds) (copy_of text d ++ out)
  dropped : {d : Defined} {ds : List Defined} {out : List ℕ} → (Needed all top d.name → ⊥)
      → Keeps text all top ds out → Keeps text all top (d ∷ ds) out

-- The text defines these, and has no fault.
pub record IsDefined (text : List ℕ) (ds : List Defined) : Type 0 where
  pub stream : Stream
  pub told : IsStream text stream
  pub whole : stream.fault ≡ None
  pub defined : Defines stream.tokens ds

-- The definitions of the text that the top needs; there is one of the top's name.
pub record IsTrimmed (text top out : List ℕ) : Type 0 where
  pub definitions : List Defined
  pub are : IsDefined text definitions
  pub number : ℕ
  pub there : first_named definitions top ≡ Some number
  pub kept : Keeps text definitions top definitions out

-- A byte begins no token; or a definition isn't closed, and all bytes are read.
abbrev pub IsUndefined : List ℕ → TrimFault → Type 0
IsUndefined text (Token fault) = (s : Stream) × IsStream text s × (s.fault ≡ Some fault)
IsUndefined text (Open at) = (s : Stream) × IsStream text s × (s.fault ≡ None) × Unclosed s.tokens at
IsUndefined text (NoTop name) = ⊥

-- Or no definition has the top's name.
abbrev pub IsUntrimmed : List ℕ → List ℕ → TrimFault → Type 0
IsUntrimmed text top (Token fault) = IsUndefined text (Token fault)
IsUntrimmed text top (Open at) = IsUndefined text (Open at)
IsUntrimmed text top (NoTop name) =
    (ds : List Defined) × IsDefined text ds × (first_named ds top ≡ None) × (name ≡ top)

-- What the text comes to.
abbrev pub TrimComes : List ℕ → List ℕ → Result (List ℕ) TrimFault → Type 0
TrimComes text top (Ok out) = IsTrimmed text top out
TrimComes text top (Err fault) = IsUntrimmed text top fault

-- The law: a text with a top comes to one outcome.
abbrev pub TrimsComeToOne : Type 0
TrimsComeToOne = (text top : List ℕ) (a b : Result (List ℕ) TrimFault) → TrimComes text top a → TrimComes text top b
    → a ≡ b

-- An answer is this outcome, unless memory ran out.
abbrev pub AnswersTrim : Result (Vec ℕ Global) TrimErr → Result (List ℕ) TrimFault → Type 0
AnswersTrim (Ok out) outcome = Ok out.items ≡ outcome
AnswersTrim (Err (Refused fault)) outcome = Err fault ≡ outcome
AnswersTrim (Err Memory) outcome = Unit {0}

-- An error that is a refusal is of this kind.
abbrev pub IfTrimRefused : (TrimFault → Type 0) → TrimErr → Type 0
IfTrimRefused P (Refused fault) = P fault
IfTrimRefused P Memory = Unit {0}
