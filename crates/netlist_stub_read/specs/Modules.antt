-- What a text defines, with the parts of each definition that declare (IEEE 1364-2005, clause 12.1).
use Rattle.std.specs.Prelude.{Vec, ◌≡◌, ℕ, List, [], ◌∷◌, ◌++◌, Bool, ◌&&◌, not, bytes_eq, codes, Some, None, Result}
use Rattle.std.specs.Prelude.{Ok, Err}
use Rattle.std.specs.declared.alloc.Global.{Global}
use Rattle.netlist_trim.specs.Shown.{Shown, Stream, IsStream}
use Rattle.netlist_trim.specs.Definition.{closes, from_first, is, spelled_name, opens, up_to_first}
use Rattle.netlist_trim.specs.Definition.{Unclosed}
use Rattle.netlist_trim.specs.Reads.{IsUnended, Stays}
use Rattle.netlist_trim.specs.declared.fault.TrimErr.{TrimErr}
use Rattle.netlist_trim.specs.declared.fault.TrimErr.TheVariants.{Refused, Memory}
use Rattle.netlist_trim.specs.declared.fault.TrimFault.TheVariants.{Token, Open, NoTop}
use Rattle.netlist_stub_read.specs.Parts.{Part, parts}
use Rattle.netlist_stub_read.specs.declared.state.State.TheVariants.{Named}

-- A definition: its name, the bytes from its first to its end, whether it is a module, and what in it declares.
pub record Module : Type 0 where
  pub name : Shown
  pub start : ℕ
  pub «end» : ℕ
  pub is_module : Bool
  pub parts : List Part

abbrev pub module_of : Shown → Shown → List Shown → Shown → Module
module_of opening name within close = record {
  name = name;
  start = opening.token.start;
  «end» = close.token.«end»;
  is_module = not (is (codes "primitive") opening);
  parts = parts Named within;
}

-- It is of a module of this name.
abbrev pub is_named : List ℕ → Module → Bool
is_named name m = m.is_module && bytes_eq name (spelled_name m.name)

-- Tokens define these, in order, each from the first word that opens one to the first that closes it.
pub data Holds : List Shown → List Module → Type 0 where
  none : {ts : List Shown} → from_first opens ts ≡ [] → Holds ts []
  next : {opening name close : Shown} {ts within rest : List Shown} {ms : List Module}
      → from_first opens ts ≡ opening ∷ name ∷ within → from_first (closes opening) within ≡ close ∷ rest
      → Holds rest ms → Holds ts (module_of opening name (up_to_first (closes opening) within) close ∷ ms)

-- The text defines these, and has no fault.
pub record IsHeld (text : List ℕ) (ms : List Module) : Type 0 where
  pub stream : Stream
  pub told : IsStream text stream
  pub whole : stream.fault ≡ None
  pub held : Holds stream.tokens ms

-- ---- what is read

-- What stands within a definition is taken, with the word that closes it: where it ends, and its parts.
pub record Closes (opening : Shown) (old : Stream) (to : ℕ) (before after : List Part) (new : Stream) : Type 0 where
  pub close : Shown
  pub at : from_first (closes opening) old.tokens ≡ close ∷ new.tokens
  pub is : to ≡ close.token.«end»
  pub parts : after ≡ before ++ parts Named (up_to_first (closes opening) old.tokens)
  pub fault : new.fault ≡ old.fault

abbrev pub ReadsBody : Shown → Stream → Result ℕ TrimErr → List Part → List Part → Stream → Type 0
ReadsBody opening old (Ok to) before after new = Closes opening old to before after new
ReadsBody opening old (Err e) before after new = Stays opening old (from_first (closes opening) old.tokens ≡ []) e

-- A definition is taken, after the word that opens it.
pub record IsModule (opening : Shown) (old : Stream) (m : Module) (new : Stream) : Type 0 where
  pub name : Shown
  pub within : List Shown
  pub close : Shown
  pub named : old.tokens ≡ name ∷ within
  pub at : from_first (closes opening) within ≡ close ∷ new.tokens
  pub is : m ≡ module_of opening name (up_to_first (closes opening) within) close
  pub fault : new.fault ≡ old.fault

abbrev pub ReadsModule : Shown → Stream → Result Module TrimErr → Stream → Type 0
ReadsModule opening old (Ok m) new = IsModule opening old m new
ReadsModule opening old (Err e) new = Stays opening old (IsUnended opening old.tokens) e

-- All is read: what the tokens define, or why they define nothing.
abbrev pub ReadsModules : Stream → Result (Vec Module Global) TrimErr → Type 0
ReadsModules old (Ok ms) = (old.fault ≡ None) × Holds old.tokens ms.items
ReadsModules old (Err (Refused (Token e))) = old.fault ≡ Some e
ReadsModules old (Err (Refused (Open at))) = (old.fault ≡ None) × Unclosed old.tokens at
ReadsModules old (Err (Refused (NoTop name))) = ⊥
ReadsModules old (Err Memory) = Unit {0}
