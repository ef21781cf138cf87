-- What a text comes to, with the names of modules and of supplies: the text with a stub in place of each definition of
-- these modules, or the first reason why there is none. A stub is the module's name, its ports, and their directions
-- and ranges, without anything else; an inout that is a supply is an input.
use Rattle.std.specs.Prelude.{Vec, ◌≡◌, ℕ, List, [], ◌∷◌, ◌++◌, Bool, ◌&&◌, if◌then◌else◌, codes, decimal, drop}
use Rattle.std.specs.Prelude.{slice_range, Option, Some, None, Result, Ok, Err, is_some}
use Rattle.std.specs.List.{list_any}
use Rattle.std.specs.declared.alloc.Global.{Global}
use Rattle.netlist_tokens.specs.declared.token.Kind.{Kind}
use Rattle.netlist_tokens.specs.declared.token.Kind.TheVariants as kind
use Rattle.netlist_trim.specs.Shown.{Shown}
use Rattle.netlist_trim.specs.Definition.{spelled_name}
use Rattle.netlist_trim.specs.Trims.{IsUndefined}
use Rattle.netlist_trim.specs.declared.fault.TrimErr.{TrimErr}
use Rattle.netlist_trim.specs.declared.fault.TrimErr.TheVariants as trim
use Rattle.netlist_trim.specs.declared.fault.TrimFault.{TrimFault}
use Rattle.netlist_trim.specs.declared.fault.TrimFault.TheVariants.{NoTop}
use Rattle.netlist_stub.specs.Known.{Known, Listed, declaration_of, is_among, known_of, nothing}
use Rattle.netlist_stub_read.specs.Modules.{Module, IsHeld, is_named}
use Rattle.netlist_stub.specs.declared.heading.Direction.{Direction}
use Rattle.netlist_stub.specs.declared.heading.Direction.TheVariants.{Input, Output, Inout}
use Rattle.netlist_stub.specs.declared.heading.Width.{Width}
use Rattle.netlist_stub.specs.declared.heading.Width.TheVariants.{Scalar, Unknown, Bounds}
use Rattle.netlist_stub.specs.declared.heading.Declared.{Declared}
use Rattle.netlist_stub.specs.declared.fault.StubFault.{StubFault}
use Rattle.netlist_stub.specs.declared.fault.StubFault.TheVariants.{Text, Unexpected, Range, Supply, Undirected}
use Rattle.netlist_stub.specs.declared.fault.StubErr.{StubErr}
use Rattle.netlist_stub.specs.declared.fault.StubErr.TheVariants.{Refused, Memory}

-- ---- the text of a stub

-- An escaped name ends with white space.
abbrev pub gap : Kind → List ℕ
gap kind.Name = []
gap kind.Escaped = codes " "
gap kind.Number = []
gap kind.Text = []
gap kind.Mark = []

abbrev pub spelled : Shown → List ℕ
spelled t = t.bytes ++ gap t.token.kind

-- Names with a comma between, after this.
abbrev pub names_text : List ℕ → List Shown → List ℕ
names_text separator [] = []
names_text separator (t ∷ ts) = separator ++ (spelled t ++ names_text (codes ", ") ts)

abbrev pub width_text : Width → List ℕ
width_text Scalar = []
width_text (Unknown at) = []
width_text (Bounds left right) = codes "[" ++ (decimal left ++ (codes ":" ++ (decimal right ++ codes "] ")))

abbrev pub direction_text : Direction → List ℕ
direction_text Input = codes "  input "
direction_text Output = codes "  output "
direction_text Inout = codes "  input "

abbrev pub line_text : Shown → Option Declared → List ℕ
line_text t None = []
line_text t (Some d) = direction_text d.direction ++ (width_text d.width ++ (spelled t ++ codes ";\n"))

abbrev pub lines_text : Listed → List Shown → List ℕ
lines_text l [] = []
lines_text l (t ∷ ts) = line_text t (declaration_of l t) ++ lines_text l ts

abbrev pub stub_text : Shown → Listed → List ℕ
stub_text name l =
    codes "module "
    ++ (spelled name ++ (codes " (" ++ (names_text [] l.names ++ (codes ");\n"
    ++ (lines_text l l.names ++ codes "endmodule")))))

-- ---- a stub

-- The first port of the header that isn't declared.
abbrev pub undirected : Listed → List Shown → Option StubFault
undirected l [] = None
undirected l (t ∷ ts) = if is_some (declaration_of l t) then undirected l ts else Some (Undirected t.token.start)

abbrev pub stub_of_ports : Shown → Listed → Option StubFault → Result (List ℕ) StubFault
stub_of_ports name l None = Ok (stub_text name l)
stub_of_ports name l (Some fault) = Err fault

abbrev pub stub_of_known : Shown → Result Known StubFault → Result (List ℕ) StubFault
stub_of_known name (Err fault) = Err fault
stub_of_known name (Ok k) = stub_of_ports name k.listed (undirected k.listed k.listed.names)

abbrev pub stub_of : List (List ℕ) → Module → Result (List ℕ) StubFault
stub_of supplies m = stub_of_known m.name (known_of supplies nothing m.parts)

-- ---- the text with stubs

-- A definition is of a module that has one of these names.
abbrev pub is_stubbed : List (List ℕ) → Module → Bool
is_stubbed names m = m.is_module && is_among names (spelled_name m.name)

abbrev pub with_front : List ℕ → Result (List ℕ) StubFault → Result (List ℕ) StubFault
with_front front (Ok rest) = Ok (front ++ rest)
with_front front (Err fault) = Err fault

-- Bytes, and then the rest.
abbrev pub followed_by : Result (List ℕ) StubFault → Result (List ℕ) StubFault → Result (List ℕ) StubFault
followed_by (Ok front) rest = with_front front rest
followed_by (Err fault) rest = Err fault

-- The bytes from a place up to a definition, and its stub.
abbrev pub piece_of : List ℕ → List (List ℕ) → ℕ → Module → Result (List ℕ) StubFault
piece_of text supplies at m = with_front (slice_range text at m.start) (stub_of supplies m)

-- The bytes of a text from a place on, with stubs.
abbrev pub stubbed : List ℕ → List (List ℕ) → List (List ℕ) → ℕ → List Module → Result (List ℕ) StubFault
stubbed text names supplies at [] = Ok (drop at text)
stubbed text names supplies at (m ∷ ms) =
    if is_stubbed names m then followed_by (piece_of text supplies at m) (stubbed text names supplies m.«end» ms)
    else stubbed text names supplies at ms

abbrev pub is_defined : List Module → List ℕ → Bool
is_defined ms name = list_any (is_named name) ms

-- The first of the names that no module has.
abbrev pub missing : List Module → List (List ℕ) → Option (List ℕ)
missing ms [] = None
missing ms (name ∷ names) = if is_defined ms name then missing ms names else Some name

abbrev pub text_of : List ℕ → List (List ℕ) → List (List ℕ) → List Module → Option (List ℕ) → Result (List ℕ) StubFault
text_of text names supplies ms None = stubbed text names supplies 0 ms
text_of text names supplies ms (Some name) = Err (Text (NoTop name))

-- What the text comes to, where it defines these.
pub record IsStubbed (text : List ℕ) (names supplies : List (List ℕ)) (outcome : Result (List ℕ) StubFault)
    : Type 0 where
  pub modules : List Module
  pub are : IsHeld text modules
  pub comes : text_of text names supplies modules (missing modules names) ≡ outcome

-- A byte begins no token, or a definition isn't closed; else what its modules come to.
pub data StubComes (text : List ℕ) (names supplies : List (List ℕ)) : Result (List ℕ) StubFault → Type 0 where
  undefined : {fault : TrimFault} → IsUndefined text fault → StubComes text names supplies (Err (Text fault))
  held : {outcome : Result (List ℕ) StubFault} → IsStubbed text names supplies outcome
      → StubComes text names supplies outcome

-- The law: a text with names and supplies comes to one outcome.
abbrev pub StubsComeToOne : Type 0
StubsComeToOne = (text : List ℕ) (names supplies : List (List ℕ)) (a b : Result (List ℕ) StubFault)
    → StubComes text names supplies a → StubComes text names supplies b → a ≡ b

-- The text defines nothing.
abbrev pub IsUnheld : List ℕ → StubFault → Type 0
IsUnheld text (Text fault) = IsUndefined text fault
IsUnheld text (Unexpected at) = ⊥
IsUnheld text (Range at) = ⊥
IsUnheld text (Supply at) = ⊥
IsUnheld text (Undirected at) = ⊥

-- ---- answers

abbrev pub text_err : TrimErr → StubErr
text_err (trim.Refused fault) = Refused (Text fault)
text_err trim.Memory = Memory

-- An error that is a refusal is of this kind.
abbrev pub IfStubRefused : (StubFault → Type 0) → StubErr → Type 0
IfStubRefused P (Refused fault) = P fault
IfStubRefused P Memory = Unit {0}

-- What is known is this, unless memory ran out.
abbrev pub Knows : Result Known StubFault → Result Known StubErr → Type 0
Knows outcome (Ok k) = outcome ≡ Ok k
Knows outcome (Err e) = IfStubRefused (λ fault. outcome ≡ Err fault) e

-- What is put after a text is this, unless memory ran out.
abbrev pub Puts : Result (List ℕ) StubFault → List ℕ → Result (Unit {0}) StubErr → List ℕ → Type 0
Puts outcome old (Ok done) new = (bytes : List ℕ) × (outcome ≡ Ok bytes) × (new ≡ old ++ bytes)
Puts outcome old (Err e) new = IfStubRefused (λ fault. outcome ≡ Err fault) e

-- What is answered is this, unless memory ran out.
abbrev pub Answers : Result (List ℕ) StubFault → Result (Vec ℕ Global) StubErr → Type 0
Answers outcome (Ok out) = outcome ≡ Ok out.items
Answers outcome (Err e) = IfStubRefused (λ fault. outcome ≡ Err fault) e
