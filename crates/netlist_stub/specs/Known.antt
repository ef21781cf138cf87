-- What a module's parts declare (IEEE 1364-2005, clauses 12.2 and 12.3).
use Rattle.std.specs.Prelude.{ℕ, List, [], ◌∷◌, ◌++◌, Bool, true, false, if◌then◌else◌, codes, length, Option, Some}
use Rattle.std.specs.Prelude.{None, Result, Ok, Err, bytes_eq, slice_get, is_some, map, not}
use Rattle.std.specs.List.{list_any}
use Rattle.std.specs.Map.{lookup}
use Rattle.std.specs.Option.{option_and_then}
use Rattle.std.specs.Borrow.{Bor}
use Rattle.netlist_trim.specs.Shown.{Shown}
use Rattle.netlist_trim.specs.Definition.{is, spelled_name}
use Rattle.netlist_trim.specs.Library.{with_number}
use Rattle.netlist_stub_read.specs.Parts.{Part}
use Rattle.netlist_stub.specs.Sums.{Values, begun, value_of, with_token}
use Rattle.netlist_stub.specs.declared.sum.Frame.{Frame}
use Rattle.netlist_stub_read.specs.declared.role.Role.{Role}
use Rattle.netlist_stub_read.specs.declared.role.Role.TheVariants as role
use Rattle.netlist_stub.specs.declared.heading.Direction.{Direction}
use Rattle.netlist_stub.specs.declared.heading.Direction.TheVariants.{Input, Output, Inout}
use Rattle.netlist_stub.specs.declared.heading.Width.{Width}
use Rattle.netlist_stub.specs.declared.heading.Width.TheVariants.{Scalar, Unknown, Bounds}
use Rattle.netlist_stub.specs.declared.heading.Heading.{Heading}
use Rattle.netlist_stub.specs.declared.heading.Declared.{Declared}
use Rattle.netlist_stub.specs.declared.fault.StubFault.{StubFault}
use Rattle.netlist_stub.specs.declared.fault.StubFault.TheVariants.{Unexpected, Range, Supply}

-- ---- what stands before a name

abbrev pub direction_of : Shown → Direction
direction_of t = if is (codes "input") t then Input else if is (codes "output") t then Output else Inout

-- nothing
abbrev pub blank : Heading
blank = record { direction = None; left = None; width = Scalar; typed = false }

abbrev pub directed : Shown → Heading → Heading
directed t h = record { direction = Some (direction_of t); left = None; width = Scalar; typed = h.typed }

-- A range begins here.
abbrev pub ranged : ℕ → Heading → Heading
ranged at h = record { direction = h.direction; left = None; width = Unknown at; typed = h.typed }

abbrev pub with_left : ℕ → Heading → Heading
with_left left h = record { direction = h.direction; left = Some left; width = h.width; typed = h.typed }

-- A range has these bounds, if both are worked out.
abbrev pub bounds_of : Width → Option ℕ → Option ℕ → Width
bounds_of width None right = width
bounds_of width (Some left) None = width
bounds_of width (Some left) (Some right) = Bounds left right

abbrev pub closed_by : Option ℕ → Heading → Heading
closed_by right h =
    record { direction = h.direction; left = h.left; width = bounds_of h.width h.left right; typed = h.typed }

abbrev pub with_typed : Bool → Heading → Heading
with_typed typed h = record { direction = h.direction; left = h.left; width = h.width; typed = typed }

-- ---- ports

-- The names of the header, the names that are declared, each with the number of its first declaration, and these.
pub record Listed : Type 0 where
  pub names : List Shown
  pub numbers : List (List ℕ × ℕ)
  pub declared : List Declared

abbrev pub unlisted : Listed
unlisted = record { names = []; numbers = []; declared = [] }

abbrev pub with_name : Shown → Listed → Listed
with_name t l = record { names = l.names ++ t ∷ []; numbers = l.numbers; declared = l.declared }

abbrev pub with_declared : Shown → Declared → Listed → Listed
with_declared t d l = record {
  names = l.names;
  numbers = with_number (spelled_name t) (length l.declared) l.numbers;
  declared = l.declared ++ d ∷ [];
}

-- A name is declared as the heading says, if it says a direction.
abbrev pub declares : Option Direction → Width → Shown → Listed → Listed
declares None width t l = l
declares (Some direction) width t l = with_declared t (record { direction = direction; width = width }) l

-- The first declaration of a name.
abbrev pub declaration_of : Listed → Shown → Option Declared
declaration_of l t = option_and_then (slice_get l.declared) (lookup (bytes_eq (spelled_name t)) l.numbers)

-- ---- all of it

pub record Known : Type 0 where
  pub heading : Heading
  pub parameter : List ℕ
  pub expression : List Frame
  pub values : Values
  pub listed : Listed

abbrev pub nothing : Known
nothing = record { heading = blank; parameter = []; expression = []; values = []; listed = unlisted }

abbrev pub with_heading : Heading → Known → Known
with_heading h k = record {
  heading = h;
  parameter = k.parameter;
  expression = k.expression;
  values = k.values;
  listed = k.listed;
}

abbrev pub with_expression : List Frame → Known → Known
with_expression s k = record {
  heading = k.heading;
  parameter = k.parameter;
  expression = s;
  values = k.values;
  listed = k.listed;
}

abbrev pub with_parameter : List ℕ → Known → Known
with_parameter n k = record {
  heading = k.heading;
  parameter = n;
  expression = k.expression;
  values = k.values;
  listed = k.listed;
}

abbrev pub with_listed : Listed → Known → Known
with_listed l k = record {
  heading = k.heading;
  parameter = k.parameter;
  expression = k.expression;
  values = k.values;
  listed = l;
}

abbrev pub with_values : Values → Known → Known
with_values v k = record {
  heading = k.heading;
  parameter = k.parameter;
  expression = k.expression;
  values = v;
  listed = k.listed;
}

-- The left bound that ends here, if it is worked out; a second one isn't.
abbrev pub left_bound : Known → Option ℕ
left_bound k = if is_some k.heading.left then None else value_of k.expression

-- After the left bound: where it isn't worked out, nothing is up to the end of the range.
abbrev pub halved : Option ℕ → Known → Known
halved None k = with_expression [] k
halved (Some left) k = with_heading (with_left left k.heading) (with_expression (begun ∷ []) k)

-- A bound ends.
abbrev pub middle : Known → Known
middle k = halved (left_bound k) k

-- A range ends.
abbrev pub close : Known → Known
close k = with_heading (closed_by (value_of k.expression) k.heading) k

abbrev pub typed : Bool → Known → Known
typed is_typed k = with_heading (with_typed is_typed k.heading) k

-- A value begins.
abbrev pub begin : Known → Known
begin k = with_expression (begun ∷ []) k

-- A token of an expression.
abbrev pub term : Shown → Known → Known
term t k = with_expression (with_token k.values t k.expression) k

-- The parameter has this value, if its type leaves it so.
abbrev pub with_value : ℕ → Known → Known
with_value v k = if k.heading.typed then k else with_values (with_number k.parameter v k.values) k

abbrev pub with_worked_out : Option ℕ → Known → Known
with_worked_out None k = k
with_worked_out (Some v) k = with_value v k

-- A value ends.
abbrev pub value : Known → Known
value k = with_worked_out (value_of k.expression) k

abbrev pub named : Shown → Known → Known
named t k = with_listed (declares k.heading.direction k.heading.width t k.listed) k

abbrev pub more : Role → Shown → Known → Known
more role.Unexpected t k = k
more role.Direction t k = with_heading (directed t k.heading) k
more role.Port t k = named t (with_listed (with_name t k.listed) k)
more role.Declared t k = named t k
more role.Open t k = with_heading (ranged t.token.start k.heading) (with_expression (begun ∷ []) k)
more role.Bound t k = term t k
more role.Middle t k = middle k
more role.Close t k = close k
more role.Keyword t k = typed false k
more role.Typed t k = typed true k
more role.Parameter t k = with_parameter (spelled_name t) k
more role.Begin t k = begin k
more role.Term t k = term t k
more role.End t k = value k

-- ---- what is refused

abbrev pub texts_of : List (Bor (List ℕ)) → List (List ℕ)
texts_of names = map (λ (name : Bor (List ℕ)). name.now) names

abbrev pub is_among : List (List ℕ) → List ℕ → Bool
is_among names name = list_any (λ (n : List ℕ). bytes_eq n name) names

-- An inout that isn't a supply.
abbrev pub is_open : List (List ℕ) → Option Direction → Shown → Bool
is_open supplies None t = false
is_open supplies (Some Input) t = false
is_open supplies (Some Output) t = false
is_open supplies (Some Inout) t = not (is_among supplies (spelled_name t))

-- A range that isn't worked out.
abbrev pub width_fault : Width → Option StubFault
width_fault Scalar = None
width_fault (Unknown at) = Some (Range at)
width_fault (Bounds left right) = None

abbrev pub named_fault : List (List ℕ) → Heading → Shown → Option StubFault
named_fault supplies h t = if is_open supplies h.direction t then Some (Supply t.token.start) else width_fault h.width

abbrev pub fault_of : List (List ℕ) → Role → Heading → Shown → Option StubFault
fault_of supplies role.Unexpected h t = Some (Unexpected t.token.start)
fault_of supplies role.Direction h t = None
fault_of supplies role.Port h t = named_fault supplies h t
fault_of supplies role.Declared h t = named_fault supplies h t
fault_of supplies role.Open h t = None
fault_of supplies role.Bound h t = None
fault_of supplies role.Middle h t = None
fault_of supplies role.Close h t = None
fault_of supplies role.Keyword h t = None
fault_of supplies role.Typed h t = None
fault_of supplies role.Parameter h t = None
fault_of supplies role.Begin h t = None
fault_of supplies role.Term h t = None
fault_of supplies role.End h t = None

abbrev pub or_else : Option StubFault → Result Known StubFault → Result Known StubFault
or_else None r = r
or_else (Some fault) r = Err fault

-- What parts declare, after what is known; or the first fault.
abbrev pub known_of : List (List ℕ) → Known → List Part → Result Known StubFault
known_of supplies k [] = Ok k
known_of supplies k (p ∷ ps) =
    or_else (fault_of supplies p.role k.heading p.token) (known_of supplies (more p.role p.token k) ps)
