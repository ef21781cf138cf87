-- The parts of a module that declare: what a token is, by what stands before it. A module's header has its parameters
-- and its ports; its items declare ports and parameters, and a routine's own declarations don't count. A parameter
-- counts as the module's where no block is opened before it (profile).
use Rattle.std.specs.Prelude.{ℕ, ◌+◌, ◌-◌, ◌^◌, ◌==◌, List, [], ◌∷◌, ◌++◌, Bool, true, false, ◌&&◌, ◌||◌, if◌then◌else◌}
use Rattle.std.specs.Prelude.{codes, min, Option, Some, None}
use Rattle.netlist_trim.specs.Shown.{Shown, seen}
use Rattle.netlist_trim.specs.Definition.{is}
use Rattle.netlist_stub_read.specs.Words.{word_of, is_direction, is_parameter, opens_routine, closes_routine}
use Rattle.netlist_stub_read.specs.Words.{opens_block}
use Rattle.netlist_stub_read.specs.Words.{opens_bracket, closes_bracket}
use Rattle.netlist_stub_read.specs.declared.word.Word.{Word}
use Rattle.netlist_stub_read.specs.declared.word.Word.TheVariants as word
use Rattle.netlist_stub_read.specs.declared.state.Series.{Series}
use Rattle.netlist_stub_read.specs.declared.state.Series.TheVariants.{Defaults, Header, Ports, Parameters}
use Rattle.netlist_stub_read.specs.declared.state.State.{State}
use Rattle.netlist_stub_read.specs.declared.state.State.TheVariants.{Named, Hash, Opened, Before, After, Range, Ranged}
use Rattle.netlist_stub_read.specs.declared.state.State.TheVariants.{Value, Closed, Items, Routine}
use Rattle.netlist_stub_read.specs.declared.role.Role.{Role}
use Rattle.netlist_stub_read.specs.declared.role.Role.TheVariants as role
use Rattle.netlist_stub_read.specs.declared.part.Part.{Part as Spelled_part}

-- a token and what it is
pub record Part : Type 0 where
  pub role : Role
  pub token : Shown

abbrev pub seen_part : Spelled_part → Part
seen_part p = record { role = p.role; token = seen p.token }

-- ---- lists of declarations

abbrev pub are_ports : Series → Bool
are_ports Defaults = false
are_ports Header = true
are_ports (Ports own) = true
are_ports Parameters = false

-- A list ends with this token.
abbrev pub ends : Series → Shown → Bool
ends Defaults t = is (codes ")") t
ends Header t = is (codes ")") t
ends (Ports own) t = is (codes ";") t
ends Parameters t = is (codes ";") t

-- What comes after its end.
abbrev pub after : Series → State
after Defaults = Named
after Header = Closed
after (Ports own) = Items own
after Parameters = Items true

-- ---- what comes next

abbrev pub next_before : Series → Word → State
next_before s word.Direction = Before s
next_before s word.Parameter = Before s
next_before s word.Real = Before s
next_before s word.Integer = Before s
next_before s word.Plain = Before s
next_before s word.Bracket = Range s
next_before s word.Name = After s
next_before s word.Other = Before s

-- how deep in brackets it goes on
abbrev pub depth_after : ℕ → Shown → ℕ
depth_after depth t =
    if opens_bracket t then min (depth + 1) (2 ^ 64 - 1) else if closes_bracket t then depth - 1 else depth

abbrev pub next_value : Series → ℕ → Shown → State
next_value s depth t =
    if (depth == 0) && is (codes ",") t then Before s else if (depth == 0) && ends s t then after s
    else Value s (depth_after depth t)

abbrev pub next_item : Bool → Shown → State
next_item own t =
    if is_direction t then Before (Ports own) else if own && is_parameter t then Before Parameters
    else if opens_routine t then Routine own else if opens_block t then Items false else Items own

abbrev pub next : State → Shown → State
next Named t =
    if is (codes "#") t then Hash else if is (codes "(") t then Opened else if is (codes ";") t then Items true
    else Named
next Hash t = if is (codes "(") t then Before Defaults else Hash
next Opened t = if is (codes ")") t then Closed else next_before Header (word_of t)
next (Before s) t = next_before s (word_of t)
next (After s) t =
    if is (codes ",") t then Before s else if is (codes "=") t then Value s 0 else if ends s t then after s
    else After s
next (Range s) t = if is (codes "]") t then Ranged s else Range s
next (Ranged s) t = next_before s (word_of t)
next (Value s depth) t = next_value s depth t
next Closed t = if is (codes ";") t then Items true else Closed
next (Items own) t = next_item own t
next (Routine own) t = if closes_routine t then Items own else Routine own

-- ---- what a token is

-- A port's name in the header, or in an item.
abbrev pub name_role : Series → Role
name_role Defaults = role.Port
name_role Header = role.Port
name_role (Ports own) = role.Declared
name_role Parameters = role.Declared

abbrev pub port_role : Series → Word → Option Role
port_role s word.Direction = Some role.Direction
port_role s word.Parameter = Some role.Unexpected
port_role s word.Real = Some role.Unexpected
port_role s word.Integer = Some role.Unexpected
port_role s word.Plain = None
port_role s word.Bracket = Some role.Open
port_role s word.Name = Some (name_role s)
port_role s word.Other = Some role.Unexpected

abbrev pub parameter_role : Word → Option Role
parameter_role word.Direction = Some role.Unexpected
parameter_role word.Parameter = Some role.Keyword
parameter_role word.Real = Some role.Typed
parameter_role word.Integer = None
parameter_role word.Plain = None
parameter_role word.Bracket = Some role.Typed
parameter_role word.Name = Some role.Parameter
parameter_role word.Other = Some role.Unexpected

abbrev pub before_role : Series → Word → Option Role
before_role s w = if are_ports s then port_role s w else parameter_role w

-- the `=` after a name
abbrev pub begin_role : Series → Option Role
begin_role s = if are_ports s then None else Some role.Begin

-- After a range there is no other.
abbrev pub ranged_role : Series → Word → Option Role
ranged_role s word.Direction = before_role s word.Direction
ranged_role s word.Parameter = before_role s word.Parameter
ranged_role s word.Real = before_role s word.Real
ranged_role s word.Integer = before_role s word.Integer
ranged_role s word.Plain = before_role s word.Plain
ranged_role s word.Bracket = Some role.Unexpected
ranged_role s word.Name = before_role s word.Name
ranged_role s word.Other = before_role s word.Other

abbrev pub after_role : Series → Shown → Option Role
after_role s t =
    if is (codes ",") t then None else if is (codes "=") t then begin_role s else if ends s t then None
    else Some role.Unexpected

abbrev pub bound_role : Shown → Role
bound_role t = if is (codes "]") t then role.Close else if is (codes ":") t then role.Middle else role.Bound

abbrev pub range_role : Series → Shown → Option Role
range_role s t = if are_ports s then Some (bound_role t) else None

abbrev pub term_role : Series → ℕ → Shown → Role
term_role s depth t = if (depth == 0) && (is (codes ",") t || ends s t) then role.End else role.Term

abbrev pub value_role : Series → ℕ → Shown → Option Role
value_role s depth t = if are_ports s then None else Some (term_role s depth t)

abbrev pub item_role : Bool → Shown → Option Role
item_role own t =
    if is_direction t then Some role.Direction else if own && is_parameter t then Some role.Keyword else None

-- nothing where it is a mark that comes here
abbrev pub expected : Bool → Option Role
expected b = if b then None else Some role.Unexpected

abbrev pub role_of : State → Shown → Option Role
role_of Named t = expected (is (codes "#") t || is (codes "(") t || is (codes ";") t)
role_of Hash t = expected (is (codes "(") t)
role_of Opened t = if is (codes ")") t then None else before_role Header (word_of t)
role_of (Before s) t = before_role s (word_of t)
role_of (After s) t = after_role s t
role_of (Range s) t = range_role s t
role_of (Ranged s) t = ranged_role s (word_of t)
role_of (Value s depth) t = value_role s depth t
role_of Closed t = expected (is (codes ";") t)
role_of (Items own) t = item_role own t
role_of (Routine own) t = None

-- ---- parts

abbrev pub part_of : Option Role → Shown → List Part
part_of None t = []
part_of (Some r) t = record { role = r; token = t } ∷ []

-- The parts among tokens, after what stands before.
abbrev pub parts : State → List Shown → List Part
parts state [] = []
parts state (t ∷ ts) = part_of (role_of state t) t ++ parts (next state t) ts
