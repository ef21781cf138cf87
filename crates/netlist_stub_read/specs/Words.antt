-- Words of declarations (IEEE 1364-2005, clauses 4.10 and 12.3).
use Rattle.std.specs.Prelude.{Bool, ◌||◌, if◌then◌else◌, codes}
use Rattle.netlist_trim.specs.Shown.{Shown}
use Rattle.netlist_trim.specs.Definition.{is, is_name}
use Rattle.netlist_stub_read.specs.declared.word.Word.{Word}
use Rattle.netlist_stub_read.specs.declared.word.Word.TheVariants.{Direction, Parameter, Real, Integer, Plain, Bracket}
use Rattle.netlist_stub_read.specs.declared.word.Word.TheVariants.{Name}
use Rattle.netlist_stub_read.specs.declared.word.Word.TheVariants.{Other}

-- a direction of a port
abbrev pub is_direction : Shown → Bool
is_direction t = is (codes "input") t || is (codes "output") t || is (codes "inout") t

abbrev pub is_parameter : Shown → Bool
is_parameter t = is (codes "parameter") t || is (codes "localparam") t

-- a type whose values aren't worked out
abbrev pub is_real : Shown → Bool
is_real t = is (codes "real") t || is (codes "realtime") t || is (codes "time") t

-- the types of nets
abbrev pub is_wire : Shown → Bool
is_wire t = is (codes "wire") t || is (codes "uwire") t || is (codes "supply0") t || is (codes "supply1") t

abbrev pub is_wired : Shown → Bool
is_wired t = is (codes "wand") t || is (codes "wor") t || is (codes "triand") t || is (codes "trior") t

abbrev pub is_tri : Shown → Bool
is_tri t = is (codes "tri") t || is (codes "tri0") t || is (codes "tri1") t

-- the type of a net
abbrev pub is_net_type : Shown → Bool
is_net_type t = is_wire t || is_wired t || is_tri t

-- the type of a variable
abbrev pub is_variable_type : Shown → Bool
is_variable_type t = is (codes "reg") t || is (codes "logic") t || is (codes "var") t || is (codes "bit") t

abbrev pub is_sign : Shown → Bool
is_sign t = is (codes "signed") t || is (codes "unsigned") t

-- a type that leaves a port's range and a parameter's value as they are
abbrev pub is_plain : Shown → Bool
is_plain t = is_net_type t || is_variable_type t || is_sign t

-- What a token is before a name that is declared.
abbrev pub word_of : Shown → Word
word_of t =
    if is_direction t then Direction else if is_parameter t then Parameter else if is_real t then Real
    else if is (codes "integer") t then Integer else if is_plain t then Plain
    else if is (codes "[") t then Bracket else if is_name t then Name else Other

-- a function or a task, which declares for itself
abbrev pub opens_routine : Shown → Bool
opens_routine t = is (codes "function") t || is (codes "task") t

abbrev pub closes_routine : Shown → Bool
closes_routine t = is (codes "endfunction") t || is (codes "endtask") t

-- a block, which may have parameters of its own
abbrev pub opens_block : Shown → Bool
opens_block t = is (codes "begin") t || is (codes "fork") t || is (codes "generate") t

abbrev pub opens_bracket : Shown → Bool
opens_bracket t = is (codes "(") t || is (codes "[") t || is (codes "{") t

abbrev pub closes_bracket : Shown → Bool
closes_bracket t = is (codes ")") t || is (codes "]") t || is (codes "}") t
