-- When the ports of a primitive match its declarations (IEEE 1364-2005, clause 8.1).
use Rattle.std.specs.Prelude.{ℕ, Bool, true, false, not, ◌&&◌, ◌||◌, List, [], ◌∷◌, ◌++◌, if◌then◌else◌}
use Rattle.netlist_grammar.specs.declared.tree.PrimKind.{PrimKind}
use Rattle.netlist_grammar.specs.declared.tree.PrimKind.TheVariants.{Output, Input, Reg, Initial}
use Rattle.netlist_grammar.specs.declared.tree.PrimDeclare.{PrimDeclare}
use Rattle.netlist_grammar.specs.declared.tree.Primitive.{Primitive}
use Rattle.netlist_grammar.specs.Trees.{is_reg}
use Rattle.elab_prims.specs.Names.{names_of, is_nothing, are_distinct, are_among, is_alone, is_at_most}

abbrev pub is_output : PrimKind → Bool
is_output Output = true
is_output _ = false

abbrev pub is_input : PrimKind → Bool
is_input Input = true
is_input _ = false

abbrev pub is_start : PrimKind → Bool
is_start (Initial value) = true
is_start _ = false

-- the names that have a declaration of the kind, once for each
abbrev pub declared_as : (PrimKind → Bool) → List PrimDeclare → List (List ℕ)
declared_as kind [] = []
declared_as kind (d ∷ ds) = if kind d.what then d.name.text ∷ declared_as kind ds else declared_as kind ds

-- the names that are declared as output, as input, as `reg`, and with a start
pub record Declared : Type 0 where
  pub outputs : List (List ℕ)
  pub inputs : List (List ℕ)
  pub regs : List (List ℕ)
  pub starts : List (List ℕ)

abbrev pub by_kind : (outputs inputs regs starts : List (List ℕ)) → Declared
by_kind outputs inputs regs starts = record { outputs = outputs; inputs = inputs; regs = regs; starts = starts }

abbrev pub declared : List PrimDeclare → Declared
declared ds =
    by_kind (declared_as is_output ds) (declared_as is_input ds) (declared_as is_reg ds) (declared_as is_start ds)

-- one declaration more
abbrev pub with_declared : PrimKind → List ℕ → Declared → Declared
with_declared Output name d = record d { outputs = d.outputs ++ name ∷ [] }
with_declared Input name d = record d { inputs = d.inputs ++ name ∷ [] }
with_declared Reg name d = record d { regs = d.regs ++ name ∷ [] }
with_declared (Initial value) name d = record d { starts = d.starts ++ name ∷ [] }

-- A start comes only with `reg`.
abbrev pub has_reg_for_start : Declared → Bool
has_reg_for_start d = is_nothing d.starts || not (is_nothing d.regs)

-- The first port is declared once as the output, and no other is. `reg` and a start are for it, at most once each.
abbrev pub first_matches : List ℕ → Declared → Bool
first_matches first d =
    is_alone first d.outputs && is_at_most first d.regs && is_at_most first d.starts && has_reg_for_start d

-- Each other port is declared once as an input, and nothing else is.
abbrev pub others_match : List (List ℕ) → Declared → Bool
others_match others d = are_distinct d.inputs && are_among others d.inputs && are_among d.inputs others

-- There is an input at least, the ports have distinct names, and each is declared as it must be.
abbrev pub ports_match : List (List ℕ) → Declared → Bool
ports_match [] d = false
ports_match (first ∷ others) d =
    not (is_nothing others) && are_distinct (first ∷ others) && first_matches first d && others_match others d

abbrev pub matches_ports : Primitive → Bool
matches_ports p = ports_match (names_of p.ports) (declared p.declarations)
