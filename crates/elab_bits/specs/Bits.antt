-- The bits of an expression (IEEE 1364-2005, clauses 3.5, 4.2 and 5.1).
use Rattle.std.specs.Prelude.{ℕ, ◌+◌, ◌-◌, ◌&&◌, nat_le, Option, Some, None, List, [], ◌∷◌, ◌++◌, Ok, Err}
use Rattle.std.specs.Prelude.{if◌then◌else◌}
use Rattle.netlist_grammar.specs.Trees.{Range, whole_part, expr_of}
use Rattle.netlist_grammar.specs.declared.tree.Word.{Word}
use Rattle.netlist_grammar.specs.declared.tree.Part.{Part}
use Rattle.netlist_grammar.specs.declared.tree.PartKind.{PartKind}
use Rattle.netlist_grammar.specs.declared.tree.PartKind.TheVariants.{Whole, Bit, Slice, Literal}
use Rattle.netlist_grammar.specs.declared.tree.Expr.{Expr}
use Rattle.netlist_grammar.specs.declared.tree.NetKind.{NetKind}
use Rattle.netlist_grammar.specs.declared.tree.NetKind.TheVariants.{Wire, Reg}
use Rattle.design_circuit.specs.declared.design.Pin.TheVariants.{Dead}
use Rattle.elab_nets.specs.declared.fault.ElabErr.TheVariants.{BadName}
use Rattle.elab_nets.specs.Outcome.{Outcome, after, or_refuse}
use Rattle.elab_nets.specs.Ranges.{width_of, offset, within}
use Rattle.elab_names.specs.declared.scope.Entry.{Entry}
use Rattle.elab_names.specs.Scope.{Scope, entry_of}
use Rattle.elab_names.specs.Here.{Here, introduced}
use Rattle.elab_bits.specs.declared.expression.Role.{Role}
use Rattle.elab_bits.specs.declared.expression.Role.TheVariants.{Driven, Terminal}
use Rattle.elab_bits.specs.declared.run.Lane.{Lane}
use Rattle.elab_bits.specs.Lanes.{lane, lanes_in, literal_lanes}

-- ---- names

-- What a plain name stands for: an implicit scalar wire where it isn't declared (IEEE 1364-2005, clause 4.5).
abbrev pub known_or_wire : Option Entry → Word → Here → Outcome (Entry × Here)
known_or_wire (Some e) w here = Ok (e, here)
known_or_wire None w here = introduced Wire None w here

-- A `reg` has no net. A terminal may read it, and is dead.
abbrev pub reg_lanes : Role → List Lane → ℕ → Word → Outcome (List Lane)
reg_lanes Terminal before at w = Ok (before ++ lane at Dead ∷ [])
reg_lanes _ before at w = Err (BadName w.at)

-- The nets of a name from left to right, behind the bits before.
abbrev pub name_lanes : Role → List Lane → ℕ → Word → NetKind → Entry → Outcome (List Lane)
name_lanes role before at w Reg e = reg_lanes role before at w
name_lanes role before at w _ e = Ok (before ++ lanes_in at e.base (width_of e.range))

abbrev pub whole_lanes : Role → List Lane → ℕ → Word → Here → Outcome (List Lane × Here)
whole_lanes role before at w here =
    after (known_or_wire (entry_of here.scope w.text) w here) (λ k.
    after (name_lanes role before at w k.0.what k.0) (λ ls.
    Ok (ls, k.1)))

-- ---- selects

-- A `reg` has no nets to select from.
abbrev pub net_range : NetKind → Range → Range
net_range Reg range = None
net_range _ range = range

-- The first net and how many: from an index to another that doesn't stand left of it.
abbrev pub between : ℕ → Range → ℕ → ℕ → Option (ℕ × ℕ)
between base None i j = None
between base (Some r) i j =
    if within r i && within r j && nat_le (offset r i) (offset r j)
    then Some (base + offset r i, offset r j - offset r i + 1)
    else None

-- A select takes a declared name and bits of its range, in its direction.
abbrev pub select_lanes : List Lane → ℕ → Word → ℕ → ℕ → Scope → Outcome (List Lane)
select_lanes before at w i j scope =
    after (or_refuse (entry_of scope w.text) (BadName w.at)) (λ e.
    after (or_refuse (between e.base (net_range e.what e.range) i j) (BadName w.at)) (λ r.
    Ok (before ++ lanes_in at r.0 r.1)))

-- ---- literals

-- A literal can't be driven.
abbrev pub literal_bits : Role → List Lane → ℕ → ℕ → ℕ → Outcome (List Lane)
literal_bits Driven before at size value = Err (BadName at)
literal_bits _ before at size value = Ok (before ++ literal_lanes at size value)

-- ---- expressions

-- bits that make nothing new
abbrev pub bits_here : Outcome (List Lane) → Here → Outcome (List Lane × Here)
bits_here ls here = after ls (λ bits. Ok (bits, here))

abbrev pub part_kind_lanes : Role → List Lane → ℕ → PartKind → Here → Outcome (List Lane × Here)
part_kind_lanes role before at (Whole w) here = whole_lanes role before at w here
part_kind_lanes role before at (Bit w i) here = bits_here (select_lanes before at w i i here.scope) here
part_kind_lanes role before at (Slice w i j) here = bits_here (select_lanes before at w i j here.scope) here
part_kind_lanes role before at (Literal size value) here = bits_here (literal_bits role before at size value) here

-- The bits of a part, behind those before.
abbrev pub part_lanes : Role → List Lane → Part → Here → Outcome (List Lane × Here)
part_lanes role before p here = part_kind_lanes role before p.at p.what here

-- The bits of the parts from left to right, behind those before.
abbrev pub lanes_of : Role → List Lane → List Part → Here → Outcome (List Lane × Here)
lanes_of role before [] here = Ok (before, here)
lanes_of role before (p ∷ ps) here = after (part_lanes role before p here) (λ l. lanes_of role l.0 ps l.1)

-- The bits of an expression from left to right.
abbrev pub bits_of : Role → Expr → Here → Outcome (List Lane × Here)
bits_of role e here = lanes_of role [] e.parts here

-- a name by itself
abbrev pub whole_name : Word → Expr
whole_name w = expr_of w.at (whole_part w ∷ [])
