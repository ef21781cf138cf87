-- Continuous assignments (IEEE 1364-2005, clause 6.1).
use Rattle.std.specs.Prelude.{ℕ, ◌==◌, Option, Some, None, List, length, Ok, Err, if◌then◌else◌}
use Rattle.netlist_grammar.specs.declared.tree.Expr.{Expr}
use Rattle.netlist_grammar.specs.declared.tree.Word.{Word}
use Rattle.netlist_grammar.specs.declared.tree.Declare.{Declare}
use Rattle.elab_nets.specs.declared.fault.ElabErr.TheVariants.{Width}
use Rattle.elab_nets.specs.Outcome.{Outcome, after}
use Rattle.elab_nets.specs.State.{State}
use Rattle.elab_names.specs.Here.{Here}
use Rattle.elab_bits.specs.declared.run.Lane.{Lane}
use Rattle.elab_bits.specs.declared.expression.Role.TheVariants.{Driven, Taken}
use Rattle.elab_bits.specs.Bits.{bits_of, whole_name}
use Rattle.elab_bits.specs.Drive.{all_driven}
use Rattle.elab_gates.specs.Terminals.{with_state}

-- As many bits on the left as on the right, which stands at this byte.
abbrev pub drives : ℕ → List Lane → List Lane → State → Outcome State
drives at ls rs s = if length ls == length rs then all_driven ls rs s else Err (Width at)

-- The bits on the left take those of the expression on the right.
abbrev pub assigned : List Lane → Expr → Here → Outcome Here
assigned ls right here =
    after (bits_of Taken right here) (λ r.
    after (drives right.at ls r.0 r.1.state) (λ s.
    Ok (with_state r.1 s)))

abbrev pub assign_item : Expr → Expr → Here → Outcome Here
assign_item left right here = after (bits_of Driven left here) (λ l. assigned l.0 right l.1)

-- The `=` of a declaration assigns to the whole name.
abbrev pub value_of : Word → Option Expr → Here → Outcome Here
value_of w None here = Ok here
value_of w (Some right) here = assign_item (whole_name w) right here

abbrev pub value_item : Declare → Here → Outcome Here
value_item d here = value_of d.name d.value here
