-- A module that an instance opens (IEEE 1364-2005, clause 12.1.2).
use Rattle.std.specs.Prelude.{List, [], ◌∷◌, ◌++◌, Ok}
use Rattle.netlist_grammar.specs.declared.tree.Word.{Word}
use Rattle.netlist_grammar.specs.declared.tree.Module.{Module}
use Rattle.netlist_grammar.specs.declared.tree.InstanceItem.{InstanceItem}
use Rattle.design_circuit.specs.declared.name.NamePart.{NamePart}
use Rattle.elab_nets.specs.declared.fault.ElabErr.TheVariants.{PortMismatch}
use Rattle.elab_nets.specs.Outcome.{Outcome, after, or_refuse}
use Rattle.elab_nets.specs.State.{part_of}
use Rattle.elab_names.specs.Scope.{Scope, scope_of, named_instance}
use Rattle.elab_names.specs.Here.{Here, here_of}
use Rattle.elab_names.specs.Names.{opened}
use Rattle.elab_joins.specs.Connect.{all_connected}

-- The names of an instance's module: none so far, behind one instance more.
abbrev pub inner_scope : List NamePart → Word → Scope
inner_scope prefix w = scope_of (prefix ++ part_of w ∷ []) [] []

-- The name of an instance, which it has and shares with no other; then the module's declarations and ports; then the
-- connections. Gives the names outside, and the module as it is open.
abbrev pub joined : InstanceItem → Module → Here → Outcome (Scope × Here)
joined i m here =
    after (or_refuse i.name (PortMismatch i.definition.at)) (λ w.
    after (named_instance w here.scope) (λ outer.
    after (opened m.ports m.items (here_of (inner_scope here.scope.prefix w) here.state)) (λ inner.
    after (all_connected inner.scope m.ports i.connections (here_of outer inner.state)) (λ done.
    Ok (done.scope, here_of inner.scope done.state)))))
