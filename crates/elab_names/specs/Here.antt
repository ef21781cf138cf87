-- Where elaboration stands.
use Rattle.std.specs.Prelude.{ℕ, Ok}
use Rattle.netlist_grammar.specs.Trees.{Range}
use Rattle.netlist_grammar.specs.declared.tree.Word.{Word}
use Rattle.netlist_grammar.specs.declared.tree.NetKind.{NetKind}
use Rattle.elab_nets.specs.Outcome.{Outcome, after}
use Rattle.elab_nets.specs.State.{State, made}
use Rattle.elab_names.specs.declared.scope.Entry.{Entry}
use Rattle.elab_names.specs.Scope.{Scope, with_name}

-- the names of the module, and all that is made
pub record Here : Type 0 where
  pub scope : Scope
  pub state : State

abbrev pub here_of : Scope → State → Here
here_of scope state = record { scope = scope; state = state }

abbrev pub entry : NetKind → Range → ℕ → Entry
entry what range base = record { what = what; range = range; base = base }

-- A new name of the module, with nets of its own.
abbrev pub introduced : NetKind → Range → Word → Here → Outcome (Entry × Here)
introduced what range w here =
    after (made here.scope.prefix what range w here.state) (λ m.
    Ok (entry what range m.0, here_of (with_name w.text (entry what range m.0) here.scope) m.1))
