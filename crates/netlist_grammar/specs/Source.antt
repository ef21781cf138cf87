-- Texts and what they stand for.
use Rattle.std.specs.Prelude.{◌≡◌, ℕ, List, None}
use Rattle.netlist_tokens.specs.Left.{Left}
use Rattle.netlist_tokens.specs.Tokens.{Tokens}
use Rattle.netlist_grammar.specs.Lexemes.{tokens_of}
use Rattle.netlist_grammar.specs.Text.{Text}
use Rattle.netlist_grammar.specs.Refusal.{RefusesFirst}
use Rattle.netlist_grammar.specs.Fault.{refusal_of}
use Rattle.netlist_grammar.specs.declared.fault.NetlistFault.{NetlistFault}
use Rattle.netlist_grammar.specs.declared.tree.Source.{Source}

-- A text is one of the grammar, and stands for a tree.
pub record IsTree (text : List ℕ) (tree : Source) : Type 0 where
  pub left : Left
  pub told : Tokens 0 text left
  pub parsed : Text (tokens_of text left).tokens tree
  pub whole : left.fault ≡ None

-- A text is none of the grammar, and this is what is wrong with it.
pub record IsRefused (text : List ℕ) (fault : NetlistFault) : Type 0 where
  pub left : Left
  pub told : Tokens 0 text left
  pub first : RefusesFirst (tokens_of text left).tokens (tokens_of text left).stop (refusal_of fault)
