-- The definitions that instances name.
use Rattle.std.specs.Prelude.{ℕ, false, [], List, slice_index_or}
use Rattle.design_cell.specs.Table.{Table}
use Rattle.netlist_grammar.specs.declared.tree.Word.{Word}
use Rattle.netlist_grammar.specs.declared.tree.Module.{Module}
use Rattle.netlist_grammar.specs.declared.tree.Source.{Source}

-- a text's tree, and the tables of its primitives
pub record Library : Type 0 where
  pub source : Source
  pub tables : List Table

abbrev pub library_of : Source → List Table → Library
library_of source tables = record { source = source; tables = tables }

abbrev pub no_word : Word
no_word = record { text = []; escaped = false; at = 0 }

-- An empty module stands behind the last one.
abbrev pub no_module : Module
no_module = record { name = no_word; ports = []; items = [] }

abbrev pub module_of : Library → ℕ → Module
module_of l k = slice_index_or l.source.modules k no_module
