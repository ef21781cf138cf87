-- The table is that of the node.
use Rattle.std.proofs.Common.{◌≡◌, List, IfOk, ap, subst, sym, ◌∙◌}
use Rattle.design_circuit.specs.declared.place.Place.{Place}
use Rattle.decide_tables.specs.Other.{IsShownBy}
use Rattle.decide_tables.specs.Tables.{AreAllOf, TablesView}
use Rattle.decide_tables.proofs.OtherNumbers.{found_compared}
use Rattle.decide_tables.proofs.RightTables.{table_right}
use Rattle.decide_tables.proofs.tables.SourceTables.found.Goals as goal

pub returns-in-Some : goal.returns-in-Some
returns-in-Some c =
    let list : c.as_slice.result.now ≡ c.args.self.now.list =
    c.as_slice.ensures.value ∙ ap (λ (v : TablesView). v.list) c.self.view_is in
    let right : AreAllOf c.args.graph.now c.args.self.now.list c.self.inside.young =
    subst (AreAllOf c.args.graph.now c.args.self.now.list) (sym (ap (λ (v : TablesView). v.young) c.self.view_is))
    c.requires.young in
    found_compared c.args.graph.now c.args.self.now.list c.args.node c.in-Some.blocks.now c.compare_blocks.result
    (table_right c.args.graph.now c.args.self.now.list c.self.inside.young c.args.node c.in-Some.blocks.now right
    c.in-Some.ensures)
    (subst (λ (l : List Place). IfOk c.compare_blocks.result (IsShownBy l c.in-Some.blocks.now)) list
    c.compare_blocks.ensures)
