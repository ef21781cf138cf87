-- A copy more.
use Rattle.std.proofs.Common.{◌++◌, ◌∷◌, [], ◌∙◌, ap}
use Rattle.netlist_trim.specs.Definition.{Defined}
use Rattle.netlist_trim.specs.Copies.{copies}
use Rattle.netlist_trim.proofs.Kept.{copies_more}
use Rattle.netlist_trim.proofs.copies.put_copies.Goals as goal

pub definitions-preserved : goal.definitions-preserved
definitions-preserved c =
    copies_more c.args.text.now c.args.library.now c.args.numbers.now c.args.definitions.now c.definitions.definition-index c.definition-item.result c.args.out.now.items c.definitions.out.items c.put_kept.new.out.items
    c.definitions-test.true
    (c.in_ok-put_kept.ensures ∙ ap (λ (d : Defined). c.definitions.out.items ++ copies c.args.text.now c.args.library.now c.args.numbers.now (d ∷ [])) c.definition-item.is)
    c.definitions.invariant
