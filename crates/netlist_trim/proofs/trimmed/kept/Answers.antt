-- The copies are of what the top needs.
use Rattle.std.proofs.Common.{◌++◌, ◌∙◌, ap, sym, subst, List, ℕ}
use Rattle.netlist_trim.specs.Definition.{Defined}
use Rattle.netlist_trim.specs.Copies.{copies}
use Rattle.netlist_trim.specs.Trims.{Keeps}
use Rattle.netlist_trim.proofs.Kept.{keeps_copies}
use Rattle.netlist_trim.proofs.trimmed.kept.Goals as goal

pub returns : goal.returns
returns c =
    let text = c.args.text.now in
    let ds = c.args.library.now in
    let out = c.in_ok-put_copies.ensures ∙ ap (λ (l : List ℕ). l ++ copies text ds c.in_ok-numbers.numbers c.definitions.result.now) c.new-out.ensures.items
    ∙ ap (λ (l : List Defined). copies text ds c.in_ok-numbers.numbers l) c.definitions.ensures in
    λ top first. subst (Keeps text ds top ds) (sym out) (keeps_copies text ds top c.in_ok-numbers.numbers c.args.number first c.in_ok-numbers.ensures)
