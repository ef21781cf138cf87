-- One item more.
use Rattle.std.proofs.Common.{◌≡◌, ◌∙◌, ◌+◌, List, [], ◌∷◌, ◌++◌, take, sym, ap}
use Rattle.std.proofs.lemmas.List.{take_more}
use Rattle.netlist_grammar.specs.declared.tree.Item.{Item}
use Rattle.elab_names.specs.Outline.{left_of}
use Rattle.elab_names.proofs.Outlining.{left_append}
use Rattle.elab_names.proofs.declarations.left_of.Goals as goal

pub items-preserved : goal.items-preserved
items-preserved c =
    let items = c.args.items.now in
    let k = c.items.item-index in
    let i : Item = c.item-item.result in
    let grown : take (k + 1) items ≡ take k items ++ i ∷ [] = take_more items k i c.items-test.true ∙ ap (λ (x : Item). take k items ++ x ∷ []) (sym c.item-item.is) in
    c.in_ok-push_left.ensures ∙ ap (λ (l : List Item). l ++ left_of (i ∷ [])) c.items.invariant ∙ sym (left_append (take k items) (i ∷ [])) ∙ ap left_of (sym grown)
