-- One word more.
use Rattle.std.proofs.Common.{◌≡◌, ℕ, ◌+◌, List, [], ◌∷◌, ◌++◌, take, sym, ap, subst, ◌∙◌, not, if◌then◌else◌}
use Rattle.std.proofs.lemmas.List.{take_more}
use Rattle.netlist_grammar.specs.declared.tree.Word.{Word}
use Rattle.elab_names.specs.Sets.{has, HasNames}
use Rattle.elab_names.proofs.SetLemmas.{has_more}
use Rattle.elab_names.proofs.ports.add_names.Goals as goal

pub words-preserved : goal.words-preserved
words-preserved c =
    let words = c.args.words.now in
    let k = c.words.word-index in
    let w : Word = c.word-item.result in
    let fresh = c.in_ok-add.field-0 in
    let grown_list : take (k + 1) words ≡ take k words ++ w ∷ [] = take_more words k w c.words-test.true ∙ ap (λ (x : Word). take k words ++ x ∷ []) (sym c.word-item.is) in
    let new = c.in_ok-add.ensures.new ∙ ap (λ (t : List ℕ). not (has c.words.names t)) c.as_slice.ensures in
    let names = c.in_ok-add.ensures.names ∙ ap (λ (t : List ℕ). if fresh then c.words.names ++ t ∷ [] else c.words.names) c.as_slice.ensures in
    subst (λ (ws : List Word). HasNames c.add.new.self ws) (sym grown_list) (has_more c.words.names (take k words) w c.add.new.self c.words.invariant fresh new names)
