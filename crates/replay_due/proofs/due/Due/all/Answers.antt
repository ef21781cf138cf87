-- Each word has all ones.
use Rattle.std.proofs.Common.{◌≡◌, ◌+◌, ◌/◌, ◌^◌, ◌-◌, ◌<◌, ◌∙◌, arith, slice_index, ap, List, ℕ}
use Rattle.std.proofs.lemmas.List.{get_or-replicate}
use Rattle.replay_due.proofs.Words.{due_in_ones, levels_all}
use Rattle.replay_due.proofs.due.Due.all.Goals as goal

pub returns-clause-all : goal.returns-clause-all
returns-clause-all c = λ position less.
    (let room : position / 64 < c.args.count / 64 + 1 = omega (arith, less) in
    let word : slice_index c.in_ok-words.words.items (position / 64) ≡ 2 ^ 64 - 1 = ap (λ (ws : List ℕ). slice_index ws (position / 64)) (c.in_ok-words.ensures.items_if_clones_equal (λ y same. same)) ∙ get_or-replicate (c.args.count / 64 + 1) (position / 64) (2 ^ 64 - 1) 0 room in
    due_in_ones c.in_ok-words.words.items position word)

pub invariant_of-result : goal.invariant_of-result
invariant_of-result c = levels_all c.args.count c.in_ok-words.words.items c.in_ok-groups.groups.items c.requires (c.in_ok-words.ensures.items_if_clones_equal (λ y same. same)) (c.in_ok-groups.ensures.items_if_clones_equal (λ y same. same))
