use Rattle.std.proofs.Common.{◌≡◌, ◌+◌, ◌++◌, ◌∷◌, [], ℕ, List, take, sym, ap, ◌∙◌, arith, subst, slice_index_or, true, false}
use Rattle.std.proofs.lemmas.List.{take_more}
use Rattle.decide_choices.specs.declared.choice.Choice.{Choice}
use Rattle.decide_choices.specs.Choices.{nothing_chosen}
use Rattle.decide_choices.specs.Halves.{AreAdded}
use Rattle.decide_choices.proofs.AddedChoices.{added_more, added_skipped}
use Rattle.decide_choices.proofs.joined.add_alone.Goals as goal
use Rattle.decide_choices.proofs.joined.add_alone.Goals.{then-not-forces+in_ok-push, else-not-forces}

pub found-preserved : goal.found-preserved
found-preserved c =
    let found : List Choice = c.args.found.now in
    let i : ℕ = c.found.choice-index in
    let one : Choice = slice_index_or found i nothing_chosen in
    let seam : take (i + 1) found ≡ take i found ++ one ∷ [] = take_more found i nothing_chosen (omega arith) in
    elim c.if-not-forces.branch [
      | then-not-forces+in_ok-push w ↦
          (let grown = added_more c.args.other.now c.args.count c.args.bit c.args.last c.args.choices.now.items
          (take i found)
          c.found.choices.items one c.found.invariant
          (λ forces. (let e : false ≡ true = sym w.if-not-forces.true ∙ c.forces.ensures.1 forces in cc)) in
          let pushed = ap (λ v. v.items) w.choices-is ∙ w.in_ok-push.ensures.ok
          ∙ ap (λ x. c.found.choices.items ++ x ∷ []) w.with_argument.ensures in
          subst (λ xs. AreAdded c.args.other.now c.args.count c.args.bit c.args.last c.args.choices.now.items xs
          c.if-not-forces.choices.items) (sym seam)
          (subst (AreAdded c.args.other.now c.args.count c.args.bit c.args.last c.args.choices.now.items
          (take i found ++ one ∷ [])) (sym pushed) grown))
      | else-not-forces w ↦
          (let same = added_skipped c.args.other.now c.args.count c.args.bit c.args.last c.args.choices.now.items
          (take i found) c.found.choices.items one c.found.invariant (c.forces.ensures.0 w.if-not-forces.false) in
          subst (λ xs. AreAdded c.args.other.now c.args.count c.args.bit c.args.last c.args.choices.now.items xs
          c.if-not-forces.choices.items) (sym seam)
          (subst (AreAdded c.args.other.now c.args.count c.args.bit c.args.last c.args.choices.now.items
          (take i found ++ one ∷ [])) (sym (ap (λ v. v.items) w.choices-is)) same))
    ]
