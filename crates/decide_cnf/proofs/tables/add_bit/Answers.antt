-- The clause of one more choice, and those of all at the end.
use Rattle.std.proofs.Common.{◌≡◌, ℕ, List, length, sym, arith, subst, take}
use Rattle.std.proofs.lemmas.List.{take_all}
use Rattle.decide_choices.specs.declared.choice.Choice.{Choice}
use Rattle.decide_choices.specs.Choices.{AreChoices, nothing_chosen}
use Rattle.decide_cnf.specs.Growth.{IsGrown, IsSomeClause}
use Rattle.decide_cnf.proofs.GrownLists.{bit_grown, choices_more}
use Rattle.decide_cnf.proofs.tables.add_bit.Goals as goal

pub choices-preserved : goal.choices-preserved
choices-preserved c = choices_more c.args.table.now.literals.now c.args.table.now.arguments.now
    c.args.table.now.position c.args.bit c.deref-choice-items.result.now c.choices.choice-index nothing_chosen
    c.args.lists.now c.choices.lists c.add_choice.new.lists c.choices-test.true c.choices.invariant
    c.in_ok-add_choice.ensures

pub returns : goal.returns
returns c =
    let arguments : List ℕ = c.args.table.now.arguments.now in
    let found : List Choice = c.deref-choice-items.result.now in
    let are = subst (AreChoices c.args.table.now.values.now (length arguments) c.args.bit)
    (sym c.deref-choice-items.ensures.value)
    (c.in_ok-choices.ensures (length arguments) c.requires.table.long) in
    let whole : take c.choices.choice-index found ≡ found = take_all c.choices.choice-index found (omega arith) in
    bit_grown c.args.table.now.literals.now arguments c.args.table.now.values.now c.args.table.now.position c.args.bit
    found c.args.lists.now c.choices.lists are
    (subst (λ xs. IsGrown (IsSomeClause c.args.table.now.literals.now arguments c.args.table.now.position c.args.bit xs)
    c.args.lists.now c.choices.lists) whole c.choices.invariant)
