use Rattle.std.proofs.Common.{◌≡◌, ◌-◌, ◌∷◌, [], false, true, sym, ◌∙◌, arith, subst}
use Rattle.std.proofs.lemmas.Result.{IfOk-weaker}
use Rattle.decide_choices.specs.Choices.{AreChoices, IsValueTable, nothing_chosen}
use Rattle.decide_choices.specs.Halves.{AreAdded}
use Rattle.decide_choices.proofs.EmptyTables.{none_forces, one_forces}
use Rattle.decide_choices.proofs.JoinedChoices.{halves_joined}
use Rattle.decide_choices.proofs.choices.+choices_of.Goals as goal

pub returns-then-not-has_bit : goal.returns-then-not-has_bit
returns-then-not-has_bit t c = subst (AreChoices c.args.values.now c.args.count c.args.bit) (sym c.new.ensures.items)
    (none_forces c.args.values.now c.args.count c.args.bit c.requires
    (λ at. (let e : false ≡ true = sym c.if-not-has_bit.true ∙ c.has_bit.ensures.1 at in cc)))

pub returns-then-count-eq0 : goal.returns-then-count-eq0
returns-then-count-eq0 t c = IfOk-weaker c.of_nothing.result (λ choices. choices.items ≡ nothing_chosen ∷ [])
    (λ choices. AreChoices c.args.values.now c.args.count c.args.bit choices.items)
    (λ choices is. subst (AreChoices c.args.values.now c.args.count c.args.bit) (sym is)
    (subst (λ n. AreChoices c.args.values.now n c.args.bit (nothing_chosen ∷ [])) (sym c.if-count-eq0.true)
    (one_forces c.args.values.now c.args.bit
    (subst (λ n. IsValueTable n c.args.values.now) c.if-count-eq0.true c.requires)
    (c.has_bit.ensures.0 c.if-not-has_bit.false)))) c.of_nothing.ensures

pub returns : goal.returns
returns t c =
    let last = c.args.count - 1 in
    let bit = c.args.bit in
    let high = c.split_last.result.1.now in
    let low = c.split_last.result.0.now in
    halves_joined c.args.count last bit c.args.values.now low high c.in_ok-both.both.items
    c.in_ok-choices.choices.items c.in_ok-zeros.zeros.items c.in_ok-ones.ones.items c.add_alone.new.choices.items
    c.add_alone-2.new.choices.items (omega arith) c.split_last.ensures.low c.split_last.ensures.high
    c.in_ok-both.ensures.both
    (subst (λ both. AreChoices both last bit c.in_ok-choices.choices.items) c.deref.ensures.value
    c.in_ok-choices.ensures) c.in_ok-zeros.ensures
    (subst (λ zeros. AreAdded high last bit false c.in_ok-choices.choices.items zeros c.add_alone.new.choices.items)
    c.as_slice.ensures c.in_ok-add_alone.ensures) c.in_ok-ones.ensures
    (subst (λ ones. AreAdded low last bit true c.add_alone.new.choices.items ones c.add_alone-2.new.choices.items)
    c.as_slice-2.ensures c.in_ok-add_alone-2.ensures)
