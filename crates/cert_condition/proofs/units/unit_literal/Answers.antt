-- The literal of a place stands where the place does.
use Rattle.std.proofs.Common.{rules, ◌≡◌, ap, ◌∙◌, sym}
use Rattle.std.proofs.lemmas.Int.{to_z-of_z}
use mir.Syntax.{w32}
use mir.Val.{SFits}
use Rattle.design_circuit.specs.Order.{position_of}
use Rattle.law_model.proofs.ConeModels.{position_rises}
use Rattle.decide_cnf.specs.Literals.{literal_at, says}
use Rattle.cert_condition.specs.View.{settled_bit}
use Rattle.cert_condition.proofs.units.unit_literal.Goals as goal

pub returns : goal.returns
returns c =
    let at : position_of c.args.places.now c.args.number ≡ c.position_in-position.result =
    ap (position_of c.args.places.now) (sym c.position_in-position.ensures.place)
    ∙ position_rises c.args.places.now c.position_in-position.result c.requires.places.rising c.position_in-position.ensures.within in
    let fits : SFits w32 c.literal_for.result = search rules in
    to_z-of_z w32 c.literal_for.result fits ∙ c.literal_for.ensures
    ∙ ap (says (literal_at c.args.literals.now c.position_in-position.result)) c.has_one.ensures
    ∙ ap (λ n. says (literal_at c.args.literals.now n) (settled_bit c.args.wave.now c.args.number)) (sym at)
