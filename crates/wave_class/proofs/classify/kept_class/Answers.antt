-- What is kept of a place tells its class.
use Rattle.std.proofs.Common.{◌≡◌, ◌∙◌, true, false, sym, ap, arith}
use Rattle.design_circuit.specs.Circuit.{job_in}
use Rattle.law_model.specs.Class.{before, class_of}
use Rattle.law_model.specs.Yields.{is_line}
use Rattle.law_model.specs.declared.class.ClassByNumber.TheVariants.{Carried}
use Rattle.wave_class.specs.Facts.{is_plain, place_is_carried_on, plain_class}
use Rattle.wave_class.proofs.SteadyClasses.{carried_on, line_is, plain_is}
use Rattle.wave_class.proofs.classify.kept_class.Goals as goal

pub returns-then-is_carried_on : goal.returns-then-is_carried_on
returns-then-is_carried_on g c =
    let j = job_in c.args.circuit.now in
    let certain = g.E.Source.reads c.args.earlier.now in
    let place = c.args.place in
    let on : place_is_carried_on j certain place ≡ true =
    (c.requires.facts place (omega arith)).carries (sym c.is_carried_on.ensures ∙ c.if-is_carried_on.true) in
    ap (λ k. Carried k false) c.place_before.ensures
    ∙ sym (carried_on (class_of j certain place) (before j place) on)

pub returns-then-is_plain : goal.returns-then-is_plain
returns-then-is_plain g c =
    let j = job_in c.args.circuit.now in
    let certain = g.E.Source.reads c.args.earlier.now in
    let place = c.args.place in
    let plain : is_plain (class_of j certain place) ≡ true =
    (c.requires.facts place (omega arith)).plain (sym c.is_plain.ensures ∙ c.if-is_plain.true) in
    c.plain_class.ensures ∙ ap plain_class c.value.ensures
    ∙ sym (plain_is certain (class_of j certain place) (certain place) plain (c.requires.agrees place (omega arith)))

pub returns-then-is_line : goal.returns-then-is_line
returns-then-is_line g c =
    let j = job_in c.args.circuit.now in
    let certain = g.E.Source.reads c.args.earlier.now in
    let place = c.args.place in
    let line : is_line (class_of j certain place) ≡ true =
    (c.requires.facts place (omega arith)).line (sym c.is_line.ensures ∙ c.if-is_line.true) in
    sym (line_is (class_of j certain place) line)
