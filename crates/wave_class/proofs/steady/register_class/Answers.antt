-- A register that sees the same gives the same.
use Rattle.std.proofs.Common.{◌≡◌, ◌-◌, ◌≤◌, ◌∙◌, true, false, sym, ap, arith, subst}
use Rattle.std.specs.Bool.{OnTrue}
use Rattle.design_circuit.specs.Circuit.{job_in}
use Rattle.law_model.specs.Class.{before, class_of}
use Rattle.law_model.specs.declared.class.ClassByNumber.TheVariants.{Carried}
use Rattle.wave_class.specs.Facts.{is_open, is_plain, plain_class}
use Rattle.wave_class.specs.Wires.{PlaceSeesTheSame}
use Rattle.wave_class.proofs.StepBefore.{before_later}
use Rattle.wave_class.proofs.SteadyClasses.{open_told, steady_open, steady_plain}
use Rattle.wave_class.proofs.WiredRegisters.{register_seen}
use Rattle.wave_class.proofs.steady.register_class.Goals as goal

pub returns-then-is_plain : goal.returns-then-is_plain
returns-then-is_plain g c =
    let asked = c.args.asked.now in
    let j = job_in asked.circuit.now in
    let fits = asked.circuit.now.fits.fits_job in
    let certain = g.E.Source.reads asked.earlier.now in
    let same : PlaceSeesTheSame j certain asked.place =
    subst (λ b. OnTrue b (PlaceSeesTheSame j certain asked.place)) c.if-not-sees_the_same.false
    c.sees_the_same.ensures.same in
    let more : j.width ≤ asked.place =
    subst (λ b. OnTrue b (j.width ≤ asked.place)) c.if-not-sees_the_same.false c.sees_the_same.ensures.later in
    let back : asked.place - c.width_of.result ≡ before j asked.place = ap (λ w. asked.place - w) c.width_of.ensures
    ∙ before_later j fits asked.place asked.within more in
    let all = asked.within in
    let seen = register_seen j fits certain asked.place c.args.pins.now asked.within
    c.requires.stands
    asked.agrees same in
    let less = seen.less in
    let plain : is_plain (class_of j certain (before j asked.place)) ≡ true =
    (asked.facts (before j asked.place) less).plain (sym (c.is_plain.ensures
    ∙ ap (λ k. (g.E.Earlier.facts asked.earlier.now k).plain) back) ∙ c.if-is_plain.true) in
    c.plain_class.ensures ∙ ap plain_class (c.value.ensures ∙ ap certain back)
    ∙ steady_plain j fits certain asked.place (before j asked.place) (omega (arith, less, all)) seen.kinds
    (asked.agrees (before j asked.place) less) plain

pub returns-then-is_open : goal.returns-then-is_open
returns-then-is_open g c =
    let asked = c.args.asked.now in
    let j = job_in asked.circuit.now in
    let fits = asked.circuit.now.fits.fits_job in
    let certain = g.E.Source.reads asked.earlier.now in
    let same : PlaceSeesTheSame j certain asked.place =
    subst (λ b. OnTrue b (PlaceSeesTheSame j certain asked.place)) c.if-not-sees_the_same.false
    c.sees_the_same.ensures.same in
    let more : j.width ≤ asked.place =
    subst (λ b. OnTrue b (j.width ≤ asked.place)) c.if-not-sees_the_same.false c.sees_the_same.ensures.later in
    let back : asked.place - c.width_of.result ≡ before j asked.place = ap (λ w. asked.place - w) c.width_of.ensures
    ∙ before_later j fits asked.place asked.within more in
    let all = asked.within in
    let seen = register_seen j fits certain asked.place c.args.pins.now asked.within
    c.requires.stands
    asked.agrees same in
    let less = seen.less in
    let open_is : is_plain (class_of j certain (before j asked.place)) ≡ false =
    open_told j certain (before j asked.place) (g.E.Earlier.facts asked.earlier.now (before j asked.place))
    (asked.facts (before j asked.place) less) (sym (c.is_open.ensures
    ∙ ap (λ k. is_open (g.E.Earlier.facts asked.earlier.now k)) back) ∙ c.if-is_open.true) in
    ap (λ k. Carried k false) back
    ∙ steady_open j fits certain asked.place (before j asked.place) (omega (arith, less, all)) seen.kinds
    open_is
    (seen.passes open_is)
