-- A register that sees certain values alone.
use Rattle.std.proofs.Common.{◌≡◌, ◌-◌, ◌%◌, ◌≤◌, ◌∙◌, sym, ap, subst}
use Rattle.std.specs.Bool.{OnTrue}
use Rattle.design_circuit.specs.Circuit.{job_in}
use Rattle.design_circuit.specs.Job.{net_of, step_of}
use Rattle.design_circuit.specs.Rule.{remade}
use Rattle.design_circuit.specs.declared.design.Driver.TheVariants.{Register}
use Rattle.design_circuit.proofs.Rules.{spot}
use Rattle.law_model.specs.Class.{before}
use Rattle.wave_class.specs.Facts.{plain_class}
use Rattle.wave_class.specs.Wires.{PlaceSeesKnown}
use Rattle.wave_class.proofs.SettledWires.{register_settled}
use Rattle.wave_class.proofs.StepBefore.{before_later}
use Rattle.wave_class.proofs.WiredPlaces.{later_step}
use Rattle.wave_class.proofs.moved.moved_register.Goals as goal

pub returns-in-Register : goal.returns-in-Register
returns-in-Register g c =
    let asked = c.args.asked.now in
    let j = job_in asked.circuit.now in
    let fits = asked.circuit.now.fits.fits_job in
    let certain = g.E.Source.reads asked.earlier.now in
    let latching = c.in-Register.latching in
    let s = spot j fits asked.place asked.within in
    let known : PlaceSeesKnown j certain asked.place =
    subst (λ b. OnTrue b (PlaceSeesKnown j certain asked.place)) c.if-not-sees_known.false c.sees_known.ensures.known in
    let more : j.width ≤ asked.place =
    subst (λ b. OnTrue b (j.width ≤ asked.place)) c.if-not-sees_known.false c.sees_known.ensures.later in
    let driver : j.driver (net_of j asked.place) ≡ Register latching =
    ap j.driver (sym c.spot_of-spot.ensures.net) ∙ sym c.driver_at.ensures ∙ c.in-Register.is in
    let back : asked.place - c.width_of.result ≡ before j asked.place = ap (λ w. asked.place - w) c.width_of.ensures
    ∙ before_later j fits asked.place asked.within more in
    c.plain_class.ensures ∙ ap plain_class (c.remade_value.ensures
    ∙ ap (λ v. remade j certain v c.spot_of-spot.result.step latching) (c.value-kept.ensures ∙ ap certain back)
    ∙ ap (λ t. remade j certain (certain (before j asked.place)) t latching) c.spot_of-spot.ensures.step)
    ∙ sym (register_settled j certain asked.place latching
    (later_step j.width (step_of j asked.place) (asked.place % j.width) asked.place s.whole s.position more) driver
    (known latching driver))
