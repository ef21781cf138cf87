-- The two fillings of the place give its root two bits.
use Rattle.std.proofs.Common.{◌≡◌, ◌∙◌, Bool, IfSome, ap, subst}
use Rattle.design_circuit.specs.declared.place.Place.{Place}
use Rattle.design_circuit.specs.Job.{Job, number_of}
use Rattle.wave_proved.specs.Contents.{job}
use Rattle.wave_proved.specs.Pairs.{GiveBoth}
use Rattle.report_blame.proofs.RootCauses.{pair_leads}
use Rattle.report_blame.proofs.causes.line_cause.Goals as goal

pub turn_of-requires-clause-way : goal.turn_of-requires-clause-way
turn_of-requires-clause-way c =
    let wave = c.args.wave.now in
    let root : Place × Bool = (c.args.root.place, c.args.root.inverted) in
    let number : c.number_of.result ≡ number_of (job wave) root.0 =
    c.number_of.ensures.number ∙ ap (λ (j : Job). number_of j root.0) c.circuit.ensures.job in
    rw (number, c.as_slice.ensures, c.as_slice-in-Some.ensures)
    (pair_leads wave c.circuit.ensures.wave c.args.place root c.requires.place c.requires.root.root c.in-Some.pair
    (subst (λ p. IfSome p (GiveBoth wave c.args.place)) c.in-Some.is c.in_ok-pair.ensures.both))

pub cause_at-requires-clause-way : goal.cause_at-requires-clause-way
cause_at-requires-clause-way c =
    let wave = c.args.wave.now in
    let root : Place × Bool = (c.args.root.place, c.args.root.inverted) in
    let number : c.number_of.result ≡ number_of (job wave) root.0 =
    c.number_of.ensures.number ∙ ap (λ (j : Job). number_of j root.0) c.circuit.ensures.job in
    rw (number, c.as_slice.ensures, c.as_slice-in-Some.ensures)
    (pair_leads wave c.circuit.ensures.wave c.args.place root c.requires.place c.requires.root.root c.in-Some.pair
    (subst (λ p. IfSome p (GiveBoth wave c.args.place)) c.in-Some.is c.in_ok-pair.ensures.both))
