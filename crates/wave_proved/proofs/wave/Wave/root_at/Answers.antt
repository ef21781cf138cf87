-- The root is written, since it isn't after the place.
use Rattle.std.proofs.Common.{◌≡◌, ◌∙◌, ◌<◌, ap, subst}
use Rattle.design_circuit.specs.Fits.{place_at}
use Rattle.design_circuit.specs.Job.{Job, number_of, places_of}
use Rattle.wave_proved.specs.Contents.{job}
use Rattle.wave_proved.proofs.RootPlaces.{root_is}
use Rattle.wave_proved.proofs.wave.Wave.root_at.Goals as goal

pub returns : goal.returns
returns c =
    let j = job c.args.self.now in
    let same = c.circuit-circuit.ensures.job in
    let number : c.number_of.result ≡ number_of j c.args.place =
    c.number_of.ensures.number ∙ ap (λ (k : Job). number_of k c.args.place) same in
    root_is c.args.self.now c.args.place c.place_of.result c.number_of.result c.root-root.result.place
    c.root-root.result.inverted c.circuit-circuit.ensures.wave number
    (rw number c.requires.written)
    (subst (λ (k : Job). c.number_of.result < places_of k) same c.number_of.ensures.within)
    c.root-root.ensures.place c.root-root.ensures.inverted c.root-root.ensures.within
    (c.place_of.ensures ∙ ap (λ (k : Job). place_at k c.root-root.result.place) same)
