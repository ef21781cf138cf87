-- The class of the next place is found.
use Rattle.std.proofs.Common.{◌≡◌, ◌∙◌, refl, subst, sym, true}
use Rattle.design_circuit.specs.Job.{Job}
use Rattle.wave_bytes.specs.OfQuiet.{tells_calm_of}
use Rattle.wave_bytes.specs.View as view
use Rattle.wave_due.proofs.Visits.{tells_found}
use Rattle.wave_due.proofs.walk.tells_next.Goals as goal

pub returns-in-Some : goal.returns-in-Some
returns-in-Some c = λ yes.
    let job = view.job c.args.waveform.now in
    tells_found job c.args.waveform.now.written c.in-Some.class c.args.place (job.driver c.args.place.net)
    c.requires.next (sym c.in-Some.is ∙ c.next_class.ensures) c.requires.place refl
    (subst (λ (j : Job). tells_calm_of j.levels c.args.place.step (j.driver c.args.place.net) c.in-Some.class ≡ true)
    c.circuit.ensures.job (c.tells_there.ensures yes))
