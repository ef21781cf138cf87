-- The place has what the replay has.
use Rattle.std.proofs.Common.{◌≡◌, ◌<◌, ◌+◌, ◌*◌, ◌∙◌, None, ℕ, sym, ap, subst, slice_index_or}
use Rattle.design_circuit.specs.declared.place.Place.{Place}
use Rattle.design_circuit.specs.Fits.{place_at}
use Rattle.design_circuit.specs.History.{HasPlace, WriterView}
use Rattle.replay_fans.proofs.Positions.{net_within}
use Rattle.replay_history.specs.Going.{forced_in, job_at}
use Rattle.replay_history.proofs.Places.{place_at_position}
use Rattle.replay_history.proofs.Writing.{filled_place, index_within, others_kept, place_within, step_there, net_at}
use Rattle.replay_history.proofs.computed.compute_place.Goals as goal

pub set-requires-clause-place : goal.set-requires-clause-place
set-requires-clause-place c =
    let j = job_at c.args.step.now in
    let number = c.args.step.now.number * j.width + c.args.position in
    let step : ℕ = c.args.step.now.number in
    let at : place_at j number ≡ record { step = c.args.step.now.number; net = c.net-net.result } = place_at_position j c.args.step.now.number c.args.position c.requires.position ∙ ap (λ (net : ℕ). let p : Place = record { step = step; net = net } in p) (sym c.net-net.ensures) in
    subst (HasPlace c.args.writer.now.history) at (index_within j c.args.step.now.circuit.now.fits.fits_job c.args.writer.now.history number c.requires.filled.places (place_within j c.args.step.now.number c.args.position c.args.step.now.fits.within c.requires.position))

pub returns-clause-filled : goal.returns-clause-filled
returns-clause-filled c =
    let j = job_at c.args.step.now in
    let net = c.net-net.result in
    let given = slice_index_or c.args.step.now.forced.now c.net-net.result None in
    let inside : c.net-net.result < j.width = rw c.net-net.ensures (net_within j c.args.step.now.circuit.now.fits.fits_job c.args.position c.requires.position) in
    let forced : forced_in c.args.step.now (c.args.step.now.number * j.width + c.args.position) ≡ given =
    rw (step_there j c.args.step.now.number c.args.position c.requires.position, net_at j c.args.step.now.number c.args.position c.requires.position, ← c.net-net.ensures) (sym (c.args.step.now.fits.forces.value c.net-net.result inside)) in
    filled_place j c.args.step.now.circuit.now.fits.fits_job (forced_in c.args.step.now) c.args.writer.now.history c.set.new.self.history c.args.step.now.number c.args.position c.net-net.result given c.given_value-value.result c.driver_at-driver.result.now c.args.step.now.fits.within c.requires.position c.net-net.ensures c.driver_at-driver.ensures c.requires.filled forced c.given_value-value.ensures (rw (← c.place_values-shown.ensures.shown, ← c.place_values-shown.ensures.kept) (ap (λ (v : WriterView). v.history) c.in_ok-set.ensures.ok))

pub returns-clause-others : goal.returns-clause-others
returns-clause-others c =
    let j = job_at c.args.step.now in
    others_kept j c.args.step.now.circuit.now.fits.fits_job c.args.writer.now.history c.set.new.self.history c.args.step.now.number c.args.position c.net-net.result record { shown = c.place_values-shown.result.0; kept = c.place_values-shown.result.1 } c.args.step.now.fits.within c.requires.position c.net-net.ensures c.requires.filled.places (ap (λ (v : WriterView). v.history) c.in_ok-set.ensures.ok)

pub set-requires-clause-step : goal.set-requires-clause-step
set-requires-clause-step c = sym c.requires.under_way

pub returns-clause-under_way : goal.returns-clause-under_way
returns-clause-under_way c = ap (λ (v : WriterView). v.step) c.in_ok-set.ensures.ok ∙ c.requires.under_way
