-- What the history has is what the replay has.
use Rattle.std.proofs.Common.{◌≡◌, ◌≢◌, ◌+◌, ◌*◌, ◌<◌, ◌∙◌, ap, sym, refl, rules}
use Rattle.design_circuit.specs.Handed.{HasPlaces, held_of, shown_of}
use Rattle.design_circuit.specs.History.{HistoryView}
use Rattle.design_circuit.specs.Job.{at}
use Rattle.design_circuit.specs.Register.{updated}
use Rattle.replay_history.specs.Sides.{job_beside}
use Rattle.replay_history.proofs.Compares.{kept_last, last_within, next_last}
use Rattle.replay_history.proofs.Seeing.{after_small, shows_up_to}
use Rattle.replay_history.proofs.settled.check_register.Goals as goal

pub updated_value-next-requires-clause-has : goal.updated_value-next-requires-clause-has
updated_value-next-requires-clause-has c =
    let j = job_beside c.args.sides.now in
    let sides = c.requires.sides in
    let follower = c.requires.follower in
    let history = c.args.follower.now.row.history in
    let places : HasPlaces j history = rw follower.along.history sides.history.places in
    let less : c.args.follower.now.row.step < j.moments * j.rounds = rw follower.step (last_within j c.args.sides.now.circuit.fits.fits_job c.args.moment c.requires.moment) in
    λ place low. record {
      shows = shows_up_to c.args.sides.now.circuit history places c.args.follower.now.row.step less place (rw (← c.step-step.ensures) low);
      same = follower.along.before ∙ sym follower.along.history;
    }

pub updated_value-next-requires-clause-small : goal.updated_value-next-requires-clause-small
updated_value-next-requires-clause-small c =
    let j = job_beside c.args.sides.now in
    let sides = c.requires.sides in
    rw c.step-step.ensures (after_small j c.args.sides.now.circuit.fits.fits_job c.args.follower.now.row.step (rw c.requires.follower.step (last_within j c.args.sides.now.circuit.fits.fits_job c.args.moment c.requires.moment)))

pub returns-then-eq-clause-settled : goal.returns-then-eq-clause-settled
returns-then-eq-clause-settled c =
    let j = job_beside c.args.sides.now in
    let sides = c.requires.sides in
    let follower = c.requires.follower in
    let step = c.args.follower.now.row.step in
    let history = c.args.sides.now.history.now in
    let kept_is : c.net_kept-kept.result ≡ (held_of j history (at j step c.args.net)).kept = c.net_kept-kept.ensures ∙ ap (λ (h : HistoryView). (held_of j h (at j step c.args.net)).kept) follower.along.history in
    let next_is : c.updated_value-next.result ≡ updated j (shown_of j history) c.net_kept-kept.result (step + 1) c.args.latching.now = rw (← c.step-step.ensures, ← follower.along.history) c.updated_value-next.ensures in
    let kept = kept_last j c.args.sides.now.circuit.fits.fits_job history step c.args.moment c.args.net c.net_kept-kept.result sides.history c.requires.moment c.requires.net follower.step kept_is in
    let next = next_last j c.args.sides.now.circuit.fits.fits_job history step c.args.moment c.args.net c.args.latching.now c.net_kept-kept.result c.updated_value-next.result sides.history c.requires.moment c.requires.net c.requires.register follower.step kept next_is in
    let same : c.updated_value-next.result ≡ c.net_kept-kept.result = search rules in
    sym next ∙ same ∙ kept

pub returns-clause-fault : goal.returns-clause-fault
returns-clause-fault c =
    let j = job_beside c.args.sides.now in
    let sides = c.requires.sides in
    let follower = c.requires.follower in
    let step = c.args.follower.now.row.step in
    let history = c.args.sides.now.history.now in
    let kept_is : c.net_kept-kept.result ≡ (held_of j history (at j step c.args.net)).kept = c.net_kept-kept.ensures ∙ ap (λ (h : HistoryView). (held_of j h (at j step c.args.net)).kept) follower.along.history in
    let next_is : c.updated_value-next.result ≡ updated j (shown_of j history) c.net_kept-kept.result (step + 1) c.args.latching.now = rw (← c.step-step.ensures, ← follower.along.history) c.updated_value-next.ensures in
    let kept = kept_last j c.args.sides.now.circuit.fits.fits_job history step c.args.moment c.args.net c.net_kept-kept.result sides.history c.requires.moment c.requires.net follower.step kept_is in
    let next = next_last j c.args.sides.now.circuit.fits.fits_job history step c.args.moment c.args.net c.args.latching.now c.net_kept-kept.result c.updated_value-next.result sides.history c.requires.moment c.requires.net c.requires.register follower.step kept next_is in
    let differ : c.updated_value-next.result ≢ c.net_kept-kept.result = search rules in (
      refl,
      refl,
      record {
        unsettled = λ settled. differ (next ∙ settled ∙ sym kept);
        kept_is = kept;
        next_is = next;
      },
    )
