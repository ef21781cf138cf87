-- What the row shows is what the replay shows.
use Rattle.std.proofs.Common.{◌≡◌, ◌≢◌, ◌<◌, ◌∙◌, ap, sym, refl, slice_index}
use Rattle.std.proofs.lemmas.List.Elements.{All-get_or}
use Rattle.design_circuit.specs.Handed.{shown_of}
use Rattle.design_circuit.specs.History.{HistoryView}
use Rattle.design_circuit.specs.Job.{at}
use Rattle.recording_reader.specs.Recording.{Recording, value_at}
use Rattle.replay_history.specs.Sides.{job_beside}
use Rattle.replay_history.proofs.Compares.{shown_last}
use Rattle.replay_history.proofs.recorded.check_bit.Goals as goal

pub returns-then-is_same-clause-agrees : goal.returns-then-is_same-clause-agrees
returns-then-is_same-clause-agrees c =
    let j = job_beside c.args.sides.now in
    let sides = c.requires.sides in
    let follower = c.requires.follower in
    let step = c.args.follower.now.row.step in
    let variable = c.args.variable.now.variable in
    let net = slice_index c.args.variable.now.bits c.args.bit in
    let within : net < j.width = All-get_or (λ n. n < j.width) c.args.variable.now.bits c.args.bit 0 c.requires.bit c.requires.bound.nets in
    let row : c.net_value-replayed.result ≡ shown_of j c.args.follower.now.row.history (at j step net) = rw (← c.as_slice.ensures) c.net_value-replayed.ensures in
    let read : c.net_value-replayed.result ≡ shown_of j c.args.sides.now.history.now (at j step net) = row ∙ ap (λ (h : HistoryView). shown_of j h (at j step net)) follower.along.history in
    let replayed = shown_last j c.args.sides.now.circuit.fits.fits_job c.args.sides.now.history.now step c.args.moment net c.net_value-replayed.result sides.history c.requires.moment within follower.step read in
    let recorded : c.value-recorded.result ≡ value_at c.args.sides.now.recording.now variable c.args.bit c.args.moment = c.value-recorded.ensures.value ∙ ap (λ (r : Recording). value_at r variable c.args.bit c.args.moment) follower.along.recorded in
    let same : c.value-recorded.result ≡ c.net_value-replayed.result = c.is_same.ensures.same c.if-is_same.true in
    sym recorded ∙ same ∙ replayed

pub returns-clause-fault : goal.returns-clause-fault
returns-clause-fault c =
    let j = job_beside c.args.sides.now in
    let sides = c.requires.sides in
    let follower = c.requires.follower in
    let step = c.args.follower.now.row.step in
    let variable = c.args.variable.now.variable in
    let net = slice_index c.args.variable.now.bits c.args.bit in
    let within : net < j.width = All-get_or (λ n. n < j.width) c.args.variable.now.bits c.args.bit 0 c.requires.bit c.requires.bound.nets in
    let row : c.net_value-replayed.result ≡ shown_of j c.args.follower.now.row.history (at j step net) = rw (← c.as_slice.ensures) c.net_value-replayed.ensures in
    let read : c.net_value-replayed.result ≡ shown_of j c.args.sides.now.history.now (at j step net) = row ∙ ap (λ (h : HistoryView). shown_of j h (at j step net)) follower.along.history in
    let replayed = shown_last j c.args.sides.now.circuit.fits.fits_job c.args.sides.now.history.now step c.args.moment net c.net_value-replayed.result sides.history c.requires.moment within follower.step read in
    let recorded : c.value-recorded.result ≡ value_at c.args.sides.now.recording.now variable c.args.bit c.args.moment = c.value-recorded.ensures.value ∙ ap (λ (r : Recording). value_at r variable c.args.bit c.args.moment) follower.along.recorded in
    let differ : c.value-recorded.result ≢ c.net_value-replayed.result = c.is_same.ensures.differ c.if-is_same.false in (
      refl,
      refl,
      refl,
      record {
        recorded_is = recorded;
        replayed_is = replayed;
        differs = λ agrees. differ (recorded ∙ agrees ∙ sym replayed);
      },
    )
