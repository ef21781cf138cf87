-- The net at a position is one of the design's.
use Rattle.std.proofs.Common.{◌∙◌, ap, arith}
use Rattle.std.specs.Prelude.{slice_index}
use Rattle.design_circuit.specs.Job.{Job}
use Rattle.replay_fans.proofs.Positions.{net_within}
use Rattle.wave_proved.specs.Contents.{job}
use Rattle.report_bits.proofs.rounds.mark_position.Goals as goal

pub mark_all-requires-clause-net : goal.mark_all-requires-clause-net
mark_all-requires-clause-net c =
    let wave = c.args.wave.now in
    let net = c.net-net.ensures ∙ ap (λ (j : Job). slice_index j.order c.args.position) c.circuit.ensures.job in
    let low = net_within (job wave) c.circuit.ensures.wave.fits.fits_job c.args.position c.requires.position in
    let inside = c.requires.bits.inside in
    omega (arith, net, low, inside)
