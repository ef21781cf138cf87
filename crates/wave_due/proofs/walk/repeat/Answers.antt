-- A run can be written again.
use Rattle.std.proofs.Common.{arith}
use Rattle.design_circuit.specs.Handed.{shown_of}
use Rattle.wave_bytes.specs.View as view
use Rattle.wave_due.proofs.Skips.{repeat_none, run_repeatable}
use Rattle.wave_due.proofs.walk.repeat.Goals as goal

pub returns-then-many-eq0 : goal.returns-then-many-eq0
returns-then-many-eq0 c = repeat_none c.args.waveform.now c.args.many (let test = c.if-many-eq0.true in
    omega (arith, test))

pub repeat-requires : goal.repeat-requires
repeat-requires c =
    let v = c.args.waveform.now in
    run_repeatable v c.requires.held.fits
    (shown_of (view.job v) c.args.replayed.now.history) c.args.many
    (let test = c.if-many-eq0.false in omega (arith, test)) c.requires.held c.requires.run
