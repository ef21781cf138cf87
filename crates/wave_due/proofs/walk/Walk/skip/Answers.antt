-- What is passed over is a run, and the walk has gone on over it.
use Rattle.std.proofs.Common.{◌≡◌, ℕ, ◌+◌, ◌-◌, ◌%◌, length, sym, subst, arith}
use Rattle.wave_bytes.specs.View as view
use Rattle.wave_bytes.specs.View.{WaveformView}
use Rattle.wave_bytes.specs.OfQuiet.{repeated}
use Rattle.wave_due.specs.Walk.{HasTables, IsWalkAt, shown_by}
use Rattle.wave_due.proofs.Skips.{skipped_walk}
use Rattle.wave_due.proofs.walk.Walk.skip.Goals as goal

pub repeat-requires-clause-run : goal.repeat-requires-clause-run
repeat-requires-clause-run c =
    let here = c.position_behind-position.ensures in
    let forward = c.next_due-end.ensures.forward in
    c.next_due-end.ensures.run (c.next_due-end.result - c.position_behind-position.result)
    (omega (arith, here, forward))

pub settle-requires-clause-tables : goal.settle-requires-clause-tables
settle-requires-clause-tables c =
    subst (λ (w : WaveformView). HasTables (view.job w) c.args.self.now) (sym c.repeat.ensures) c.requires.walk.tables

pub returns-clause-run : goal.returns-clause-run
returns-clause-run c =
    let here = c.position_behind-position.ensures in
    let forward = c.next_due-end.ensures.forward in
    c.next_due-end.ensures.run (c.next_due-end.result - c.position_behind-position.result)
    (omega (arith, here, forward))

pub settle-requires-clause-here : goal.settle-requires-clause-here
settle-requires-clause-here c =
    let v = c.args.waveform.now in
    let j = view.job v in
    let walk = c.args.self.now in
    let here = c.position_behind-position.ensures in
    let forward = c.next_due-end.ensures.forward in
    let within = c.next_due-end.ensures.within in
    let many : ℕ = c.next_due-end.result - c.position_behind-position.result in
    let end : length v.written % j.width + many ≡ c.next_due-end.result = omega (arith, here, forward) in
    let run = c.next_due-end.ensures.run many end in
    subst (λ (w : WaveformView). IsWalkAt (view.job w) (shown_by (view.job w) walk) w.written walk walk.replayed.step
    c.next_due-end.result) (sym c.repeat.ensures)
    (subst (λ p. IsWalkAt j (shown_by j walk) (repeated j v.written many) walk walk.replayed.step p) end
    (skipped_walk j c.requires.held.fits v.written walk many c.requires.walk c.requires.next c.requires.held
    (omega (arith, end, within)) run))
