-- The wave goes on over a run, and stays a wave.
use Rattle.std.proofs.Common.{◌≡◌, ℕ, ◌∙◌, ◌<◌, length, ap, sym, subst, arith}
use Rattle.std.proofs.lemmas.Bool.{ltb-true}
use Rattle.wave_due.specs.OfQuiet.{repeated}
use Rattle.wave_due.proofs.LawsOfQuiet.{handed_law, repeated_long}
use Rattle.wave_proved.specs.Advance.{GoesOn}
use Rattle.wave_proved.specs.Contents.{Contents, IsWave, contents_of}
use Rattle.wave_proved.specs.Token.{HasNext}
use Rattle.wave_due.specs.OfWaveBytes as view
use Rattle.wave_due.specs.OfWaveBytes.{job as job_there}
use Rattle.wave_due.specs.OfWaveBytes.{HasMore, WaveformView, and_repeated}
use Rattle.wave_due.specs.Walk.{IsHeldFor, IsRunOf, IsWalkOf}
use Rattle.wave_proved.proofs.GoingRuns.{goes_pushed, run_goes, run_wave}
use Rattle.wave_proved.proofs.WalkedWaves.{wave_pushed}
use Rattle.wave_proved.proofs.wave.Wave.skip_run.Goals as goal

pub skip-many-requires-clause-next : goal.skip-many-requires-clause-next
skip-many-requires-clause-next c =
    subst (λ parts. HasMore parts.waveform) (sym c.deref_mut.ensures.value)
    (subst HasNext (sym c.self.view_is) c.requires)

pub skip-many-requires-clause-walk : goal.skip-many-requires-clause-walk
skip-many-requires-clause-walk c =
    subst (λ parts. IsWalkOf parts.waveform parts.walk) (sym c.deref_mut.ensures.value) c.self.invariant.walk

pub skip-many-requires-clause-held : goal.skip-many-requires-clause-held
skip-many-requires-clause-held c =
    subst (λ parts. IsHeldFor parts.waveform parts.walk) (sym c.deref_mut.ensures.value) (record {
      fits = c.self.invariant.wave.fits.fits_job;
      copies = handed_law (job_there c.self.inside.parts.value.waveform)
          c.self.inside.parts.value.walk.replayed.history c.self.invariant.wave.fits.fits_job
          c.self.invariant.wave.handed;
      limits = c.self.inside.parts.value.limits;
      lines = c.self.inside.parts.value.lines.items;
      holds = c.self.invariant.wave.holds;
    })

pub invariant_of-self : goal.invariant_of-self
invariant_of-self c =
    let own = c.self.inside.parts.value in
    let many = c.skip-many.result in
    let run = subst (λ p. IsRunOf p.waveform p.walk many) c.deref_mut.ensures.value c.skip-many.ensures.run in
    let written = run_wave (contents_of own.waveform own.walk.replayed.history own.limits own.lines.items) many
    c.self.invariant.wave run in
    let parts = c.deref_mut.result.now in
    let new = c.skip-many.new.self in
    let skipped = c.skip-many.ensures in
    wave_pushed (and_repeated parts.waveform many) new.waveform parts.walk new.walk parts.limits new.limits
    parts.lines.items
    new.lines.items skipped.waveform skipped.history skipped.limits (ap (λ lines. lines.items) skipped.lines)
    (subst (λ p. IsWave (contents_of (and_repeated p.waveform many) p.walk.replayed.history p.limits p.lines.items))
    (sym c.deref_mut.ensures.value) written) skipped.walk

pub returns-clause-goes : goal.returns-clause-goes
returns-clause-goes c =
    let own = c.self.inside.parts.value in
    let many = c.skip-many.result in
    let run = subst (λ p. IsRunOf p.waveform p.walk many) c.deref_mut.ensures.value c.skip-many.ensures.run in
    let goes = run_goes (contents_of own.waveform own.walk.replayed.history own.limits own.lines.items) many
    c.self.invariant.wave run in
    let parts = c.deref_mut.result.now in
    let new = c.skip-many.new.self in
    let skipped = c.skip-many.ensures in
    subst (λ (v : Contents).
    GoesOn v (contents_of new.waveform new.walk.replayed.history new.limits new.lines.items)) c.self.view_is
    (goes_pushed (contents_of own.waveform own.walk.replayed.history own.limits own.lines.items)
    (and_repeated parts.waveform many) new.waveform parts.walk.replayed.history new.walk.replayed.history parts.limits
    new.limits parts.lines.items new.lines.items skipped.waveform skipped.history skipped.limits
    (ap (λ lines. lines.items) skipped.lines)
    (subst (λ p. GoesOn (contents_of own.waveform own.walk.replayed.history own.limits own.lines.items)
    (contents_of (and_repeated p.waveform many) p.walk.replayed.history p.limits p.lines.items))
    (sym c.deref_mut.ensures.value) goes))

pub returns-clause-more : goal.returns-clause-more
returns-clause-more c = λ more.
    (let many : ℕ = c.skip-many.result in
    let some : 0 < many = ltb-true 0 many more in
    let parts = c.deref_mut.result.now in
    let long = repeated_long (view.job parts.waveform) parts.waveform.written many in
    let own_long : length c.args.self.written ≡ length parts.waveform.written =
    ap (λ (v : Contents). length v.written) (sym c.self.view_is)
    ∙ ap (λ p. length p.waveform.written) (sym c.deref_mut.ensures.value) in
    let new_long : length c.skip-many.new.self.waveform.written
    ≡ length (repeated (view.job parts.waveform) parts.waveform.written many) =
    ap (λ (w : WaveformView). length w.written) c.skip-many.ensures.waveform in
    omega (arith, some, long, own_long, new_long))
