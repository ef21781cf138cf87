-- The wave stays a wave: its next place is a Line place, whose line holds.
use Rattle.std.proofs.Common.{◌++◌, ◌∷◌, [], sym, subst}
use Rattle.wave_proved.specs.Contents.{Contents, IsWave, contents_of, job}
use Rattle.wave_due.specs.OfQuiet.{CopiesAgree}
use Rattle.wave_due.specs.OfWaveBytes.{ValuesAgree, and_one}
use Rattle.wave_due.specs.OfWaveBytes as view
use Rattle.wave_due.specs.Walk.{IsWalkOf}
use Rattle.wave_proved.proofs.LineGrowth.{line_next}
use Rattle.wave_proved.proofs.WalkedWaves.{wave_pushed}
use Rattle.wave_proved.proofs.WaveGrowth.{wave_agrees, wave_copies, wave_grown}
use Rattle.wave_proved.proofs.wave.Wave.append_line.Goals as goal

pub push_line-requires-clause-agrees : goal.push_line-requires-clause-agrees
push_line-requires-clause-agrees c =
    let x = c.args.written in
    let line = c.args.line in
    let right = subst IsWave c.self.view_is c.self.invariant.wave in
    subst (λ parts. ValuesAgree (view.job parts.waveform) (parts.waveform.written ++ x ∷ []))
    (sym c.deref_mut.ensures.value)
    (subst (λ (v : Contents). ValuesAgree (job v) (v.written ++ x ∷ [])) (sym c.self.view_is)
    (wave_agrees c.args.self x (line ∷ []) right (line_next c.args.self x line
    right c.requires.class c.requires.line c.requires.written c.requires.agrees)))

pub push_line-requires-clause-copies : goal.push_line-requires-clause-copies
push_line-requires-clause-copies c =
    let x = c.args.written in
    let line = c.args.line in
    let right = subst IsWave c.self.view_is c.self.invariant.wave in
    subst (λ parts. CopiesAgree (view.job parts.waveform) (parts.waveform.written ++ x ∷ []))
    (sym c.deref_mut.ensures.value)
    (subst (λ (v : Contents). CopiesAgree (job v) (v.written ++ x ∷ [])) (sym c.self.view_is)
    (wave_copies c.args.self x (line ∷ []) right (line_next c.args.self x line
    right c.requires.class c.requires.line c.requires.written c.requires.agrees)))

pub push_line-requires-clause-walk : goal.push_line-requires-clause-walk
push_line-requires-clause-walk c =
    subst (λ parts. IsWalkOf parts.waveform parts.walk) (sym c.deref_mut.ensures.value) c.self.invariant.walk

pub invariant_of-self : goal.invariant_of-self
invariant_of-self c =
    let own = c.self.inside.parts.value in
    let x = c.args.written in
    let line = c.args.line in
    let right = subst IsWave c.self.view_is c.self.invariant.wave in
    let grown = subst (λ (v : Contents). IsWave (record v {
      written = v.written ++ x ∷ [];
      lines = v.lines ++ line
          ∷ [];
    }))
    (sym c.self.view_is)
    (wave_grown c.args.self x (line ∷ []) right
    (line_next c.args.self x line right c.requires.class c.requires.line c.requires.written c.requires.agrees)) in
    let parts = c.deref_mut.result.now in
    let new = c.push_line.new.self in
    let pushed = c.in_ok-push_line.ensures in
    wave_pushed (and_one parts.waveform x) new.waveform parts.walk new.walk parts.limits new.limits
    (parts.lines.items ++ line ∷ []) new.lines.items pushed.waveform pushed.history pushed.limits pushed.lines
    (subst (λ p. IsWave (contents_of (and_one p.waveform x) p.walk.replayed.history p.limits (p.lines.items ++ line ∷ [])))
    (sym c.deref_mut.ensures.value) grown) pushed.walk
