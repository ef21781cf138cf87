-- The wave stays a wave.
use Rattle.std.proofs.Common.{List, ◌++◌, ◌∷◌, [], ap, sym, subst, append-nil}
use Rattle.law_model.specs.declared.line.Line.{Line as ALine}
use Rattle.wave_proved.specs.Contents.{Contents, IsWave, contents_of, job}
use Rattle.wave_proved.specs.Token.{HasNext}
use Rattle.wave_due.specs.OfQuiet.{CopiesAgree}
use Rattle.wave_due.specs.OfWaveBytes.{ValuesAgree, HasMore, and_one}
use Rattle.wave_due.specs.OfWaveBytes as view
use Rattle.wave_due.specs.Walk.{IsWalkOf}
use Rattle.wave_proved.proofs.WalkedWaves.{wave_pushed}
use Rattle.wave_proved.proofs.WaveGrowth.{wave_agrees, wave_copies, wave_grown}
use Rattle.wave_proved.proofs.wave.Wave.append.Goals as goal

pub push-requires-clause-next : goal.push-requires-clause-next
push-requires-clause-next c =
    subst (λ parts. HasMore parts.waveform) (sym c.deref_mut.ensures.value)
    (subst HasNext (sym c.self.view_is) c.requires.next.said.within)

pub push-requires-clause-walk : goal.push-requires-clause-walk
push-requires-clause-walk c =
    subst (λ parts. IsWalkOf parts.waveform parts.walk) (sym c.deref_mut.ensures.value) c.self.invariant.walk

pub push-requires-clause-agrees : goal.push-requires-clause-agrees
push-requires-clause-agrees c =
    let x = c.args.written in
    subst (λ parts. ValuesAgree (view.job parts.waveform) (parts.waveform.written ++ x ∷ []))
    (sym c.deref_mut.ensures.value)
    (subst (λ (v : Contents). ValuesAgree (job v) (v.written ++ x ∷ [])) (sym c.self.view_is)
    (wave_agrees c.args.self x [] (subst IsWave c.self.view_is c.self.invariant.wave) c.requires.next))

pub push-requires-clause-copies : goal.push-requires-clause-copies
push-requires-clause-copies c =
    let x = c.args.written in
    subst (λ parts. CopiesAgree (view.job parts.waveform) (parts.waveform.written ++ x ∷ []))
    (sym c.deref_mut.ensures.value)
    (subst (λ (v : Contents). CopiesAgree (job v) (v.written ++ x ∷ [])) (sym c.self.view_is)
    (wave_copies c.args.self x [] (subst IsWave c.self.view_is c.self.invariant.wave) c.requires.next))

pub invariant_of-self : goal.invariant_of-self
invariant_of-self c =
    let own = c.self.inside.parts.value in
    let x = c.args.written in
    let grown = subst (λ (v : Contents). IsWave (record v { written = v.written ++ x ∷ []; lines = v.lines ++ [] }))
    (sym c.self.view_is)
    (wave_grown c.args.self x [] (subst IsWave c.self.view_is c.self.invariant.wave) c.requires.next) in
    let written = subst (λ (lines : List ALine).
    IsWave (contents_of (and_one own.waveform x) own.walk.replayed.history own.limits lines))
    (append-nil own.lines.items)
    grown in
    let parts = c.deref_mut.result.now in
    let new = c.push.new.self in
    let pushed = c.in_ok-push.ensures in
    wave_pushed (and_one parts.waveform x) new.waveform parts.walk new.walk parts.limits new.limits parts.lines.items
    new.lines.items pushed.waveform pushed.history pushed.limits (ap (λ lines. lines.items) pushed.lines)
    (subst (λ p. IsWave (contents_of (and_one p.waveform x) p.walk.replayed.history p.limits p.lines.items))
    (sym c.deref_mut.ensures.value) written) pushed.walk
