-- The place that is written is visited.
use Rattle.std.proofs.Common.{◌≡◌, ℕ, ◌+◌, ◌-◌, ◌++◌, ◌∷◌, [], length, length-append, ap, sym, subst, arith}
use Rattle.design_circuit.specs.declared.place.Place.{Place}
use Rattle.design_circuit.specs.Fits.{Fits}
use Rattle.design_circuit.specs.Job.{net_of}
use Rattle.wave_bytes.specs.View as view
use Rattle.wave_bytes.specs.View.{WaveformView, keeps_there}
use Rattle.wave_due.specs.Walk.{HasTables, IsVisited, IsWalkAt, shown_by}
use Rattle.wave_due.proofs.Visits.{visited_tables, written_walk}
use Rattle.wave_due.proofs.walk.Walk.write.Goals as goal

pub settle-requires-clause-tables : goal.settle-requires-clause-tables
settle-requires-clause-tables c =
    let v = c.args.waveform.now in
    subst (λ (w : WaveformView). HasTables (view.job w) c.visit.new.self) (sym c.in_ok-push.ensures.ok)
    (visited_tables (view.job v) c.place_behind-place.result.net c.position_behind-position.result c.keeps-keeps.result
    c.tells_next-calm.result c.args.self.now c.visit.new.self c.requires.walk.tables c.visit.ensures)

pub settle-requires-clause-here : goal.settle-requires-clause-here
settle-requires-clause-here c =
    let v = c.args.waveform.now in
    let j = view.job v in
    let n : ℕ = length v.written in
    let x = c.args.written in
    let old = c.args.self.now in
    let new = c.visit.new.self in
    let keeps = c.keeps-keeps.result in
    let calm = c.tells_next-calm.result in
    let net = c.place_behind-place.result.net in
    let net_is : net ≡ net_of j n = ap (λ (p : Place). p.net) c.place_behind-place.ensures in
    let grows = length-append v.written (x ∷ []) in
    let count : c.count.result ≡ length (v.written ++ x ∷ []) =
    subst (λ (w : WaveformView). c.count.result ≡ length w.written) c.in_ok-push.ensures.ok c.count.ensures.count in
    let last : c.count.result - 1 ≡ n = omega (arith, count, grows) in
    let kept : keeps ≡ keeps_there j (v.written ++ x ∷ []) n =
    subst (λ k. keeps ≡ keeps_there j (v.written ++ x ∷ []) k) last
    (subst (λ (w : WaveformView). keeps ≡ keeps_there (view.job w) w.written (c.count.result - 1)) c.in_ok-push.ensures.ok
    c.keeps-keeps.ensures) in
    let visit = subst (λ p. IsVisited net p keeps calm old new) c.position_behind-position.ensures c.visit.ensures in
    let walk = written_walk j (subst Fits c.circuit-circuit.ensures.job c.circuit-circuit.result.fits.fits_job)
    v.written x
    net keeps calm old new c.requires.next c.requires.walk net_is kept c.tells_next-calm.ensures c.requires.agrees
    visit in
    subst (λ (w : WaveformView). IsWalkAt (view.job w) (shown_by (view.job w) new) w.written new new.replayed.step
    (c.position_behind-position.result + 1)) (sym c.in_ok-push.ensures.ok)
    (subst (λ p. IsWalkAt j (shown_by j new) (v.written ++ x ∷ []) new new.replayed.step (p + 1))
    (sym c.position_behind-position.ensures) walk)
