-- The walk has gone on to the first place of the next step.
use Rattle.std.proofs.Common.{◌≡◌, ℕ, ◌+◌, ◌*◌, ◌<◌, List, length, refl, subst, sym, ap, ◌∙◌, arith}
use Rattle.design_circuit.specs.Fits.{Fits}
use Rattle.design_circuit.specs.Handed.{HasPlaces, shown_of}
use Rattle.design_circuit.specs.History.{HistoryView}
use Rattle.design_circuit.specs.Job.{Job}
use Rattle.design_circuit.specs.Row.{RowView}
use Rattle.design_circuit.proofs.Numbers.{few_steps}
use Rattle.replay_fans.specs.Marks.{OnlyMore}
use Rattle.wave_bytes.specs.View as view
use Rattle.wave_due.specs.Sources.{AreSources, AreStirredDue, ShowsOn}
use Rattle.wave_due.specs.Walk.{shown_by}
use Rattle.wave_due.proofs.Begins.{begun_walk, more_steps}
use Rattle.wave_due.proofs.walk.Walk.begin.Goals as goal

pub next_step-requires : goal.next_step-requires
next_step-requires c =
    let v = c.args.waveform.now in
    let j = view.job v in
    let old = c.args.self.now in
    let less = more_steps j (shown_by j old) v.written old old.replayed.step c.requires.next c.requires.here in
    let few = few_steps v.stim in
    omega (arith, less, few)

pub mark_sources-requires-clause-sources : goal.mark_sources-requires-clause-sources
mark_sources-requires-clause-sources c =
    let sources = c.as_slice-sources.result.now in
    subst (λ (j : Job). AreSources j j.width sources) (sym c.circuit-circuit.ensures.job)
    (subst (λ (s : List ℕ). AreSources (view.job c.args.waveform.now) (view.job c.args.waveform.now).width s)
    (sym c.as_slice-sources.ensures.value) c.requires.tables.sources)

pub mark_sources-requires-clause-step : goal.mark_sources-requires-clause-step
mark_sources-requires-clause-step c =
    let v = c.args.waveform.now in
    let j = view.job v in
    let old = c.args.self.now in
    let is : c.step-step.result ≡ old.replayed.step + 1 =
    c.step-step.ensures ∙ ap (λ (r : RowView). r.step) c.next_step.ensures in
    subst (λ (j : Job). c.step-step.result < j.moments * j.rounds) (sym c.circuit-circuit.ensures.job)
    (subst (λ s. s < j.moments * j.rounds) (sym is)
    (more_steps j (shown_by j old) v.written old old.replayed.step c.requires.next c.requires.here))

pub mark_history-requires-clause-step : goal.mark_history-requires-clause-step
mark_history-requires-clause-step c =
    let v = c.args.waveform.now in
    let j = view.job v in
    let old = c.args.self.now in
    let is : c.step-step.result ≡ old.replayed.step + 1 =
    c.step-step.ensures ∙ ap (λ (r : RowView). r.step) c.next_step.ensures in
    subst (λ (j : Job). c.step-step.result < j.moments * j.rounds) (sym c.circuit-circuit.ensures.job)
    (subst (λ s. s < j.moments * j.rounds) (sym is)
    (more_steps j (shown_by j old) v.written old old.replayed.step c.requires.next c.requires.here))

pub mark_history-requires-clause-places : goal.mark_history-requires-clause-places
mark_history-requires-clause-places c =
    let is : c.history-history.result.now ≡ c.args.self.now.replayed.history =
    c.history-history.ensures ∙ ap (λ (r : RowView). r.history) c.next_step.ensures in
    subst (λ (j : Job). HasPlaces j c.history-history.result.now) (sym c.circuit-circuit.ensures.job)
    (subst (HasPlaces (view.job c.args.waveform.now)) (sym is) c.requires.tables.places)

pub returns-clause-walk : goal.returns-clause-walk
returns-clause-walk c =
    let v = c.args.waveform.now in
    let j = view.job v in
    let old = c.args.self.now in
    let job_is = c.circuit-circuit.ensures.job in
    let step : c.step-step.result ≡ old.replayed.step + 1 =
    c.step-step.ensures ∙ ap (λ (r : RowView). r.step) c.next_step.ensures in
    let history : c.history-history.result.now ≡ old.replayed.history =
    c.history-history.ensures ∙ ap (λ (r : RowView). r.history) c.next_step.ensures in
    let stirred = c.mark_sources.new.due in
    let new = c.mark_history.new.due in
    let turned = c.turn.ensures.due in
    let turned_long = ap length turned in
    let first = c.mark_sources.ensures.long in
    let second = c.mark_history.ensures.long in
    let had_due = c.requires.tables.due_room in
    let had_ahead = c.requires.tables.ahead_room in
    let cleared = c.turn.ensures.ahead in
    let recorded = subst (λ (s : ℕ). AreStirredDue j s stirred) step
    (subst (λ (j : Job). AreStirredDue j c.step-step.result stirred) job_is c.mark_sources.ensures.stirred) in
    let shows = subst (λ (s : ℕ). ShowsOn j (shown_of j old.replayed.history) s 0 new) step
    (subst (λ (h : HistoryView). ShowsOn j (shown_of j h) c.step-step.result 0 new) history
    (subst (λ (j : Job). ShowsOn j (shown_of j c.history-history.result.now) c.step-step.result 0 new) job_is
    c.mark_history.ensures.shows)) in
    begun_walk j (subst Fits job_is c.circuit-circuit.result.fits.fits_job) v.written old _ stirred c.requires.next
    c.requires.tables c.requires.agrees c.requires.here refl refl c.next_step.ensures
    (omega (arith, had_ahead, turned_long, first, second)) (omega (arith, had_due, cleared))
    (subst (λ (due : List ℕ). OnlyMore due stirred) turned c.mark_sources.ensures.more) recorded
    c.mark_history.ensures.more shows

pub returns-clause-history : goal.returns-clause-history
returns-clause-history c = ap (λ (r : RowView). r.history) c.next_step.ensures
