-- Step by step all places are seen, each in its place.
use Rattle.std.proofs.Common.{◌≡◌, ℕ, ◌+◌, ◌*◌, ◌<◌, ◌∙◌, [], length, refl, sym, ap, subst, arith}
use Rattle.design_circuit.specs.History.{HistoryView}
use Rattle.design_circuit.specs.Job.{Job, places_of}
use Rattle.design_circuit.specs.Row.{RowView}
use Rattle.report_bits.proofs.Steps.{next_first, some_net, step_small}
use Rattle.wave_proved.specs.Contents.{job}
use Rattle.report_audit.specs.Found.{AreFound, listed_below, open_below}
use Rattle.report_audit.specs.Listed.{IsAudit}
use Rattle.report_audit.specs.Seen.{AreSeen, BeginsStep}
use Rattle.report_audit.specs.declared.found.Found.{Found}
use Rattle.report_audit.proofs.FirstListed.{met_first}
use Rattle.report_audit.proofs.SeenPlaces.{begins_at, step_ends}
use Rattle.report_audit.proofs.ToldOrigins.{told_driven, told_within}
use Rattle.report_audit.proofs.audit.see_places.Goals as goal

pub see_step-requires-clause-step : goal.see_step-requires-clause-step
see_step-requires-clause-step c =
    let wave = c.args.wave.now in
    let long = c.count-count.ensures.count in
    let test = c.steps-test.true in
    begins_at wave c.steps.row c.steps.first
    (subst (λ (h : HistoryView). IsAudit wave h) (sym c.steps.invariant.history) c.requires) c.steps.invariant.first_of
    (omega (arith, long, test))

pub see_step-requires-clause-before : goal.see_step-requires-clause-before
see_step-requires-clause-before c =
    let seen = c.steps.seen in
    subst (λ (h : HistoryView). AreSeen c.args.wave.now h c.steps.first seen.listed.items seen.unsure)
    (sym c.steps.invariant.history) c.steps.invariant.seen

pub next_step-requires : goal.next_step-requires
next_step-requires c =
    let long = c.count-count.ensures.count in
    let test = c.steps-test.true in
    step_small c.args.wave.now c.count-count.ensures.wave c.steps.row.step c.steps.first c.steps.invariant.first_of
    (omega (arith, long, test))

pub steps-preserved : goal.steps-preserved
steps-preserved c =
    let wave = c.args.wave.now in
    let replayed = c.args.replayed.now in
    let long = c.count-count.ensures.count in
    let test = c.steps-test.true in
    let wide = c.width_of-width.ensures ∙ ap (λ (j : Job). j.width) c.circuit.ensures.job in
    let inv = c.steps.invariant in
    let first = c.steps.first in
    let row = c.steps.row in
    let audit = subst (λ (h : HistoryView). IsAudit wave h) (sym inv.history) c.requires in
    let less : first < length wave.written = omega (arith, long, test) in
    let ends = step_ends wave row first (begins_at wave row first audit inv.first_of less) in
    let seen = c.see_step.new.seen in
    let behind : first + (job wave).width ≡ first + c.width_of-width.result = omega (arith, wide) in
    record {
      seen = subst (λ (n : ℕ). AreSeen wave replayed n seen.listed.items seen.unsure) behind
          (subst (λ (h : HistoryView). AreSeen wave h (first + (job wave).width) seen.listed.items seen.unsure)
          inv.history c.in_ok-see_step.ensures);
      history = ap (λ (r : RowView). r.history) c.next_step.ensures ∙ inv.history;
      first_of = next_first first c.width_of-width.result row.step (length wave.design.nets) inv.first_of wide
          ∙ ap (λ (r : RowView). r.step * length wave.design.nets) (sym c.next_step.ensures);
      within = omega (arith, ends, behind);
    }

pub steps-smaller : goal.steps-smaller
steps-smaller c =
    let long = c.count-count.ensures.count in
    let test = c.steps-test.true in
    let wide = c.width_of-width.ensures ∙ ap (λ (j : Job). j.width) c.circuit.ensures.job in
    let less : c.steps.first < length c.args.wave.now.written = omega (arith, long, test) in
    let some = some_net c.args.wave.now c.count-count.ensures.wave c.steps.first less in
    omega (arith, less, wide, some)

pub returns-clause-listed : goal.returns-clause-listed
returns-clause-listed c =
    let wave = c.args.wave.now in
    let replayed = c.args.replayed.now in
    let long = c.count-count.ensures.count in
    let test = c.steps-test.false in
    let up = c.steps.invariant.within in
    let finished = c.requires.finished in
    let all : c.steps.first ≡ places_of (job wave) = omega (arith, long, test, up, finished) in
    subst (λ (n : ℕ). AreFound wave replayed (listed_below wave replayed n) c.steps.seen.listed.items) all
    c.steps.invariant.seen.told

pub returns-clause-driven : goal.returns-clause-driven
returns-clause-driven c =
    let wave = c.args.wave.now in
    let replayed = c.args.replayed.now in
    let long = c.count-count.ensures.count in
    let test = c.steps-test.false in
    let up = c.steps.invariant.within in
    let finished = c.requires.finished in
    let all : c.steps.first ≡ places_of (job wave) = omega (arith, long, test, up, finished) in
    told_driven wave replayed c.count-count.ensures.wave c.requires c.steps.seen.listed.items
    (subst (λ (n : ℕ). AreFound wave replayed (listed_below wave replayed n) c.steps.seen.listed.items) all
    c.steps.invariant.seen.told)

pub returns-clause-first : goal.returns-clause-first
returns-clause-first c =
    let wave = c.args.wave.now in
    let replayed = c.args.replayed.now in
    let long = c.count-count.ensures.count in
    let test = c.steps-test.false in
    let up = c.steps.invariant.within in
    let finished = c.requires.finished in
    let all : c.steps.first ≡ places_of (job wave) = omega (arith, long, test, up, finished) in
    met_first wave replayed c.count-count.ensures.wave c.requires c.steps.seen.listed.items
    (subst (λ (n : ℕ). AreFound wave replayed (listed_below wave replayed n) c.steps.seen.listed.items) all
    c.steps.invariant.seen.told)

pub returns-clause-places : goal.returns-clause-places
returns-clause-places c =
    let wave = c.args.wave.now in
    let replayed = c.args.replayed.now in
    let long = c.count-count.ensures.count in
    let test = c.steps-test.false in
    let up = c.steps.invariant.within in
    let finished = c.requires.finished in
    let all : c.steps.first ≡ places_of (job wave) = omega (arith, long, test, up, finished) in
    told_within wave replayed c.count-count.ensures.wave c.steps.seen.listed.items
    (subst (λ (n : ℕ). AreFound wave replayed (listed_below wave replayed n) c.steps.seen.listed.items) all
    c.steps.invariant.seen.told)

pub returns-clause-unsure : goal.returns-clause-unsure
returns-clause-unsure c =
    let wave = c.args.wave.now in
    let replayed = c.args.replayed.now in
    let long = c.count-count.ensures.count in
    let test = c.steps-test.false in
    let up = c.steps.invariant.within in
    let finished = c.requires.finished in
    let all : c.steps.first ≡ places_of (job wave) = omega (arith, long, test, up, finished) in
    c.steps.invariant.seen.counted ∙ ap (open_below wave replayed) all
