-- Each step is put, near which the values are found.
use Rattle.std.proofs.Common.{◌≡◌, ℕ, ◌+◌, ◌*◌, ◌∙◌, List, length, arith, ap, refl, subst, sym}
use Rattle.design_cell.specs.declared.value.Value.{Value}
use Rattle.design_circuit.specs.Circuit.{job_in}
use Rattle.design_circuit.specs.Job.{Job, places_of}
use Rattle.replay_forces.specs.Made.{AreForcesTo}
use Rattle.replay_forces.specs.Still.{AreAwaited}
use Rattle.replay_forces.proofs.Moving.{step_places}
use Rattle.replay_forces.proofs.steps.put_steps.Goals as goal

pub put_step-requires-clause-due : goal.put_step-requires-clause-due
put_step-requires-clause-due g c =
    let reads = c.go_to.ensures.reads ∙ c.steps.invariant.reads in
    subst (λ (v : ℕ → Value). AreAwaited (job_in c.args.circuit.now) v c.steps.number c.steps.waiting.due) (sym reads)
    c.steps.invariant.due

pub put_step-requires-clause-made : goal.put_step-requires-clause-made
put_step-requires-clause-made g c =
    let j = job_in c.args.circuit.now in
    let reads = c.go_to.ensures.reads ∙ c.steps.invariant.reads in
    subst (λ (v : ℕ → Value). AreForcesTo j v (c.steps.number * j.width) c.steps.made.row.items c.steps.made.events.items) (sym reads)
    c.steps.invariant.made

pub steps-preserved : goal.steps-preserved
steps-preserved g c =
    let j = job_in c.args.circuit.now in
    let reads = c.go_to.ensures.reads ∙ c.steps.invariant.reads in
    record {
      job = c.go_to.ensures.job ∙ c.steps.invariant.job;
      reads = reads;
      has = λ place less. c.go_to.ensures.has place (c.steps.invariant.has place less);
      due = subst (λ (v : ℕ → Value). AreAwaited j v (c.steps.number + 1) c.put_step.new.waiting.due) reads
          c.in_ok-put_step.ensures.due;
      ahead = c.in_ok-put_step.ensures.ahead;
      made = subst (λ (v : ℕ → Value). AreForcesTo j v ((c.steps.number + 1) * j.width) c.put_step.new.made.row.items
          c.put_step.new.made.events.items) reads c.in_ok-put_step.ensures.made;
    }

pub steps-init : goal.steps-init
steps-init g c = record {
  job = c.requires.job;
  reads = refl;
  has = c.requires.has;
  due = c.requires.due;
  ahead = c.requires.ahead;
  made =
      let none : 0 ≡ 0 * (job_in c.args.circuit.now).width = omega arith in
      subst (λ n. AreForcesTo (job_in c.args.circuit.now) (g.S.Source.reads c.args.values.now) n c.args.made.now.row.items
      c.args.made.now.events.items) none c.requires.made;
}

pub go_to-requires-clause-has : goal.go_to-requires-clause-has
go_to-requires-clause-has g c = λ place less.
    (let j = job_in c.args.circuit.now in
    let width : (g.S.Moving.job c.steps.values).width ≡ j.width = ap (λ (k : Job). k.width) c.steps.invariant.job in
    let count : length c.as_slice.result.now * j.rounds ≡ j.moments * j.rounds =
    ap (λ (ts : List ℕ). length ts * j.rounds) c.as_slice.ensures in
    let test = c.steps-test.true in
    let end = c.steps.auto.number-end in
    c.steps.invariant.has place (step_places j c.steps.number (g.S.Moving.job c.steps.values).width place width
    (omega (arith, test, end, count)) less))

pub returns : goal.returns
returns g c =
    let j = job_in c.args.circuit.now in
    let count : length c.as_slice.result.now * j.rounds ≡ j.moments * j.rounds =
    ap (λ (ts : List ℕ). length ts * j.rounds) c.as_slice.ensures in
    let test = c.steps-test.false in
    let end = c.steps.auto.number-end in
    let all : c.steps.number * j.width ≡ places_of j = last c.steps.number (j.moments * j.rounds) j.width
    (omega (arith, test, end, count)) in
    subst (λ n. AreForcesTo j (g.S.Source.reads c.args.values.now) n c.steps.made.row.items c.steps.made.events.items) all
    c.steps.invariant.made
  where
    commuted : (n w : ℕ) → n * w ≡ w * n
    commuted n w = omega arith

    last : (s n w : ℕ) → s ≡ n → s * w ≡ w * n
    last s n w is = ap (λ k. k * w) is ∙ commuted n w
