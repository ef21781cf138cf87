-- There are as many places as the job has.
use Rattle.std.proofs.Common.{◌≡◌, ◌*◌, ◌∙◌, ap, arith, length, rules, subst, sym}
use Rattle.design_circuit.specs.Circuit.{job_in}
use Rattle.wave_bytes.specs.Kept.{AreRowsOf}
use Rattle.wave_bytes.proofs.waveform.Waveform.new.Goals as goal

pub new-requires-clause-small : goal.new-requires-clause-small
new-requires-clause-small c =
    let j = job_in c.args.circuit in
    let few = c.args.circuit.fits.fits_job.few_places in
    let long = c.in_ok-roots.ensures.long in
    let same : c.count_steps.result * length c.in_ok-roots.roots.items ≡ j.moments * j.rounds * j.width =
    ap (λ n. n * length c.in_ok-roots.roots.items) c.count_steps.ensures ∙ ap (λ w. j.moments * j.rounds * w) long in
    omega (arith, few, same)

pub invariant_of-result : goal.invariant_of-result
invariant_of-result c = record {
  wired = search rules;
  within = search rules;
  rows = subst (AreRowsOf (job_in c.args.circuit)) (sym c.in_ok-rows.ensures) (record {
    width = c.in_ok-roots.ensures.long;
    steps = c.count_steps.ensures;
    roots = c.in_ok-roots.ensures.each;
  });
  kept = search rules;
  next = tt;
  front = search rules;
  keep = search rules;
}
