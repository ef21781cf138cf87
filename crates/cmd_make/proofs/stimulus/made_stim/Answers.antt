-- The stimulus is the made one, and fits.
use Rattle.std.proofs.Common.{◌≡◌, ℕ, ◌<◌, ◌≤◌, ◌^◌, All, List, [], length, get_or, ap, refl, sym, subst, ◌∙◌, arith}
use Rattle.design_cell.specs.declared.value.Value.{Value}
use Rattle.design_inputs.specs.Rows.{HasWidth, moment_row}
use Rattle.recording_binding.specs.StimOf.{IsRow}
use Rattle.cmd_make.specs.Stimulus.{made_start, made_value}
use Rattle.cmd_make.proofs.Fitting.{rows_even, stim_fits, times_length, times_small}
use Rattle.cmd_make.proofs.stimulus.made_stim.Goals as goal

pub from_rows-requires-clause-some : goal.from_rows-requires-clause-some
from_rows-requires-clause-some c =
    let many = c.in_ok-rows.ensures.many in
    subst (λ (l : List (List Value)). 0 < length l) (sym c.as_slice.ensures.value) (omega (arith, many))

pub from_rows-requires-clause-width : goal.from_rows-requires-clause-width
from_rows-requires-clause-width c =
    let long = (c.in_ok-rows.ensures.rows 0 (omega arith)).long in
    let few = c.requires.few in
    subst (λ (l : List (List Value)). length (moment_row l 0) ≤ 2 ^ 20) (sym c.as_slice.ensures.value) (omega (arith, long, few))

pub from_rows-requires-clause-even : goal.from_rows-requires-clause-even
from_rows-requires-clause-even c =
    let many = c.in_ok-rows.ensures.many in
    subst (λ (l : List (List Value)). All (HasWidth (length (moment_row l 0))) l) (sym c.as_slice.ensures.value)
    (rows_even (length c.args.design.now.nets) c.in_ok-rows.rows.items
    (λ moment within. (c.in_ok-rows.ensures.rows moment (omega (arith, many, within))).long) (omega (arith, many)))

pub invariant_of-result : goal.invariant_of-result
invariant_of-result c =
    let times : length c.from_vec.result ≡ 16 = ap (λ (l : List ℕ). length l) (c.from_vec.ensures ∙ c.in_ok-times.ensures) ∙ times_length 16 in
    let inputs : length c.in_ok-inputs.inputs ≡ 16 = ap (λ (l : List (List Value)). length l) (c.in_ok-inputs.ensures ∙ c.as_slice.ensures.value) ∙ c.in_ok-rows.ensures.many in
    record {
      some_moment = omega (arith, times);
      few_moments = omega (arith, times);
      some_round = omega arith;
      few_rounds = omega arith;
      rows = inputs ∙ sym times;
      small_times = subst (All (λ time. time < 2 ^ 64)) (sym (c.from_vec.ensures ∙ c.in_ok-times.ensures)) (times_small 16 (omega arith));
    }

pub returns-clause-fits : goal.returns-clause-fits
returns-clause-fits c =
    let design = c.args.design.now in
    let number = c.args.number in
    let gates = c.args.gates in
    stim_fits design number gates _ c.requires record {
      times = c.from_vec.ensures ∙ c.in_ok-times.ensures;
      rounds = refl;
      rules = refl;
      many = ap (λ (l : List (List Value)). length l) (c.in_ok-inputs.ensures ∙ c.as_slice.ensures.value) ∙ c.in_ok-rows.ensures.many;
      inputs = subst (λ (l : List (List Value)). (moment : ℕ) → moment < 16 → IsRow design (made_value number gates moment) (get_or l moment []))
          (sym (c.in_ok-inputs.ensures ∙ c.as_slice.ensures.value)) c.in_ok-rows.ensures.rows;
      starts = subst (λ (l : List Value). IsRow design (made_start design) l) (sym c.from_vec-2.ensures) c.in_ok-starts.ensures;
    }
