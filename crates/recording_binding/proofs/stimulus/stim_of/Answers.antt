-- The stimulus, field by field.
use Rattle.std.proofs.Common.{◌≡◌, ℕ, List, get_or, sym, subst, arith, rules}
use Rattle.design_cell.specs.declared.value.Value.{Value}
use Rattle.design_cell.specs.declared.value.Value.TheVariants.{X, Z}
use Rattle.recording_binding.proofs.StimLemmas.{no_float_row}
use Rattle.recording_binding.proofs.stimulus.stim_of.Goals as goal

pub returns-clause-fits : goal.returns-clause-fits
returns-clause-fits c =
    let many = c.in_ok-inputs.ensures.as_many in
    record {
      times = search rules;
      values = λ moment within. (c.in_ok-inputs.ensures.rows moment (omega (arith, within, many))).long;
      starts = search rules;
      no_float = subst (λ (l : List Value). (net : ℕ) → get_or l net X ≡ Z → ⊥) (sym c.from_vec-2.ensures)
          (no_float_row c.args.design.now c.args.recording.now c.args.holders.now c.args.rules.start
          c.in_ok-starts.starts.items c.requires.design c.in_ok-starts.ensures);
      places = search rules;
    }
