-- One net of the row has its value.
use Rattle.std.proofs.Common.{[], ◌∷◌, get_or, set, ap, ◌∙◌}
use Rattle.design_cell.specs.declared.value.Value.{Value}
use Rattle.design_cell.specs.declared.value.Value.TheVariants.{X}
use Rattle.design_inputs.specs.Rows.{WrittenRows}
use Rattle.recording_binding.specs.StimOf as spec
use Rattle.recording_binding.proofs.StimLemmas.{on_ok, set_one}
use Rattle.recording_binding.proofs.stimulus.set_input.Goals as goal

pub returns-clause-set : goal.returns-clause-set
returns-clause-set c =
    let old = c.args.writer.now in
    on_ok c.set.result _ (spec.Sets c.args.cursor.now c.args.moment (c.args.input ∷ []) old.row c.set.new.self.row) (λ is net.
    ap (λ (w : WrittenRows). get_or w.row net X) is
    ∙ ap (λ (v : Value). get_or (set old.row c.args.input.net v) net X) c.value-value.ensures.value
    ∙ set_one c.args.cursor.now c.args.moment old.row c.args.input net c.requires.fits.net) c.set.ensures.ok
