-- One input more.
use Rattle.std.proofs.Common.{◌≡◌, ℕ, List, [], ◌∷◌, get_or, ap, sym, subst, ◌∙◌, length}
use Rattle.design_cell.specs.declared.value.Value.{Value}
use Rattle.design_cell.specs.declared.value.Value.TheVariants.{X}
use Rattle.recording_binding.specs.StimOf as spec
use Rattle.recording_binding.specs.declared.stimulus.Held.{Held}
use Rattle.recording_binding.proofs.StimLemmas.{set_more}
use Rattle.recording_reader.specs.Recording.{Recording}
use Rattle.recording_binding.proofs.stimulus.set_inputs.Goals as goal

none : Held
none = record { net = 0; holder = record { variable = 0; bit = 0 } }

pub set_input-requires-clause-fits : goal.set_input-requires-clause-fits
unfolding none
set_input-requires-clause-fits c =
    let input : Held = get_or c.args.inputs.now c.inputs.input-index none in
    let fits : spec.FitsHolder c.args.cursor.now (length c.args.writer.now.row) input = c.requires.fits c.inputs.input-index none c.inputs-test.true in
    subst (λ (r : Recording). spec.FitsHolder r (length c.inputs.writer.row) input) (sym c.inputs.invariant.same)
    (subst (λ (n : ℕ). spec.FitsHolder c.args.cursor.now n input) (sym c.inputs.invariant.long) fits)

pub inputs-preserved : goal.inputs-preserved
unfolding none
inputs-preserved c =
    let r = c.args.cursor.now in
    let m = c.args.moment in
    let inputs = c.args.inputs.now in
    let i = c.inputs.input-index in
    let one : List Held = get_or inputs i none ∷ [] in
    record {
      before = c.in_ok-set_input.ensures.before ∙ c.inputs.invariant.before;
      long = c.in_ok-set_input.ensures.long ∙ c.inputs.invariant.long;
      same = c.set_input.ensures.same ∙ c.inputs.invariant.same;
      set = λ net. c.in_ok-set_input.ensures.set net ∙ ap (λ (q : Recording). spec.set_from q m one net (get_or c.inputs.writer.row net X)) c.inputs.invariant.same
          ∙ ap (λ (v : Value). spec.set_from r m one net v) (c.inputs.invariant.set net)
          ∙ set_more r m net i inputs none (get_or c.args.writer.now.row net X) c.inputs-test.true;
    }
