-- One moment more.
use Rattle.std.proofs.Common.{◌≡◌, ℕ, List, Option, [], ◌∷◌, ◌<◌, length, All, sym, ap, subst, refl, ◌∙◌, arith}
use Rattle.std.proofs.lemmas.List.{length-replicate}
use Rattle.design_cell.specs.declared.value.Value.{Value}
use Rattle.design_cell.specs.declared.value.Value.TheVariants.{X}
use Rattle.design_circuit.specs.declared.design.Design.{Design}
use Rattle.design_circuit.specs.declared.design.Net.{Net}
use Rattle.design_inputs.specs.Rows.{WrittenRows, all_rows}
use Rattle.recording_binding.specs.StimOf as spec
use Rattle.recording_binding.specs.declared.inputs.Holder.{Holder}
use Rattle.recording_binding.specs.declared.stimulus.Held.{Held}
use Rattle.recording_binding.proofs.StimLemmas.{blank_others, inputs_fit, many_more, others_set, rows_more}
use Rattle.recording_binding.proofs.stimulus.rows_of.Goals as goal
use Rattle.recording_reader.specs.Recording.{Recording}

fits_row : (d : Design) (r seen : Recording) (holders : List (Option Holder)) (inputs : List Held) (row : List Value) → spec.AreHolders r holders → length holders ≡ length d.nets → inputs ≡ spec.inputs_of d holders
    → length row ≡ length d.nets → seen ≡ r → All (spec.FitsHolder seen (length row)) inputs
fits_row d r seen holders inputs row held many is long same =
    subst (λ (s : Recording). All (spec.FitsHolder s (length row)) inputs) (sym same)
    (subst (λ (l : List Held). All (spec.FitsHolder r (length row)) l) (sym is)
    (inputs_fit d r holders (length row) (length d.nets) held (omega (arith, many)) (omega (arith, long))))

pub set_inputs-requires-clause-fits : goal.set_inputs-requires-clause-fits
set_inputs-requires-clause-fits c =
    let writer = c.in_ok-writer.writer in
    let long : length writer.row ≡ length c.args.design.now.nets = ap (λ (w : WrittenRows). length w.row) c.in_ok-writer.ensures ∙ length-replicate (length c.as_slice.result.now) X ∙ ap (λ (l : List Net). length l) c.as_slice.ensures in
    fits_row c.args.design.now c.args.recording.now c.in_ok-cursor.cursor c.args.holders.now c.as_slice-2.result.now writer.row c.requires.held c.requires.long (c.as_slice-2.ensures.value ∙ c.in_ok-inputs.ensures) long c.in_ok-cursor.ensures

pub set_inputs-requires-in-moments-clause-fits : goal.set_inputs-requires-in-moments-clause-fits
set_inputs-requires-in-moments-clause-fits c =
    let row = c.next_moment.new.self.row in
    let long : length row ≡ length c.args.design.now.nets = ap (λ (w : WrittenRows). length w.row) c.in_ok-next_moment.ensures.ok ∙ c.moments.invariant.long in
    fits_row c.args.design.now c.args.recording.now c.moments.cursor c.args.holders.now c.as_slice-in-moments.result.now row c.requires.held c.requires.long (c.as_slice-in-moments.ensures.value ∙ c.in_ok-inputs.ensures) long c.moments.invariant.cursor

pub moments-init : goal.moments-init
moments-init c =
    let d = c.args.design.now in
    let r = c.args.recording.now in
    let holders = c.args.holders.now in
    let writer = c.in_ok-writer.writer in
    let new = c.set_inputs.new.writer in
    let blank = c.in_ok-writer.ensures in
    let is = c.as_slice-2.ensures.value ∙ c.in_ok-inputs.ensures in
    let others = blank_others d r holders writer.row (length c.as_slice.result.now) (ap (λ (w : WrittenRows). w.row) blank) in
    let before : new.before ≡ [] = c.in_ok-set_inputs.ensures.before ∙ ap (λ (w : WrittenRows). w.before) blank in
    let long : length new.row ≡ length d.nets = c.in_ok-set_inputs.ensures.long ∙ ap (λ (w : WrittenRows). length w.row) blank ∙ length-replicate (length c.as_slice.result.now) X ∙ ap (λ (l : List Net). length l) c.as_slice.ensures in
    let set_row = c.in_ok-set_inputs.ensures.set in
    record {
      cursor = c.set_inputs.ensures.same ∙ c.in_ok-cursor.ensures;
      long = long;
      others = others_set d r c.in_ok-cursor.cursor holders 0 c.as_slice-2.result.now writer.row [] new c.in_ok-cursor.ensures is set_row others before;
      as_many = many_more [] new 0 before refl;
      rows = rows_more d r c.in_ok-cursor.cursor holders 0 c.as_slice-2.result.now writer.row [] new c.in_ok-cursor.ensures is set_row others before long refl (λ k within. absurd (omega (arith, within)));
    }

pub moments-preserved : goal.moments-preserved
moments-preserved c =
    let d = c.args.design.now in
    let r = c.args.recording.now in
    let holders = c.args.holders.now in
    let old = c.moments.writer in
    let writer = c.next_moment.new.self in
    let new = c.set_inputs-in-moments.new.writer in
    let next = c.in_ok-next_moment.ensures.ok in
    let is = c.as_slice-in-moments.ensures.value ∙ c.in_ok-inputs.ensures in
    let others = subst (λ (w : WrittenRows). spec.HasOthers d r holders w.row) (sym next) c.moments.invariant.others in
    let before : new.before ≡ all_rows old = c.in_ok-set_inputs-2.ensures.before ∙ ap (λ (w : WrittenRows). w.before) next in
    let long : length new.row ≡ length d.nets = c.in_ok-set_inputs-2.ensures.long ∙ ap (λ (w : WrittenRows). length w.row) next ∙ c.moments.invariant.long in
    let set_row = c.in_ok-set_inputs-2.ensures.set in
    record {
      cursor = c.set_inputs-in-moments.ensures.same ∙ c.moments.invariant.cursor;
      long = long;
      others = others_set d r c.moments.cursor holders c.moments.moment c.as_slice-in-moments.result.now writer.row (all_rows old) new c.moments.invariant.cursor is set_row others before;
      as_many = many_more (all_rows old) new c.moments.moment before c.moments.invariant.as_many;
      rows = rows_more d r c.moments.cursor holders c.moments.moment c.as_slice-in-moments.result.now writer.row (all_rows old) new c.moments.invariant.cursor is set_row others before long c.moments.invariant.as_many c.moments.invariant.rows;
    }
