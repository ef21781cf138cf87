-- A moment more.
use Rattle.std.proofs.Common.{◌≡◌, List, [], ◌∷◌, ◌++◌, length, get_or, ap, sym, subst, ◌∙◌, arith}
use Rattle.design_cell.specs.declared.value.Value.{Value}
use Rattle.design_cell.specs.declared.value.Value.TheVariants.{X}
use Rattle.recording_binding.specs.StimOf.{IsRow}
use Rattle.recording_binding.proofs.StimLemmas.{each_more}
use Rattle.cmd_make.specs.Netlist.{after_netlist}
use Rattle.cmd_make.specs.Stimulus.{after_inputs, before_moment, made_value, moment_values}
use Rattle.cmd_make.proofs.Growing.{longer, moment_more}
use Rattle.cmd_make.proofs.stimulus.rows_of.Goals as goal

pub moments-init : goal.moments-init
unfolding before_moment
moments-init c = record {
  state = c.draws_after-draws.ensures;
  many = ap (λ (l : List (List Value)). length l) c.new-rows.ensures.items;
  rows = λ moment within. absurd (omega (arith, within));
}

pub moments-preserved : goal.moments-preserved
moments-preserved c =
    let design = c.args.design.now in
    let start = after_netlist c.args.number c.args.gates in
    let m = c.moments.moment in
    let rows = c.moments.rows.items in
    let row = c.in_ok-row.row in
    let here = c.moments.invariant.state in
    let pushed : c.push.new.self.items ≡ rows ++ row ∷ [] = c.in_ok-push.ensures.items in
    let values : c.as_slice.result.now ≡ moment_values (before_moment start m) m =
    c.as_slice.ensures.value ∙ c.in_ok-values.ensures.values ∙ ap (λ s. moment_values s m) here in
    let is : IsRow design (made_value c.args.number c.args.gates m) row =
    subst (λ (l : List Value). IsRow design (λ net. get_or l net X) row) values c.in_ok-row.ensures in
    record {
      state = c.in_ok-values.ensures.after ∙ ap (λ s. after_inputs s 8) here ∙ sym (moment_more start m);
      many = longer rows c.push.new.self.items row m c.moments.invariant.many pushed;
      rows = each_more (λ k x. IsRow design (made_value c.args.number c.args.gates k) x) [] rows c.push.new.self.items row m
          c.moments.invariant.many c.moments.invariant.rows is pushed;
    }
