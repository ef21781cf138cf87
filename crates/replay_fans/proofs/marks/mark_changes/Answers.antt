-- The net of one change more is due.
use Rattle.std.proofs.Common.{◌≡◌, ℕ, ◌<◌, true, sym, subst, ◌∙◌}
use Rattle.design_circuit.specs.Circuit.{job_in}
use Rattle.design_circuit.specs.Order.{position_of}
use Rattle.base_ledger.specs.Change.{change_position, nth_change}
use Rattle.replay_due.specs.Due.{is_due}
use Rattle.replay_fans.proofs.Marking.{changes_more}
use Rattle.replay_fans.proofs.marks.mark_changes.Goals as goal

pub mark_net-requires-clause-net : goal.mark_net-requires-clause-net
mark_net-requires-clause-net c =
    subst (λ (net : ℕ). net < (job_in c.args.circuit.now).width) (sym c.position.ensures)
    (c.requires.nets c.changes.change-index c.changes-test.true)

pub changes-preserved : goal.changes-preserved
changes-preserved c =
    let j = job_in c.args.circuit.now in
    let here : is_due c.mark_net.new.due
    (position_of j.order (change_position (nth_change c.args.changes.now c.changes.change-index))) ≡ true =
    subst (λ (net : ℕ). is_due c.mark_net.new.due (position_of j.order net) ≡ true) c.position.ensures
    c.mark_net.ensures.here in
    record {
      long = c.mark_net.ensures.long ∙ c.changes.invariant.long;
      more = λ position is. c.mark_net.ensures.more position (c.changes.invariant.more position is);
      changes = changes_more j c.args.changes.now c.changes.change-index c.changes.due c.mark_net.new.due
          c.mark_net.ensures.more here c.changes.invariant.changes;
    }
