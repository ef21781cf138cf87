-- Both parts are joined.
use Rattle.std.proofs.Common.{◌∙◌, refl, sym, subst}
use Rattle.design_circuit.specs.Circuit.{job_in}
use Rattle.report_blame.specs.Joined.{IsJoined}
use Rattle.report_blame.proofs.Joins.{are_joined}
use Rattle.report_blame.proofs.join.join.Goals as goal

pub returns : goal.returns
returns c = subst (IsJoined (job_in c.args.circuit.now) c.args.one.now c.args.below c.args.zero.now c.args.from)
    (sym (c.from_vec.ensures ∙ rw (c.in_ok-add_from.ensures, c.in_ok-add_below.ensures, c.new-places.ensures.items) refl))
    (are_joined (job_in c.args.circuit.now) c.args.one.now c.args.below c.args.zero.now c.args.from c.requires.one
    c.requires.zero c.requires.order)
