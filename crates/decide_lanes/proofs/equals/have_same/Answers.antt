-- Equal values are the same.
use denote.Enum.Bare.{same_true, true_same}
use Rattle.std.proofs.lemmas.Slice.Eq.{slice_eq-Decides}
use Rattle.design_cell.specs.contracts.value.Value.{the_type}
use Rattle.decide_lanes.proofs.equals.have_same.Goals as goal

pub returns : goal.returns
returns c =
    slice_eq-Decides (λ a b. (same_true the_type tt a b, true_same the_type a b)) c.args.first.now c.args.second.now
    c.eq.result c.eq.ensures
