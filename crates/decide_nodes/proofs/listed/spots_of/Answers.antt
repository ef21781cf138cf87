-- The set is collected from the spots of the filling's places.
use Rattle.std.proofs.Common.{Ok, rules}
use Rattle.std.proofs.lemmas.Iterator.{YieldsList-from_map, YieldsList-from_slice}
use Rattle.std.proofs.lemmas.Iterator.Adapters.{fact_from_collect}
use Rattle.std.specs.BTreeSet as tree
use Rattle.decide_nodes.specs.Listed.{spot_cmp, spot_of}
use Rattle.decide_nodes.proofs.listed.spots_of.Goals as goal

pub returns : goal.returns
returns c =
    fact_from_collect {E = Unit {0}} (tree.IsFromIterResult spot_cmp) (Ok c.in_ok-spots.spots) c.in_ok-spots.ensures.ran
    (YieldsList-from_map _ spot_of (YieldsList-from_slice c.args.filling.now (cc)) c.map.ensures.closure
    (λ x r q k. search rules))
