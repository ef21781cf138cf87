-- The lanes that the filling gives the sources have its bits in the first lane.
use Rattle.std.proofs.Common.{◌≡◌, ◌∙◌, arith, map}
use Rattle.decide_nodes.specs.Lanes.{lane_of}
use Rattle.decide_nodes.specs.Listed.{listed_lanes}
use Rattle.decide_nodes.specs.Nodes.{sources_of}
use Rattle.decide_nodes.proofs.ConeLaws.{listed_law}
use Rattle.decide_nodes.proofs.ListedSpots.{table_listed}
use Rattle.decide_nodes.proofs.cone.Cone.value.Goals as goal

pub returns : goal.returns
returns c =
    let lane_table : c.deref.result.now ≡ map (listed_lanes c.args.filling.now) (sources_of c.args.self.now.nodes) =
    c.deref.ensures.value ∙ (rw (c.as_slice.ensures, c.sources.ensures) at c.in_ok-given.ensures) in
    record {
      world = λ contents root is filled. c.in_lane.ensures ∙ c.root_lanes-lane_bits.ensures 0 (omega arith)
          ∙ listed_law contents root c.args.self.now.nodes c.args.filling.now (lane_of c.deref.result.now 0) is filled
          (table_listed c.args.self.now.nodes c.args.filling.now c.deref.result.now lane_table);
    }
