-- The places that a model picks are its filling, which gives the other bit than the empty one.
use Rattle.std.proofs.Common.{List, length, ap, ◌∙◌}
use Rattle.sat_proof.specs.Assignment.{assigned}
use Rattle.decide_nodes.specs.declared.node.Node.{Node}
use Rattle.decide_cnf.specs.Models.{picked_places}
use Rattle.decide_cnf.proofs.ModelFillings.{picked_filling, picked_pair}
use Rattle.decide_cnf.proofs.model.model_filling.Goals as goal

pub returns-clause-filling : goal.returns-clause-filling
returns-clause-filling c =
    let nodes : List Node = c.args.cone.now.nodes in
    let places = c.from_vec.ensures ∙ c.in_ok-places.ensures
    ∙ ap (λ ns. picked_places ns (assigned c.as_slice.result.now) (length ns)) c.nodes.ensures.nodes
    ∙ ap (λ values. picked_places nodes (assigned values) (length nodes)) c.as_slice.ensures in
    picked_filling nodes c.args.model.now c.from_vec.result places

pub returns-clause-pair : goal.returns-clause-pair
returns-clause-pair c =
    let nodes : List Node = c.args.cone.now.nodes in
    let places = c.from_vec.ensures ∙ c.in_ok-places.ensures
    ∙ ap (λ ns. picked_places ns (assigned c.as_slice.result.now) (length ns)) c.nodes.ensures.nodes
    ∙ ap (λ values. picked_places nodes (assigned values) (length nodes)) c.as_slice.ensures in
    picked_pair nodes c.args.model.now c.from_vec.result places
