-- The nodes that are reached are the cone.
use Rattle.std.proofs.Common.{◌≡◌, ◌<◌, ◌∙◌, List, ℕ, length, sym, subst}
use Rattle.std.proofs.lemmas.Result.{IfOk-weaker}
use Rattle.decide_nodes.specs.declared.node.Node.{Node}
use Rattle.decide_graph.specs.Graph.{IsConeOfNode}
use Rattle.decide_graph.specs.Picked.{picked_by}
use Rattle.decide_graph.specs.Walk.{AreTakenFrom, is_taken}
use Rattle.decide_graph.proofs.GraphCones.{cone_of_node, picked_taken}
use Rattle.decide_graph.proofs.ReachedCones.{cone_nodes}
use Rattle.decide_graph.proofs.TakenNodes.{all_taken}
use Rattle.decide_graph.proofs.graph.Graph.cone.Goals as goal

pub picked_nodes-requires-clause-taken : goal.picked_nodes-requires-clause-taken
picked_nodes-requires-clause-taken c =
    let nodes : List Node = c.self.inside.nodes in
    let less : c.args.node < length nodes = subst (λ ns. c.args.node < length ns) (sym c.self.view_is) c.requires in
    let are : AreTakenFrom nodes c.args.node c.in_ok-taken.taken.items = c.in_ok-taken.ensures in
    all_taken nodes c.args.node c.in_ok-taken.taken.items less are

pub new-requires : goal.new-requires
new-requires c =
    let nodes : List Node = c.self.inside.nodes in
    let taken : List ℕ = c.in_ok-taken.taken.items in
    let less : c.args.node < length nodes = subst (λ ns. c.args.node < length ns) (sym c.self.view_is) c.requires in
    let are : AreTakenFrom nodes c.args.node taken = c.in_ok-taken.ensures in
    let picked : c.in_ok-picked.picked.items ≡ picked_by nodes taken = c.in_ok-picked.ensures in
    cone_nodes nodes c.self.invariant c.args.node less (is_taken taken) are.reached c.in_ok-picked.picked.items
    (picked ∙ picked_taken nodes c.args.node taken are)

pub returns : goal.returns
returns c =
    let nodes : List Node = c.self.inside.nodes in
    let taken : List ℕ = c.in_ok-taken.taken.items in
    let less : c.args.node < length nodes = subst (λ ns. c.args.node < length ns) (sym c.self.view_is) c.requires in
    let are : AreTakenFrom nodes c.args.node taken = c.in_ok-taken.ensures in
    let picked : c.in_ok-picked.picked.items ≡ picked_by nodes taken = c.in_ok-picked.ensures in
    let is : IsConeOfNode c.args.self.now c.args.node c.in_ok-picked.picked.items =
    subst (λ ns. IsConeOfNode ns c.args.node c.in_ok-picked.picked.items) c.self.view_is
    (cone_of_node nodes c.self.invariant c.args.node less (is_taken taken) are.reached c.in_ok-picked.picked.items
    (picked ∙ picked_taken nodes c.args.node taken are)) in
    IfOk-weaker c.new.result _ _ (λ cone same. subst (IsConeOfNode c.args.self.now c.args.node) (sym same) is) c.new.ensures
