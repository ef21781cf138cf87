-- One more node is picked or passed over.
use Rattle.std.proofs.Common.{◌≡◌, ◌&&◌, ℕ, Bool, List, sym, ap, ◌∙◌, subst}
use Rattle.std.proofs.lemmas.List.{get_or_default}
use Rattle.sat_proof.specs.Assignment.{assigned}
use Rattle.decide_nodes.specs.declared.node.Node.{Node}
use Rattle.decide_nodes.specs.Nodes.{is_source_node, no_node, node_at}
use Rattle.decide_cnf.specs.Literals.{variables_with}
use Rattle.decide_cnf.specs.Models.{is_picked}
use Rattle.decide_cnf.proofs.ModelFillings.{picked_push, picked_skip}
use Rattle.decide_cnf.proofs.NodeLiterals.{few_before, variables_more}
use Rattle.decide_cnf.proofs.model.picked_places.Goals as goal
use Rattle.decide_cnf.proofs.model.picked_places.Goals.{then-is_picked+in_ok-push, else-is_picked}

pub variables_with-variables-requires : goal.variables_with-variables-requires
variables_with-variables-requires c = few_before c.args.nodes.now c.nodes.node-index c.nodes.variables c.requires
    c.nodes-test.true c.nodes.invariant.variables

pub nodes-preserved : goal.nodes-preserved
nodes-preserved c =
    let nodes : List Node = c.args.nodes.now in
    let i : ℕ = c.nodes.node-index in
    let model : ℕ → Bool = assigned c.args.values.now in
    let node_is : c.node-item.result ≡ node_at nodes i =
    c.node-item.is ∙ sym (get_or_default nodes i no_node c.node-item.result c.nodes-test.true) in
    let picked : c.is_picked.result ≡ is_picked nodes model i =
    c.is_picked.ensures ∙ ap (λ (n : Node). is_source_node n && model c.nodes.variables) node_is
    ∙ ap (λ v. is_source_node (node_at nodes i) && model v) c.nodes.invariant.variables in
    record {
      places = elim c.if-is_picked.branch [
        | then-is_picked+in_ok-push w ↦ ap (λ v. v.items) w.places-is ∙ w.in_ok-push.ensures.items
            ∙ picked_push nodes model i c.nodes.places.items c.node-item.result.place
            (sym picked ∙ w.if-is_picked.true) c.nodes.invariant.places (ap (λ (n : Node). n.place) node_is)
        | else-is_picked w ↦ ap (λ v. v.items) w.places-is
            ∙ picked_skip nodes model i c.nodes.places.items (sym picked
            ∙ w.if-is_picked.false) c.nodes.invariant.places
      ];
      variables = variables_more nodes i c.nodes.variables c.variables_with-variables.result c.nodes-test.true
          c.nodes.invariant.variables
          (subst (λ (n : Node). c.variables_with-variables.result ≡ variables_with c.nodes.variables n.body) node_is
          c.variables_with-variables.ensures);
    }
