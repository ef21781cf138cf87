-- One more node has its literal, and the variables so far are few.
use Rattle.std.proofs.Common.{◌≡◌, ◌+◌, ◌++◌, ◌∷◌, [], ℕ, List, sym, ap, ◌∙◌, subst, take, rules}
use Rattle.std.specs.Prelude.{ℤ}
use Rattle.std.proofs.lemmas.Int.{to_z-of_z}
use Rattle.std.proofs.lemmas.List.{get_or_default}
use mir.Syntax.{w32}
use mir.Val.{SFits}
use Rattle.decide_nodes.specs.declared.node.Node.{Node}
use Rattle.decide_nodes.specs.Nodes.{no_node, node_at}
use Rattle.decide_cnf.specs.Literals.{AreLiterals, IsLiteral, literal_by, variables_with}
use Rattle.decide_cnf.proofs.NodeLiterals.{few_before, nodes_more}
use Rattle.decide_cnf.proofs.literals.literals_of.Goals as goal

pub literal_of-requires-clause-few : goal.literal_of-requires-clause-few
literal_of-requires-clause-few c = few_before c.args.nodes.now c.nodes.node-index c.nodes.variables c.requires
    c.nodes-test.true c.nodes.invariant.variables

pub variables_with-variables-requires : goal.variables_with-variables-requires
variables_with-variables-requires c = few_before c.args.nodes.now c.nodes.node-index c.nodes.variables c.requires
    c.nodes-test.true c.nodes.invariant.variables

pub nodes-preserved : goal.nodes-preserved
nodes-preserved c =
    let nodes : List Node = c.args.nodes.now in
    let i : ℕ = c.nodes.node-index in
    let l : ℤ = c.literal_of.result in
    let fits : SFits w32 c.literal_of.result = search rules in
    let node_is : c.node-item.result ≡ node_at nodes i =
    c.node-item.is ∙ sym (get_or_default nodes i no_node c.node-item.result c.nodes-test.true) in
    let more = nodes_more nodes i c.nodes.literals.items l c.nodes.variables c.variables_with-variables.result c.requires
    c.nodes-test.true c.nodes.invariant.are c.nodes.invariant.variables
    (subst (λ (n : Node). l ≡ literal_by c.nodes.literals.items c.nodes.variables n.body) node_is
    (subst (λ ls. l ≡ literal_by ls c.nodes.variables c.node-item.result.body) c.deref.ensures.value
    c.literal_of.ensures.literal))
    (subst (λ (n : Node). IsLiteral (variables_with c.nodes.variables n.body) l) node_is c.literal_of.ensures.fit)
    (subst (λ (n : Node). c.variables_with-variables.result ≡ variables_with c.nodes.variables n.body) node_is
    c.variables_with-variables.ensures) in
    record {
      are = subst (AreLiterals (take (i + 1) nodes))
          (sym (c.in_ok-push.ensures.items ∙ ap (λ m. c.nodes.literals.items ++ m ∷ []) (to_z-of_z w32 l fits))) more.0;
      variables = more.1;
    }
