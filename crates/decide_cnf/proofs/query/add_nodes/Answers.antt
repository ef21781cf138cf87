-- The clauses of one more node, and those of all at the end.
use Rattle.std.proofs.Common.{ℕ, List, arith, subst}
use Rattle.std.proofs.lemmas.List.{get_or_default}
use Rattle.decide_nodes.specs.declared.node.Node.{Node}
use Rattle.decide_nodes.specs.Nodes.{no_node}
use Rattle.decide_cnf.specs.Clauses.{IsBodyClause}
use Rattle.decide_cnf.specs.Growth.{IsGrown}
use Rattle.decide_cnf.proofs.EarlyClauses.{all_literals, early_all, early_more}
use Rattle.decide_cnf.proofs.query.add_nodes.Goals as goal

pub add_body-requires-clause-fit : goal.add_body-requires-clause-fit
add_body-requires-clause-fit c = all_literals c.args.nodes.now c.args.literals.now c.requires.nodes c.requires.literals

pub nodes-preserved : goal.nodes-preserved
nodes-preserved c =
    let nodes : List Node = c.args.nodes.now in
    let i : ℕ = c.nodes.position in
    let node_is = get_or_default nodes i c.index-nodes-position.result no_node c.nodes-test.true in
    early_more nodes c.args.literals.now i c.args.lists.now c.nodes.lists c.add_body.new.lists c.nodes-test.true
    c.nodes.invariant (subst (λ (n : Node). IsGrown (IsBodyClause c.args.literals.now i n.body) c.nodes.lists
    c.add_body.new.lists) node_is c.in_ok-add_body.ensures)

pub returns : goal.returns
returns c = early_all c.args.nodes.now c.args.literals.now c.nodes.position c.args.lists.now c.nodes.lists
    (omega arith) c.nodes.invariant
