-- The lists of all nodes are their clauses, each once.
use Rattle.std.proofs.Common.{[], List, subst}
use Rattle.std.specs.Prelude.{ℤ}
use Rattle.decide_cnf.specs.Clauses.{IsNodeClause}
use Rattle.decide_cnf.specs.Growth.{IsGrown}
use Rattle.decide_cnf.proofs.EarlyClauses.{node_clauses_made, nodes_no_zero}
use Rattle.decide_cnf.proofs.query.node_clauses.Goals as goal

pub into_clauses-requires : goal.into_clauses-requires
into_clauses-requires c =
    let grown : IsGrown (IsNodeClause c.args.nodes.now c.args.literals.now) [] c.add_nodes.new.lists =
    subst (λ (old : List (List ℤ)). IsGrown (IsNodeClause c.args.nodes.now c.args.literals.now) old c.add_nodes.new.lists)
    c.new-lists.ensures c.in_ok-add_nodes.ensures in
    nodes_no_zero c.args.nodes.now c.args.literals.now c.requires.nodes c.requires.literals c.add_nodes.new.lists grown

pub returns : goal.returns
returns c =
    let grown : IsGrown (IsNodeClause c.args.nodes.now c.args.literals.now) [] c.add_nodes.new.lists =
    subst (λ (old : List (List ℤ)). IsGrown (IsNodeClause c.args.nodes.now c.args.literals.now) old c.add_nodes.new.lists)
    c.new-lists.ensures c.in_ok-add_nodes.ensures in
    node_clauses_made c.args.nodes.now c.args.literals.now c.requires.nodes c.requires.literals c.add_nodes.new.lists grown
    c.in_ok-clauses.clauses.items c.in_ok-clauses.ensures
