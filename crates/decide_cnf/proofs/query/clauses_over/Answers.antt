-- The lists of all nodes and the denial are the clauses, each once.
use Rattle.std.proofs.Common.{[], List, subst, sym}
use Rattle.std.specs.Prelude.{ℤ}
use Rattle.std.specs.List.{All}
use Rattle.sat_proof.specs.Assignment.{HasNoZero}
use Rattle.decide_cnf.specs.Clauses.{IsNodeClause}
use Rattle.decide_cnf.specs.Growth.{AreOnce, IsGrown}
use Rattle.decide_cnf.proofs.EarlyClauses.{all_literals, lists_no_zero}
use Rattle.decide_cnf.proofs.MadeQueries.{clauses_made}
use Rattle.decide_cnf.proofs.query.clauses_over.Goals as goal

pub add_denial-requires-clause-fit : goal.add_denial-requires-clause-fit
add_denial-requires-clause-fit c = all_literals c.args.nodes.now c.args.literals.now c.requires.nodes c.requires.literals

pub into_clauses-requires : goal.into_clauses-requires
into_clauses-requires c =
    let grown : IsGrown (IsNodeClause c.args.nodes.now c.args.literals.now) [] c.add_nodes.new.lists =
    subst (λ (old : List (List ℤ)). IsGrown (IsNodeClause c.args.nodes.now c.args.literals.now) old c.add_nodes.new.lists)
    c.new-lists.ensures c.in_ok-add_nodes.ensures in
    subst (All HasNoZero) (sym c.in_ok-add_denial.ensures)
    (lists_no_zero c.args.nodes.now c.args.literals.now c.requires.nodes c.requires.literals c.add_nodes.new.lists
    c.args.base grown)

pub returns : goal.returns
returns c =
    let grown : IsGrown (IsNodeClause c.args.nodes.now c.args.literals.now) [] c.add_nodes.new.lists =
    subst (λ (old : List (List ℤ)). IsGrown (IsNodeClause c.args.nodes.now c.args.literals.now) old c.add_nodes.new.lists)
    c.new-lists.ensures c.in_ok-add_nodes.ensures in
    clauses_made c.args.nodes.now c.args.literals.now c.add_nodes.new.lists c.in_ok-clauses.clauses.items c.args.base
    c.requires.nodes c.requires.literals grown
    (subst (λ (ls : List (List ℤ)). AreOnce ls c.in_ok-clauses.clauses.items) c.in_ok-add_denial.ensures
    c.in_ok-clauses.ensures)
