-- The clauses that are made of the nodes are the query, and their literals fit its variables.
use Rattle.std.proofs.Common.{sym, ap, ◌∙◌, arith, subst}
use Rattle.sat_proof.specs.Log.{Fit}
use Rattle.decide_nodes.specs.Nodes.{nothing, root_bit}
use Rattle.decide_cnf.specs.Clauses.{AreMade}
use Rattle.decide_cnf.proofs.EarlyClauses.{variables_few}
use Rattle.decide_cnf.proofs.MadeQueries.{query_made}
use Rattle.decide_cnf.proofs.query.clauses.Goals as goal

pub overflow_cast-result : goal.overflow_cast-result
overflow_cast-result c =
    let few = variables_few c.nodes-nodes.result.now c.in_ok-literals.literals.items c.nodes-nodes.ensures.are
    c.in_ok-literals.ensures in
    let same = c.variables_of.ensures in
    omega (arith, few, same)

pub invariant_of-result : goal.invariant_of-result
invariant_of-result c =
    let few = variables_few c.nodes-nodes.result.now c.in_ok-literals.literals.items c.nodes-nodes.ensures.are
    c.in_ok-literals.ensures in
    let same = c.variables_of.ensures in
    record {
      few = omega (arith, few, same);
      fit = subst (Fit c.variables_of.result) (sym c.from_vec.ensures)
          (subst (λ n. Fit n c.in_ok-clauses.clauses.items) (sym same) c.in_ok-clauses.ensures.fit);
    }

pub returns-clause-few : goal.returns-clause-few
returns-clause-few c =
    let few = variables_few c.nodes-nodes.result.now c.in_ok-literals.literals.items c.nodes-nodes.ensures.are
    c.in_ok-literals.ensures in
    let same = c.variables_of.ensures in
    omega (arith, few, same)

pub returns-clause-query : goal.returns-clause-query
returns-clause-query c =
    let made : AreMade c.nodes-nodes.result.now c.in_ok-literals.literals.items c.base.result c.from_vec.result =
    subst (AreMade c.nodes-nodes.result.now c.in_ok-literals.literals.items c.base.result) (sym c.from_vec.ensures)
    (subst (λ ls. AreMade c.nodes-nodes.result.now ls c.base.result c.in_ok-clauses.clauses.items) c.deref.ensures.value
    c.in_ok-clauses.ensures) in
    query_made c.nodes-nodes.result.now _ c.nodes-nodes.ensures.nodes c.in_ok-literals.literals.items c.base.result _
    c.in_ok-literals.ensures made (c.base.ensures ∙ ap (root_bit nothing) (sym c.nodes-nodes.ensures.nodes))
    c.variables_of.ensures
