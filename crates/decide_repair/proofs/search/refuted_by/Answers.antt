-- The log refutes the query of the next place, and names its variables alone.
use Rattle.decide_cnf.proofs.NextAnswers.{refutes_next}
use Rattle.decide_nodes.specs.Nodes.{nothing, root_bit}
use Rattle.decide_repair.proofs.Searching.{refuted_accepted}
use Rattle.decide_repair.proofs.search.refuted_by.Goals as goal

pub conclude-requires-clause-refutes : goal.conclude-requires-clause-refutes
conclude-requires-clause-refutes c =
    refutes_next c.args.wave.now c.args.cone.now.nodes c.args.query.now c.args.proof c.requires.cone c.requires.query
    c.requires.refutes

pub returns : goal.returns
returns c =
    refuted_accepted c.args.wave.now c.args.cone.now.nodes c.args.query.now c.conclude.result
    (root_bit nothing c.args.cone.now.nodes) c.args.proof c.requires.cone c.requires.query c.requires.fit
    c.conclude.ensures.no_zero c.conclude.ensures.body c.conclude.ensures.holds
