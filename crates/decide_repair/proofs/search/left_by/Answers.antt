-- The log is a licence, and names variables of the query alone.
use Rattle.decide_cnf.proofs.NextAnswers.{fresh_next}
use Rattle.decide_repair.proofs.Searching.{licence_accepted}
use Rattle.decide_repair.proofs.search.left_by.Goals as goal

pub give_up-requires-clause-fresh : goal.give_up-requires-clause-fresh
give_up-requires-clause-fresh c =
    fresh_next c.args.wave.now c.args.cone.now.nodes c.args.query.now c.args.proof c.requires.cone c.requires.query
    c.requires.fresh

pub returns : goal.returns
returns c =
    licence_accepted c.args.wave.now c.args.cone.now.nodes c.args.query.now c.give_up.result c.args.proof c.requires.cone
    c.requires.query c.requires.fit c.give_up.ensures.no_zero c.give_up.ensures.body c.give_up.ensures.holds
