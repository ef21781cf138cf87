-- What the text comes to is answered.
use Rattle.netlist_trim.proofs.OneWay.{answers_it}
use Rattle.netlist_trim.proofs.trimmed.trim.Goals as goal

pub returns-clause-exact : goal.returns-clause-exact
returns-clause-exact c =
    answers_it c.args.text.now c.args.top.now c.outcome_of.result c.outcome_of.ensures.trimmed c.outcome_of.ensures.refused
