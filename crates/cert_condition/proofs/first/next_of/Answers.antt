-- Where no turn is due there is nothing to ask.
use Rattle.std.proofs.Common.{arith}
use Rattle.cert_condition.proofs.FirstNodes.{none_first}
use Rattle.cert_condition.proofs.first.next_of.Goals as goal

pub returns-else-due_count-gt0-clause-first : goal.returns-else-due_count-gt0-clause-first
returns-else-due_count-gt0-clause-first c = none_first c.args.wave.now c.args.cone.now.nodes c.args.listed.now _
    (λ root of. c.requires.listed root of.whole)
    (let none = c.if-due_count-gt0.false in let same = c.due_count.ensures in omega (arith, none, same))
