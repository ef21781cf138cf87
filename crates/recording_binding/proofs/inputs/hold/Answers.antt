-- A net is given to the first that holds it.
use Rattle.recording_binding.proofs.HoldLemmas.{given, stays}
use Rattle.recording_binding.proofs.inputs.hold.Goals as goal

pub returns-in-Some-clause-each : goal.returns-in-Some-clause-each
returns-in-Some-clause-each c = λ k. stays c.args.holders.now c.args.net c.args.holder k c.in-Some.field-0 c.in-Some.is

pub returns-in-None-clause-each : goal.returns-in-None-clause-each
returns-in-None-clause-each c = λ k. given c.args.holders.now c.args.net c.args.holder k c.requires c.in-None.is
