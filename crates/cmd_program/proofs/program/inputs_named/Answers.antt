-- The files of the command of a name.
use Rattle.cmd_program.proofs.program.inputs_named.Goals as goal

pub returns-in-Repair : goal.returns-in-Repair
returns-in-Repair c = rw c.in-Repair.is c.inputs_as.ensures

pub returns-in-Replay : goal.returns-in-Replay
returns-in-Replay c = rw c.in-Replay.is c.inputs_as-in-Replay.ensures

pub returns-in-Check : goal.returns-in-Check
returns-in-Check c = rw c.in-Check.is c.inputs_as-in-Check.ensures

pub returns-in-Make : goal.returns-in-Make
returns-in-Make c = rw c.in-Make.is c.inputs_as-in-Make.ensures

pub returns-in-Export : goal.returns-in-Export
returns-in-Export c = rw c.in-Export.is c.inputs_as-in-Export.ensures

pub returns-in-Prove : goal.returns-in-Prove
returns-in-Prove c = rw c.in-Prove.is c.inputs_as-in-Prove.ensures

pub returns-in-Audit : goal.returns-in-Audit
returns-in-Audit c = rw c.in-Audit.is c.inputs_as-in-Audit.ensures

pub returns-in-Blame : goal.returns-in-Blame
returns-in-Blame c = rw c.in-Blame.is c.inputs_as-in-Blame.ensures

pub returns-in-Fix : goal.returns-in-Fix
returns-in-Fix c = rw c.in-Fix.is c.inputs_as-in-Fix.ensures

pub returns-in-Upgrade : goal.returns-in-Upgrade
returns-in-Upgrade c = rw c.in-Upgrade.is c.inputs_as-in-Upgrade.ensures
