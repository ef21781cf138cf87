-- The command of a name ran.
use Rattle.cmd_program.proofs.program.run_named.Goals as goal

pub returns-in-Repair : goal.returns-in-Repair
returns-in-Repair g c = rw c.in-Repair.is c.run_as.ensures

pub returns-in-Replay : goal.returns-in-Replay
returns-in-Replay g c = rw c.in-Replay.is c.run_as-in-Replay.ensures

pub returns-in-Check : goal.returns-in-Check
returns-in-Check g c = rw c.in-Check.is c.run_as-in-Check.ensures

pub returns-in-Make : goal.returns-in-Make
returns-in-Make g c = rw c.in-Make.is c.run_as-in-Make.ensures

pub returns-in-Export : goal.returns-in-Export
returns-in-Export g c = rw c.in-Export.is c.run_as-in-Export.ensures

pub returns-in-Prove : goal.returns-in-Prove
returns-in-Prove g c = rw c.in-Prove.is c.run_as-in-Prove.ensures

pub returns-in-Audit : goal.returns-in-Audit
returns-in-Audit g c = rw c.in-Audit.is c.run_as-in-Audit.ensures

pub returns-in-Blame : goal.returns-in-Blame
returns-in-Blame g c = rw c.in-Blame.is c.run_as-in-Blame.ensures

pub returns-in-Fix : goal.returns-in-Fix
returns-in-Fix g c = rw c.in-Fix.is c.run_as-in-Fix.ensures

pub returns-in-Upgrade : goal.returns-in-Upgrade
returns-in-Upgrade g c = rw c.in-Upgrade.is c.run_as-in-Upgrade.ensures
