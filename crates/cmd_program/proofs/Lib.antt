-- Lemmas on the program.
mod Audit
mod Auditing
mod Blame
mod Certified
mod Check
mod Conditioned
mod Export
mod Fix
mod Free
mod Headlines
mod Inputs
pub mod Lawful
mod Make
mod Making
mod Needing
mod OneLimits
mod OneLines
mod OwnChecks
mod OwnForces
mod Prove
mod Repair
mod Replay
mod Restarts
mod TextsOf
mod Upgrade
mod Walk
