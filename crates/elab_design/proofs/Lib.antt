-- Proofs of elab_design.
mod Raising
mod Uniting
mod Regs
mod Bodies
mod Found
mod Passing
mod Framing
mod Doing
mod Filling
mod Choosing
mod Answering
