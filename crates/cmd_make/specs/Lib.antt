-- Definitions of cmd_make: the netlist and the recording of a made job.
pub mod Draw
pub mod Laws
pub mod Netlist
pub mod Pool
pub mod Recording
pub mod Stimulus
