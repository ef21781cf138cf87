-- Definitions of jobs whose certificates are tested.
pub mod Job
