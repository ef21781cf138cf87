-- Lemmas of what is written of a wave for other solvers.
mod Added
mod LinePlaces
mod OwnNames
