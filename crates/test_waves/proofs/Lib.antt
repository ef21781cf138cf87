-- Lemmas on small orders, on places and on cones.
mod CertainCones
mod SwappedOrder
mod WavePlaces
