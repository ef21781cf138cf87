-- The assignments so far pass.
use Rattle.std.proofs.Common.{◌≡◌, ◌<◌, ℕ, true}
use Rattle.design_circuit.specs.Circuit.{job_in}
use Rattle.law_model.specs.Assignment.{assigned}
use Rattle.law_model.specs.Mask.{masked}
use Rattle.wave_class.specs.Test.{test_of}
use Rattle.wave_class.proofs.every.passes_every.Given as goal

abbrev pub invariant-numbers : goal.invariant-numbers
invariant-numbers g l =
    let asked = l.uncertain.asked.now in
    let certain = g.E.Source.reads asked.earlier.now in
    (m : ℕ) → m < l.number
    → test_of (job_in asked.circuit.now) certain asked.place l.test
    (assigned certain (masked l.uncertain.places.now m)) ≡ true
