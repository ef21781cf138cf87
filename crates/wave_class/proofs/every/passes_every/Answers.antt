-- The numbers below the end stand for all assignments.
use Rattle.std.proofs.Common.{◌≡◌, ◌<◌, ◌^◌, ℕ, true, false, sym, arith, length}
use Rattle.std.proofs.lemmas.Nat.{one_shl}
use Rattle.design_circuit.specs.Circuit.{job_in}
use Rattle.law_model.specs.Assignment.{assigned}
use Rattle.law_model.specs.Mask.{masked}
use Rattle.wave_class.specs.Test.{test_of}
use Rattle.wave_class.proofs.PassingTests.{numbers_pass, number_fails}
use Rattle.wave_class.proofs.every.passes_every.Goals as goal

pub returns-then-not-passes_at : goal.returns-then-not-passes_at
returns-then-not-passes_at g c =
    let uncertain = c.args.uncertain.now in
    let asked = uncertain.asked.now in
    let j = job_in asked.circuit.now in
    let certain = g.E.Source.reads asked.earlier.now in
    let fails : test_of j certain asked.place c.args.test
    (assigned certain (masked uncertain.places.now c.numbers.number)) ≡ false =
    rw c.passes_at.ensures at c.if-not-passes_at.true in
    sym (number_fails j certain asked.place c.args.test c.requires.reads uncertain.places.now c.numbers.number fails)

pub returns : goal.returns
returns g c =
    let uncertain = c.args.uncertain.now in
    let asked = uncertain.asked.now in
    let j = job_in asked.circuit.now in
    let fits = asked.circuit.now.fits.fits_job in
    let certain = g.E.Source.reads asked.earlier.now in
    let few = uncertain.few in
    let each : (m : ℕ) → m < 2 ^ length uncertain.places.now
    → test_of j certain asked.place c.args.test (assigned certain (masked uncertain.places.now m)) ≡ true =
    λ m less. c.numbers.invariant m
    (omega (arith, less, one_shl (length uncertain.places.now) 16 (omega (arith, few)))) in
    sym (numbers_pass j fits certain asked.place c.args.test asked.within c.requires.reads
    uncertain.places.now uncertain.all each)
