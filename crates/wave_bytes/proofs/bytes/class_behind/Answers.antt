-- The bytes of the places before say the facts of these, and their values agree with their classes.
use Rattle.std.proofs.Common.{arith}
use Rattle.std.proofs.lemmas.List.{length-map}
use Rattle.wave_bytes.specs.Byte.{written_of_byte}
use Rattle.wave_bytes.proofs.bytes.class_behind.Goals as goal

pub invariant_of-asked-clause-facts : goal.invariant_of-asked-clause-facts
invariant_of-asked-clause-facts c =
    let count = c.count-place.ensures in
    λ k less. c.requires.told k (omega (arith, count, less))

pub invariant_of-asked-clause-agrees : goal.invariant_of-asked-clause-agrees
invariant_of-asked-clause-agrees c =
    let count = c.count-place.ensures in
    let long = length-map c.args.rows.now.bytes written_of_byte in
    λ k less. c.requires.agrees k (omega (arith, count, long, less))
