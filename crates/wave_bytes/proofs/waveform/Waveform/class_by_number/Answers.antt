-- The bytes of the places before say the facts of these, and their values agree with their classes.
use Rattle.std.proofs.Common.{◌≤◌, length, map, sym, subst, arith}
use Rattle.std.proofs.lemmas.List.{length-map}
use Rattle.wave_bytes.specs.Byte.{written_of_byte}
use Rattle.wave_bytes.specs.View.{WaveformView}
use Rattle.wave_bytes.proofs.waveform.Waveform.class_by_number.Goals as goal

pub kept_class-requires-clause-facts : goal.kept_class-requires-clause-facts
kept_class-requires-clause-facts c =
    let test = c.if-number-count.true in
    let count = c.count.ensures in
    λ k less. c.self.invariant.kept.told k (omega (arith, test, count, less))

pub kept_class-requires-clause-agrees : goal.kept_class-requires-clause-agrees
kept_class-requires-clause-agrees c =
    let test = c.if-number-count.true in
    let count = c.count.ensures in
    let long = length-map c.self.inside.rows.bytes written_of_byte in
    λ k less. c.self.invariant.kept.agrees k (omega (arith, test, count, long, less))

pub invariant_of-asked-clause-facts : goal.invariant_of-asked-clause-facts
invariant_of-asked-clause-facts c =
    let long = length-map c.self.inside.rows.bytes written_of_byte in
    let reached : c.args.number ≤ length (map written_of_byte c.self.inside.rows.bytes) =
    subst (λ (v : WaveformView). c.args.number ≤ length v.written) (sym c.self.view_is) c.requires.reached in
    λ k less. c.self.invariant.kept.told k (omega (arith, long, reached, less))

pub invariant_of-asked-clause-agrees : goal.invariant_of-asked-clause-agrees
invariant_of-asked-clause-agrees c =
    let reached : c.args.number ≤ length (map written_of_byte c.self.inside.rows.bytes) =
    subst (λ (v : WaveformView). c.args.number ≤ length v.written) (sym c.self.view_is) c.requires.reached in
    λ k less. c.self.invariant.kept.agrees k (omega (arith, reached, less))
