-- The history has each step of the moments.
use Rattle.std.proofs.Common.{ℕ, subst, sym}
use Rattle.recording_writer.specs.Readers.{AreReadersOf}
use Rattle.recording_writer.proofs.Places.{has_bits, has_moments}
use Rattle.recording_writer.proofs.text.put_moments.Goals as goal

pub put_changes-requires-clause-readers : goal.put_changes-requires-clause-readers
put_changes-requires-clause-readers g c =
    let P : ℕ → Type 0 = λ nets. AreReadersOf nets c.args.bound.now c.in-Some.readers in
    let found = rw c.in-Some.is at c.in_ok-readers.ensures in
    subst P (sym c.requires.steps.nets) found

pub put_changes-requires-clause-moments : goal.put_changes-requires-clause-moments
put_changes-requires-clause-moments g c = has_moments _ _ _ c.requires.steps

pub put_changes-requires-clause-bits : goal.put_changes-requires-clause-bits
put_changes-requires-clause-bits g c = has_bits _ _ _ c.requires.binding.each c.requires.steps.nets

pub put_whole-requires-clause-moments : goal.put_whole-requires-clause-moments
put_whole-requires-clause-moments g c = has_moments _ _ _ c.requires.steps

pub put_whole-requires-clause-bits : goal.put_whole-requires-clause-bits
put_whole-requires-clause-bits g c =
    rw c.as_slice.ensures (has_bits c.args.design.now c.args.bound.now.bound c.args.rows.history c.requires.binding.each c.requires.steps.nets)
