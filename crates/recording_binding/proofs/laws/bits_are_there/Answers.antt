-- The law, for every binding.
use Rattle.recording_binding.proofs.BoundBitLemmas.{bits_within}
use Rattle.recording_binding.proofs.laws.bits_are_there.Goals as goal

pub returns : goal.returns
returns c = λ design moments bound fits. bits_within design moments bound fits
