-- The law, for every variable.
use Rattle.recording_binding.proofs.Parts.{part_is}
use Rattle.recording_binding.proofs.laws.bits_stand_in_order.Goals as goal

pub returns : goal.returns
returns c = λ design scope recording v bits h. part_is design scope recording v bits h
