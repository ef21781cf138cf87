-- The law, for every design with an order.
use Rattle.recording_binding.proofs.Copying.{original_is}
use Rattle.recording_binding.proofs.laws.originals_are_copied.Goals as goal

pub returns : goal.returns
returns c = λ design order own net is within none. original_is design order is own net within none
