-- The text as it is.
use Rattle.cmd_trim.proofs.Stubbing.{without_stubs}
use Rattle.cmd_trim.proofs.laws.texts_are_kept_without_stubs.Goals as goal

pub returns : goal.returns
returns c = without_stubs
