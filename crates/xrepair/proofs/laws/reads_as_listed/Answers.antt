-- By the law.
use Rattle.xrepair.proofs.Listing.{as_listed}
use Rattle.xrepair.proofs.laws.reads_as_listed.Goals as goal

pub returns : goal.returns
returns c = as_listed
