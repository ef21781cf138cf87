-- The test of a listed place says that it is listed.
use Rattle.report_audit.proofs.FirstListed.{listed_law}
use Rattle.report_audit.proofs.laws.listed_by_test.Goals as goal

pub returns : goal.returns
returns c = listed_law
