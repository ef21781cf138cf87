-- The texts come to one thing.
use Rattle.sat_prove.proofs.OneProof.{exact}
use Rattle.sat_prove.proofs.check.check_proof.Goals as goal

pub returns-clause-exact : goal.returns-clause-exact
returns-clause-exact c =
    exact c.args.cnf.now c.args.log.now c.read_and_check.result c.read_and_check.ensures.found c.read_and_check.ensures.fault
