-- With two more entries of room what served goes on to.
use Rattle.sat_proof.proofs.Widening.{serves_wider}
use Rattle.sat_proof.proofs.watch.Watch.widen.Goals as goal

pub returns-clause-serving : goal.returns-clause-serving
returns-clause-serving c marks clauses serve is_on = serves_wider c.widen_entry.new.self c.widen_entry-2.new.self c.in_ok-widen_entry-2.ensures.wider marks clauses
    (serves_wider c.args.self.now c.widen_entry.new.self c.in_ok-widen_entry.ensures.wider marks clauses serve) is_on
