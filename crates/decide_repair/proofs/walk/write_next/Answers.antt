-- The places after a Line place, up to the next one.
use Rattle.decide_repair.proofs.Walking.{along_all, next_further, refused_further, right_advanced}
use Rattle.decide_repair.proofs.walk.write_next.Goals as goal

pub returns-clause-ok : goal.returns-clause-ok
returns-clause-ok c =
    next_further c.args.wave c.in_ok-decided.decided c.advance.result c.in_ok-decided.ensures.ok c.advance.ensures.ok

pub returns-clause-right : goal.returns-clause-right
returns-clause-right c =
    right_advanced c.in_ok-decided.decided c.decide_next.new.aids c.advance.result c.recall.ensures
    c.in_ok-decided.ensures.right c.advance.ensures.ok

pub returns-clause-err : goal.returns-clause-err
returns-clause-err c =
    refused_further c.args.wave c.in_ok-decided.decided c.advance.result c.in_ok-decided.ensures.ok.same c.advance.ensures.err

pub returns-clause-along : goal.returns-clause-along
returns-clause-along c =
    along_all c.args.wave c.in_ok-decided.decided c.advance.result c.in_ok-decided.ensures.along c.advance.ensures.along
