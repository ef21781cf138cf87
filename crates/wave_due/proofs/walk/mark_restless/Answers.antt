-- The position is inserted, or is calm.
use Rattle.wave_due.proofs.Marks.{inserted_more}
use Rattle.wave_due.proofs.walk.mark_restless.Goals as goal

pub returns-then-not-calm-clause-more : goal.returns-then-not-calm-clause-more
returns-then-not-calm-clause-more c =
    inserted_more c.args.waiting.now.ahead c.insert.new.self c.args.position c.insert.ensures.here
    c.insert.ensures.others
