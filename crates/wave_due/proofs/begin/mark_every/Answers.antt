-- One position more is due.
use Rattle.std.proofs.Common.{◌∙◌}
use Rattle.wave_due.proofs.Marks.{all_more, inserted_more}
use Rattle.wave_due.proofs.begin.mark_every.Goals as goal

pub positions-preserved : goal.positions-preserved
positions-preserved c =
    let more = inserted_more c.positions.due c.insert.new.self c.positions.position c.insert.ensures.here
    c.insert.ensures.others in
    record {
      long = c.insert.ensures.long ∙ c.positions.invariant.long;
      more = λ position is. more position (c.positions.invariant.more position is);
      all = all_more c.positions.due c.insert.new.self c.positions.position c.insert.ensures.here more
          c.positions.invariant.all;
    }
