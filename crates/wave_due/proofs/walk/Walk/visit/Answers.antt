-- What reads the net is due, and the position itself one step later, unless it is calm.
use Rattle.std.proofs.Common.{refl, sym, subst}
use Rattle.replay_due.specs.Readers.{readers_of}
use Rattle.wave_due.specs.Walk.{AreReadersIn}
use Rattle.wave_due.proofs.Marks.{readers_more}
use Rattle.wave_due.proofs.walk.Walk.visit.Goals as goal

pub returns : goal.returns
returns c =
    let old = c.args.self.now in
    let mid = c.mark_moved.new.waiting in
    let new = c.mark_restless.new.waiting in
    record {
      same = record { fans = refl; sources = refl; replayed = refl };
      due = subst (AreReadersIn c.args.keeps (readers_of old.fans.cells c.args.net) old.waiting.due)
          (sym c.mark_restless.ensures.due) c.mark_moved.ensures.due;
      ahead = readers_more c.args.keeps (readers_of old.fans.registers c.args.net) old.waiting.ahead mid.ahead new.ahead
          c.mark_restless.ensures.long c.mark_restless.ensures.more c.mark_moved.ensures.ahead;
      itself = c.mark_restless.ensures.calm;
    }
