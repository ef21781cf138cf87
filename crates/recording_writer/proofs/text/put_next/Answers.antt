-- The variables that aren't due show what they did.
use Rattle.std.proofs.Common.{◌≡◌, true, arith, rules}
use Rattle.recording_writer.proofs.Marks.{same_unless_due}
use Rattle.recording_writer.proofs.Places.{has_ends}
use Rattle.recording_writer.proofs.text.put_next.Goals as goal

pub put_moment-requires-clause-ends : goal.put_moment-requires-clause-ends
put_moment-requires-clause-ends g c =
    has_ends c.args.rows.now _ (rw c.requires.rounds c.requires.moments) c.requires.moment

pub put_marked-requires-clause-later : goal.put_marked-requires-clause-later
put_marked-requires-clause-later g c =
    let marked : c.mark_moment.result ≡ true = search rules in
    let later = c.mark_moment.ensures.later marked in
    let same = c.moment.ensures in
    omega (arith, later, same)

pub put_marked-requires-clause-ends : goal.put_marked-requires-clause-ends
put_marked-requires-clause-ends g c =
    has_ends c.args.rows.now _ (rw c.requires.rounds c.requires.moments) c.requires.moment

pub put_marked-requires-clause-same : goal.put_marked-requires-clause-same
put_marked-requires-clause-same g c =
    let marked : c.mark_moment.result ≡ true = search rules in
    let kept = rw (c.row.ensures, c.moment.ensures, ← c.requires.rounds) at c.mark_moment.ensures.kept marked in
    rw c.as_slice-variables.ensures (same_unless_due c.args.rows.now.history c.args.bound.now c.args.readers.now c.args.rows.now.rounds c.args.rows.now.moment c.mark_moment.new.due c.requires.bits c.requires.readers kept)
