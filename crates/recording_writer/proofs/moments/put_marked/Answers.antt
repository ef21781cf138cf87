-- The lines are those of what changed since the moment before.
use Rattle.std.proofs.Common.{◌≡◌, List, OnOk, subst, ℕ}
use Rattle.recording_writer.proofs.Marks.{marked_lines}
use Rattle.recording_writer.proofs.moments.put_marked.Goals as goal

pub returns : goal.returns
returns g c =
    let rows = c.args.rows.now in
    let P : List ℕ → Type 0 = λ all. OnOk c.put_due.result (c.put_due.new.text.items ≡ all) in
    subst P
    (marked_lines rows.history rows.rounds c.args.bound.now rows.moment c.args.time c.args.text.now.items c.put_time.new.text.items c.requires.later c.in_ok-put_time.ensures)
    c.put_due.ensures
