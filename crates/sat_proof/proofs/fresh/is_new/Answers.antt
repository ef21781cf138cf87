-- After the undo the marks are as before.
use Rattle.std.proofs.Common.{◌≡◌, ◌∙◌, ℕ, List, Bool, sym, subst}
use Rattle.sat_proof.specs.Trail.{IsOver}
use Rattle.sat_proof.proofs.Trails.{kept_by_undo}
use Rattle.sat_proof.proofs.fresh.is_new.Goals as goal

pub returns-clause-kept : goal.returns-clause-kept
returns-clause-kept c =
    let P : ℕ → Type 0 = λ n. (base : List Bool) → IsOver base n c.marks_new-answer.new.seen → c.undo.new.self.marks.items ≡ base in
    kept_by_undo c.args.seen.now c.marks_new-answer.new.seen c.undo.new.self c.marks_new-answer.ensures.over
    (subst P (sym c.requires.empty.len) c.undo.ensures.marks) (c.undo.ensures.len ∙ sym c.requires.empty.len) (c.undo.ensures.read ∙ sym c.requires.empty.read)
