-- What isn't due between two variables that are has no line.
use Rattle.std.proofs.Common.{◌∙◌, ◌+◌, ◌++◌, ◌<◌, ◌≤◌, ℕ, List, rules, length, ap, arith, refl, sym}
use Rattle.std.proofs.lemmas.List.{append-nil}
use Rattle.recording_writer.specs.Moments.{change_line, changed_lines}
use Rattle.recording_writer.specs.Rows.{end_before, moment_end}
use Rattle.recording_writer.proofs.Grown.{numbered_moved}
use Rattle.recording_writer.proofs.Marks.{lines_past, to_next}
use Rattle.recording_writer.proofs.moments.put_due.Goals as goal

pub variables-init : goal.variables-init
variables-init g c =
    let first = c.first_from-number in
    ap (λ (l : List ℕ). c.args.text.now.items ++ l) (sym (to_next c.args.rows.now.history (moment_end c.args.rows.now) (end_before c.args.rows.now) c.args.bound.now c.args.due.now 0 first.result c.requires.same first.ensures.forward first.ensures.none))

pub variables-preserved : goal.variables-preserved
variables-preserved g c =
    let rows = c.args.rows.now in
    let bound = c.args.bound.now in
    let number = c.variables.number in
    let within : number < length bound = search rules in
    let next = c.first_from-number-in-variables in
    let text = c.put_change.new.text.items in
    ap (λ (l : List ℕ). text ++ l) (sym (to_next rows.history (moment_end rows) (end_before rows) bound c.args.due.now (number + 1) next.result c.requires.same next.ensures.forward next.ensures.none))
    ∙ numbered_moved bound number c.index-bound-number.result within c.index-bound-number.is (changed_lines rows.history (moment_end rows) (end_before rows)) (change_line rows.history (moment_end rows) (end_before rows) number c.index-bound-number.result.bits) _ _ _ refl c.variables.invariant
    (rw (c.as_slice.ensures, ← c.index-bound-number.is) at c.in_ok-put_change.ensures)

pub returns : goal.returns
returns g c =
    let bound = c.args.bound.now in
    let number = c.variables.number in
    let end = c.variables-test.false in
    let past : length bound ≤ number = omega (arith, end) in
    let text = c.variables.text.items in
    sym (ap (λ (l : List ℕ). text ++ l) (lines_past c.args.rows.now.history (moment_end c.args.rows.now) (end_before c.args.rows.now) bound number past) ∙ append-nil text)
    ∙ c.variables.invariant
