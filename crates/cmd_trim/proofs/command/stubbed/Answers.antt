-- The stubs are made, and then what the top needs of the text.
use Rattle.std.proofs.Common.{rules, ◌≡◌, ℕ, List, Err, subst}
use Rattle.base_run.specs.Prepared.{PreparedAlone, answer_of}
use Rattle.base_run.proofs.Then.{items_of, judged_out, judged_then}
use Rattle.cmd_trim.specs.Phases.{StubsCome, kept_phases}
use Rattle.cmd_trim.specs.Words.{trim_values}
use Rattle.cmd_trim.specs.declared.cause.Refused.TheVariants.{Stub}
use Rattle.cmd_trim.proofs.command.stubbed.Goals as goal

pub returns : goal.returns
returns c =
    let w = trim_values c.args.words.now in
    let more = subst (λ (l : List ℕ). PreparedAlone (kept_phases w l) answer_of c.kept.result) c.as_slice.ensures.value c.kept.ensures in
    judged_then (StubsCome w.stubs w.supplies c.args.text.now) Stub (kept_phases w) items_of answer_of c.in_ok-out.out c.kept.result c.in_ok-out.ensures more

pub returns-in_err-out : goal.returns-in_err-out
returns-in_err-out c =
    let w = trim_values c.args.words.now in
    let e = c.in_err-out.field-0.0 in
    let is : c.from_residual.result ≡ Err e = search rules in
    rw is (judged_out (StubsCome w.stubs w.supplies c.args.text.now) Stub (kept_phases w) items_of answer_of e c.in_err-out.ensures)
