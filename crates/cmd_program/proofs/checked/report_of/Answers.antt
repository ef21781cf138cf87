-- The forces are those of what the wave shows.
use Rattle.std.proofs.Common.{◌∙◌, ℕ, [], Vec, ap}
use Rattle.std.specs.declared.alloc.Global.{Global}
use Rattle.base_run.specs.Prepared.{answer_of}
use Rattle.cmd_program.specs.Check.{check_values}
use Rattle.cmd_program.proofs.TextsOf.{report_answer}
use Rattle.cmd_program.proofs.Walk.{forces_are}
use Rattle.cmd_program.proofs.checked.report_of.Goals as goal

pub returns : goal.returns
returns c =
    report_answer (check_values c.args.words.now) c.args.agreed.now.parts c.args.wave.now c.args.conditions.now c.in_ok-forces.forces c.in_ok-report.report.items (answer_of c.ready_with.result)
    (forces_are c.args.wave.now c.in_ok-forces.forces c.in_ok-forces.ensures) c.in_ok-report.ensures
    (c.ready_with.ensures ∙ ap (λ (v : Vec ℕ Global). record { files = []; printed = v.items }) c.in_ok-new.ensures)
