-- The wave is found, and its texts.
use Rattle.std.proofs.Common.{rules, ◌≡◌, Err}
use Rattle.cmd_program.specs.Repair.{repair_values, walk_phases}
use Rattle.cmd_program.proofs.Walk.{walk_found}
use Rattle.base_run.specs.declared.refusal.Refusal.TheVariants.{Memory}
use Rattle.base_run.proofs.Then.{memory_out}
use Rattle.base_run.specs.Prepared.{answer_of}
use Rattle.cmd_program.proofs.repaired.repaired.Goals as goal

pub returns-clause-prepared : goal.returns-clause-prepared
returns-clause-prepared g c = walk_found (repair_values c.args.words.now) c.args.agreed.now.parts.netlist c.args.agreed.now.parts.recorded
    record { history = c.args.agreed.now.history; wave = c.in_ok-wave.wave; shown = c.in_ok-texts_of.ensures.shown }
    c.in_ok-texts_of.ensures.conditions c.in_ok-texts_of.field-0
    record { fits = c.args.agreed.now.fits; replay = c.args.agreed.now.replay; repaired = c.in_ok-wave.ensures.repaired; shows = c.in_ok-texts_of.ensures.shows }
    c.in_ok-texts_of.ensures.conditions_are c.in_ok-texts_of.ensures.is

pub returns-in_err-texts_of-clause-prepared : goal.returns-in_err-texts_of-clause-prepared
returns-in_err-texts_of-clause-prepared g c =
    let is : c.from_residual-in_err-texts_of.result ≡ Err Memory = search rules in
    rw is (memory_out (walk_phases (repair_values c.args.words.now) c.args.agreed.now.parts) answer_of)
