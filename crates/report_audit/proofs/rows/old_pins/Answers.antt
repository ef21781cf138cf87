-- What stands before step 0 is x.
use Rattle.std.proofs.Common.{◌∙◌, ap, sym}
use Rattle.design_circuit.specs.Circuit.{job_in}
use Rattle.design_circuit.specs.Handed.{shown_of}
use Rattle.design_circuit.specs.Register.{pins_back}
use Rattle.design_circuit.proofs.Reaching.{early}
use Rattle.report_audit.proofs.rows.old_pins.Goals as goal

pub returns-in-None-clause-values : goal.returns-in-None-clause-values
returns-in-None-clause-values c =
    let j = job_in c.args.circuit.now in
    early c.args.pins.now 10 c.requires.few
    ∙ ap (pins_back j (shown_of j c.args.replayed.now) c.args.pins.now) (sym c.in-None.is ∙ c.two_back.ensures.step)
