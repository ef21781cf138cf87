-- A row of codes of x.
use Rattle.design_inputs.proofs.RowLemmas.{written_new}
use Rattle.design_inputs.proofs.writer.InputsWriter.new.Goals as goal

pub returns : goal.returns
returns c = written_new c.in_ok-rows.rows c.args.width c.code_of.result c.in_ok-rows.ensures c.code_of.ensures
