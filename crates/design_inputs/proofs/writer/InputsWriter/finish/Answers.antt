-- Each row has so many codes, that of the moment under way too.
use Rattle.design_inputs.proofs.RowLemmas.{finished_wide}
use Rattle.design_inputs.proofs.writer.InputsWriter.finish.Goals as goal

pub new-requires : goal.new-requires
new-requires c = finished_wide c.self.inside.rows c.in_ok-rows.rows c.self.invariant c.in_ok-rows.ensures
