-- The code stands in the row of the step under way.
use Rattle.std.proofs.Common.{◌∙◌, sym}
use Rattle.design_inputs.proofs.RowLemmas.{value_kept, value_put}
use Rattle.design_inputs.proofs.writer.InputsWriter.set.Goals as goal

pub returns-then-now-code-clause-ok : goal.returns-then-now-code-clause-ok
returns-then-now-code-clause-ok c = value_kept c.self.inside.rows c.args.self.now c.args.net c.code_of-code.result c.args.value c.self.view_is (sym c.now.ensures ∙ c.if-now-code.true) c.code_of-code.ensures

pub returns-clause-ok : goal.returns-clause-ok
returns-clause-ok c = value_put c.self.inside.rows c.put.new.self c.args.self.now c.args.net c.code_of-code.result c.args.value c.self.view_is c.in_ok-put.ensures.ok c.code_of-code.ensures
