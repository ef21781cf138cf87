-- The edge rows, or the others.
use Rattle.std.proofs.Common.{◌∙◌, sym}
use Rattle.design_cell.proofs.Probes.{kind_edge, kind_level}
use Rattle.design_cell.proofs.probe.Probe.of_kind.Goals as goal

pub returns-then-self : goal.returns-then-self
returns-then-self c = λ row kind rows base is. kind_edge row rows base c.args.block.now (sym kind ∙ c.if-self.true) is

pub returns-else-self : goal.returns-else-self
returns-else-self c = λ row kind rows base is. kind_level row rows base c.args.block.now (sym kind ∙ c.if-self.false) is
