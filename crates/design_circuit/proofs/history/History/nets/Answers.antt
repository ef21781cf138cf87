-- The rows are as wide.
use Rattle.std.proofs.Common.{◌∙◌, ap, sym}
use Rattle.design_circuit.specs.History.{HistoryView}
use Rattle.design_circuit.proofs.history.History.nets.Goals as goal

pub returns : goal.returns
returns c = sym c.self.invariant.wide ∙ ap (λ (h : HistoryView). h.nets) c.self.view_is
