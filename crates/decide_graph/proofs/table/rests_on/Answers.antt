-- One more number.
use Rattle.std.proofs.Common.{◌≡◌, ℕ, false, sym, ◌∙◌, below_more}
use Rattle.decide_graph.specs.Table.{differs_at}
use Rattle.decide_graph.proofs.table.rests_on.Goals as goal

pub numbers-preserved : goal.numbers-preserved
numbers-preserved c =
    below_more (λ (m : ℕ). differs_at c.args.values.now c.args.bit m ≡ false) c.numbers.number c.numbers.invariant
    (sym c.differs_at.ensures ∙ c.if-differs_at.false)
