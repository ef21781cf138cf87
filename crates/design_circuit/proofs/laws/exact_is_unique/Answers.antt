-- The law, for every job.
use Rattle.design_circuit.proofs.Exact.{one_exact}
use Rattle.design_circuit.proofs.laws.exact_is_unique.Goals as goal

pub returns : goal.returns
returns c = λ j shown v w fits long within exact_v exact_w shows_v shows_w. one_exact j shown v w fits long within exact_v exact_w shows_v shows_w
