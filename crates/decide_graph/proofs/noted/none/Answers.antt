-- No number stands at its spot.
use Rattle.decide_graph.proofs.NotedPlaces.{none_at}
use Rattle.decide_graph.proofs.noted.none.Goals as goal

pub returns : goal.returns
returns c = λ k at. absurd (none_at k at)
