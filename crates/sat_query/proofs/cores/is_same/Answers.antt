-- Equal literals, one by one.
use Rattle.std.proofs.lemmas.Bool.Decides.{Decides-int_eq}
use Rattle.std.proofs.lemmas.Slice.Eq.{slice_eq-Decides}
use Rattle.sat_query.proofs.cores.is_same.Goals as goal

pub returns : goal.returns
returns c = slice_eq-Decides Decides-int_eq c.args.first.now c.args.second.now c.eq.result c.eq.ensures
