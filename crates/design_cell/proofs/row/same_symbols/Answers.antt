-- Lists with the same symbols are one.
use Rattle.std.proofs.Common.{rules}
use Rattle.std.proofs.lemmas.Slice.Eq.{slice_eq-Decides}
use Rattle.design_cell.proofs.row.same_symbols.Goals as goal

pub returns : goal.returns
returns c = λ told. (slice_eq-Decides (λ a b. search rules) c.args.symbols.now c.args.others.now c.eq.result c.eq.ensures).0 told
