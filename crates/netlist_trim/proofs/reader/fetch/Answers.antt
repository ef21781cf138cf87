-- A token that is taken stands before those that are left.
use Rattle.netlist_trim.proofs.Fronts.{rest_within}
use Rattle.netlist_trim.proofs.reader.fetch.Goals as goal

pub returns-in-Ok-Some-clause-within : goal.returns-in-Ok-Some-clause-within
returns-in-Ok-Some-clause-within c = rest_within _ c.in-Ok-Some.token _ _ (let h = rw c.in-Ok-Some.field-0-is at c.in-Ok-Some.ensures in h) c.requires
