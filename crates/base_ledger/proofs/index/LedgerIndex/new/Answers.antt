-- The changes' positions are below the width.
use Rattle.base_ledger.proofs.Lookups.{positions_below}
use Rattle.base_ledger.proofs.index.LedgerIndex.new.Goals as goal

pub new-requires-clause-below : goal.new-requires-clause-below
new-requires-clause-below c = rw c.as_slice.ensures.value (positions_below c.args.width c.args.changes.items c.requires.within)
