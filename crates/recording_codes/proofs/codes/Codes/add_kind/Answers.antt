-- The table and the map know the same codes.
use Rattle.std.proofs.Common.{List, sym, subst}
use Rattle.recording_codes.specs.Code.{Code}
use Rattle.recording_codes.specs.Slots.{Knows}
use Rattle.recording_codes.proofs.Numbers.{knows-with_kind_at}
use Rattle.recording_codes.proofs.codes.Codes.add_kind.Goals as goal

pub invariant_of-self : goal.invariant_of-self
invariant_of-self c = subst (λ (cs : List Code). Knows c.self.inside.slots.items c.self.inside.others.entries cs) (sym c.add_kind.ensures) (knows-with_kind_at c.self.inside.slots.items c.self.inside.others.entries c.self.inside.columns c.args.number c.args.skipped c.self.invariant)
