-- Quiet places worked by hand: the definitions compute to what stands in specs/WorkedQuiet.
use Rattle.std.proofs.Common.{refl}
use Rattle.design_cell.specs.Hold.{hold, level_output}
use Rattle.design_cell.specs.Next.{next}
use Rattle.design_cell.specs.Symbol.{fits, is_edge}
use Rattle.design_cell.specs.Table.{change}
use Rattle.design_circuit.specs.Rule.{arguments, rule}
use Rattle.law_model.specs.Assignment.{for_every}
use Rattle.law_quiet.specs.WorkedQuiet.{CertainRests, EdgeIsDue, HeldIsDue, MomentsAreDue, RestlessIsDue, SecondIsDue}
use Rattle.law_quiet.specs.WorkedQuiet.{UnclockedIsDue}

pub edge_is_due : EdgeIsDue
unfolding rule arguments for_every next change fits is_edge
edge_is_due = record { has_classes = refl; are_quiet = refl }

pub unclocked_is_due : UnclockedIsDue
unfolding rule arguments for_every next change fits is_edge
unclocked_is_due = record { has_classes = refl; are_quiet = refl }

pub certain_rests : CertainRests
unfolding rule arguments for_every next change fits is_edge
certain_rests = record { has_classes = refl; are_quiet = refl }

pub restless_is_due : RestlessIsDue
unfolding rule arguments for_every next change fits is_edge
restless_is_due = record { has_classes = refl; are_quiet = refl }

pub moments_are_due : MomentsAreDue
unfolding rule arguments for_every next change fits is_edge
moments_are_due = record { has_classes = refl; are_quiet = refl }

pub second_is_due : SecondIsDue
unfolding rule arguments for_every next change fits is_edge
second_is_due = record { has_classes = refl; are_quiet = refl }

pub held_is_due : HeldIsDue
unfolding rule arguments for_every next change fits is_edge hold level_output
held_is_due = record { has_classes = refl; are_quiet = refl }
