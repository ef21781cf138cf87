-- Registers worked by hand: the definitions compute to what stands in specs/WorkedRegisters.
use Rattle.std.proofs.Common.{refl}
use Rattle.design_cell.specs.Table.{change}
use Rattle.design_cell.specs.Symbol.{fits, is_edge}
use Rattle.design_cell.specs.Hold.{hold, level_output}
use Rattle.design_cell.specs.Next.{next}
use Rattle.design_circuit.specs.Rule.{rule, arguments}
use Rattle.law_model.specs.Assignment.{for_every}
use Rattle.law_model.specs.WorkedRegisters.{DffRises, Dff0Rises, LatchOpens, LatchCarries, Dff0Unknown, DffpUnknown, ColdConstant, ColdConstantRule, RecordedConstant, RecordedCarries, ColdBegins, RoundsRise, ScanSteps, ScanResets, OpenCarries, OpenHolds, ResetCarries, ResetHolds}

pub dff_rises : DffRises
unfolding rule arguments for_every next change fits is_edge
dff_rises = refl

pub dff0_rises : Dff0Rises
unfolding rule arguments for_every next change fits is_edge
dff0_rises = refl

pub latch_opens : LatchOpens
unfolding rule arguments for_every next change fits is_edge
latch_opens = refl

pub latch_carries : LatchCarries
unfolding rule arguments for_every next change fits is_edge
latch_carries = refl

pub dff0_unknown : Dff0Unknown
unfolding rule arguments for_every next change fits is_edge
dff0_unknown = refl

pub dffp_unknown : DffpUnknown
unfolding rule arguments for_every next change fits is_edge
dffp_unknown = refl

pub cold_constant : ColdConstant
unfolding rule arguments for_every next change fits is_edge
cold_constant = refl

pub cold_constant_rule : ColdConstantRule
unfolding rule arguments for_every next change fits is_edge
cold_constant_rule = (refl, λ bits. refl)

pub recorded_constant : RecordedConstant
unfolding rule arguments for_every next change fits is_edge
recorded_constant = refl

pub recorded_carries : RecordedCarries
unfolding rule arguments for_every next change fits is_edge
recorded_carries = refl

pub cold_begins : ColdBegins
unfolding rule arguments for_every next change fits is_edge
cold_begins = refl

pub rounds_rise : RoundsRise
unfolding rule arguments for_every next change fits is_edge
rounds_rise = refl

pub scan_steps : ScanSteps
unfolding rule arguments for_every next change fits is_edge
scan_steps = refl

pub scan_resets : ScanResets
unfolding rule arguments for_every next change fits is_edge
scan_resets = refl

pub open_carries : OpenCarries
unfolding rule arguments for_every next change fits is_edge
open_carries = refl

pub open_holds : OpenHolds
unfolding rule arguments for_every next change fits is_edge hold level_output
open_holds = refl

pub reset_carries : ResetCarries
unfolding rule arguments for_every next change fits is_edge
reset_carries = refl

pub reset_holds : ResetHolds
unfolding rule arguments for_every next change fits is_edge hold level_output
reset_holds = refl
