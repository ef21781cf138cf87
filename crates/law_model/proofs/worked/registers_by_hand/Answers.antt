-- What the definitions compute stands in the lemmas.
use Rattle.law_model.proofs.WorkedRegisters.{dff_rises, dff0_rises, latch_opens, latch_carries, scan_steps, scan_resets, dff0_unknown, dffp_unknown, cold_constant, cold_constant_rule, recorded_constant, cold_begins, recorded_carries, rounds_rise}
use Rattle.law_model.proofs.worked.registers_by_hand.Goals as goal

pub returns-clause-free_start : goal.returns-clause-free_start
returns-clause-free_start c = dff_rises

pub returns-clause-start_at_zero : goal.returns-clause-start_at_zero
returns-clause-start_at_zero c = dff0_rises

pub returns-clause-latch : goal.returns-clause-latch
returns-clause-latch c = latch_opens

pub returns-clause-latch_carries : goal.returns-clause-latch_carries
returns-clause-latch_carries c = latch_carries

pub returns-clause-scan : goal.returns-clause-scan
returns-clause-scan c = scan_steps

pub returns-clause-scan_classes : goal.returns-clause-scan_classes
returns-clause-scan_classes c = scan_resets

pub returns-clause-uncertain_clock : goal.returns-clause-uncertain_clock
returns-clause-uncertain_clock c = dff0_unknown

pub returns-clause-uncertain_clock_kept : goal.returns-clause-uncertain_clock_kept
returns-clause-uncertain_clock_kept c = dffp_unknown

pub returns-clause-constant_clock : goal.returns-clause-constant_clock
returns-clause-constant_clock c = cold_constant

pub returns-clause-constant_clock_rule : goal.returns-clause-constant_clock_rule
returns-clause-constant_clock_rule c = cold_constant_rule

pub returns-clause-constant_clock_recorded : goal.returns-clause-constant_clock_recorded
returns-clause-constant_clock_recorded c = recorded_constant

pub returns-clause-cold : goal.returns-clause-cold
returns-clause-cold c = cold_begins

pub returns-clause-recorded : goal.returns-clause-recorded
returns-clause-recorded c = recorded_carries

pub returns-clause-four_rounds : goal.returns-clause-four_rounds
returns-clause-four_rounds c = rounds_rise
