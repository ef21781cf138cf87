-- What becomes known, or doesn't stay known, from one finished wave to another.
use Rattle.std.specs.Prelude.{◌≡◌, ◌<◌, ◌&&◌, not, Bool, List, length, map}
use Rattle.std.specs.List.{filter}
use Rattle.design_cell.specs.Value.{is_one}
use Rattle.design_circuit.specs.declared.stim.StartRule.TheVariants.{Recorded}
use Rattle.design_circuit.specs.declared.waveform.Mark.{Mark}
use Rattle.design_circuit.specs.declared.waveform.Written.{Written}
use Rattle.law_waveforms.specs.Starts.{AreClocksCertain}
use Rattle.recording_binding.specs.BoundBits.{bound_bits}
use Rattle.recording_binding.specs.declared.binding.Binding.{Binding}
use Rattle.recording_binding.specs.declared.binding.Bound.{Bound}
use Rattle.recording_binding.specs.declared.bound_bits.BoundBit.{BoundBit}
use Rattle.law_model.specs.Cone.{are_alike}
use Rattle.law_model.specs.Sound.{IsDecided}
use Rattle.report_bits.specs.BoundPlaces.{bit_place}
use Rattle.report_bits.specs.Counts.{is_certain}
use Rattle.wave_proved.specs.Contents.{Contents, IsFinished, job, written_of}
use Rattle.report_fix.specs.Started.{SetsUnknown}
use Rattle.report_fix.specs.declared.items.Item.{Item}

-- It is certain after and not before.
abbrev pub turns_known : Mark → Mark → Bool
turns_known before after = is_certain after && not (is_certain before)

-- It was certain before, and isn't certain with that value after.
abbrev pub turns_open : Written → Written → Bool
turns_open before after =
    is_certain before.mark && not (is_certain after.mark && are_alike before.value after.value)

-- What a wave has at the place of a bound bit.
abbrev pub bit_written : Contents → BoundBit → Written
bit_written c bit = written_of c (bit_place c bit)

abbrev pub is_gained : Contents → Contents → BoundBit → Bool
is_gained before after bit = turns_known (bit_written before bit).mark (bit_written after bit).mark

abbrev pub is_lost : Contents → Contents → BoundBit → Bool
is_lost before after bit = turns_open (bit_written before bit) (bit_written after bit)

-- A bit with its value in a wave.
abbrev pub item_in : Contents → BoundBit → Item
item_in c bit = record {
  variable = bit.variable;
  bit = bit.bit;
  place = bit_place c bit;
  value = is_one (bit_written c bit).value;
}

-- The bound bits at the last rounds of all moments, in the order of a report.
abbrev pub all_bits : Contents → List Bound → List BoundBit
all_bits c bound = bound_bits (length c.stim.times) bound

-- What is gained, with its new value, and what is lost, with its old one.
abbrev pub gained_items : Contents → Contents → Binding → List Item
gained_items before after binding =
    map (item_in after) (filter (is_gained before after) (all_bits before binding.bound))

abbrev pub lost_items : Contents → Contents → Binding → List Item
lost_items before after binding =
    map (item_in before) (filter (is_lost before after) (all_bits before binding.bound))

-- Two finished waves over one design, with as many moments and rounds.
pub record AreBeside (before after : Contents) : Type 0 where
  pub design : after.design ≡ before.design
  pub order : after.order ≡ before.order
  pub moments : length after.stim.times ≡ length before.stim.times
  pub rounds : after.stim.rounds ≡ before.stim.rounds
  pub finished : IsFinished before
  pub finished_too : IsFinished after

-- In the second wave some unknown starts are set, under recorded starts; in the first every clock pin of every
-- register is certain at every step, and in the second nothing is undecided.
pub record OnlyChooses (before after : Contents) : Type 0 where
  pub recorded : before.stim.rules.start ≡ Recorded
  pub sets : SetsUnknown before.design before.stim after.stim
  pub clocks : AreClocksCertain (job before) before.written
  pub decided : IsDecided after.written
