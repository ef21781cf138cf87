-- Where set starts only choose, what was certain stays so.
use Rattle.std.proofs.Common.{◌≡◌, ℕ, ◌<◌, ◌&&◌, not, Bool, true, false, List, [], ◌∷◌, length, map, refl, sym, ap, ◌∙◌, subst}
use Rattle.std.specs.List.{AllByRecursion, filter}
use Rattle.design_cell.specs.declared.value.Value.{Value}
use Rattle.design_cell.specs.declared.value.Value.TheVariants.{Zero, One, X, Z}
use Rattle.design_cell.specs.Value.{IsKnown, bit_value}
use Rattle.design_circuit.specs.Job.{Job, job_of, number_of}
use Rattle.design_circuit.specs.Waveform.{certain, certain_by, written_at}
use Rattle.design_circuit.specs.declared.design.Design.{Design}
use Rattle.design_circuit.specs.declared.waveform.Mark.{Mark}
use Rattle.design_circuit.specs.declared.waveform.Mark.TheVariants.{Certain, Unknown, Undecided}
use Rattle.design_circuit.specs.declared.waveform.Written.{Written}
use Rattle.law_waveforms.specs.Starts.{AreSet, with_starts}
use Rattle.law_waveforms.proofs.SetStarts.{certain_stays, jobs_with_starts}
use Rattle.recording_binding.specs.BoundBits.{IsBitOf}
use Rattle.recording_binding.specs.declared.bound_bits.BoundBit.{BoundBit}
use Rattle.recording_binding.proofs.BoundBitLemmas.{bits_within}
use Rattle.recording_binding.specs.Binding.{FitsBinding}
use Rattle.recording_binding.specs.declared.binding.Binding.{Binding}
use Rattle.law_model.specs.Cone.{are_alike}
use Rattle.law_model.specs.Sound.{Sound, SoundBy}
use Rattle.law_model.specs.declared.line.Line.{Line as ALine}
use Rattle.law_model.specs.declared.limits.Limits.{Limits}
use Rattle.report_bits.specs.Counts.{is_certain}
use Rattle.wave_proved.specs.Contents.{Contents, IsWave, job, shown_in}
use Rattle.report_fix.specs.Started.{start_in}
use Rattle.report_bits.specs.BoundPlaces.{bit_place}
use Rattle.report_fix.specs.Gained.{AreBeside, OnlyChooses, all_bits, bit_written, is_lost, item_in, lost_items}
use Rattle.report_bits.proofs.FinishedBits.{bit_there}
use Rattle.report_fix.proofs.FinishedBits.{bit_beside}

-- A certain place of a sound waveform is 0 or 1.
sound_known : (j : Job) (limits : Limits) (waveform : List Written) (lines : List ALine) (place : ℕ) (mark : Mark)
    (value : Value) → SoundBy j limits waveform lines place mark value → mark ≡ Certain → IsKnown value
sound_known j limits waveform lines place Certain Zero sound is = tt
sound_known j limits waveform lines place Certain One sound is = tt
sound_known j limits waveform lines place Certain X sound is = absurd sound
sound_known j limits waveform lines place Certain Z sound is = absurd sound
sound_known j limits waveform lines place Unknown value sound is = absurd cc
sound_known j limits waveform lines place Undecided value sound is = absurd cc

-- What stays certain with its value isn't lost.
same_kept : (bit : Bool) (mark : Mark) (value : Value) → certain_by mark value ≡ bit_value bit
    → not (is_certain mark && are_alike (bit_value bit) value) ≡ false
same_kept true Certain value is = rw is refl
same_kept false Certain value is = rw is refl
same_kept true Unknown value is = absurd cc
same_kept false Unknown value is = absurd cc
same_kept true Undecided value is = absurd cc
same_kept false Undecided value is = absurd cc

kept_by : (m : Mark) (v : Value) (n : Mark) (w : Value) → (m ≡ Certain → IsKnown v)
    → ((bit : Bool) → certain_by m v ≡ bit_value bit → certain_by n w ≡ bit_value bit)
    → (is_certain m && not (is_certain n && are_alike v w)) ≡ false
kept_by Certain Zero n w known stays = same_kept false n w (stays false refl)
kept_by Certain One n w known stays = same_kept true n w (stays true refl)
kept_by Certain X n w known stays = absurd (known refl)
kept_by Certain Z n w known stays = absurd (known refl)
kept_by Unknown v n w known stays = refl
kept_by Undecided v n w known stays = refl

module _ (before after : Contents) (wave : IsWave before) (other : IsWave after) (are : AreBeside before after)
    (chooses : OnlyChooses before after) where
  abbrev start : ℕ → Value
  start = start_in after.stim

  job_is : job after ≡ with_starts (job before) start
  job_is =
      ap (λ (d : Design). job_of d after.order after.stim) are.design
      ∙ ap (λ (o : List ℕ). job_of before.design o after.stim) are.order
      ∙ jobs_with_starts before.design before.order before.stim after.stim chooses.sets.others

  set : AreSet (job before) start before.written after.written before.lines after.lines
  set = record {
    fits = wave.fits.fits_job;
    recorded = chooses.recorded;
    sets = chooses.sets.starts;
    limits = before.limits;
    shown = shown_in before;
    first = wave.holds.sound;
    whole = are.finished;
    clocks = chooses.clocks;
    bounds = after.limits;
    other = shown_in after;
    second = subst (λ (k : Job). Sound k after.limits (shown_in after) after.written after.lines) job_is
        other.holds.sound;
    decided = chooses.decided;
  }

  number_is : (bit : BoundBit) → number_of (job after) (bit_place after bit) ≡ number_of (job before) (bit_place before bit)
  number_is bit = rw (are.rounds, are.design, are.order) refl

  bit_kept : (bit : BoundBit) → IsBitOf before.design (length before.stim.times) bit → is_lost before after bit ≡ false
  unfolding certain
  bit_kept bit is =
      let number = number_of (job before) (bit_place before bit) in
      let first = bit_there before wave are.finished bit is in
      let old = written_at before.written number in
      let new = bit_written after bit in
      let sound = wave.holds.sound.exact number first.written.written in
      let at : new ≡ written_at after.written number = ap (written_at after.written) (number_is bit) in
      let second = bit_beside before after other are bit is in
      let less : number < length after.written =
      subst (λ (n : ℕ). n < length after.written) (number_is bit) second.written.written in
      kept_by old.mark old.value new.mark new.value
      (sound_known (job before) before.limits before.written before.lines number old.mark old.value sound)
      (λ b was. subst (λ (w : Written). certain_by w.mark w.value ≡ bit_value b) (sym at)
      (certain_stays (job before) start before.written after.written before.lines after.lines set number b less was))

  none_lost : (bits : List BoundBit) → AllByRecursion (IsBitOf before.design (length before.stim.times)) bits
      → filter (is_lost before after) bits ≡ []
  none_lost [] all = refl
  none_lost (bit ∷ bits) all = rw (bit_kept bit all.0) (none_lost bits all.1)

  -- So nothing is lost.
  pub nothing_lost : (binding : Binding) → FitsBinding before.design binding → lost_items before after binding ≡ []
  nothing_lost binding fits =
      ap (map (item_in before)) (none_lost (all_bits before binding.bound)
      (bits_within before.design (length before.stim.times) binding.bound fits.each))
