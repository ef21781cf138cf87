-- A design has one made recording for a number and a number of gates.
use Rattle.std.proofs.Common.{◌≡◌, ◌∙◌, ℕ, ◌+◌, ◌*◌, ◌<◌, ◌≤◌, List, [], length, refl, sym, ap, subst, arith, slice_index_or}
use Rattle.std.proofs.lemmas.List.{ext_get_or}
use Rattle.std.proofs.lemmas.Nat.{mul-add-lt}
use Rattle.std.proofs.Math.Nat.{mul-le-mul_right}
use Rattle.design_cell.specs.declared.value.Value.{Value}
use Rattle.design_cell.specs.declared.value.Value.TheVariants.{X}
use Rattle.design_circuit.specs.Design.{FitsDesign}
use Rattle.design_circuit.specs.Fits.{Fits}
use Rattle.design_circuit.specs.Handed.{IsReplay}
use Rattle.design_circuit.specs.History.{HistoryView}
use Rattle.design_circuit.specs.Job.{Job, at, driver_in, job_of, places_of}
use Rattle.design_circuit.specs.Order.{IsOrder, position_of}
use Rattle.design_circuit.specs.Replay.{Held}
use Rattle.design_circuit.specs.declared.design.Design.{Design}
use Rattle.design_circuit.specs.declared.stim.Stim.{Stim}
use Rattle.design_circuit.proofs.OrdersFit.{job_fits}
use Rattle.design_circuit.proofs.Rules.{position_in}
use Rattle.recording_binding.specs.StimOf.{IsRow}
use Rattle.recording_binding.specs.declared.binding.Binding.{Binding}
use Rattle.recording_writer.specs.Laws.{ShowTheSame}
use Rattle.design_circuit.specs.Settled.{last_round}
use Rattle.recording_writer.specs.Text.{vcd_text}
use Rattle.recording_writer.proofs.OneText.{text_same}
use Rattle.replay_history.proofs.Places.{held_at_net}
use Rattle.cmd_make.specs.Recording.{IsMadeRecording, made_binding}
use Rattle.cmd_make.specs.Stimulus.{IsMadeStim, made_start, made_value}
use Rattle.cmd_make.proofs.Fitting.{binding_fits, stim_fits}

one_row : (design : Design) (value : ℕ → Value) (a b : List Value) → IsRow design value a → IsRow design value b → a ≡ b
one_row design value a b first second =
    let long = first.long in
    let wide = second.long in
    ext_get_or X a b (omega (arith, long, wide))
    (λ net within. first.values net (omega (arith, long, within)) ∙ sym (second.values net (omega (arith, long, within))))

-- Two made stimuli have the same data, so that they make one job, and texts that are the same.
module _ (design : Design) (number gates : ℕ) (a b : Stim) (first : IsMadeStim design number gates a) (second : IsMadeStim design number gates b) where
  times_same : a.times ≡ b.times
  times_same = first.times ∙ sym second.times

  rounds_same : a.rounds ≡ b.rounds
  rounds_same = first.rounds ∙ sym second.rounds

  inputs_same : a.inputs ≡ b.inputs
  inputs_same =
      let many = first.many in
      let others = second.many in
      ext_get_or [] a.inputs b.inputs (omega (arith, many, others))
      (λ moment within. (let inside : moment < 16 = omega (arith, many, within) in
      one_row design (made_value number gates moment) (slice_index_or a.inputs moment []) (slice_index_or b.inputs moment [])
      (first.inputs moment inside) (second.inputs moment inside)))

  starts_same : a.starts ≡ b.starts
  starts_same = one_row design (made_start design) a.starts b.starts first.starts second.starts

  job_same : (order : List ℕ) → job_of design order a ≡ job_of design order b
  job_same order = λ i. record {
    width = length design.nets;
    driver = driver_in design;
    udps = design.udps;
    order = order;
    rounds = rounds_same i;
    moments = length (times_same i);
    recorded = λ moment net. slice_index_or (slice_index_or (inputs_same i) moment []) net X;
    start_rule = ((first.rules ∙ sym second.rules) i).start;
    levels = ((first.rules ∙ sym second.rules) i).levels;
    start = λ net. slice_index_or (starts_same i) net X;
  }

  moved : (binding : Binding) (history : HistoryView) → vcd_text design binding a history ≡ vcd_text design binding b history
  unfolding vcd_text
  moved binding history = rw (times_same, rounds_same) refl

-- Two replays of a job show the same at the last round of each moment.
show_same : (design : Design) (order : List ℕ) (stim : Stim) (h i : HistoryView) → Fits (job_of design order stim)
    → IsReplay (job_of design order stim) h → IsReplay (job_of design order stim) i → ShowTheSame design stim h i
show_same design order stim h i fits first second = λ moment net moment_within net_within.
    let j = job_of design order stim in
    let step = last_round stim.rounds moment in
    let some = fits.some_round in
    let more : (moment + 1) * stim.rounds ≤ length stim.times * stim.rounds = mul-le-mul_right stim.rounds (omega arith) in
    let step_within : step < length stim.times * stim.rounds = omega (arith, some, more) in
    let within : at j step net < places_of j =
    mul-add-lt step j.width (position_of order net) (j.moments * j.rounds) step_within (position_in j fits net net_within) in
    ap (λ (held : Held). held.shown)
    (sym (held_at_net j fits h step net net_within) ∙ first.held (at j step net) within ∙ sym (second.held (at j step net) within)
    ∙ held_at_net j fits i step net net_within)

pub one_recording : (design : Design) (order : List ℕ) (number gates : ℕ) (first second : List ℕ) → FitsDesign design
    → IsOrder (driver_in design) (length design.nets) order → IsMadeRecording design order number gates first
    → IsMadeRecording design order number gates second → first ≡ second
one_recording design order number gates first second fits is one two =
    let job = job_same design number gates one.stim two.stim one.made two.made order in
    let rounds = two.made.rounds in
    let fit = job_fits design order two.stim fits is (stim_fits design number gates two.stim fits two.made) (omega (arith, rounds)) (omega (arith, rounds)) in
    let replay = subst (λ (j : Job). IsReplay j one.history) job one.replay in
    one.text_is
    ∙ moved design number gates one.stim two.stim one.made two.made (made_binding design) one.history
    ∙ text_same design (made_binding design) two.stim one.history two.history (binding_fits design fits)
    (show_same design order two.stim one.history two.history fit replay two.replay)
    ∙ sym two.text_is
