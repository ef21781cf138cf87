-- A run is a stretch of the waveform, written again.
use Rattle.std.proofs.Common.{◌≡◌, ℕ, zero, suc, ◌+◌, ◌-◌, ◌*◌, ◌%◌, ◌<◌, ◌≤◌, List, [], ◌∷◌, ◌++◌, append_assoc, drop}
use Rattle.std.proofs.Common.{length, length-append, length-drop, slice_index_or, take, sym, ap, ◌∙◌, arith}
use Rattle.std.proofs.Math.ListN.{get_or-append}
use Rattle.std.proofs.Math.Seq.{take-suc}
use Rattle.std.proofs.lemmas.List.{append-nil, get_or-drop, length-take-le}
use Rattle.design_circuit.specs.declared.waveform.Written.{Written}
use Rattle.design_circuit.specs.Fits.{Fits}
use Rattle.design_circuit.specs.Job.{Job, places_of, step_of}
use Rattle.design_circuit.specs.Waveform.{unwritten, written_at}
use Rattle.design_circuit.proofs.Rules.{spot}
use Rattle.law_model.specs.Class.{before}
use Rattle.wave_class.proofs.StepBefore.{before_later}
use Rattle.law_quiet.specs.Runs.{StretchLaw, before_next, repeated, stretched}

-- A stretch is no longer than a step.
few : (w s position first many : ℕ) → s * w + position ≡ first → first + many ≤ (s + 1) * w → many ≤ w
few w s position first many here up = omega (arith, here, up)

-- The place behind a part of a stretch has the next of the stretch before it.
next_of : (j : Job) → Fits j → (waveform : List Written) (many : ℕ) → j.width ≤ length waveform
    → length waveform + many < places_of j → many < j.width
    → before_next j (stretched j waveform many) ≡ slice_index_or (drop (length waveform - j.width) waveform) many
    unwritten
next_of j fits waveform many more within low =
    let n : ℕ = length waveform in
    let row : List Written = drop (n - j.width) waveform in
    let row_long : length row ≡ n - (n - j.width) = length-drop (n - j.width) waveform in
    let part : length (take many row) ≡ many = length-take-le many row (omega (arith, row_long, more, low)) in
    let long : length (stretched j waveform many) ≡ n + many = length-append waveform (take many row)
    ∙ ap (λ k. n + k) part in
    let back : before j (n + many) ≡ n + many - j.width =
    sym (before_later j fits (n + many) within (omega (arith, more))) in
    let there : n - j.width + many ≡ n + many - j.width = omega (arith, more) in
    ap (λ k. written_at (stretched j waveform many) (before j k)) long
    ∙ ap (written_at (stretched j waveform many)) back
    ∙ get_or-append waveform (take many row) unwritten (n + many - j.width) (omega (arith, more, low))
    ∙ ap (written_at waveform) (sym there) ∙ sym (get_or-drop (n - j.width) waveform many unwritten)

pub stretch_law : StretchLaw
unfolding repeated
stretch_law j waveform zero fits more within up = sym (append-nil waveform)
stretch_law j waveform (suc many) fits more within up =
    let n : ℕ = length waveform in
    let row : List Written = drop (n - j.width) waveform in
    let whole = (spot j fits n (omega (arith, within))).whole in
    let low : suc many ≤ j.width = few j.width (step_of j n) (n % j.width) n (suc many) whole up in
    let row_long : length row ≡ n - (n - j.width) = length-drop (n - j.width) waveform in
    ap (λ r. r ++ before_next j r ∷ []) (stretch_law j waveform many fits more (omega (arith, within))
    (omega (arith, up)))
    ∙ ap (λ x. (waveform ++ take many row) ++ x ∷ [])
    (next_of j fits waveform many more (omega (arith, within)) (omega (arith, low)))
    ∙ append_assoc waveform (take many row) (slice_index_or row many unwritten ∷ [])
    ∙ ap (λ t. waveform ++ t) (sym (take-suc row many unwritten (omega (arith, row_long, low, more))))
