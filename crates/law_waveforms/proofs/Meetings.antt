-- Lists of lines meet their first optimistic place at one place.
use Rattle.std.proofs.Common.{◌≡◌, ℕ, ◌+◌, ◌<◌, List, [], ◌∷◌, ◌++◌, length, length-append, sym, arith, subst}
use Rattle.design_cell.specs.declared.value.Value.{Value}
use Rattle.design_circuit.specs.declared.waveform.Mark.TheVariants.{Undecided}
use Rattle.design_circuit.specs.declared.waveform.Written.{Written}
use Rattle.design_circuit.specs.Fits.{Fits}
use Rattle.design_circuit.specs.Job.{Job}
use Rattle.design_circuit.specs.Waveform.{written_at}
use Rattle.law_model.specs.Laws.{IsSameAt}
use Rattle.law_model.specs.Sound.{IsDecided, IsOptimistic}
use Rattle.law_model.specs.Yields.{Yields}
use Rattle.law_model.specs.declared.line.Line.{Line as ALine}
use Rattle.law_model.proofs.FactsBefore.{written_grown, written_last}
use Rattle.law_model.proofs.SoundGrowth.{each_grown}
use Rattle.law_model.proofs.WaveInvariant.{yields_grown}
use Rattle.law_model.proofs.YieldedSound.{sound_honest}
use Rattle.law_waveforms.specs.Audit.{MeetOnce, MeetsFirst, ObjectionMet}
use Rattle.law_waveforms.specs.Reshown.{reshown}
use Rattle.law_waveforms.proofs.Audits.{chained, listed_same, nothing, turned, yielded_exact}
use Rattle.law_waveforms.proofs.DecidingLines.{all_decide}
use Rattle.law_waveforms.proofs.ExactFronts.{alike_at}
use Rattle.law_waveforms.proofs.Objections.{decided_law, not_undecided}
use Rattle.law_waveforms.proofs.Reshowing.{reshown_there}

-- Two waveforms that lines without an undecided body yield are alike where both are written.
yielded_alike : (j : Job) (shown : ℕ → Value) (lines more : List ALine) (place other : ℕ) → Fits j
    → (first : MeetsFirst j shown lines place) (second : MeetsFirst j shown more other) → (k : ℕ)
    → k < length first.waveform → k < length second.waveform → IsSameAt first.waveform second.waveform k
yielded_alike j shown lines more place other fits first second k less_v less_w =
    let v = first.waveform in
    let w = second.waveform in
    let again_v = reshown_there nothing v in
    let again_w = reshown_there nothing w in
    let long_v = again_v.long in
    let long_w = again_w.long in
    let all_v = first.yields.within in
    let all_w = second.yields.within in
    let same = alike_at j fits (reshown nothing v) (reshown nothing w) (omega (arith, long_v, all_v))
    (omega (arith, long_w, all_w)) (yielded_exact j first.limits fits shown v lines first.yields first.decide)
    (yielded_exact j second.limits fits shown w more second.yields second.decide) k (omega (arith, long_v, less_v))
    (omega (arith, long_w, less_w)) in
    chained v (reshown nothing v) w k (again_v.same k less_v)
    (chained (reshown nothing v) (reshown nothing w) w k
    (record { mark = same.mark; certain_value = same.certain_value })
    (turned w (reshown nothing w) k (again_w.same k less_w)))

-- The first one isn't before the other one.
not_before : (j : Job) (shown : ℕ → Value) (lines more : List ALine) (place other : ℕ) → Fits j
    → MeetsFirst j shown lines place → MeetsFirst j shown more other → place < other → ⊥
not_before j shown lines more place other fits first second less =
    let here = first.first.listed.within in
    let there = second.first.listed.within in
    second.first.none place less (listed_same shown first.waveform second.waveform place (omega (arith, less, there))
    (yielded_alike j shown lines more place other fits first second place here (omega (arith, less, there)))
    first.first.listed)

either : (a b : ℕ) → (a < b → ⊥) → (b < a → ⊥) → a ≡ b
either a b less more = omega (arith, less, more)

pub meet_once : MeetOnce
meet_once j shown lines more place other fits first second =
    let same = either place other (not_before j shown lines more place other fits first second)
    (not_before j shown more lines other place fits second first) in
    let there = second.first.listed.within in (
      same,
      yielded_alike j shown lines more place other fits first second place first.first.listed.within
          (omega (arith, same, there)),
    )

pub objection_met : ObjectionMet
objection_met j limits shown front lines new found fits holds said optimistic decide = record {
  decide = all_decide j limits shown v (lines ++ new) fits yields decided;
  limits = limits;
  waveform = v;
  yields = yields;
  first = record {
    listed = record {
      within = omega (arith, long);
      otherwise = subst (λ (x : Written). IsOptimistic x.mark x.value (shown (length front)))
          (sym (written_last front found)) optimistic;
    };
    none = λ k before listed. sound_honest j limits shown front lines holds.sound k before
        (subst (λ (x : Written). IsOptimistic x.mark x.value (shown k)) (written_grown front found k before)
        listed.otherwise);
  };
}
  where
    v : List Written
    v = front ++ found ∷ []

    long : length v ≡ length front + 1
    long = length-append front (found ∷ [])

    yields : Yields j limits shown v (lines ++ new)
    yields = yields_grown j limits fits shown front lines found new holds.yields said

    decided : IsDecided v
    decided = each_grown (λ k. (written_at v k).mark ≡ Undecided → ⊥) front found
        (λ k less. subst (λ (x : Written). x.mark ≡ Undecided → ⊥) (sym (written_grown front found k less))
        (decided_law j limits shown front lines holds.sound decide k less))
        (subst (λ (x : Written). x.mark ≡ Undecided → ⊥) (sym (written_last front found))
        (not_undecided found.mark found.value (shown (length front)) optimistic))
