-- Exact waveforms of any lengths have the same where both are written.
use Rattle.std.proofs.Common.{◌≡◌, ℕ, suc, ◌<◌, ◌≤◌, List, [], ◌∷◌, ◌++◌, length, take, sym, ap, ◌∙◌, arith, subst, length-take-le}
use Rattle.design_cell.specs.declared.value.Value.{Value}
use Rattle.design_circuit.specs.declared.waveform.Written.{Written}
use Rattle.design_circuit.specs.declared.waveform.Mark.{Mark}
use Rattle.design_circuit.specs.declared.waveform.Mark.TheVariants.{Certain, Unknown, Undecided}
use Rattle.design_circuit.specs.Job.{Job, places_of}
use Rattle.design_circuit.specs.Fits.{Fits}
use Rattle.design_circuit.specs.Waveform.{certain_by, written_at, ExactBy, IsExact}
use Rattle.design_circuit.proofs.Exact.{SameAt, exact_local, one_certain}
use Rattle.law_model.specs.Sound.{IsOptimistic}
use Rattle.law_model.proofs.FactsBefore.{certain_grown, written_grown, written_last}
use Rattle.law_model.proofs.SoundGrowth.{each_grown}
use Rattle.law_waveforms.proofs.Prefixes.{front_at, front_certain}

pub exact_front : (j : Job) → Fits j → (v : List Written) (n : ℕ) → n ≤ length v → length v ≤ places_of j → IsExact j v
    → IsExact j (take n v)
exact_front j fits v n up all exact place less =
    let low : place < n = (let long = length-take-le n v up in omega (arith, less, long)) in
    subst (λ (w : Written). ExactBy j (take n v) place w.mark w.value) (sym (front_at v n place low))
    (exact_local j fits v (take n v) place (written_at v place).mark (written_at v place).value
    (omega (arith, low, up, all)) (λ k before. front_certain v n k (omega (arith, low, before)))
    (exact place (omega (arith, low, up))))

pub alike_at : (j : Job) → Fits j → (v w : List Written) → length v ≤ places_of j → length w ≤ places_of j → IsExact j v
    → IsExact j w → (place : ℕ) → place < length v → place < length w → SameAt v w place
alike_at j fits v w all_v all_w exact_v exact_w place less_v less_w =
    let n = suc place in
    let up_v : n ≤ length v = omega (arith, less_v) in
    let up_w : n ≤ length w = omega (arith, less_w) in
    let long_v = length-take-le n v up_v in
    let long_w = length-take-le n w up_w in
    let same = one_certain j (take n v) (take n w) fits (long_v ∙ sym long_w) (omega (arith, long_v, up_v, all_v))
    (exact_front j fits v n up_v all_v exact_v) (exact_front j fits w n up_w all_w exact_w) place
    (omega (arith, long_v)) in
    record {
      mark = ap (λ (x : Written). x.mark) (sym (front_at v n place (omega arith))) ∙ same.mark
          ∙ ap (λ (x : Written). x.mark) (front_at w n place (omega arith));
      certain_value = front_certain v n place (omega arith) ∙ same.certain_value
          ∙ sym (front_certain w n place (omega arith));
    }

-- An exact waveform that goes on by an exact place.
pub exact_grown : (j : Job) → Fits j → (v : List Written) (x : Written) → length v < places_of j → IsExact j v
    → ExactBy j v (length v) x.mark x.value → IsExact j (v ++ x ∷ [])
exact_grown j fits v x within exact next =
    each_grown (λ k. ExactBy j (v ++ x ∷ []) k (written_at (v ++ x ∷ []) k).mark (written_at (v ++ x ∷ []) k).value) v x
    (λ k less. subst (λ (w : Written). ExactBy j (v ++ x ∷ []) k w.mark w.value) (sym (written_grown v x k less))
    (exact_local j fits v (v ++ x ∷ []) k (written_at v k).mark (written_at v k).value (omega (arith, less, within))
    (λ i low. certain_grown v x i (omega (arith, low, less))) (exact k less)))
    (subst (λ (w : Written). ExactBy j (v ++ x ∷ []) (length v) w.mark w.value) (sym (written_last v x))
    (exact_local j fits v (v ++ x ∷ []) (length v) x.mark x.value within (λ i low. certain_grown v x i low) next))

-- What is optimistic rests on the mark and the certain value alone.
pub optimistic_same : (m n : Mark) (x y shown : Value) → m ≡ n → certain_by m x ≡ certain_by n y
    → IsOptimistic m x shown → IsOptimistic n y shown
optimistic_same Certain Certain x y shown marks values is = (is.0, λ e. is.1 (values ∙ e))
optimistic_same Certain Unknown x y shown marks values is = cc
optimistic_same Certain Undecided x y shown marks values is = cc
optimistic_same Unknown Certain x y shown marks values is = cc
optimistic_same Unknown Unknown x y shown marks values is = is
optimistic_same Unknown Undecided x y shown marks values is = cc
optimistic_same Undecided n x y shown marks values is = absurd is
