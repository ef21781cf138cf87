-- Soundness grows by a place: one that is written as its class and its line say, whose line holds, and that isn't
-- optimistic, leaves a sound waveform sound, whatever lines stand behind it.
use Rattle.std.proofs.Common.{◌≡◌, ℕ, ◌+◌, ◌<◌, ◌≤◌, Bool, List, [], ◌∷◌, ◌++◌, length, refl, sym, ap, ◌∙◌, arith, length-append, subst, ⊎_elim}
use Rattle.std.proofs.lemmas.Bool.{cases_eq}
use Rattle.design_cell.specs.declared.value.Value.{Value}
use Rattle.design_cell.specs.Value.{IsKnown}
use Rattle.design_circuit.specs.declared.waveform.Written.{Written}
use Rattle.design_circuit.specs.declared.waveform.Mark.TheVariants.{Certain, Unknown}
use Rattle.design_circuit.specs.Job.{Job, places_of}
use Rattle.design_circuit.specs.Fits.{Fits}
use Rattle.design_circuit.specs.Waveform.{written_at, certain}
use Rattle.design_circuit.proofs.Rules.{AgreeBelow}
use Rattle.law_model.specs.Class.{class_of}
use Rattle.law_model.specs.Stated.{body_at}
use Rattle.law_model.specs.Yields.{written_by}
use Rattle.law_model.specs.Sound.{FollowsClass, SoundBy, Sound, IsOptimistic}
use Rattle.law_model.specs.declared.class.ClassByNumber.TheVariants.{Carried}
use Rattle.law_model.specs.declared.line.Line.{Line as ALine}
use Rattle.law_model.proofs.ClassesBefore.{class_local}
use Rattle.law_model.proofs.FactsBefore.{written_grown, written_last, certain_grown, sound_moved}
use Rattle.law_model.proofs.NextPlace.{LineHeld, SameBefore, next_exact}
use Rattle.law_model.proofs.WrittenPlaces.{written_shows, honest_known, honest_open, written_follows, follows_moved}
use Rattle.law_model.proofs.Roots.{carried_below}
use Rattle.law_model.specs.declared.limits.Limits.{Limits}

pub each_grown : (P : ℕ → Type 0) (waveform : List Written) (x : Written) → ((k : ℕ) → k < length waveform → P k)
    → P (length waveform) → (k : ℕ) → k < length (waveform ++ x ∷ []) → P k
each_grown P waveform x earlier last k less =
    let long = length-append waveform (x ∷ []) in
    let within : k < length waveform + 1 = omega (arith, long, less) in
    ⊎_elim (λ (here : k ≡ length waveform). subst P (sym here) last)
    (λ (other : k ≡ length waveform → ⊥). earlier k (omega arith)) (cases_eq k (length waveform))

-- The next place is written as its class and its line say, over lines that stay as they were below it.
pub record NextSound (j : Job) (limits : Limits) (shown : ℕ → Value) (waveform : List Written) (x : Written)
    (lines more : List ALine) : Type 0 where
  pub within : length waveform < places_of j
  pub same : SameBefore j waveform lines more
  pub held : LineHeld j limits waveform more (class_of j (certain waveform) (length waveform))
  pub as_said : x ≡ written_by (written_at waveform) (class_of j (certain waveform) (length waveform))
      (body_at j more (length waveform)) (shown (length waveform))
  pub honest : IsOptimistic x.mark x.value (shown (length waveform)) → ⊥

pub sound_grown : (j : Job) (limits : Limits) → Fits j
    → (shown : ℕ → Value) (waveform : List Written) (x : Written) (lines more : List ALine)
    → Sound j limits shown waveform lines → NextSound j limits shown waveform x lines more
    → Sound j limits shown (waveform ++ x ∷ []) more
sound_grown j limits fits shown waveform x lines more sound next = record {
  within = (let long = length-append waveform (x ∷ []) in let low = next.within in omega (arith, long, low));
  classes = each_grown (λ k. FollowsClass (written_at v) (class_of j (certain v) k) (written_at v k)) waveform x
      classes_earlier classes_last;
  exact = each_grown (λ k. SoundBy j limits v more k (written_at v k).mark (written_at v k).value) waveform x
      exact_earlier exact_last;
  shows = record {
    known = each_grown (λ k. IsKnown (shown k) → (written_at v k).value ≡ shown k) waveform x known_earlier known_last;
    uncertain = each_grown (λ k. ((written_at v k).mark ≡ Certain → ⊥) → (written_at v k).value ≡ shown k) waveform x
        uncertain_earlier uncertain_last;
    open_ = each_grown (λ k. (written_at v k).mark ≡ Unknown → IsKnown (shown k) → ⊥) waveform x open_earlier open_last;
  };
}
  where
    n : ℕ
    n = length waveform

    v : List Written
    v = waveform ++ x ∷ []

    agree : (k : ℕ) → k ≤ n → AgreeBelow (certain waveform) (certain v) k
    agree k up = λ i less. certain_grown waveform x i (omega arith)

    class_same : (k : ℕ) → k ≤ n → class_of j (certain waveform) k ≡ class_of j (certain v) k
    class_same k up = let within = next.within in class_local j fits (certain waveform) (certain v) k (omega arith)
        (agree k up)

    from_same : (k : ℕ) → k ≤ n → (from : ℕ) (inverted : Bool) → class_of j (certain waveform) k ≡ Carried from inverted
        → written_at waveform from ≡ written_at v from
    from_same k up from inverted is =
        let within = next.within in
        let less = carried_below j fits (certain waveform) k from inverted (omega arith) is in
        sym (written_grown waveform x from (omega (arith, less)))

    classes_earlier : (k : ℕ) → k < n → FollowsClass (written_at v) (class_of j (certain v) k) (written_at v k)
    classes_earlier k less =
        let moved = follows_moved (written_at waveform) (written_at v) (class_of j (certain waveform) k)
        (written_at waveform k) (from_same k (omega arith)) (sound.classes k less) in
        subst (λ class. FollowsClass (written_at v) class (written_at v k)) (class_same k (omega arith))
        (subst (FollowsClass (written_at v) (class_of j (certain waveform) k))
        (sym (written_grown waveform x k less)) moved)

    classes_last : FollowsClass (written_at v) (class_of j (certain v) n) (written_at v n)
    classes_last =
        let class = class_of j (certain waveform) n in
        let here : FollowsClass (written_at waveform) class x = subst (FollowsClass (written_at waveform) class)
        (sym next.as_said) (written_follows (written_at waveform) class (body_at j more n) (shown n)) in
        let moved = follows_moved (written_at waveform) (written_at v) class x (from_same n (omega arith)) here in
        subst (λ class. FollowsClass (written_at v) class (written_at v n)) (class_same n (omega arith))
        (subst (FollowsClass (written_at v) class) (sym (written_last waveform x)) moved)

    exact_earlier : (k : ℕ) → k < n → SoundBy j limits v more k (written_at v k).mark (written_at v k).value
    exact_earlier k less =
        let within = next.within in
        let moved = sound_moved j limits fits waveform v lines more k (written_at waveform k).mark
        (written_at waveform k).value (omega arith) (agree k (omega arith))
        (λ i up. sym (next.same i (omega arith))) (sound.exact k less) in
        subst (λ (w : Written). SoundBy j limits v more k w.mark w.value) (sym (written_grown waveform x k less)) moved

    exact_last : SoundBy j limits v more n (written_at v n).mark (written_at v n).value
    exact_last =
        let class = class_of j (certain waveform) n in
        let here = next_exact j limits fits shown waveform lines more sound next.within next.same class refl next.held
        (shown n) in
        let here_x : SoundBy j limits waveform more n x.mark x.value =
        subst (λ (w : Written). SoundBy j limits waveform more n w.mark w.value) (sym next.as_said) here in
        let moved = sound_moved j limits fits waveform v more more n x.mark x.value next.within (agree n (omega arith))
        (λ i up. refl) here_x in
        subst (λ (w : Written). SoundBy j limits v more n w.mark w.value) (sym (written_last waveform x)) moved

    shows_last : (x.mark ≡ Certain → ⊥) → x.value ≡ shown n
    shows_last = subst (λ (w : Written). (w.mark ≡ Certain → ⊥) → w.value ≡ shown n) (sym next.as_said)
        (written_shows (written_at waveform) (class_of j (certain waveform) n) (body_at j more n) (shown n))

    value_same : (k : ℕ) → k < n → (written_at v k).value ≡ (written_at waveform k).value
    value_same k less = ap (λ (w : Written). w.value) (written_grown waveform x k less)

    mark_same : (k : ℕ) → k < n → (written_at v k).mark ≡ (written_at waveform k).mark
    mark_same k less = ap (λ (w : Written). w.mark) (written_grown waveform x k less)

    value_last : (written_at v n).value ≡ x.value
    value_last = ap (λ (w : Written). w.value) (written_last waveform x)

    mark_last : (written_at v n).mark ≡ x.mark
    mark_last = ap (λ (w : Written). w.mark) (written_last waveform x)

    known_earlier : (k : ℕ) → k < n → IsKnown (shown k) → (written_at v k).value ≡ shown k
    known_earlier k less known = value_same k less ∙ sound.shows.known k less known

    known_last : IsKnown (shown n) → (written_at v n).value ≡ shown n
    known_last known = value_last ∙ honest_known x.mark x.value (shown n) next.honest shows_last known

    uncertain_earlier : (k : ℕ) → k < n → ((written_at v k).mark ≡ Certain → ⊥) → (written_at v k).value ≡ shown k
    uncertain_earlier k less open_ = value_same k less
        ∙ sound.shows.uncertain k less (λ e. open_ (mark_same k less ∙ e))

    uncertain_last : ((written_at v n).mark ≡ Certain → ⊥) → (written_at v n).value ≡ shown n
    uncertain_last open_ = value_last ∙ shows_last (λ e. open_ (mark_last ∙ e))

    open_earlier : (k : ℕ) → k < n → (written_at v k).mark ≡ Unknown → IsKnown (shown k) → ⊥
    open_earlier k less is = sound.shows.open_ k less (sym (mark_same k less) ∙ is)

    open_last : (written_at v n).mark ≡ Unknown → IsKnown (shown n) → ⊥
    open_last is = honest_open x.mark x.value (shown n) next.honest (sym mark_last ∙ is)
