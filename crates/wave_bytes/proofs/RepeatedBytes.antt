-- Bytes that are written again, each as that of its net's place a step before.
use Rattle.std.proofs.Common.{◌≡◌, ℕ, zero, suc, ◌+◌, ◌-◌, ◌*◌, ◌%◌, ◌<◌, ◌≤◌, ◌==◌, ◌||◌, Bool, true, false, List, []}
use Rattle.std.proofs.Common.{◌∷◌, ◌++◌, drop, length, length-append, length-drop, map, slice_index_or}
use Rattle.std.proofs.Common.{take, refl, sym, ap, ◌∙◌, arith, subst, ⊎_elim}
use Rattle.std.specs.Bool.{OnTrue}
use Rattle.std.proofs.Math.ListN.{get_or-append}
use Rattle.std.proofs.Math.Seq.{get_or-append_right}
use Rattle.std.proofs.lemmas.Bool.{cases_lt, eq-eqb, ne_eqb}
use Rattle.std.proofs.lemmas.List.{drop-map, get_or-map, length-map, length-take-le}
use Rattle.std.proofs.lemmas.List.{map-append, take-map}
use Rattle.design_cell.specs.declared.value.Value.{Value}
use Rattle.design_cell.specs.declared.value.Value.TheVariants.{X}
use Rattle.design_cell.specs.Value.{bit_value}
use Rattle.design_circuit.specs.declared.waveform.Mark.{Mark}
use Rattle.design_circuit.specs.declared.waveform.Mark.TheVariants.{Certain, Unknown, Undecided}
use Rattle.design_circuit.specs.declared.waveform.Written.{Written}
use Rattle.design_circuit.specs.Circuit.{job_in}
use Rattle.design_circuit.specs.declared.circuit.Circuit.{Circuit}
use Rattle.design_circuit.specs.Fits.{Fits}
use Rattle.design_circuit.specs.Job.{Job, net_of, places_of, step_of}
use Rattle.design_circuit.specs.Waveform.{certain, certain_by, unwritten}
use Rattle.design_circuit.proofs.Rules.{spot}
use Rattle.law_model.specs.Class.{before, class_of, is_carried_on}
use Rattle.law_model.specs.declared.class.ClassByNumber.{ClassByNumber}
use Rattle.law_model.specs.declared.class.ClassByNumber.TheVariants.{Local, Free, Carried, Line}
use Rattle.law_quiet.specs.OfClass.{AreTold, Facts, facts, facts_of}
use Rattle.law_quiet.proofs.LawsOfClass.{keeps_at}
use Rattle.law_quiet.specs.Laws.{IsSteady, SaysTheSame}
use Rattle.law_quiet.specs.Runs.{repeated}
use Rattle.law_quiet.proofs.QuietClasses.{at_itself}
use Rattle.law_quiet.proofs.StretchedRuns.{stretch_law}
use Rattle.wave_bytes.specs.Byte.{facts_in, facts_of_byte, is_uncertain, repeated_byte, written_of_byte}
use Rattle.wave_bytes.specs.Kept.{BytesTell, AreTrueBytes, StepKeeps, ValuesAgree}
use Rattle.wave_bytes.specs.View.{keeps_there}
use Rattle.wave_bytes.specs.Repeat.{AreRepeated, AreSteadyFrom, IsStretch, row_before}
use Rattle.wave_bytes.proofs.ByteDigits.{repeated_says, repeated_written}
use Rattle.wave_bytes.proofs.KeptBytes.{none_keep, told_front}

-- They say the values and marks of a stretch, written again.
mapped : (bytes : List ℕ) → map written_of_byte (map repeated_byte bytes) ≡ map written_of_byte bytes
mapped [] = refl
mapped (byte ∷ bytes) = rw (repeated_written byte, mapped bytes) refl

pub repeated_view : (j : Job) → Fits j → (old new : List ℕ) (many : ℕ) → IsStretch j (length old) many
    → AreRepeated j old new many → map written_of_byte new ≡ repeated j (map written_of_byte old) many
repeated_view j fits old new many stretch is =
    let written = map written_of_byte old in
    let long : length written ≡ length old = length-map old written_of_byte in
    let later = stretch.later in
    let within = stretch.within in
    let row : map written_of_byte (row_before j old many) ≡ take many (drop (length written - j.width) written) =
    sym (take-map written_of_byte many (drop (length old - j.width) old))
    ∙ ap (take many) (sym (drop-map written_of_byte (length old - j.width) old))
    ∙ ap (λ n. take many (drop (n - j.width) written)) (sym long) in
    ap (map written_of_byte) is ∙ map-append written_of_byte old (map repeated_byte (row_before j old many))
    ∙ ap (λ ws. written ++ ws) (mapped (row_before j old many) ∙ row)
    ∙ sym (stretch_law j written many fits (omega (arith, long, later)) (omega (arith, long, within))
    (subst (λ n. n + many ≤ (step_of j n + 1) * j.width) (sym long) stretch.one_step))

-- How many they are.
few_in_row : (w s p first many : ℕ) → s * w + p ≡ first → first + many ≤ (s + 1) * w → many ≤ w
few_in_row w s p first many here up = omega (arith, here, up)

row_many : (j : Job) → Fits j → (first many : ℕ) → IsStretch j first many → 0 < many → many ≤ j.width
row_many j fits first many stretch some =
    let within = stretch.within in
    few_in_row j.width (step_of j first) (first % j.width) first many
    (spot j fits first (omega (arith, within, some))).whole stretch.one_step

row_long : (j : Job) → Fits j → (old : List ℕ) (many : ℕ) → IsStretch j (length old) many
    → length (row_before j old many) ≡ many
row_long j fits old many stretch =
    let later = stretch.later in
    let row = length-drop (length old - j.width) old in
    length-take-le many (drop (length old - j.width) old)
    (⊎_elim (λ (none : many < 1). omega (arith, none))
    (λ (some : 1 ≤ many). (let few = row_many j fits (length old) many stretch (omega (arith, some)) in
    omega (arith, later, row, few))) (cases_lt many 1))

pub repeated_long : (j : Job) → Fits j → (old new : List ℕ) (many : ℕ) → IsStretch j (length old) many
    → AreRepeated j old new many → length new ≡ length old + many
repeated_long j fits old new many stretch is =
    ap length is ∙ length-append old (map repeated_byte (row_before j old many))
    ∙ ap (λ n. length old + n) (length-map (row_before j old many) repeated_byte ∙ row_long j fits old many stretch)

-- What one of them says.
pub repeated_facts : (j : Job) → Fits j → (old new : List ℕ) (many k : ℕ) → IsStretch j (length old) many
    → AreRepeated j old new many → length old ≤ k → k < length new
    → facts_in new k ≡ facts (is_uncertain (written_of_byte (slice_index_or new k 0)).mark) false false true
repeated_facts j fits old new many k stretch is from less =
    let row = row_before j old many in
    let long = repeated_long j fits old new many stretch is in
    let row_is = row_long j fits old many stretch in
    let at_row : slice_index_or new k 0 ≡ repeated_byte (slice_index_or row (k - length old) 0) =
    ap (λ bytes. slice_index_or bytes k 0) is
    ∙ get_or-append_right old (map repeated_byte row) k 0 from
    ∙ get_or-map repeated_byte row (k - length old) 0 0 (omega (arith, less, long, row_is, from)) in
    ap facts_of_byte at_row ∙ repeated_says (slice_index_or row (k - length old) 0)
    ∙ ap (λ (w : Written). facts (is_uncertain w.mark) false false true)
    (sym (ap written_of_byte at_row ∙ repeated_written (slice_index_or row (k - length old) 0)))

-- What is told of a place that is written again is true where its class says the same, and its net keeps.
unknown_there : (mark : Mark) (v : Value) → is_uncertain mark ≡ true → certain_by mark v ≡ X
unknown_there Certain v is = cc
unknown_there Unknown v is = refl
unknown_there Undecided v is = refl

never : false ≡ true → ⊥
never e = cc

no_bit : (bit : Bool) → X ≡ bit_value bit → ⊥
no_bit false is = cc
no_bit true is = cc

carried_there : (j : Job) (d : ℕ → Value) (k : ℕ) (class : ClassByNumber) → SaysTheSame j d k class
    → d (before j k) ≡ X → is_carried_on class (before j k) ≡ true
carried_there j d k (Local bit) says unknown = absurd (no_bit bit (sym unknown ∙ says))
carried_there j d k Free says unknown = absurd says
carried_there j d k (Carried from inverted) says unknown =
    rw (says.0, says.1, eq-eqb (before j k) (before j k) refl) refl
carried_there j d k Line says unknown = absurd says

certain_there : (bytes : List ℕ) (k : ℕ) → k < length bytes
    → is_uncertain (written_of_byte (slice_index_or bytes k 0)).mark ≡ true → certain (map written_of_byte bytes) k ≡ X
unfolding certain
certain_there bytes k less is =
    ap (λ (w : Written). certain_by w.mark w.value) (get_or-map written_of_byte bytes k 0 unwritten less)
    ∙ unknown_there (written_of_byte (slice_index_or bytes k 0)).mark (written_of_byte (slice_index_or bytes k 0)).value
    is

told_again : (j : Job) → Fits j → (bytes : List ℕ) (k : ℕ) → k < places_of j → k < length bytes
    → facts_in bytes k ≡ facts (is_uncertain (written_of_byte (slice_index_or bytes k 0)).mark) false false true
    → SaysTheSame j (certain (map written_of_byte bytes)) k (class_of j (certain (map written_of_byte bytes)) k)
    → IsSteady j (certain (map written_of_byte bytes)) k
    → AreTold (facts_in bytes k) (facts_of j (certain (map written_of_byte bytes)) k)
told_again j fits bytes k within less is says steady =
    let d : ℕ → Value = certain (map written_of_byte bytes) in
    let low = (spot j fits k within).net in
    let kept : (facts_of j d k).keeps ≡ true =
    ap (λ n. (facts_of j d n).keeps) (sym (at_itself j fits k within))
    ∙ keeps_at j fits d (step_of j k) (net_of j k) low ∙ steady.keeps in
    subst (λ f. AreTold f (facts_of j d k)) (sym is) (record {
      carries = λ uncertain. carried_there j d k (class_of j d k) says
          (sym steady.value ∙ certain_there bytes k less uncertain);
      plain = λ told. absurd (never told);
      line = λ told. absurd (never told);
      keeps = sym kept;
    })

pub told_repeated : (j : Job) → Fits j → (old new : List ℕ) (many : ℕ) → IsStretch j (length old) many
    → BytesTell j old → AreRepeated j old new many → AreSteadyFrom j (map written_of_byte new) (length old)
    → BytesTell j new
told_repeated j fits old new many stretch told is steady = λ k less. ⊎_elim
    (λ (low : k < length old). earlier k low) (λ (from : length old ≤ k). behind k from less) (cases_lt k (length old))
  where
    more : List ℕ
    more = map repeated_byte (row_before j old many)

    earlier : (k : ℕ) → k < length old
        → AreTold (facts_in new k) (facts_of j (certain (map written_of_byte new)) k)
    earlier k low = subst (λ bytes. AreTold (facts_in bytes k) (facts_of j (certain (map written_of_byte bytes)) k))
        (sym is)
        (told_front j fits old more k (let within = stretch.within in omega (arith, within)) told low)

    behind : (k : ℕ) → length old ≤ k → k < length new
        → AreTold (facts_in new k) (facts_of j (certain (map written_of_byte new)) k)
    behind k from less =
        let long = repeated_long j fits old new many stretch is in
        let within = stretch.within in
        let count = length-map new written_of_byte in
        told_again j fits new k (omega (arith, less, long, within)) less
        (repeated_facts j fits old new many k stretch is from less) (steady.says k from (omega (arith, less, count)))
        (steady.steady k from (omega (arith, less, count)))

-- All before the next place in its step keep, where they did before those that are written again.
pub keep_repeated : (j : Job) → Fits j → (old new : List ℕ) (many position next : ℕ) → IsStretch j (length old) many
    → AreRepeated j old new many → next ≡ position + many → StepKeeps old position (length old)
    → StepKeeps new next (length new)
keep_repeated j fits old new many position next stretch is next_is keep = λ k from less. ⊎_elim
    (λ (low : k < length old). ap (λ bytes. (facts_in bytes k).keeps) is
    ∙ ap (λ byte. (facts_of_byte byte).keeps) (get_or-append old (map repeated_byte (row_before j old many)) 0 k low)
    ∙ keep k (let long = repeated_long j fits old new many stretch is in omega (arith, from, long, next_is)) low)
    (λ (up : length old ≤ k). ap (λ (f : Facts). f.keeps) (repeated_facts j fits old new many k stretch is up less))
    (cases_lt k (length old))

-- So the bytes are kept.
pub repeated_kept : (circuit : Circuit) (old new : List ℕ) (many : ℕ)
    → IsStretch (job_in circuit) (length old) many → AreTrueBytes circuit old → AreRepeated (job_in circuit) old new many
    → ValuesAgree (job_in circuit) (repeated (job_in circuit) (map written_of_byte old) many)
    → AreSteadyFrom (job_in circuit) (repeated (job_in circuit) (map written_of_byte old) many)
    (length (map written_of_byte old)) → AreTrueBytes circuit new
repeated_kept circuit old new many stretch kept are agrees steady =
    let j : Job = job_in circuit in
    let view = repeated_view j circuit.fits.fits_job old new many stretch are in
    record {
      told = told_repeated j circuit.fits.fits_job old new many stretch kept.told are
          (subst (λ w. AreSteadyFrom j w (length old)) (sym view)
          (subst (AreSteadyFrom j (repeated j (map written_of_byte old) many)) (length-map old written_of_byte)
          steady));
      agrees = subst (ValuesAgree j) (sym view) agrees;
    }

-- What is told of a place says whether its net keeps there.
pub keeps_told : (j : Job) → Fits j → (bytes : List ℕ) (k : ℕ) → k < length bytes → length bytes ≤ places_of j
    → BytesTell j bytes → (facts_in bytes k).keeps ≡ keeps_there j (map written_of_byte bytes) k
keeps_told j fits bytes k less within told =
    let c : ℕ → Value = certain (map written_of_byte bytes) in
    let low = (spot j fits k (omega (arith, less, within))).net in
    (told k less).keeps ∙ ap (λ n. (facts_of j c n).keeps) (sym (at_itself j fits k (omega (arith, less, within))))
    ∙ keeps_at j fits c (step_of j k) (net_of j k) low

-- So it is told, where it is that those before the next place keep, or that it is the first of its step.
pub keep_after : (j : Job) → Fits j → (old new : List ℕ) (many position next : ℕ) (all_keep : Bool)
    → IsStretch j (length old) many → AreRepeated j old new many → (0 < next → next ≡ position + many)
    → OnTrue all_keep (StepKeeps old position (length old))
    → OnTrue (all_keep || (next == 0)) (StepKeeps new next (length new))
keep_after j fits old new many position zero true stretch are behind keep = none_keep new zero refl
keep_after j fits old new many position zero false stretch are behind keep = none_keep new zero refl
keep_after j fits old new many position (suc next) true stretch are behind keep =
    keep_repeated j fits old new many position (suc next) stretch are (behind (omega arith)) keep
keep_after j fits old new many position (suc next) false stretch are behind keep =
    rw (ne_eqb (suc next) 0 (λ is. omega (arith, is))) tt
