-- Objections are exact, and one.
use Rattle.std.proofs.Common.{◌≡◌, ℕ, ◌<◌, Bool, true, false, List, [], ◌∷◌, ◌++◌, length, sym, ap, ◌∙◌, arith, subst, length-append, Some, Option, ⊎_elim, ◌==◌, if◌then◌else◌}
use Rattle.std.proofs.lemmas.Bool.{cases_eq}
use Rattle.design_cell.specs.declared.value.Value.{Value}
use Rattle.design_circuit.specs.declared.waveform.Written.{Written}
use Rattle.design_circuit.specs.declared.waveform.Mark.{Mark}
use Rattle.design_circuit.specs.declared.waveform.Mark.TheVariants.{Certain, Unknown, Undecided}
use Rattle.design_circuit.specs.Job.{Job, number_of}
use Rattle.design_circuit.specs.Fits.{Fits}
use Rattle.design_circuit.specs.Waveform.{certain, certain_by, written_at, IsExact}
use Rattle.law_model.specs.Class.{class_of}
use Rattle.law_model.specs.Sound.{IsOptimistic, Sound, SoundBy}
use Rattle.law_model.specs.Stated.{body_at}
use Rattle.law_model.specs.declared.line.Body.{Body}
use Rattle.law_model.specs.declared.line.Body.TheVariants.{Undecided as Budget}
use Rattle.law_model.specs.declared.line.Line.{Line as ALine}
use Rattle.law_model.proofs.FactsBefore.{written_last}
use Rattle.law_model.proofs.WrittenPlaces.{written_shows}
use Rattle.law_model.proofs.Uniqueness.{sound_exact}
use Rattle.law_model.proofs.YieldedSound.{sound_honest}
use Rattle.law_waveforms.specs.Objection.{AllDecide, Decides, DecidedLaw, Objects, ObjectionLaw, OneObjection}
use Rattle.law_waveforms.proofs.ExactFronts.{alike_at, exact_grown, optimistic_same}
use Rattle.law_waveforms.proofs.SameWritten.{same_written}
use Rattle.law_model.proofs.Uniqueness.{exact_by}
use Rattle.law_model.specs.declared.limits.Limits.{Limits}
use Rattle.law_waveforms.proofs.Said.{said_sound}

-- A line that is found decides.
first_decides : (b : Bool) (here : Body) (rest : Option Body) (body : Body) → Decides here
    → (rest ≡ Some body → Decides body) → (if b then Some here else rest) ≡ Some body → Decides body
first_decides true here rest body decides later at = (let same : here ≡ body = cc in subst Decides same decides)
first_decides false here rest body decides later at = later at

pub found_decides : (j : Job) (lines : List ALine) (place : ℕ) (body : Body) → AllDecide lines
    → body_at j lines place ≡ Some body → Decides body
found_decides j [] place body all at = cc
found_decides j (line ∷ lines) place body all at = first_decides (number_of j line.place == place) line.body
    (body_at j lines place) body all.0 (λ later. found_decides j lines place body all.1 later) at

not_licensed : (j : Job) (limits : Limits) (waveform : List Written) (lines : List ALine) (place : ℕ) (mark : Mark)
    (value : Value) → AllDecide lines → SoundBy j limits waveform lines place mark value → mark ≡ Undecided → ⊥
not_licensed j limits waveform lines place Certain value all sound is = cc
not_licensed j limits waveform lines place Unknown value all sound is = cc
not_licensed j limits waveform lines place Undecided value all sound is =
    found_decides j lines _ (Budget sound.log) all sound.line

pub decided_law : DecidedLaw
decided_law j limits shown waveform lines sound all place less = not_licensed j limits waveform lines place
    (written_at waveform place).mark (written_at waveform place).value all (sound.exact place less)

pub not_undecided : (mark : Mark) (value shown : Value) → IsOptimistic mark value shown → mark ≡ Undecided → ⊥
not_undecided Certain value shown optimistic is = cc
not_undecided Unknown value shown optimistic is = cc
not_undecided Undecided value shown optimistic is = optimistic

pub objection_law : ObjectionLaw
objection_law j limits shown waveform lines found fits objects =
    exact_by j limits waveform (objects.new ++ lines) (length waveform) found.mark found.value
    (not_undecided found.mark found.value (shown (length waveform)) objects.optimistic)
    (said_sound j limits fits shown waveform lines found objects.new objects.sound objects.said)

-- With what is found there the waveform is exact.
pub exact_with : (j : Job) (limits : Limits) → Fits j → (shown : ℕ → Value) (v : List Written) (lines : List ALine) (found :
    Written)
    → Objects j limits shown v lines found → AllDecide lines → IsExact j (v ++ found ∷ [])
exact_with j limits fits shown v lines found objects all =
    exact_grown j fits v found objects.said.within
    (sound_exact j limits shown v lines (decided_law j limits shown v lines objects.sound all) objects.sound)
    (objection_law j limits shown v lines found fits objects)

-- No other sound waveform goes on past an objection.
not_past : (j : Job) (limits bounds : Limits) → Fits j → (shown : ℕ → Value) (v w : List Written) (lines more : List ALine)
    → (found : Written) → Objects j limits shown v lines found → AllDecide lines → Sound j bounds shown w more
    → AllDecide more → length v < length w → ⊥
unfolding certain
not_past j limits bounds fits shown v w lines more found objects all sound all_w less =
    let n = length v in
    let long = length-append v (found ∷ []) in
    let within = objects.said.within in
    let last = written_last v found in
    let same = alike_at j fits (v ++ found ∷ []) w (omega (arith, long, within)) sound.within
    (exact_with j limits fits shown v lines found objects all)
    (sound_exact j bounds shown w more (decided_law j bounds shown w more sound all_w) sound) n (omega (arith, long))
    less in
    sound_honest j bounds shown w more sound n less
    (optimistic_same found.mark (written_at w n).mark found.value (written_at w n).value (shown n)
    (ap (λ (x : Written). x.mark) (sym last) ∙ same.mark)
    (ap (λ (x : Written). certain_by x.mark x.value) (sym last) ∙ same.certain_value) objects.optimistic)

found_shows : (j : Job) (limits : Limits) (shown : ℕ → Value) (v : List Written) (lines : List ALine) (found : Written)
    → Objects j limits shown v lines found → (found.mark ≡ Certain → ⊥) → found.value ≡ shown (length v)
found_shows j limits shown v lines found objects =
    subst (λ (w : Written). (w.mark ≡ Certain → ⊥) → w.value ≡ shown (length v)) (sym objects.said.as_said)
    (written_shows (written_at v) (class_of j (certain v) (length v)) (body_at j objects.new (length v)) (shown
    (length v)))

-- At one place they find the same.
same_there : (j : Job) (limits bounds : Limits) → Fits j → (shown : ℕ → Value) (v w : List Written) (lines more : List ALine)
    → (found other : Written) → Objects j limits shown v lines found → Objects j bounds shown w more other
    → AllDecide lines → AllDecide more → length v ≡ length w → found ≡ other
unfolding certain
same_there j limits bounds fits shown v w lines more found other first second all_v all_w long =
    let n = length v in
    let long_v = length-append v (found ∷ []) in
    let long_w = length-append w (other ∷ []) in
    let within_v = first.said.within in
    let within_w = second.said.within in
    let last_w : written_at (w ++ other ∷ []) n ≡ other = ap (written_at (w ++ other ∷ [])) long ∙ written_last w
    other in
    let same = alike_at j fits (v ++ found ∷ []) (w ++ other ∷ []) (omega (arith, long_v, within_v))
    (omega (arith, long_w, within_w)) (exact_with j limits fits shown v lines found first all_v)
    (exact_with j bounds fits shown w more other second all_w) n (omega (arith, long_v)) (omega (arith, long, long_w)) in
    same_written found other (shown n)
    (ap (λ (x : Written). x.mark) (sym (written_last v found)) ∙ same.mark ∙ ap (λ (x : Written). x.mark) last_w)
    (ap (λ (x : Written). certain_by x.mark x.value) (sym (written_last v found)) ∙ same.certain_value
    ∙ ap (λ (x : Written). certain_by x.mark x.value) last_w)
    (found_shows j limits shown v lines found first)
    (λ open_. found_shows j bounds shown w more other second open_ ∙ ap shown (sym long))

pub one_objection : OneObjection
one_objection j limits bounds shown v w lines more found other fits first second all_v all_w =
    let past : length v < length w → ⊥ =
    not_past j limits bounds fits shown v w lines more found first all_v second.sound all_w in
    let before : length w < length v → ⊥ =
    not_past j bounds limits fits shown w v more lines other second all_w first.sound all_v in
    let long : length v ≡ length w = ⊎_elim (λ (same : length v ≡ length w). same)
    (λ (differ : length v ≡ length w → ⊥). absurd (either differ past before)) (cases_eq (length v) (length w)) in
    (long, same_there j limits bounds fits shown v w lines more found other first second all_v all_w long)
  where
    either : (length v ≡ length w → ⊥) → (length v < length w → ⊥) → (length w < length v → ⊥) → ⊥
    either differ past before = omega (arith, differ, past, before)
