-- There is one sound waveform without undecided places, and at most one that a list of lines yields.
use Rattle.std.proofs.Common.{◌≡◌, ℕ, zero, suc, ◌<◌, ◌≤◌, Bool, List, length, refl, sym, ap, ◌∙◌, arith}
use Rattle.std.proofs.lemmas.List.{ext_get_or}
use Rattle.design_cell.specs.declared.value.Value.{Value}
use Rattle.design_cell.specs.declared.value.Value.TheVariants.{Zero, One, X, Z}
use Rattle.design_circuit.specs.declared.waveform.Written.{Written}
use Rattle.design_circuit.specs.declared.waveform.Mark.{Mark}
use Rattle.design_circuit.specs.declared.waveform.Mark.TheVariants.{Certain, Unknown, Undecided}
use Rattle.design_circuit.specs.Job.{Job, places_of}
use Rattle.design_circuit.specs.Fits.{Fits}
use Rattle.design_circuit.specs.Waveform.{unwritten, written_at, certain, certain_by, ExactBy, IsExact}
use Rattle.design_circuit.proofs.Rules.{AgreeBelow}
use Rattle.design_circuit.proofs.Exact.{SameAt, one_certain, one_exact}
use Rattle.law_model.specs.Class.{class_of}
use Rattle.law_model.specs.Stated.{stated, body_at}
use Rattle.law_model.specs.Yields.{written_by, Yields}
use Rattle.law_model.specs.Sound.{SoundBy, Sound, IsDecided}
use Rattle.law_model.specs.declared.line.Line.{Line as ALine}
use Rattle.law_model.specs.declared.class.ClassByNumber.TheVariants.{Carried}
use Rattle.law_model.proofs.WrittenPlaces.{written_moved}
use Rattle.law_model.proofs.ClassesBefore.{class_local}
use Rattle.law_model.proofs.Roots.{carried_below}
use Rattle.law_model.specs.declared.limits.Limits.{Limits}

pub exact_by : (j : Job) (limits : Limits) (waveform : List Written) (lines : List ALine) (place : ℕ) (mark : Mark)
    (value : Value) → (mark ≡ Undecided → ⊥) → SoundBy j limits waveform lines place mark value
    → ExactBy j waveform place mark value
exact_by j limits waveform lines place Certain Zero decided sound = sound
exact_by j limits waveform lines place Certain One decided sound = sound
exact_by j limits waveform lines place Certain X decided sound = sound
exact_by j limits waveform lines place Certain Z decided sound = sound
exact_by j limits waveform lines place Unknown value decided sound =
    record { pair = stated j (certain waveform) lines place; gives = sound }
exact_by j limits waveform lines place Undecided value decided sound = absurd (decided refl)

pub sound_exact : (j : Job) (limits : Limits) (shown : ℕ → Value) (waveform : List Written) (lines : List ALine)
    → IsDecided waveform → Sound j limits shown waveform lines → IsExact j waveform
sound_exact j limits shown waveform lines decided sound place less =
    exact_by j limits waveform lines place (written_at waveform place).mark (written_at waveform place).value
    (decided place less) (sound.exact place less)

-- Two sound waveforms of one job without undecided places are equal in every value and mark, whatever their lines.
pub unique : (j : Job) (limits : Limits) → Fits j → (shown : ℕ → Value) (v w : List Written) (lines more : List ALine)
    → length v ≡ length w → length v ≤ places_of j → IsDecided v → IsDecided w → Sound j limits shown v lines
    → Sound j limits shown w more → v ≡ w
unique j limits fits shown v w lines more long within decided_v decided_w sound_v sound_w =
    one_exact j shown v w fits long within (sound_exact j limits shown v lines decided_v sound_v)
    (sound_exact j limits shown w more decided_w sound_w) sound_v.shows sound_w.shows

-- A list of lines yields at most one waveform.
pub yields_one : (j : Job) (limits : Limits) → Fits j → (shown : ℕ → Value) (v w : List Written) (lines : List ALine)
    → length v ≡ length w → length v ≤ places_of j → Yields j limits shown v lines → Yields j limits shown w lines → v ≡ w
unfolding certain
yields_one j limits fits shown v w lines long within yields_v yields_w = ext_get_or unwritten v w long
    (λ place less. below (suc place) place (omega arith) less)
  where
    here : (place : ℕ) → place < length v → ((k : ℕ) → k < place → written_at v k ≡ written_at w k)
        → written_at v place ≡ written_at w place
    here place less earlier =
        let agree : AgreeBelow (certain v) (certain w) place = λ k before.
        ap (λ (x : Written). certain_by x.mark x.value) (earlier k before) in
        let from_same : (from : ℕ) (inverted : Bool) → class_of j (certain v) place ≡ Carried from inverted
        → written_at v from ≡ written_at w from = λ from inverted is. earlier from
        (carried_below j fits (certain v) place from inverted (omega arith) is) in
        yields_v.written place less ∙ written_moved (written_at v) (written_at w) (class_of j (certain v) place)
        (body_at j lines place) (shown place) from_same
        ∙ ap (λ class. written_by (written_at w) class (body_at j lines place) (shown place))
        (class_local j fits (certain v) (certain w) place (omega arith) agree)
        ∙ sym (yields_w.written place (omega arith))

    below : (n place : ℕ) → place < n → place < length v → written_at v place ≡ written_at w place
    below zero place before less = absurd (omega arith)
    below (suc n) place before less = here place less (λ k earlier. below n k (omega arith) (omega arith))

-- Sound for two histories, they are equal in every mark and in every certain value.
pub unique_certain : (j : Job) (limits bounds : Limits) → Fits j
    → (shown other : ℕ → Value) (v w : List Written) (lines more : List ALine) → length v ≡ length w
    → length v ≤ places_of j → IsDecided v → IsDecided w → Sound j limits shown v lines → Sound j bounds other w more
    → (place : ℕ) → place < length v → SameAt v w place
unique_certain j limits bounds fits shown other v w lines more long within decided_v decided_w sound_v sound_w place
    less =
    one_certain j v w fits long within (sound_exact j limits shown v lines decided_v sound_v)
    (sound_exact j bounds other w more decided_w sound_w) place less
