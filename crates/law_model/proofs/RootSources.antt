-- A place has the sources of its root, so an undecided one has too many of its own to try all their fillings.
use Rattle.std.proofs.Common.{◌≡◌, ℕ, zero, suc, ◌+◌, ◌<◌, ◌≤◌, ◌==◌, ◌&&◌, ◌||◌, Bool, true, false, List, [], ◌∷◌, ◌++◌, length, refl, sym, ap, ◌∙◌, arith, subst, ⊎_elim, if◌then◌else◌}
use Rattle.std.specs.List.{list_any}
use Rattle.std.proofs.lemmas.Bool.{cases_Bool, cases_eq, eqb-true, and_parts}
use Rattle.design_cell.specs.declared.value.Value.{Value}
use Rattle.design_circuit.specs.declared.waveform.Written.{Written}
use Rattle.design_circuit.specs.declared.waveform.Mark.TheVariants.{Undecided}
use Rattle.design_circuit.specs.Job.{Job, places_of}
use Rattle.design_circuit.specs.Fits.{Fits}
use Rattle.design_circuit.specs.Waveform.{written_at, certain}
use Rattle.law_model.specs.Places.{places_where}
use Rattle.law_model.specs.Class.{class_of}
use Rattle.law_model.specs.Root.{Root, root_of}
use Rattle.law_model.specs.Cone.{essentials, supports_by, in_cone, is_carried, reads_filling, is_source, sources}
use Rattle.law_model.specs.Sound.{HasLicence, SoundBy, Sound}
use Rattle.law_model.specs.declared.class.ClassByNumber.{ClassByNumber}
use Rattle.law_model.specs.declared.class.ClassByNumber.TheVariants.{Local, Free, Carried, Line}
use Rattle.law_model.specs.declared.line.Line.{Line as ALine}
use Rattle.law_model.proofs.Cones.{cone_is, cone_within}
use Rattle.law_model.proofs.Roots.{carried_below, root_own, root_carried}
use Rattle.law_model.specs.declared.limits.Limits.{Limits}

-- A test that holds of no place from m on.
places_shorter : (test : ℕ → Bool) (n m : ℕ) → m ≤ n → ((k : ℕ) → m ≤ k → k < n → test k ≡ false)
    → places_where test n ≡ places_where test m
places_shorter test zero m up none = let e : m ≡ 0 = omega (arith, up) in rw e refl
places_shorter test (suc n) m up none =
    ⊎_elim (λ (same : m ≡ suc n). ap (places_where test) (sym same))
    (λ (other : m ≡ suc n → ⊥). (let low : m ≤ n = omega (arith, up, other) in
    ap (λ (b : Bool). if b then places_where test n ++ n ∷ [] else places_where test n) (none n low (omega arith))
    ∙ places_shorter test n m low (λ k at less. none k at (omega (arith, less))))) (cases_eq m (suc n))

one_support : (inside born : Bool) → (inside || false) && born ≡ inside && born
one_support false born = refl
one_support true born = refl

nowhere : (inside born : Bool) → born ≡ false → inside && born ≡ false
nowhere false born none = refl
nowhere true born none = none

not_born : (j : Job) (c : ℕ → Value) (place from : ℕ) (inverted : Bool) → class_of j c place ≡ Carried from inverted
    → reads_filling j c place ≡ false
not_born j c place from inverted is = rw is refl

-- A carried place has the sources of the place that it is carried from.
source_carried : (j : Job) → Fits j → (c : ℕ → Value) (place from k : ℕ) (inverted : Bool) → place < places_of j
    → class_of j c place ≡ Carried from inverted → is_source j c place k ≡ is_source j c from k
source_carried j fits c place from k inverted within is = ⊎_elim here elsewhere (cases_Bool (place == k))
  where
    born : Bool
    born = reads_filling j c k

    cone : in_cone j c place k ≡ (place == k) || (in_cone j c from k || false)
    cone = cone_is j fits c place k within ∙ ap (λ class. (place == k) || list_any (λ support. in_cone j c support k)
        (supports_by (essentials j c place) class)) is

    here : (place == k) ≡ true → is_source j c place k ≡ is_source j c from k
    here same =
        let none : reads_filling j c k ≡ false = subst (λ i. reads_filling j c i ≡ false) (eqb-true place k same)
        (not_born j c place from inverted is) in
        nowhere (in_cone j c place k) (reads_filling j c k) none ∙ sym (nowhere (in_cone j c from k) (reads_filling j c k) none)

    elsewhere : (place == k) ≡ false → is_source j c place k ≡ is_source j c from k
    elsewhere other =
        ap (λ inside. inside && reads_filling j c k) (cone ∙ ap (λ first. first || (in_cone j c from k || false)) other)
        ∙ one_support (in_cone j c from k) (reads_filling j c k)

not_source : (j : Job) → Fits j → (c : ℕ → Value) (root k : ℕ) → root < places_of j → root < k
    → is_source j c root k ≡ false
not_source j fits c root k within behind =
    ⊎_elim (λ (h : is_source j c root k ≡ true).
    (let low = cone_within j fits c root k within
    (and_parts (in_cone j c root k) (reads_filling j c k) h).0 in absurd (omega (arith, low, behind))))
    (λ (h : is_source j c root k ≡ false). h) (cases_Bool (is_source j c root k))

places_same : (p q : ℕ → Bool) (n : ℕ) → ((k : ℕ) → p k ≡ q k) → places_where p n ≡ places_where q n
places_same p q zero same = refl
places_same p q (suc n) same = rw (same n, places_same p q n same) refl

pub sources_carried : (j : Job) → Fits j → (c : ℕ → Value) (place from : ℕ) (inverted : Bool) → place < places_of j
    → class_of j c place ≡ Carried from inverted → sources j c place ≡ sources j c from
sources_carried j fits c place from inverted within is =
    let less = carried_below j fits c place from inverted within is in
    places_same (is_source j c place) (is_source j c from) (place + 1)
    (λ k. source_carried j fits c place from k inverted within is)
    ∙ places_shorter (is_source j c from) (place + 1) (from + 1) (omega (arith, less))
    (λ k up low. not_source j fits c from k (omega (arith, less, within)) (omega (arith, up)))

root_sources_by : (j : Job) → Fits j → (c : ℕ → Value) (place : ℕ) (class : ClassByNumber) → place < places_of j
    → class_of j c place ≡ class → ((from : ℕ) (inverted : Bool) → class_of j c place ≡ Carried from inverted
    → sources j c from ≡ sources j c (root_of j c from).place)
    → sources j c place ≡ sources j c (root_of j c place).place
root_sources_by j fits c place (Local bit) within is earlier = ap (λ (r : Root). sources j c r.place)
    (sym (root_own j c place (ap is_carried is)))
root_sources_by j fits c place Free within is earlier = ap (λ (r : Root). sources j c r.place)
    (sym (root_own j c place (ap is_carried is)))
root_sources_by j fits c place (Carried from inverted) within is earlier =
    sources_carried j fits c place from inverted within is ∙ earlier from inverted is
    ∙ ap (λ (r : Root). sources j c r.place) (sym (root_carried j fits c place from inverted within is))
root_sources_by j fits c place Line within is earlier = ap (λ (r : Root). sources j c r.place)
    (sym (root_own j c place (ap is_carried is)))

root_sources_below : (j : Job) → Fits j → (c : ℕ → Value) (n place : ℕ) → place < n → place < places_of j
    → sources j c place ≡ sources j c (root_of j c place).place
root_sources_below j fits c zero place below within = absurd (omega arith)
root_sources_below j fits c (suc n) place below within =
    root_sources_by j fits c place (class_of j c place) within refl
    (λ from inverted is. (let less = carried_below j fits c place from inverted within is in root_sources_below j
    fits c n from (omega (arith, less, below)) (omega (arith, less, within))))

-- A place has the sources of its root.
pub root_sources : (j : Job) → Fits j → (c : ℕ → Value) (place : ℕ) → place < places_of j
    → sources j c place ≡ sources j c (root_of j c place).place
root_sources j fits c place within = root_sources_below j fits c (suc place) place (omega arith) within

-- An undecided place of a sound waveform has more sources than those of which all fillings are tried.
pub undecided_many : (j : Job) (limits : Limits) → Fits j → (shown : ℕ → Value) (waveform : List Written) (lines : List ALine)
    → Sound j limits shown waveform lines → (place : ℕ) → place < length waveform
    → (written_at waveform place).mark ≡ Undecided → limits.enumerated < length (sources j (certain waveform) place)
undecided_many j limits fits shown waveform lines sound place less is =
    let within : place < places_of j = (let all = sound.within in omega (arith, all, less)) in
    let licence : HasLicence j limits waveform lines place =
    subst (λ mark. SoundBy j limits waveform lines place mark (written_at waveform place).value) is
    (sound.exact place less) in
    subst (λ places. limits.enumerated < length places) (sym (root_sources j fits (certain waveform) place within)) licence.holds.many
