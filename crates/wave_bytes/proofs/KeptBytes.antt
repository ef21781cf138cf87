-- Bytes that say the facts of their places, as they grow.
use Rattle.std.proofs.Common.{◌≡◌, ℕ, ◌+◌, ◌-◌, ◌%◌, ◌<◌, ◌≤◌, Bool, true, false, List, [], ◌∷◌, ◌++◌, length, map}
use Rattle.std.proofs.Common.{refl, sym}
use Rattle.std.proofs.Common.{ap, ◌∙◌, arith, subst, length-append, ⊎_elim}
use Rattle.std.specs.Bool.{OnTrue}
use Rattle.std.proofs.Math.ListN.{get_or-append}
use Rattle.std.proofs.Math.Seq.{get_or-append_seam}
use Rattle.std.proofs.lemmas.Bool.{cases_eq, cases_lt}
use Rattle.std.proofs.lemmas.List.{map-append, length-map}
use Rattle.design_cell.specs.declared.value.Value.{Value}
use Rattle.design_circuit.specs.declared.waveform.Written.{Written}
use Rattle.design_circuit.specs.Fits.{Fits}
use Rattle.design_circuit.specs.Job.{Job, places_of, step_of}
use Rattle.design_circuit.specs.Waveform.{certain, certain_by, unwritten, written_at}
use Rattle.design_circuit.proofs.Rules.{spot}
use Rattle.law_model.specs.Class.{before, is_carried_on, class_of}
use Rattle.law_model.specs.Yields.{is_line}
use Rattle.law_model.specs.declared.class.ClassByNumber.{ClassByNumber}
use Rattle.law_model.proofs.ClassesBefore.{class_local}
use Rattle.law_model.proofs.FactsBefore.{certain_grown, written_last}
use Rattle.law_quiet.specs.OfClass.{AreTold, Facts, facts, facts_by, facts_of, is_plain, keeps_by}
use Rattle.law_quiet.proofs.LawsOfClass.{before_first, before_later, first_step}
use Rattle.wave_bytes.specs.Byte.{facts_in, facts_of_byte, written_of_byte}
use Rattle.wave_bytes.specs.Kept.{BytesTell, IsWrittenBehind, SayTheSame, StepKeeps, ValuesAgree, facts_next}

each_pushed : (P : ℕ → Type 0) (n : ℕ) → ((k : ℕ) → k < n → P k) → P n → (k : ℕ) → k < n + 1 → P k
each_pushed P n earlier last k less = ⊎_elim (λ (here : k ≡ n). subst P (sym here) last)
    (λ (other : k ≡ n → ⊥). earlier k (omega arith)) (cases_eq k n)

-- The place before a place is below it, but in the first step, where no net keeps.
below_first : (w place back : ℕ) → place < w → place ≡ back → back ≤ place
below_first w place back less same = omega (arith, same)

low : (j : Job) → Fits j → (place : ℕ) → place < places_of j → j.width ≤ place → before j place < place
low j fits place within more =
    let e = before_later j fits place within more in
    let some = (spot j fits place within).position in
    omega (arith, e, more, some)

at_most : (j : Job) → Fits j → (place : ℕ) → place < places_of j → before j place ≤ place
at_most j fits place within = ⊎_elim
    (λ (less : place < j.width). below_first j.width place (before j place) less
    (before_first j fits place within less))
    (λ (more : j.width ≤ place). (let less = low j fits place within more in omega (arith, less)))
    (cases_lt place j.width)

first_facts : (step back : ℕ) (class : ClassByNumber) (here v w : Value) → step ≡ 0
    → facts_by step back class here v ≡ facts_by step back class here w
first_facts step back class here v w is = rw is refl

-- So facts depend on what stands below the place, and on its own value.
facts_same : (j : Job) → Fits j → (c d : ℕ → Value) (place : ℕ) (class : ClassByNumber) (here : Value)
    → place < places_of j → ((i : ℕ) → i < place → c i ≡ d i)
    → facts_by (step_of j place) (before j place) class here (c (before j place))
    ≡ facts_by (step_of j place) (before j place) class here (d (before j place))
facts_same j fits c d place class here within same = ⊎_elim
    (λ (less : place < j.width). first_facts (step_of j place) (before j place) class here _ _
    (first_step j.width (step_of j place) (place % j.width) place (spot j fits place within).whole less))
    (λ (more : j.width ≤ place). ap (facts_by (step_of j place) (before j place) class here)
    (same (before j place) (low j fits place within more)))
    (cases_lt place j.width)

last_value : (waveform : List Written) (x : Written) (n : ℕ) → length waveform ≡ n
    → certain (waveform ++ x ∷ []) n ≡ certain_by x.mark x.value
unfolding certain
last_value waveform x n long =
    ap (λ (w : Written). certain_by w.mark w.value)
    (ap (written_at (waveform ++ x ∷ [])) (sym long) ∙ written_last waveform x)

-- What is said exactly is told.
told_exact : (told is : Facts) → told ≡ is → AreTold told is
told_exact told is same =
    subst (AreTold told) same (record { carries = λ h. h; plain = λ h. h; line = λ h. h; keeps = refl })

-- Certain values stay where more is written.
certain_front : (written more : List Written) (k : ℕ) → k < length written
    → certain written k ≡ certain (written ++ more) k
unfolding certain
certain_front written more k less =
    ap (λ (w : Written). certain_by w.mark w.value) (sym (get_or-append written more unwritten k less))

-- So what is told of a place stays true where more bytes are written.
pub told_front : (j : Job) → Fits j → (bytes more : List ℕ) (k : ℕ) → length bytes ≤ places_of j → BytesTell j bytes
    → k < length bytes
    → AreTold (facts_in (bytes ++ more) k) (facts_of j (certain (map written_of_byte (bytes ++ more))) k)
told_front j fits bytes more k within told less =
    subst (λ f. AreTold f (facts_of j d k)) (sym (ap facts_of_byte (get_or-append bytes more 0 k less)))
    (subst (AreTold (facts_in bytes k)) same (told k less))
  where
    c : ℕ → Value
    c = certain (map written_of_byte bytes)

    d : ℕ → Value
    d = certain (map written_of_byte (bytes ++ more))

    long : length (map written_of_byte bytes) ≡ length bytes
    long = length-map bytes written_of_byte

    values : (i : ℕ) → i < length bytes → c i ≡ d i
    values i low = certain_front (map written_of_byte bytes) (map written_of_byte more) i (omega (arith, long, low))
        ∙ ap (λ (written : List Written). certain written i) (sym (map-append written_of_byte bytes more))

    classes : class_of j c k ≡ class_of j d k
    classes = class_local j fits c d k (omega (arith, less, within)) (λ i low. values i (omega (arith, low, less)))

    same : facts_of j c k ≡ facts_of j d k
    same = ap (λ class. facts_by (step_of j k) (before j k) class (c k) (c (before j k))) classes
        ∙ ap (λ v. facts_by (step_of j k) (before j k) (class_of j d k) v (c (before j k))) (values k less)
        ∙ facts_same j fits c d k (class_of j d k) (d k) (omega (arith, less, within))
        (λ i low. values i (omega (arith, low, less)))

pub told_grown : (j : Job) → Fits j → (bytes : List ℕ) (byte : ℕ) → length bytes < places_of j → BytesTell j bytes
    → facts_of_byte byte ≡ facts_next j bytes (written_of_byte byte) → BytesTell j (bytes ++ byte ∷ [])
told_grown j fits bytes byte within told is = λ k less. each_pushed
    (λ k. AreTold (facts_in (bytes ++ byte ∷ []) k) (facts_of j d k)) (length bytes)
    (λ k low. told_front j fits bytes (byte ∷ []) k (omega (arith, within)) told low)
    (told_exact (facts_in (bytes ++ byte ∷ []) (length bytes)) (facts_of j d (length bytes)) last) k
    (let long = length-append bytes (byte ∷ []) in omega (arith, long, less))
  where
    c : ℕ → Value
    c = certain (map written_of_byte bytes)

    d : ℕ → Value
    d = certain (map written_of_byte (bytes ++ byte ∷ []))

    long : length (map written_of_byte bytes) ≡ length bytes
    long = length-map bytes written_of_byte

    grown_is : map written_of_byte bytes ++ written_of_byte byte ∷ [] ≡ map written_of_byte (bytes ++ byte ∷ [])
    grown_is = sym (map-append written_of_byte bytes (byte ∷ []))

    values : (i : ℕ) → i < length bytes → c i ≡ d i
    values i less = certain_grown (map written_of_byte bytes) (written_of_byte byte) i (omega (arith, long, less))
        ∙ ap (λ (written : List Written). certain written i) grown_is

    classes : class_of j c (length bytes) ≡ class_of j d (length bytes)
    classes = class_local j fits c d (length bytes) (omega (arith, within)) (λ i less. values i less)

    here : d (length bytes) ≡ certain_by (written_of_byte byte).mark (written_of_byte byte).value
    here = ap (λ (written : List Written). certain written (length bytes)) (sym grown_is)
        ∙ last_value (map written_of_byte bytes) (written_of_byte byte) (length bytes) long

    last : facts_in (bytes ++ byte ∷ []) (length bytes) ≡ facts_of j d (length bytes)
    last = ap facts_of_byte (get_or-append_seam bytes byte [] 0) ∙ is
        ∙ ap (λ class. facts_by (step_of j (length bytes)) (before j (length bytes)) class
        (certain_by (written_of_byte byte).mark (written_of_byte byte).value) (c (before j (length bytes))))
        classes
        ∙ ap (λ v. facts_by (step_of j (length bytes)) (before j (length bytes)) (class_of j d (length bytes)) v
        (c (before j (length bytes)))) (sym here)
        ∙ facts_same j fits c d (length bytes) (class_of j d (length bytes)) (d (length bytes)) within values

-- The same where the lists are those that a body makes.
pub told_pushed : (j : Job) → Fits j → (bytes : List ℕ) (byte : ℕ) (written : Written) → length bytes < places_of j
    → BytesTell j bytes → written_of_byte byte ≡ written → facts_of_byte byte ≡ facts_next j bytes written
    → (all : List ℕ) → all ≡ bytes ++ byte ∷ [] → BytesTell j all
told_pushed j fits bytes byte written within told written_is is all all_is =
    subst (BytesTell j) (sym all_is)
    (told_grown j fits bytes byte within told (is ∙ ap (facts_next j bytes) (sym written_is)))

pub agrees_pushed : (j : Job) (bytes : List ℕ) (byte : ℕ) (written : Written)
    → ValuesAgree j (map written_of_byte bytes ++ written ∷ []) → written_of_byte byte ≡ written
    → (all : List ℕ) → all ≡ bytes ++ byte ∷ [] → ValuesAgree j (map written_of_byte all)
agrees_pushed j bytes byte written agrees written_is all all_is =
    subst (ValuesAgree j) (sym same) agrees
  where
    same : map written_of_byte all ≡ map written_of_byte bytes ++ written ∷ []
    same = ap (map written_of_byte) all_is ∙ map-append written_of_byte bytes (byte ∷ [])
        ∙ ap (λ (w : Written). map written_of_byte bytes ++ w ∷ []) written_is

four_same : (a b d e p q r s : Bool) → a ≡ p → b ≡ q → d ≡ r → e ≡ s → facts a b d e ≡ facts p q r s
four_same a b d e p q r s ap_is bq_is dr_is es_is = rw (ap_is, bq_is, dr_is, es_is) refl

-- What is found of the class of the next place and of its value are its facts.
pub facts_found : (step back : ℕ) (class : ClassByNumber) (here value_back : Value) (carries plain line keeps : Bool)
    → carries ≡ is_carried_on class back → plain ≡ is_plain class → line ≡ is_line class
    → keeps ≡ keeps_by step here value_back carries
    → facts carries plain line keeps ≡ facts_by step back class here value_back
facts_found step back class here value_back carries plain line keeps carries_is plain_is line_is keeps_is =
    four_same carries plain line keeps _ _ _ _ carries_is plain_is line_is (keeps_is
    ∙ ap (keeps_by step here value_back) carries_is)

pub same_pushed : (bytes : List ℕ) (byte : ℕ) (all : List ℕ) → all ≡ bytes ++ byte ∷ [] → SayTheSame bytes all
same_pushed bytes byte all is = λ k less. ap (λ bs. facts_in bs k) is
    ∙ ap facts_of_byte (get_or-append bytes (byte ∷ []) 0 k less)

-- So all of that is said where the byte is behind them.
pub written_behind : (j : Job) → Fits j → (bytes all : List ℕ) (byte : ℕ) (written : Written)
    → length bytes < places_of j → BytesTell j bytes → ValuesAgree j (map written_of_byte bytes ++ written ∷ [])
    → written_of_byte byte ≡ written → facts_of_byte byte ≡ facts_next j bytes written → all ≡ bytes ++ byte ∷ []
    → IsWrittenBehind j bytes all written
written_behind j fits bytes all byte written within told agrees written_is facts_is all_is = record {
  says = ap (map written_of_byte) all_is ∙ map-append written_of_byte bytes (byte ∷ [])
      ∙ ap (λ (w : Written). map written_of_byte bytes ++ w ∷ []) written_is;
  told = told_pushed j fits bytes byte written within told written_is facts_is all all_is;
  agrees = agrees_pushed j bytes byte written agrees written_is all all_is;
  more = ap length all_is ∙ length-append bytes (byte ∷ []);
  same = same_pushed bytes byte all all_is;
}

-- Where a place more is written in a step, those before it keep as they did.
pub keep_pushed : (bytes all : List ℕ) (position next : ℕ) → length all ≡ length bytes + 1 → SayTheSame bytes all
    → next ≡ position + 1 → StepKeeps bytes position (length bytes) → StepKeeps all next (length all - 1)
keep_pushed bytes all position next more same is keep = λ k from less.
    ap (λ (facts : Facts). facts.keeps) (same k (omega (arith, more, less)))
    ∙ keep k (omega (arith, more, is, from)) (omega (arith, more, less))

pub keep_next : (j : Job) (bytes all : List ℕ) (written : Written) (position next : ℕ) (all_keep : Bool)
    → IsWrittenBehind j bytes all written → (0 < next → next ≡ position + 1)
    → OnTrue all_keep (StepKeeps bytes position (length bytes))
    → OnTrue all_keep (0 < next → StepKeeps all next (length all - 1))
keep_next j bytes all written position next true is behind keep = λ some.
    keep_pushed bytes all position next is.more is.same (behind some) keep
keep_next j bytes all written position next false is behind keep = tt

-- So they do where the last one keeps too; the first place of a step has none before it.
pub keep_to_end : (bytes : List ℕ) (position : ℕ) → 0 < length bytes → StepKeeps bytes position (length bytes - 1)
    → (facts_in bytes (length bytes - 1)).keeps ≡ true → StepKeeps bytes position (length bytes)
keep_to_end bytes position some before last = λ k from less.
    each_pushed (λ k. length bytes - position ≤ k → (facts_in bytes k).keeps ≡ true) (length bytes - 1)
    (λ k less from. before k from less) (λ from. last) k (omega (arith, some, less)) from

pub none_keep : (bytes : List ℕ) (position : ℕ) → position ≡ 0 → StepKeeps bytes position (length bytes)
none_keep bytes position first = λ k from less. absurd (omega (arith, first, from, less))
