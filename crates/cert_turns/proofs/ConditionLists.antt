-- Conditions of places, one more at a time.
use Rattle.std.proofs.Common.{◌≡◌, ℕ, ◌+◌, ◌<◌, true, false, List, [], ◌∷◌, ◌++◌, filter, length, map, take, refl, sym, ap, ◌∙◌, subst, get_or, append-nil, arith, suc}
use Rattle.std.proofs.lemmas.List.{map-append}
use Rattle.std.proofs.lemmas.List.Elements.{filter-append}
use Rattle.std.proofs.Math.Seq.{take-suc}
use Rattle.design_cell.specs.declared.value.Value.{Value}
use Rattle.design_cell.specs.declared.value.Value.TheVariants.{Zero, One, X, Z}
use Rattle.design_cell.specs.Value.{bit_value, is_unknown}
use Rattle.design_circuit.specs.declared.place.Place.{Place}
use Rattle.design_circuit.specs.Job.{Job, number_of, places_of}
use Rattle.design_circuit.specs.Waveform.{certain}
use Rattle.design_circuit.specs.World.{decided}
use Rattle.law_model.specs.Cone.{is_carried}
use Rattle.law_model.specs.declared.line.Line.{Line as ALine}
use Rattle.cert_condition.specs.Laws.{HasCertainBit}
use Rattle.cert_condition.specs.View.{ConditionView, IsConditionOf, StayLaw as OneStays, settled_bit}
use Rattle.wave_proved.specs.Contents.{Contents, IsWave, class_in, job}
use Rattle.cert_turns.specs.Laws.{StayLaw}
use Rattle.cert_turns.proofs.SettledLines.{settled_at}
use Rattle.cert_turns.specs.Conditions.{AreConditionsOf, IsFinishedAt, IsCertainLine, gives_bit, settled_places}

-- A value that is known is that of its bit.
known_bit : (value : Value) → is_unknown value ≡ false → value ≡ bit_value (decided value false)
known_bit Zero is = refl
known_bit One is = refl
known_bit X is = cc
known_bit Z is = cc

-- A certain Line place has a value.
pub settled_has : (c : Contents) (place : Place) → IsCertainLine c place → number_of (job c) place < places_of (job c)
    → is_carried (class_in c (number_of (job c) place)) ≡ false
    → HasCertainBit (job c) c.written (number_of (job c) place) (settled_bit c (number_of (job c) place))
settled_has c place settled within free = record {
  written = settled.written;
  within = within;
  free = free;
  has = known_bit (certain c.written (number_of (job c) place)) settled.known;
}

-- One condition more.
conditions_append : (c : Contents) (places : List Place) (views : List ConditionView) (place : Place)
    (view : ConditionView) → AreConditionsOf c places views → IsFinishedAt c place view
    → AreConditionsOf c (places ++ place ∷ []) (views ++ view ∷ [])
conditions_append c [] [] place view are is = (is, tt)
conditions_append c [] (first ∷ views) place view are is = absurd are
conditions_append c (p ∷ places) [] place view are is = absurd are
conditions_append c (p ∷ places) (first ∷ views) place view are is =
    (are.0, conditions_append c places views place view are.1 is)

-- The lines up to and with one.
settled_take : (lines : List ALine) (i : ℕ) (d : ALine) → i < length lines
    → settled_places (take (i + 1) lines)
    ≡ settled_places (take i lines) ++ settled_places (get_or lines i d ∷ [])
settled_take lines i d less =
    let e : i + 1 ≡ suc i = omega arith in
    ap (λ n. settled_places (take n lines)) e ∙ ap settled_places (take-suc lines i d less)
    ∙ ap (map (λ (line : ALine). line.place))
    (filter-append (λ (line : ALine). gives_bit line.body) (take i lines) (get_or lines i d ∷ []))
    ∙ map-append (λ (line : ALine). line.place) (filter (λ (line : ALine). gives_bit line.body) (take i lines))
    (filter (λ (line : ALine). gives_bit line.body) (get_or lines i d ∷ []))

settled_one : (line : ALine) → gives_bit line.body ≡ true → settled_places (line ∷ []) ≡ line.place ∷ []
settled_one line gives = rw gives refl

settled_none : (line : ALine) → gives_bit line.body ≡ false → settled_places (line ∷ []) ≡ []
settled_none line gives = rw gives refl

pub conditions_more : (c : Contents) (lines : List ALine) (i : ℕ) (d : ALine) (views : List ConditionView)
    (view : ConditionView) → i < length lines → gives_bit (get_or lines i d).body ≡ true
    → AreConditionsOf c (settled_places (take i lines)) views → IsFinishedAt c (get_or lines i d).place view
    → AreConditionsOf c (settled_places (take (i + 1) lines)) (views ++ view ∷ [])
conditions_more c lines i d views view less gives are is =
    subst (λ ps. AreConditionsOf c ps (views ++ view ∷ []))
    (sym (settled_take lines i d less
    ∙ ap (λ ps. settled_places (take i lines) ++ ps) (settled_one (get_or lines i d) gives)))
    (conditions_append c (settled_places (take i lines)) views (get_or lines i d).place view are is)

pub conditions_same : (c : Contents) (lines : List ALine) (i : ℕ) (d : ALine) (views : List ConditionView)
    → i < length lines → gives_bit (get_or lines i d).body ≡ false
    → AreConditionsOf c (settled_places (take i lines)) views
    → AreConditionsOf c (settled_places (take (i + 1) lines)) views
conditions_same c lines i d views less gives are =
    subst (λ ps. AreConditionsOf c ps views)
    (sym (settled_take lines i d less
    ∙ ap (λ ps. settled_places (take i lines) ++ ps) (settled_none (get_or lines i d) gives)
    ∙ append-nil (settled_places (take i lines)))) are

-- Conditions stay those of their places.
pub conditions_stay : OneStays → StayLaw
conditions_stay stays c d [] [] grown limit wave are = tt
conditions_stay stays c d [] (view ∷ views) grown limit wave are = absurd are
conditions_stay stays c d (place ∷ places) [] grown limit wave are = absurd are
conditions_stay stays c d (place ∷ places) (view ∷ views) grown limit wave are = (
  record {
    is = subst (λ (j : Job). IsConditionOf d (number_of j place) view) (sym grown.same)
        (stays c d (number_of (job c) place) view grown limit wave are.0.is);
    none_due = are.0.none_due;
  },
  conditions_stay stays c d places views grown limit wave are.1,
)

-- The same of the lines of a wave.
pub settled_here : (c : Contents) (lines : List ALine) (i : ℕ) (d line : ALine) → IsWave c → lines ≡ c.lines
    → i < length lines → line ≡ get_or lines i d → gives_bit line.body ≡ true → IsCertainLine c line.place
settled_here c lines i d line wave same less is gives =
    let there : line ≡ get_or c.lines i d = is ∙ ap (λ ls. get_or ls i d) same in
    let long = ap length same in
    subst (λ (l : ALine). IsCertainLine c l.place) (sym there)
    (settled_at c i d wave (omega (arith, less, long))
    (subst (λ (l : ALine). gives_bit l.body ≡ true) there gives))

pub more_here : (c : Contents) (lines : List ALine) (i : ℕ) (d line : ALine) (views new : List ConditionView)
    (view : ConditionView) → lines ≡ c.lines → i < length lines → line ≡ get_or lines i d
    → gives_bit line.body ≡ true → AreConditionsOf c (settled_places (take i c.lines)) views
    → IsFinishedAt c line.place view → new ≡ views ++ view ∷ []
    → AreConditionsOf c (settled_places (take (i + 1) c.lines)) new
more_here c lines i d line views new view same less is gives are finished pushed =
    let there : line ≡ get_or c.lines i d = is ∙ ap (λ ls. get_or ls i d) same in
    let long = ap length same in
    subst (AreConditionsOf c (settled_places (take (i + 1) c.lines))) (sym pushed)
    (conditions_more c c.lines i d views view (omega (arith, less, long))
    (subst (λ (l : ALine). gives_bit l.body ≡ true) there gives) are
    (subst (λ (l : ALine). IsFinishedAt c l.place view) there finished))

pub same_here : (c : Contents) (lines : List ALine) (i : ℕ) (d line : ALine) (views : List ConditionView)
    → lines ≡ c.lines → i < length lines → line ≡ get_or lines i d → gives_bit line.body ≡ false
    → AreConditionsOf c (settled_places (take i c.lines)) views
    → AreConditionsOf c (settled_places (take (i + 1) c.lines)) views
same_here c lines i d line views same less is gives are =
    let there : line ≡ get_or c.lines i d = is ∙ ap (λ ls. get_or ls i d) same in
    let long = ap length same in
    conditions_same c c.lines i d views (omega (arith, less, long))
    (subst (λ (l : ALine). gives_bit l.body ≡ false) there gives) are
