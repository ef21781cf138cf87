-- Places ahead of the first one that isn't known yet.
use Rattle.std.proofs.Common.{◌≡◌, ℕ, ◌-◌, ◌%◌, ◌<◌, ◌≤◌, ◌==◌, ◌&&◌, ◌||◌, not, Bool, true, false, List, [], ◌∷◌, refl}
use Rattle.std.proofs.Common.{sym, ap, ◌∙◌, arith, ⊎_elim, if◌then◌else◌}
use Rattle.std.specs.Prelude.{nat_lt}
use Rattle.std.specs.List.{AllByRecursion}
use Rattle.std.proofs.lemmas.Bool.{cases_lt, eq-eqb, lt-ltb, ltb-true}
use Rattle.design_cell.specs.declared.value.Value.{Value}
use Rattle.design_circuit.specs.Fits.{Fits, StandsBefore}
use Rattle.design_circuit.specs.Job.{Job, at, places_of, step_of}
use Rattle.design_circuit.specs.Order.{arguments_of_driver}
use Rattle.design_circuit.proofs.Rules.{AgreeBelow, spot}
use Rattle.law_model.specs.Class.{are_equal, before, class_of, is_carried_on, keeps}
use Rattle.law_model.specs.declared.class.ClassByNumber.{ClassByNumber}
use Rattle.law_model.specs.declared.class.ClassByNumber.TheVariants.{Carried}
use Rattle.law_model.proofs.CarryLaw.{net_at, step_at}
use Rattle.law_quiet.specs.Due.{driver_of}
use Rattle.law_quiet.specs.Ahead.{AlongLaw, HereLaw, taken_on}
use Rattle.law_quiet.specs.Laws.{Rests}
use Rattle.law_quiet.proofs.QuietAlong.{StillKeeps, back_low, keeps_local, quiet_along, quiet_local, reads_still}
use Rattle.law_quiet.proofs.QuietTests.{quiet_later, quiet_tested}

-- A place before the first has its own class, and any other is taken to be carried on.
by_less : (b : Bool) (class other : ClassByNumber) → b ≡ true → (if b then class else other) ≡ class
by_less true class other is = refl
by_less false class other is = cc

by_more : (b : Bool) (class other : ClassByNumber) → b ≡ false → (if b then class else other) ≡ other
by_more true class other is = cc
by_more false class other is = refl

pub taken_keeps : (j : Job) (c : ℕ → Value) (class : ℕ → ClassByNumber) (first step net : ℕ) → at j step net < first
    → keeps j c (taken_on j class first) step net ≡ keeps j c class step net
taken_keeps j c class first step net less =
    ap (λ k. not (step == 0) && (are_equal (c (at j step net)) (c (at j (step - 1) net))
    || is_carried_on k (at j (step - 1) net)))
    (by_less (nat_lt (at j step net) first) (class (at j step net)) _ (lt-ltb (at j step net) first less))

or_right : (a b : Bool) → b ≡ true → a || b ≡ true
or_right false b is = is
or_right true b is = refl

not_less : (m n : ℕ) → n ≤ m → nat_lt m n ≡ false
not_less m n up = no (nat_lt m n) (λ h. (let less = ltb-true m n h in omega (arith, less, up)))
  where
    no : (b : Bool) → (b ≡ true → ⊥) → b ≡ false
    no false none = refl
    no true none = absurd (none refl)

on_itself : (j : Job) → Fits j → (step net : ℕ) → net < j.width
    → is_carried_on (Carried (before j (at j step net)) false) (at j (step - 1) net) ≡ true
on_itself j fits step net low =
    rw (
      step_at j fits step net low,
      net_at j fits step net low,
      eq-eqb (at j (step - 1) net) (at j (step - 1) net)
          refl,
    ) refl

pub ahead_keeps : (j : Job) → Fits j → (c : ℕ → Value) (class : ℕ → ClassByNumber) (first step net : ℕ) → net < j.width
    → (step == 0) ≡ false → first ≤ at j step net → keeps j c (taken_on j class first) step net ≡ true
ahead_keeps j fits c class first step net low later up =
    ap (λ k. not (step == 0) && (are_equal (c (at j step net)) (c (at j (step - 1) net))
    || is_carried_on k (at j (step - 1) net)))
    (by_more (nat_lt (at j step net) first) (class (at j step net)) (Carried (before j (at j step net)) false)
    (not_less (at j step net) first up))
    ∙ (rw later (or_right (are_equal (c (at j step net)) (c (at j (step - 1) net)))
    (is_carried_on (Carried (before j (at j step net)) false) (at j (step - 1) net)) (on_itself j fits step net low)))

pub here_law : HereLaw
here_law j c place fits within rests =
    let whole = (spot j fits place within).whole in
    let later = quiet_later j c (taken_on j (class_of j c) place) place rests in
    (quiet_tested j c (class_of j c) place).0
    (quiet_along j fits c c (taken_on j (class_of j c) place) (class_of j c) place within (λ k less. refl)
    (reads_still j fits c c (taken_on j (class_of j c) place) (class_of j c) place within
    (λ net low less keep. sym (taken_keeps j c (class_of j c) place (step_of j place) net less) ∙ keep))
    (λ net low keep. (let less = back_low j fits place net within later low in
    sym (taken_keeps j c (class_of j c) place (step_of j place - 1) net (omega (arith, less, whole))) ∙ keep))
    ((quiet_tested j c (taken_on j (class_of j c) place) place).1 rests))

pub rests_local : (j : Job) → Fits j → (c d : ℕ → Value) (place : ℕ) → place < places_of j → AgreeBelow c d place
    → Rests j c place → Rests j d place
rests_local j fits c d place within agree rests =
    (quiet_tested j d (class_of j d) place).0
    (quiet_local j fits c d place within agree ((quiet_tested j c (class_of j c) place).1 rests))

-- A net that its driver reads.
read_still : (j : Job) → Fits j → (c d : ℕ → Value) (first next step net : ℕ) → first ≤ places_of j → first ≤ next
    → net < j.width → (step == 0) ≡ false → AgreeBelow c d first
    → (first ≤ at j step net → at j step net < next → keeps j d (class_of j d) step net ≡ true)
    → StillKeeps j c d (taken_on j (class_of j c) first) (taken_on j (class_of j d) next) step net
read_still j fits c d first next step net within up low later agree between keep =
    ⊎_elim (λ (h : at j step net < first). earlier h) (λ (h : first ≤ at j step net). behind h)
    (cases_lt (at j step net) first)
  where
    earlier : at j step net < first → keeps j d (taken_on j (class_of j d) next) step net ≡ true
    earlier h = taken_keeps j d (class_of j d) next step net (omega arith)
        ∙ sym (keeps_local j fits c d first step net within agree h)
        ∙ sym (taken_keeps j c (class_of j c) first step net h) ∙ keep

    behind : first ≤ at j step net → keeps j d (taken_on j (class_of j d) next) step net ≡ true
    behind h = ⊎_elim (λ (less : at j step net < next). taken_keeps j d (class_of j d) next step net less
        ∙ between h less)
        (λ (more : next ≤ at j step net). ahead_keeps j fits d (class_of j d) next step net low later more)
        (cases_lt (at j step net) next)

reads_along : (j : Job) → Fits j → (c d : ℕ → Value) (first next step position : ℕ) (nets : List ℕ)
    → first ≤ places_of j
    → first ≤ next → (step == 0) ≡ false → AgreeBelow c d first → AllByRecursion (StandsBefore j position) nets
    → AllByRecursion (λ net. first ≤ at j step net → at j step net < next
    → keeps j d (class_of j d) step net ≡ true) nets
    → AllByRecursion (StillKeeps j c d (taken_on j (class_of j c) first) (taken_on j (class_of j d) next) step) nets
reads_along j fits c d first next step position [] within up later agree stands between = tt
reads_along j fits c d first next step position (net ∷ nets) within up later agree stands between = (
  read_still j fits c d first next step net within up stands.0.within later agree between.0,
  reads_along j fits c d first next step position nets within up later agree stands.1 between.1,
)

pub along_law : AlongLaw
along_law j c d first next place fits ahead up on agree between rests =
    let within = ahead.within in
    let behind = ahead.behind in
    let row = ahead.in_step in
    let step = step_of j place in
    let early = taken_on j (class_of j c) first in
    let late = taken_on j (class_of j d) next in
    let later = quiet_later j c early place rests in
    let s = spot j fits place within in
    (quiet_tested j d late place).0
    (quiet_along j fits c d early late place within (λ k less. agree k (omega (arith, less, row)))
    (reads_along j fits c d first next step (place % j.width) (arguments_of_driver (driver_of j place))
    (omega (arith, within, behind)) up later agree s.before between)
    (λ net low keep. (let less = back_low j fits place net within later low in
    taken_keeps j d (class_of j d) next (step - 1) net (omega (arith, less, row, up))
    ∙ sym (keeps_local j fits c d first (step - 1) net (omega (arith, within, behind)) agree (omega (arith, less, row)))
    ∙ sym (taken_keeps j c (class_of j c) first (step - 1) net (omega (arith, less, row))) ∙ keep))
    ((quiet_tested j c early place).1 rests))
