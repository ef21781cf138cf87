-- Starts that are set only choose among the worlds that there were.
use Rattle.std.proofs.Common.{◌≡◌, ℕ, zero, suc, ◌+◌, ◌-◌, ◌*◌, ◌%◌, ◌<◌, ◌≤◌, ◌==◌, ◌&&◌, ◌||◌, not, Bool, true, false, List, [], ◌∷◌, length, refl, sym, ap, ◌∙◌, arith, subst, ⊎_elim, slice_index_or, if◌then◌else◌, Some}
use Rattle.std.specs.Int.{bit_at}
use Rattle.std.specs.List.{AllByRecursion}
use Rattle.std.proofs.lemmas.Bool.{cases_Bool}
use Rattle.design_cell.specs.Below.{any_below}
use Rattle.design_cell.specs.declared.value.Value.{Value}
use Rattle.design_cell.specs.declared.value.Value.TheVariants.{Zero, One, X, Z}
use Rattle.design_cell.specs.Value.{IsKnown, bit_value, is_one, is_unknown}
use Rattle.design_circuit.specs.declared.design.Driver.{Driver}
use Rattle.design_circuit.specs.declared.design.Driver.TheVariants.{Input, Undriven, Constant, Copy, Cell, Register}
use Rattle.design_circuit.specs.declared.design.Latching.{Latching}
use Rattle.design_circuit.specs.declared.design.Pin.{Pin}
use Rattle.design_circuit.specs.declared.design.Pin.TheVariants.{Net, Bit, Dead}
use Rattle.design_circuit.specs.declared.place.Place.{Place}
use Rattle.design_circuit.specs.declared.stim.StartRule.TheVariants.{Recorded}
use Rattle.design_circuit.specs.declared.waveform.Mark.{Mark}
use Rattle.design_circuit.specs.declared.waveform.Mark.TheVariants.{Certain, Unknown, Undecided}
use Rattle.design_circuit.specs.declared.waveform.Written.{Written}
use Rattle.design_circuit.specs.Filling.{IsFilling, bit_of}
use Rattle.design_circuit.specs.Fits.{Fits, FitsDriver, StandsBefore}
use Rattle.design_circuit.specs.Job.{Job, net_of, places_of, step_of}
use Rattle.design_circuit.specs.Register.{before_start, has_uncertain_clock, has_unknown_clock, old_pins, pins_at, pins_back, two_back}
use Rattle.design_circuit.specs.Rule.{old_places, places_at, places_back, register_rule, rule, rule_of}
use Rattle.design_circuit.proofs.TwoBack.{back_later}
use Rattle.design_circuit.specs.Waveform.{Settles, certain, certain_by, written_at}
use Rattle.design_circuit.specs.World.{decided, world_bit}
use Rattle.design_circuit.proofs.Exact.{empty_filling}
use Rattle.design_circuit.proofs.Numbers.{bit_of_at, filling_at, is_place_at}
use Rattle.design_circuit.proofs.Rules.{new_below, old_below, rule_local, spot}
use Rattle.design_circuit.proofs.Worlds.{world_is}
use Rattle.law_model.specs.Places.{among, places_where}
use Rattle.law_model.specs.Sound.{SoundBy}
use Rattle.law_model.specs.declared.line.Line.{Line as ALine}
use Rattle.law_model.proofs.PlacesWhere.{in_picked, picked_below, picked_in, picked_rises}
use Rattle.law_model.proofs.SoundWorlds.{certain_settles}
use Rattle.law_model.specs.declared.limits.Limits.{Limits}
use Rattle.law_waveforms.specs.Starts.{AreSet, CertainStays, JobsWithStarts, StartsFit, WorldsOfFirst, is_register, set_filling, with_set, with_starts}

-- ---- the second job

not_z : (v : Value) → IsKnown v → v ≡ Z → ⊥
not_z Zero known is = cc
not_z One known is = cc
not_z X known is = known
not_z Z known is = known

stand_so : (j : Job) (start : ℕ → Value) (p : ℕ) (nets : List ℕ) → AllByRecursion (StandsBefore j p) nets
    → AllByRecursion (StandsBefore (with_starts j start) p) nets
stand_so j start p [] all = tt
stand_so j start p (net ∷ nets) all = (
  record { within = all.0.within; before = all.0.before },
  stand_so j start p nets all.1,
)

pub starts_fit : StartsFit
starts_fit j start fits sets = record {
  ordering = fits.ordering;
  all = fits.all;
  arguments = λ p less. stand_so j start p _ (fits.arguments p less);
  pins = fits.pins;
  start = λ net within is. ⊎_elim (λ (same : start net ≡ j.start net). fits.start net within (sym same ∙ is))
      (λ (set : (j.start net ≡ X) × IsKnown (start net)). not_z (start net) set.1 is) (sets net within);
  some_round = fits.some_round;
  few_rounds = fits.few_rounds;
  few_nets = fits.few_nets;
  few_places = fits.few_places;
}

pub jobs_with_starts : JobsWithStarts
jobs_with_starts design order a b same = rw (same.times, same.rounds, same.inputs, same.rules) refl

-- ---- the filling

picked_is : (test : ℕ → Bool) (n k : ℕ) → k < n → among (places_where test n) k ≡ test k
picked_is test n k less =
    ⊎_elim (λ (e : test k ≡ true). picked_in test n k less e ∙ sym e)
    (λ (e : test k ≡ false). not_in e ∙ sym e) (cases_Bool (test k))
  where
    not_in : test k ≡ false → among (places_where test n) k ≡ false
    not_in e = ⊎_elim (λ (h : among (places_where test n) k ≡ true).
        (let is = (in_picked test n k h).1 in let clash : true ≡ false = sym is ∙ e in cc))
        (λ (h : among (places_where test n) k ≡ false). h) (cases_Bool (among (places_where test n) k))

set_is_filling : (j : Job) → Fits j → (start : ℕ → Value) (filling : List Place) → IsFilling j (set_filling j start
    filling)
set_is_filling j fits start filling =
    let test = with_set j start (bit_of j filling) in
    filling_at j (places_where test (places_of j)) fits.ordering fits.all (picked_below test (places_of j))
    (picked_rises test (places_of j))

set_bit : (j : Job) → Fits j → (start : ℕ → Value) (filling : List Place) (place : ℕ) → place < places_of j
    → bit_of j (set_filling j start filling) place ≡ with_set j start (bit_of j filling) place
set_bit j fits start filling place within =
    let test = with_set j start (bit_of j filling) in
    bit_of_at j (places_where test (places_of j)) place fits.ordering fits.all (picked_below test (places_of j))
    ∙ picked_is test (places_of j) place within

-- ---- clock pins

-- What is known in one list of values is known in another.
abbrev KnownThere : List Value → List Value → Type 0
KnownThere xs ys = (i : ℕ) → is_unknown (slice_index_or xs i X) ≡ false → is_unknown (slice_index_or ys i X) ≡ false

pins_known_there : (j : Job) (c d : ℕ → Value) (step : ℕ) (pins : List Pin)
    → AllByRecursion (λ k. is_unknown (c k) ≡ false → is_unknown (d k) ≡ false) (places_at j step pins)
    → KnownThere (pins_at j c step pins) (pins_at j d step pins)
pins_known_there j c d step [] all i known = known
pins_known_there j c d step (Net net ∷ pins) all zero known = all.0 known
pins_known_there j c d step (Net net ∷ pins) all (suc i) known = pins_known_there j c d step pins all.1 i known
pins_known_there j c d step (Bit bit ∷ pins) all zero known = known
pins_known_there j c d step (Bit bit ∷ pins) all (suc i) known = pins_known_there j c d step pins all i known
pins_known_there j c d step (Dead ∷ pins) all zero known = known
pins_known_there j c d step (Dead ∷ pins) all (suc i) known = pins_known_there j c d step pins all i known

or_none : (a b : Bool) → a || b ≡ false → (a ≡ false) × (b ≡ false)
or_none false false h = (refl, refl)
or_none false true h = cc
or_none true b h = cc

none_or : (a b : Bool) → a ≡ false → b ≡ false → a || b ≡ false
none_or a b first second = rw (first, second) refl

guarded : (b x y : Bool) → (x ≡ false → y ≡ false) → b && x ≡ false → b && y ≡ false
guarded false x y same h = refl
guarded true x y same h = same h

below_none : (n : ℕ) (p q : ℕ → Bool) → ((i : ℕ) → p i ≡ false → q i ≡ false) → any_below n p ≡ false
    → any_below n q ≡ false
below_none zero p q each h = refl
below_none (suc n) p q each h =
    let parts = or_none (any_below n p) (p n) h in
    none_or (any_below n q) (q n) (below_none n p q each parts.0) (each n parts.1)

pins_long : (j : Job) (c d : ℕ → Value) (step : ℕ) (pins : List Pin)
    → length (pins_at j c step pins) ≡ length (pins_at j d step pins)
pins_long j c d step [] = refl
pins_long j c d step (pin ∷ pins) = ap suc (pins_long j c d step pins)

-- Clock pins that are certain in the first waveform are so in the second.
clock_there : (j : Job) (c d : ℕ → Value) (step clocks : ℕ) (pins : List Pin)
    → AllByRecursion (λ k. is_unknown (c k) ≡ false → is_unknown (d k) ≡ false) (places_at j step pins)
    → has_unknown_clock clocks (pins_at j c step pins) ≡ false → has_unknown_clock clocks (pins_at j d step pins) ≡
    false
clock_there j c d step clocks pins all none =
    let xs = pins_at j c step pins in
    let ys = pins_at j d step pins in
    ap (λ n. any_below n (λ i. (bit_at clocks i == 1) && is_unknown (slice_index_or ys i X))) (sym (pins_long j c d
    step pins))
    ∙ below_none (length xs) (λ i. (bit_at clocks i == 1) && is_unknown (slice_index_or xs i X))
    (λ i. (bit_at clocks i == 1) && is_unknown (slice_index_or ys i X))
    (λ i h. guarded (bit_at clocks i == 1) (is_unknown (slice_index_or xs i X)) (is_unknown (slice_index_or ys i X))
    (pins_known_there j c d step pins all i) h) none

all_below : (P : ℕ → Type 0) (n : ℕ) (places : List ℕ) → AllByRecursion (λ k. k < n) places
    → ((k : ℕ) → k < n → P k) → AllByRecursion P places
all_below P n [] below each = tt
all_below P n (k ∷ places) below each = (each k below.0, all_below P n places below.1 each)

-- Under recorded starts two steps back stands a step of the job, step 0 at step 1.
back_recorded : (j : Job) (step : ℕ) → j.start_rule ≡ Recorded → two_back j step ≡ Some (step - 2)
back_recorded j zero is = refl
back_recorded j (suc zero) is = ap before_start is
back_recorded j (suc (suc step)) is = back_later j (suc (suc step)) (omega arith)

-- ---- the rule of a place

known_bit : (v : Value) → is_unknown v ≡ false → (bit : Bool) × (v ≡ bit_value bit)
known_bit Zero known = (false, refl)
known_bit One known = (true, refl)
known_bit X known = cc
known_bit Z known = cc

bit_known : (v : Value) (bit : Bool) → v ≡ bit_value bit → is_unknown v ≡ false
bit_known v false is = ap is_unknown is
bit_known v true is = ap is_unknown is

-- A start that stays, and one that is set.
start_same : (a b : Value) (x : Bool) → a ≡ b
    → decided a x ≡ decided b (if is_unknown b && not (is_unknown a) then is_one a else x)
start_same Zero b x same = subst (λ b. decided Zero x ≡ decided b (if is_unknown b && true then false else x)) same refl
start_same One b x same = subst (λ b. decided One x ≡ decided b (if is_unknown b && true then true else x)) same refl
start_same X b x same = subst (λ b. x ≡ decided b (if is_unknown b && false then false else x)) same refl
start_same Z b x same = subst (λ b. x ≡ decided b (if is_unknown b && false then false else x)) same refl

start_set : (a b : Value) (x : Bool) → b ≡ X → IsKnown a
    → decided a x ≡ decided b (if is_unknown b && not (is_unknown a) then is_one a else x)
start_set Zero b x is known = rw is refl
start_set One b x is known = rw is refl
start_set X b x is known = absurd known
start_set Z b x is known = absurd known

later_rule : (first unsure : Bool) (s a b : Value) → first ≡ false → unsure ≡ false
    → (if first then s else if unsure then a else b) ≡ b
later_rule first unsure s a b later sure = rw (later, sure) refl

first_rule : (first : Bool) (s other : Value) → first ≡ true → (if first then s else other) ≡ s
first_rule first s other is = rw is refl

-- The bit that is chosen at a place with a driver.
abbrev chosen : Job → (ℕ → Value) → ℕ → ℕ → Driver → Bool → Bool
chosen j start step net driver x = if (step == 0) && (is_register driver
    && (is_unknown (j.start net) && not (is_unknown (start net)))) then is_one (start net) else x

chosen_other : (j : Job) (start : ℕ → Value) (step net : ℕ) (driver : Driver) (x : Bool) → is_register driver ≡ false
    → chosen j start step net driver x ≡ x
chosen_other j start step net driver x other =
    ap (λ b. if (step == 0) && (b && (is_unknown (j.start net) && not (is_unknown (start net)))) then is_one (start
    net) else x) other
    ∙ none (step == 0)
  where
    none : (b : Bool) → (if b && false then is_one (start net) else x) ≡ x
    none false = refl
    none true = refl

chosen_later : (j : Job) (start : ℕ → Value) (step net : ℕ) (driver : Driver) (x : Bool) → (step == 0) ≡ false
    → chosen j start step net driver x ≡ x
chosen_later j start step net driver x later =
    ap (λ b. if b && (is_register driver && (is_unknown (j.start net) && not (is_unknown (start net)))) then is_one
    (start net) else x) later

settled_certain : (j : Job) (limits : Limits) (waveform : List Written) (lines : List ALine) (place : ℕ) (mark : Mark)
    (value : Value) (bit : Bool) → SoundBy j limits waveform lines place mark value → (mark ≡ Undecided → ⊥)
    → Settles j waveform place bit → certain_by mark value ≡ bit_value bit
settled_certain j limits waveform lines place Certain Zero bit sound decided settles =
    ap bit_value (sym (sound [] (empty_filling j)) ∙ settles [] (empty_filling j))
settled_certain j limits waveform lines place Certain One bit sound decided settles =
    ap bit_value (sym (sound [] (empty_filling j)) ∙ settles [] (empty_filling j))
settled_certain j limits waveform lines place Certain X bit sound decided settles = absurd sound
settled_certain j limits waveform lines place Certain Z bit sound decided settles = absurd sound
settled_certain j limits waveform lines place Unknown value bit sound decided settles =
    let zero : false ≡ bit = sym sound.gives_zero ∙ settles _ sound.zero_filling in
    let one : true ≡ bit = sym sound.gives_one ∙ settles _ sound.one_filling in
    let clash : true ≡ false = one ∙ sym zero in cc
settled_certain j limits waveform lines place Undecided value bit sound decided settles = absurd (decided refl)

module _ (j : Job) (start : ℕ → Value) (v w : List Written) (lines more : List ALine)
    (are : AreSet j start v w lines more) where
  abbrev k : Job
  k = with_starts j start

  -- What is known before the place in the first waveform is known in the second.
  abbrev KnownBefore : ℕ → Type 0
  KnownBefore place = (i : ℕ) → i < place → is_unknown (certain v i) ≡ false → is_unknown (certain w i) ≡ false

  fits_second : Fits k
  fits_second = starts_fit j start are.fits are.sets

  old_is : (c : ℕ → Value) (step : ℕ) (pins : List Pin) → old_pins j c step pins ≡ pins_at j c (step - 2) pins
  old_is c step pins = ap (pins_back j c pins) (back_recorded j step are.recorded)

  old_there : (step : ℕ) (pins : List Pin) → old_places j step pins ≡ places_at j (step - 2) pins
  old_there step pins = ap (places_back j pins) (back_recorded j step are.recorded)

  -- The clock pins of a register are certain where it looks back.
  clocks_there : (place : ℕ) → place < places_of j → KnownBefore place → (latching : Latching)
      → j.driver (net_of j place) ≡ Register latching → (step_of j place == 0) ≡ false
      → (has_uncertain_clock j (certain v) (step_of j place) latching ≡ false)
      × (has_uncertain_clock k (certain w) (step_of j place) latching ≡ false)
  clocks_there place within known latching is later =
      let step = step_of j place in
      let pins = latching.pins in
      let s = spot j are.fits place within in
      let driver : FitsDriver j.udps j.width (Register latching) = subst (FitsDriver j.udps j.width) is s.driver in
      let steps : step < j.moments * j.rounds = (is_place_at j place are.fits.ordering are.fits.all within).step in
      let old = are.clocks (step - 2) (net_of j place) latching (omega (arith, steps)) s.net is in
      let new = are.clocks (step - 1) (net_of j place) latching (omega (arith, steps)) s.net is in
      let n = step * j.width + place % j.width in
      let each : (i : ℕ) → i < n → is_unknown (certain v i) ≡ false → is_unknown (certain w i) ≡ false =
      subst (λ m. (i : ℕ) → i < m → is_unknown (certain v i) ≡ false → is_unknown (certain w i) ≡ false) (sym s.whole)
      known in
      let old_low : AllByRecursion (λ i. i < n) (places_at j (step - 2) pins) =
      subst (AllByRecursion (λ i. i < n)) (old_there step pins) (old_below j are.fits step (place % j.width) latching
      driver later) in
      let new_low : AllByRecursion (λ i. i < n) (places_at j (step - 1) pins) =
      new_below j are.fits step (place % j.width) latching driver later in
      let P : ℕ → Type 0 = λ i. is_unknown (certain v i) ≡ false → is_unknown (certain w i) ≡ false in
      let old_w = clock_there j (certain v) (certain w) (step - 2) latching.clocks pins
      (all_below P n (places_at j (step - 2) pins) old_low each) old in
      let new_w = clock_there j (certain v) (certain w) (step - 1) latching.clocks pins
      (all_below P n (places_at j (step - 1) pins) new_low each) new in (
        none_or _ _ (ap (has_unknown_clock latching.clocks) (old_is (certain v) step pins) ∙ old) new,
        none_or _ _ (ap (has_unknown_clock latching.clocks) (old_is (certain w) step pins) ∙ old_w) new_w,
      )

  -- On the same bits the rules of the two jobs give the same bit, the set starts being chosen.
  rules_same : (place : ℕ) → place < places_of j → KnownBefore place → (bits : ℕ → Bool) (x : Bool) (driver : Driver)
      → j.driver (net_of j place) ≡ driver
      → decided (rule_of k (certain w) bits (step_of j place) (net_of j place) driver) x
      ≡ decided (rule_of j (certain v) bits (step_of j place) (net_of j place) driver)
      (chosen j start (step_of j place) (net_of j place) driver x)
  rules_same place within known bits x Input is =
      ap (decided (rule_of j (certain v) bits (step_of j place) (net_of j place) Input))
      (sym (chosen_other j start (step_of j place) (net_of j place) Input x refl))
  rules_same place within known bits x Undriven is =
      ap (decided (rule_of j (certain v) bits (step_of j place) (net_of j place) Undriven))
      (sym (chosen_other j start (step_of j place) (net_of j place) Undriven x refl))
  rules_same place within known bits x (Constant bit) is =
      ap (decided (rule_of j (certain v) bits (step_of j place) (net_of j place) (Constant bit)))
      (sym (chosen_other j start (step_of j place) (net_of j place) (Constant bit) x refl))
  rules_same place within known bits x (Copy argument) is =
      ap (decided (rule_of j (certain v) bits (step_of j place) (net_of j place) (Copy argument)))
      (sym (chosen_other j start (step_of j place) (net_of j place) (Copy argument) x refl))
  rules_same place within known bits x (Cell table pins) is =
      ap (decided (rule_of j (certain v) bits (step_of j place) (net_of j place) (Cell table pins)))
      (sym (chosen_other j start (step_of j place) (net_of j place) (Cell table pins) x refl))
  rules_same place within known bits x (Register latching) is =
      let step = step_of j place in
      let net = net_of j place in
      let s = spot j are.fits place within in
      ⊎_elim (λ (first : (step == 0) ≡ true).
      (ap (λ value. decided value x) (first_rule (step == 0) (start net) _ first)
      ∙ ⊎_elim (λ (same : start net ≡ j.start net). start_same (start net) (j.start net) x same)
      (λ (set : (j.start net ≡ X) × IsKnown (start net)). start_set (start net) (j.start net) x set.0 set.1) (are.sets
      net s.net)
      ∙ ap (λ value. decided value (if is_unknown (j.start net) && not (is_unknown (start net)) then is_one (start
      net) else x))
      (sym (first_rule (step == 0) (j.start net) _ first))
      ∙ ap (λ b. decided (register_rule j (certain v) bits step net latching)
      (if b && (true && (is_unknown (j.start net) && not (is_unknown (start net)))) then is_one (start net) else x))
      (sym first)))
      (λ (later : (step == 0) ≡ false). (let sure = clocks_there place within known latching is later in
      ap (λ value. decided value x) (later_rule (step == 0) (has_uncertain_clock k (certain w) step latching) (start
      net) _ _ later sure.1
      ∙ sym (later_rule (step == 0) (has_uncertain_clock j (certain v) step latching) (j.start net) _ _ later sure.0))
      ∙ ap (decided (register_rule j (certain v) bits step net latching))
      (sym (chosen_later j start step net (Register latching) x later)))) (cases_Bool (step == 0))

  -- ---- the worlds

  abbrev Same : ℕ → Type 0
  Same place = (filling : List Place) → IsFilling k filling
      → world_bit k (certain w) (bit_of k filling) place
      ≡ world_bit j (certain v) (bit_of j (set_filling j start filling)) place

  same_here : (place : ℕ) → place < places_of j → KnownBefore place → ((i : ℕ) → i < place → Same i) → Same place
  unfolding rule
  same_here place within known earlier filling filled =
      let own = bit_of k filling in
      let set = bit_of j (set_filling j start filling) in
      let f = world_bit k (certain w) own in
      let g = world_bit j (certain v) set in
      let driver = j.driver (net_of j place) in
      world_is k fits_second (certain w) own place within
      ∙ rules_same place within known f (own place) driver refl
      ∙ ap (λ value. decided value (with_set j start (bit_of j filling) place))
      (rule_local j are.fits (certain v) (certain v) f g place within (λ i low. refl)
      (λ i low. earlier i low filling filled))
      ∙ ap (decided (rule j (certain v) g place)) (sym (set_bit j are.fits start filling place within))
      ∙ sym (world_is j are.fits (certain v) set place within)

  -- Where the worlds are, what is certain stays.
  certain_there : (i : ℕ) → i < length w → Same i → (bit : Bool) → certain v i ≡ bit_value bit → certain w i ≡
      bit_value bit
  unfolding certain
  certain_there i less same bit is =
      let all = are.second.within in
      let whole = are.whole in
      let settles = certain_settles j are.limits are.shown v lines are.first i bit (omega (arith, less, all, whole)) is
      in
      settled_certain k are.bounds w more i (written_at w i).mark (written_at w i).value bit (are.second.exact i less)
      (are.decided i less)
      (λ filling filled. same filling filled
      ∙ settles (set_filling j start filling) (set_is_filling j are.fits start filling))

  known_there : (i : ℕ) → i < length w → Same i → is_unknown (certain v i) ≡ false → is_unknown (certain w i) ≡ false
  known_there i less same known =
      let bit = known_bit (certain v i) known in
      bit_known (certain w i) bit.0 (certain_there i less same bit.0 bit.1)

  same_below : (n place : ℕ) → place < n → place < places_of j → place ≤ length w → Same place
  same_below zero place before within up = absurd (omega (arith, before))
  same_below (suc n) place before within up =
      same_here place within
      (λ i low. known_there i (omega (arith, low, up)) (same_below n i (omega (arith, low, before)) (omega (
        arith,
        low,
        within,
      ))
      (omega (arith, low, up)))) (λ i low. same_below n i (omega (arith, low, before)) (omega (arith, low, within))
      (omega (arith, low, up)))

pub worlds_of_first : WorldsOfFirst
worlds_of_first j start v w lines more are filling filled = record {
  filled = set_is_filling j are.fits start filling;
  same = λ place within up. same_below j start v w lines more are (suc place) place (omega arith) within up filling
      filled;
}

pub certain_stays : CertainStays
certain_stays j start v w lines more are place bit less is =
    let all = are.second.within in
    certain_there j start v w lines more are place less
    (same_below j start v w lines more are (suc place) place (omega arith) (omega (arith, less, all)) (omega (
      arith,
      less,
    ))) bit is
