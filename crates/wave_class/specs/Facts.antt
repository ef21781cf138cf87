-- What is kept of each place that stands before a place, and how certain values agree with classes.
use Rattle.std.specs.Prelude.{◌≡◌, ℕ, ◌<◌, ◌≤◌, ◌==◌, ◌&&◌, ◌||◌, Bool, true, false, not, refl}
use Rattle.std.specs.Coded.{Coded, Coded-set, Unit-prop, code_by, coded_bool, coded×}
use Rattle.design_cell.specs.declared.value.Value.{Value}
use Rattle.design_cell.specs.declared.value.Value.TheVariants.{Zero, One, X, Z}
use Rattle.design_cell.specs.Value.{bit_value}
use Rattle.design_circuit.specs.Job.{Job, step_of}
use Rattle.law_model.specs.Class.{are_equal, before, is_carried_on, class_of}
use Rattle.law_model.specs.Yields.{flipped_value, is_line}
use Rattle.law_model.specs.declared.class.ClassByNumber.{ClassByNumber}
use Rattle.law_model.specs.declared.class.ClassByNumber.TheVariants.{Local, Free, Carried, Line}

-- A place is Carried from the step before as it is, it is Local or Free, it is Line, and its net keeps there.
pub record Facts : Type 0 where
  pub carries : Bool
  pub plain : Bool
  pub line : Bool
  pub keeps : Bool

abbrev pub is_plain : ClassByNumber → Bool
is_plain (Local bit) = true
is_plain Free = true
is_plain (Carried from inverted) = false
is_plain Line = false

-- A net keeps at a step, by its certain values there and a step before, and by whether its place carries on.
abbrev pub keeps_by : ℕ → Value → Value → Bool → Bool
keeps_by step here back carries = not (step == 0) && (are_equal here back || carries)

-- The same of a place of a net.
abbrev pub keeps_since : Job → (ℕ → Value) → ℕ → Value → Bool → Bool
keeps_since j certain place here carries = keeps_by (step_of j place) here (certain (before j place)) carries

abbrev pub place_is_carried_on : Job → (ℕ → Value) → ℕ → Bool
place_is_carried_on j certain place = is_carried_on (class_of j certain place) (before j place)

abbrev pub facts : Bool → Bool → Bool → Bool → Facts
facts carries plain line keeps = record { carries = carries; plain = plain; line = line; keeps = keeps }

-- They, by the step and the class of a place, the place before it, and the certain values of both; and those of a
-- place.
abbrev pub facts_by : ℕ → ℕ → ClassByNumber → Value → Value → Facts
facts_by step back class here value_back =
    facts (is_carried_on class back) (is_plain class) (is_line class)
    (keeps_by step here value_back (is_carried_on class back))

abbrev pub facts_of : Job → (ℕ → Value) → ℕ → Facts
facts_of j certain place =
    facts_by (step_of j place) (before j place) (class_of j certain place) (certain place) (certain (before j place))

-- What is told of a place is true: of its class perhaps not all, and of its net whether it keeps there.
pub record AreTold (told facts : Facts) : Type 0 where
  pub carries : told.carries ≡ true → facts.carries ≡ true
  pub plain : told.plain ≡ true → facts.plain ≡ true
  pub line : told.line ≡ true → facts.line ≡ true
  pub keeps : told.keeps ≡ facts.keeps

-- So it is of each place before a place.
abbrev pub AreFacts : Job → (ℕ → Value) → (ℕ → Facts) → ℕ → Type 0
AreFacts j certain facts place = (k : ℕ) → k < place → AreTold (facts k) (facts_of j certain k)

-- A place is told to be neither Local nor Free.
abbrev pub is_open : Facts → Bool
is_open facts = facts.carries || facts.line

-- The nets of the places from a first one up to another keep there.
abbrev pub AllKeep : (ℕ → Facts) → ℕ → ℕ → Type 0
AllKeep facts first place = (k : ℕ) → first ≤ k → k < place → (facts k).keeps ≡ true

-- The certain value of a place agrees with its class: a local place has its bit, a free one isn't certain, and a
-- carried one has the value of the place that it is carried from, inverted where the class says so.
abbrev pub AgreesWith : (ℕ → Value) → ClassByNumber → Value → Type 0
AgreesWith certain (Local bit) value = value ≡ bit_value bit
AgreesWith certain Free value = value ≡ X
AgreesWith certain (Carried from inverted) value = value ≡ flipped_value inverted (certain from)
AgreesWith certain Line value = Unit {0}

-- So it does at each place before a place.
abbrev pub AgreeBefore : Job → (ℕ → Value) → ℕ → Type 0
AgreeBefore j certain place = (k : ℕ) → k < place → AgreesWith certain (class_of j certain k) (certain k)

-- The class of a place that is local or free, by its certain value or by what its rule gives.
abbrev pub plain_class : Value → ClassByNumber
plain_class Zero = Local false
plain_class One = Local true
plain_class X = Free
plain_class Z = Free

-- ---- each is true in one way, as a fact on a type has to be

abbrev bits_of : Value → Bool × Bool
bits_of Zero = (false, false)
bits_of One = (false, true)
bits_of X = (true, false)
bits_of Z = (true, true)

abbrev value_of : Bool × Bool → Value
value_of (false, false) = Zero
value_of (false, true) = One
value_of (true, false) = X
value_of (true, true) = Z

value_back : (v : Value) → value_of (bits_of v) ≡ v
value_back Zero = refl
value_back One = refl
value_back X = refl
value_back Z = refl

abbrev value_code : Coded Value
value_code = code_by (Bool × Bool) (coded× coded_bool coded_bool) bits_of value_of value_back

AreTold-prop : (told facts : Facts) → IsProp (AreTold told facts)
AreTold-prop told facts x y = λ i. record {
  carries = λ on. Coded-set coded_bool _ _ (x.carries on) (y.carries on) i;
  plain = λ on. Coded-set coded_bool _ _ (x.plain on) (y.plain on) i;
  line = λ on. Coded-set coded_bool _ _ (x.line on) (y.line on) i;
  keeps = Coded-set coded_bool _ _ x.keeps y.keeps i;
}

pub AreFacts-prop : (j : Job) (certain : ℕ → Value) (facts : ℕ → Facts) (place : ℕ)
    → IsProp (AreFacts j certain facts place)
AreFacts-prop j certain facts place x y = λ i k less.
    AreTold-prop (facts k) (facts_of j certain k) (x k less) (y k less) i

AgreesWith-prop : (certain : ℕ → Value) (class : ClassByNumber) (value : Value)
    → IsProp (AgreesWith certain class value)
AgreesWith-prop certain (Local bit) value = Coded-set value_code _ _
AgreesWith-prop certain Free value = Coded-set value_code _ _
AgreesWith-prop certain (Carried from inverted) value = Coded-set value_code _ _
AgreesWith-prop certain Line value = Unit-prop

pub AgreeBefore-prop : (j : Job) (certain : ℕ → Value) (place : ℕ) → IsProp (AgreeBefore j certain place)
AgreeBefore-prop j certain place x y = λ i k less.
    AgreesWith-prop certain (class_of j certain k) (certain k) (x k less) (y k less) i
