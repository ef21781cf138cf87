-- The class of a copy, and of a place whose arguments are all certain.
use Rattle.std.proofs.Common.{◌≡◌, ℕ, ◌/◌, ◌<◌, Bool, true, false, [], ◌∷◌, refl, sym, ap, ◌∙◌, arith, if◌then◌else◌}
use Rattle.std.proofs.Common.{subst}
use Rattle.std.proofs.lemmas.Bool.{eq-eqb}
use Rattle.design_cell.specs.declared.value.Value.{Value}
use Rattle.design_cell.specs.declared.value.Value.TheVariants.{Zero, One, X, Z}
use Rattle.design_cell.specs.Value.{bit_value, is_unknown}
use Rattle.design_circuit.specs.declared.design.Driver.TheVariants.{Constant, Copy, Input}
use Rattle.design_circuit.specs.Fits.{Fits}
use Rattle.design_circuit.specs.Job.{Job, at, net_of, places_of, step_of}
use Rattle.design_circuit.specs.Rule.{arguments, arguments_of, born, known_or, rule, rule_of}
use Rattle.design_circuit.specs.World.{decided}
use Rattle.law_model.specs.Assignment.{assigned, for_every}
use Rattle.law_model.specs.Class.{before, carried_or_line, class_of, is_bit, is_carrier, is_free, is_local, keeps}
use Rattle.law_model.specs.Class.{passes_on, passes_on_of}
use Rattle.law_model.specs.Mask.{masked}
use Rattle.law_model.specs.declared.class.ClassByNumber.{ClassByNumber}
use Rattle.law_model.specs.declared.class.ClassByNumber.TheVariants.{Local, Free, Carried, Line}
use Rattle.law_model.proofs.Assignments.{passes_every}
use Rattle.wave_class.specs.Arguments.{uncertain_places}
use Rattle.wave_class.specs.Facts.{AreFacts, Facts, plain_class}
use Rattle.wave_class.specs.Keeps.{class_here, net_keeps}
use Rattle.wave_class.specs.Test.{ReadsOnly, passes, test_of}
use Rattle.wave_class.specs.Wires.{CopiesFrom}
use Rattle.wave_class.specs.declared.test.Test.{Test}
use Rattle.wave_class.specs.declared.test.Test.TheVariants.{Bit, Unknown, Copies}
use Rattle.wave_class.proofs.StepBefore.{keeps_at}
use Rattle.wave_class.proofs.PassingTests.{number_fails, numbers_pass}

-- Where no argument is uncertain, a test passes for every assignment where it passes for the one.
passes_one : (j : Job) → Fits j → (c : ℕ → Value) (place : ℕ) (test : Test) → place < places_of j
    → ReadsOnly j c place test → uncertain_places j c place ≡ []
    → passes j c place test ≡ test_of j c place test (assigned c (masked [] 0))
passes_one j fits c place test within reads none =
    by (test_of j c place test (assigned c (masked [] 0))) refl
  where
    by : (b : Bool) → test_of j c place test (assigned c (masked [] 0)) ≡ b → passes j c place test ≡ b
    by true is = numbers_pass j fits c place test within reads [] (sym none)
        (λ m less. (let zero_m : m ≡ 0 = omega arith in
        subst (λ n. test_of j c place test (assigned c (masked [] n)) ≡ true) (sym zero_m) is))
    by false is = number_fails j c place test reads [] 0 is

-- So the rule's value there is its class.
pub settled_is : (j : Job) → Fits j → (c : ℕ → Value) (place : ℕ) → place < places_of j
    → uncertain_places j c place ≡ []
    → class_here j c place ≡ plain_class (rule j c (assigned c (masked [] 0)) place)
settled_is j fits c place within none =
    rw (
      passes_one j fits c place (Bit false) within tt none,
      passes_one j fits c place (Bit true) within tt none,
      passes_one j fits c place Unknown within tt none,
    ) (by_value (rule j c (assigned c (masked [] 0)) place) _)
  where
    by_value : (v : Value) (other : ClassByNumber)
        → (if is_bit v false then Local false else if is_bit v true then Local true
        else if is_unknown v then Free else other)
        ≡ plain_class v
    by_value Zero other = refl
    by_value One other = refl
    by_value X other = refl
    by_value Z other = refl

-- What a copy gives, and the one place that it reads.
rule_copy : (j : Job) (c : ℕ → Value) (bits : ℕ → Bool) (place net : ℕ) → j.driver (net_of j place) ≡ Copy net
    → rule j c bits place ≡ bit_value (bits (at j (step_of j place) net))
unfolding rule
rule_copy j c bits place net is = ap (rule_of j c bits (step_of j place) (net_of j place)) is

copy_reads : (j : Job) (c : ℕ → Value) (place net : ℕ) → j.driver (net_of j place) ≡ Copy net
    → arguments j c place ≡ at j (step_of j place) net ∷ []
unfolding arguments
copy_reads j c place net is = ap (arguments_of j c (step_of j place) (net_of j place)) is

-- It has its argument's bit where that is certain. Else it is carried from the step before where its argument keeps, or
-- from the argument.
abbrev pub copied_of : Value → Bool → ℕ → ℕ → ClassByNumber
copied_of Zero keeps back from = Local false
copied_of One keeps back from = Local true
copied_of X keeps back from = if keeps then Carried back false else Carried from false
copied_of Z keeps back from = if keeps then Carried back false else Carried from false

no_bit : (a b d e : Bool) (x y : ClassByNumber) → a ≡ false → b ≡ false → d ≡ false
    → (if a then Local false else if b then Local true else if d then Free else if e then x else y)
    ≡ (if e then x else y)
no_bit a b d e x y is_a is_b is_d = rw (is_a, is_b, is_d) refl

bit_own : (b : Bool) → is_bit (bit_value b) b ≡ true
bit_own false = refl
bit_own true = refl

-- An uncertain argument's bit is chosen.
open_copy : (j : Job) → (c : ℕ → Value) (place net : ℕ) → j.driver (net_of j place) ≡ Copy net
    → ((bit : Bool) → decided (c (at j (step_of j place) net)) bit ≡ bit)
    → is_unknown (c (at j (step_of j place) net)) ≡ true
    → class_here j c place ≡ (if net_keeps j c (step_of j place) net then Carried (before j place) false
    else Carried (at j (step_of j place) net) false)
open_copy j c place net driver chosen unknown =
    no_bit (is_local j c place false) (is_local j c place true) (is_free j c place)
    (passes_on j c (class_of j c) place) (Carried (before j place) false)
    (carried_or_line j c place (arguments j c place)) zero_fails one_fails x_fails
    ∙ ap (λ e. if e then Carried (before j place) false else carried_or_line j c place (arguments j c place)) on
    ∙ ap (λ y. if net_keeps j c (step_of j place) net then Carried (before j place) false else y) line
  where
    from : ℕ
    from = at j (step_of j place) net

    given : (bits : ℕ → Bool) → rule j c (assigned c bits) place ≡ bit_value (bits from)
    given bits = rule_copy j c (assigned c bits) place net driver ∙ ap bit_value (chosen (bits from))

    one_there : masked (from ∷ []) 1 from ≡ true
    one_there = rw (eq-eqb from from refl) refl

    zero_fails : is_local j c place false ≡ false
    zero_fails = number_fails j c place (Bit false) tt (from ∷ []) 1
        (ap (λ v. is_bit v false) (given (masked (from ∷ []) 1) ∙ ap bit_value one_there))

    one_fails : is_local j c place true ≡ false
    one_fails = number_fails j c place (Bit true) tt [] 0 (ap (λ v. is_bit v true) (given (masked [] 0)))

    x_fails : is_free j c place ≡ false
    x_fails = number_fails j c place Unknown tt [] 0 (ap is_unknown (given (masked [] 0)))

    on : passes_on j c (class_of j c) place ≡ net_keeps j c (step_of j place) net
    on = ap (passes_on_of j c (class_of j c) place (step_of j place) (net_of j place)) driver

    copies : passes j c place (Copies from false) ≡ true
    copies = passes_every j c place (test_of j c place (Copies from false))
        (λ bits. ap (λ v. is_bit v (assigned c bits from)) (given bits)
        ∙ ap (λ b. is_bit (bit_value (bits from)) b) (chosen (bits from)) ∙ bit_own (bits from))

    carried : is_carrier j c place from false ≡ true
    carried = rw (unknown, copies) refl

    line : carried_or_line j c place (arguments j c place) ≡ Carried from false
    line = ap (carried_or_line j c place) (copy_reads j c place net driver)
        ∙ ap (λ b. if b then Carried from false
        else if is_carrier j c place from true then Carried from true else Line) carried

-- Where the rule gives one value for every assignment, the class is the value's.
pub class_given : (j : Job) (c : ℕ → Value) (place : ℕ) (v : Value)
    → ((bits : ℕ → Bool) → rule j c (assigned c bits) place ≡ v) → class_here j c place ≡ plain_class v
class_given j c place v gives = by v gives
  where
    rest : ClassByNumber
    rest = if passes_on j c (class_of j c) place then Carried (before j place) false
        else carried_or_line j c place (arguments j c place)

    holds : (test : Value → Bool) (w : Value) → ((bits : ℕ → Bool) → rule j c (assigned c bits) place ≡ w)
        → test w ≡ true → for_every j c place (λ bits. test (rule j c bits place)) ≡ true
    holds test w given is = passes_every j c place (λ bits. test (rule j c bits place))
        (λ bits. ap test (given bits) ∙ is)

    fails : (bit : Bool) (w : Value) → ((bits : ℕ → Bool) → rule j c (assigned c bits) place ≡ w)
        → is_bit w bit ≡ false → is_local j c place bit ≡ false
    fails bit w given is =
        number_fails j c place (Bit bit) tt [] 0 (ap (λ x. is_bit x bit) (given (masked [] 0)) ∙ is)

    by : (w : Value) → ((bits : ℕ → Bool) → rule j c (assigned c bits) place ≡ w) → class_here j c place ≡ plain_class w
    by Zero given = ap (λ a. if a then Local false else if is_local j c place true then Local true
        else if is_free j c place then Free else rest) (holds (λ x. is_bit x false) Zero given refl)
    by One given = (rw (fails false One given refl, holds (λ x. is_bit x true) One given refl) refl)
    by X given = (rw (fails false X given refl, fails true X given refl, holds is_unknown X given refl) refl)
    by Z given = (rw (fails false Z given refl, fails true Z given refl, holds is_unknown Z given refl) refl)

plain_bit : (bit : Bool) → plain_class (bit_value bit) ≡ Local bit
plain_bit false = refl
plain_bit true = refl

given_is : (j : Job) (c : ℕ → Value) (place : ℕ) (bit : Bool)
    → ((bits : ℕ → Bool) → rule j c (assigned c bits) place ≡ bit_value bit) → class_here j c place ≡ Local bit
given_is j c place bit gives = class_given j c place (bit_value bit) gives ∙ plain_bit bit

-- So for a constant, and for an input that the recording knows.
rule_constant : (j : Job) (c : ℕ → Value) (bits : ℕ → Bool) (place : ℕ) (bit : Bool)
    → j.driver (net_of j place) ≡ Constant bit → rule j c bits place ≡ bit_value bit
unfolding rule
rule_constant j c bits place bit driver = ap (rule_of j c bits (step_of j place) (net_of j place)) driver

pub constant_is : (j : Job) (c : ℕ → Value) (place : ℕ) (bit : Bool) → j.driver (net_of j place) ≡ Constant bit
    → class_here j c place ≡ Local bit
constant_is j c place bit driver = given_is j c place bit (λ bits. rule_constant j c (assigned c bits) place bit driver)

known_stands : (bit : Bool) (other : Value) → known_or (bit_value bit) other ≡ bit_value bit
known_stands false other = refl
known_stands true other = refl

rule_input : (j : Job) (c : ℕ → Value) (bits : ℕ → Bool) (place : ℕ) (bit : Bool) → j.driver (net_of j place) ≡ Input
    → j.recorded (step_of j place / j.rounds) (net_of j place) ≡ bit_value bit → rule j c bits place ≡ bit_value bit
unfolding rule
rule_input j c bits place bit driver recorded = ap (rule_of j c bits (step_of j place) (net_of j place)) driver
    ∙ ap (λ v. known_or v (born j bits (step_of j place) (net_of j place))) recorded
    ∙ known_stands bit (born j bits (step_of j place) (net_of j place))

pub input_is : (j : Job) (c : ℕ → Value) (place : ℕ) (bit : Bool) → j.driver (net_of j place) ≡ Input
    → j.recorded (step_of j place / j.rounds) (net_of j place) ≡ bit_value bit → class_here j c place ≡ Local bit
input_is j c place bit driver recorded =
    given_is j c place bit (λ bits. rule_input j c (assigned c bits) place bit driver recorded)

pub copied_is : (j : Job) → (c : ℕ → Value) (place net : ℕ) (v : Value) → j.driver (net_of j place) ≡ Copy net
    → c (at j (step_of j place) net) ≡ v
    → class_here j c place
    ≡ copied_of v (net_keeps j c (step_of j place) net) (before j place) (at j (step_of j place) net)
copied_is j c place net Zero driver is = given_is j c place false
    (λ bits. rule_copy j c (assigned c bits) place net driver
    ∙ ap (λ v. bit_value (decided v (bits (at j (step_of j place) net)))) is)
copied_is j c place net One driver is = given_is j c place true
    (λ bits. rule_copy j c (assigned c bits) place net driver
    ∙ ap (λ v. bit_value (decided v (bits (at j (step_of j place) net)))) is)
copied_is j c place net X driver is =
    open_copy j c place net driver (λ bit. ap (λ v. decided v bit) is) (ap is_unknown is)
copied_is j c place net Z driver is =
    open_copy j c place net driver (λ bit. ap (λ v. decided v bit) is) (ap is_unknown is)

-- The same by the place that it reads, and by what is kept of that.
pub copied_from : (j : Job) → Fits j → (c : ℕ → Value) (facts : ℕ → Facts) (place from : ℕ) (v : Value)
    → CopiesFrom j place from → AreFacts j c facts place → v ≡ c from
    → class_here j c place ≡ copied_of v (facts from).keeps (before j place) from
copied_from j fits c facts place from v copies are v_is =
    let step = step_of j place in
    let is = copies.from_is in
    let earlier = copies.earlier in
    let keeps_is : (facts from).keeps ≡ net_keeps j c step copies.net = ap (λ k. (facts k).keeps) is
    ∙ (are (at j step copies.net) (omega (arith, is, earlier))).keeps
    ∙ keeps_at j fits c step copies.net copies.within in
    copied_is j c place copies.net v copies.driver (ap c (sym is) ∙ sym v_is)
    ∙ ap (λ k. copied_of v k (before j place) (at j step copies.net)) (sym keeps_is)
    ∙ ap (copied_of v (facts from).keeps (before j place)) (sym is)

pub copied_open : (v : Value) → (v ≡ Zero → ⊥) → (v ≡ One → ⊥) → (keeps : Bool) (back from : ℕ)
    → copied_of v keeps back from ≡ (if keeps then Carried back false else Carried from false)
copied_open Zero not_zero not_one keeps back from = absurd (not_zero refl)
copied_open One not_zero not_one keeps back from = absurd (not_one refl)
copied_open X not_zero not_one keeps back from = refl
copied_open Z not_zero not_one keeps back from = refl
