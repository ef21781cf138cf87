-- What is found at a place from which its class follows.
use Rattle.std.proofs.Common.{◌≡◌, ℕ, ◌-◌, ◌<◌, ◌==◌, not, Bool, true, false, refl, sym, ap, ◌∙◌, arith, subst}
use Rattle.std.proofs.Common.{if◌then◌else◌}
use Rattle.design_cell.specs.declared.value.Value.{Value}
use Rattle.design_cell.specs.declared.value.Value.TheVariants.{Zero, One, X, Z}
use Rattle.design_cell.specs.Value.{bit_value, is_unknown}
use Rattle.design_circuit.specs.declared.design.Driver.{Driver}
use Rattle.design_circuit.specs.Fits.{Fits}
use Rattle.design_circuit.specs.Job.{Job, net_of, places_of, step_of}
use Rattle.design_circuit.specs.Rule.{arguments, rule, rule_of}
use Rattle.design_circuit.specs.World.{decided}
use Rattle.design_circuit.proofs.Rules.{rule_reads, spot}
use Rattle.law_model.specs.Assignment.{assigned}
use Rattle.law_model.specs.Class.{before, carried_or_line, class_of, is_bit, is_free, is_local, is_never_unknown}
use Rattle.law_model.specs.Class.{passes_on}
use Rattle.law_model.specs.declared.class.ClassByNumber.{ClassByNumber}
use Rattle.law_model.specs.declared.class.ClassByNumber.TheVariants.{Local, Free, Carried}
use Rattle.law_model.proofs.Assignments.{every_passes, passes_every}
use Rattle.law_model.proofs.CarryLaw.{back_of, net_at, step_at}
use Rattle.law_model.proofs.ClassFromClasses.{class_is}
use Rattle.law_model.proofs.Classes.{bit_is}
use Rattle.wave_class.specs.Facts.{AgreeBefore, AgreesWith}
use Rattle.wave_class.proofs.MovedRules.{RulesMove, kinds_moved, rule_here as rule_there}
use Rattle.law_quiet.specs.Laws.{SaysTheSame}

-- The rule of a place, and that of its net's place a step before.
pub rule_here : (j : Job) (c : ℕ → Value) (bits : ℕ → Bool) (place : ℕ) (driver : Driver)
    → j.driver (net_of j place) ≡ driver
    → rule j c bits place ≡ rule_of j c bits (step_of j place) (net_of j place) driver
rule_here j c bits place driver is = rule_there j c bits place (step_of j place) (net_of j place) driver refl refl is

pub rule_before : (j : Job) → Fits j → (c : ℕ → Value) (bits : ℕ → Bool) (place : ℕ) (driver : Driver)
    → place < places_of j
    → j.driver (net_of j place) ≡ driver
    → rule j c bits (before j place) ≡ rule_of j c bits (step_of j place - 1) (net_of j place) driver
rule_before j fits c bits place driver within is =
    let low = (spot j fits place within).net in
    rule_there j c bits (before j place) (step_of j place - 1) (net_of j place) driver
    (step_at j fits (step_of j place - 1) (net_of j place) low) (net_at j fits (step_of j place - 1) (net_of j place)
    low) is

-- What a test of all assignments says of one.
pub local_gives : (j : Job) (c : ℕ → Value) (place : ℕ) (bit : Bool) (bits : ℕ → Bool) → is_local j c place bit ≡ true
    → rule j c (assigned c bits) place ≡ bit_value bit
local_gives j c place bit bits local = bit_is (rule j c (assigned c bits) place) bit
    (every_passes j c place (λ b. is_bit (rule j c b place) bit)
    (λ f g agree. ap (λ v. is_bit v bit) (rule_reads j c f g place agree)) local bits)

pub free_gives : (j : Job) (c : ℕ → Value) (place : ℕ) (bits : ℕ → Bool) → is_free j c place ≡ true
    → is_unknown (rule j c (assigned c bits) place) ≡ true
free_gives j c place bits free = every_passes j c place (λ b. is_unknown (rule j c b place))
    (λ f g agree. ap is_unknown (rule_reads j c f g place agree)) free bits

pub never_gives : (j : Job) (c : ℕ → Value) (place : ℕ) (bits : ℕ → Bool) → is_never_unknown j c place ≡ true
    → not (is_unknown (rule j c (assigned c bits) place)) ≡ true
never_gives j c place bits never = every_passes j c place (λ b. not (is_unknown (rule j c b place)))
    (λ f g agree. ap (λ v. not (is_unknown v)) (rule_reads j c f g place agree)) never bits

bit_itself : (bit : Bool) → is_bit (bit_value bit) bit ≡ true
bit_itself false = refl
bit_itself true = refl

pub gives_local : (j : Job) (c : ℕ → Value) (place : ℕ) (bit : Bool)
    → ((bits : ℕ → Bool) → rule j c (assigned c bits) place ≡ bit_value bit) → is_local j c place bit ≡ true
gives_local j c place bit gives = passes_every j c place (λ b. is_bit (rule j c b place) bit)
    (λ bits. ap (λ v. is_bit v bit) (gives bits) ∙ bit_itself bit)

-- Its own place before has a value that its class says.
first_local : (bit : Bool) (a b : Bool) (rest : ClassByNumber) → (a ≡ true → bit ≡ false) → (bit ≡ false → a ≡ true)
    → (bit ≡ true → b ≡ true) → (if a then Local false else if b then Local true else rest) ≡ Local bit
first_local false a b rest only zero_is one_is = rw (zero_is refl) refl
first_local true true b rest only zero_is one_is = let e = only refl in cc
first_local true false b rest only zero_is one_is = rw (one_is refl) refl

zero_bit : (bit : Bool) → bit_value bit ≡ Zero → bit ≡ false
zero_bit false is = refl
zero_bit true is = cc

local_class : (j : Job) → Fits j → (c : ℕ → Value) (place : ℕ) (bit : Bool) → place < places_of j
    → is_local j c place bit ≡ true → class_of j c place ≡ Local bit
local_class j fits c place bit within local =
    class_is j fits c place within ∙ first_local bit (is_local j c place false) (is_local j c place true) _
    (λ h. zero_bit bit (sym (local_gives j c place bit (λ k. false) local)
    ∙ local_gives j c place false (λ k. false) h))
    (λ e. ap (is_local j c place) (sym e) ∙ local) (λ e. ap (is_local j c place) (sym e) ∙ local)

pub local_value : (j : Job) → Fits j → (c : ℕ → Value) (place k : ℕ) (bit : Bool) → place < places_of j → k < place
    → AgreeBefore j c place → is_local j c k bit ≡ true → c k ≡ bit_value bit
local_value j fits c place k bit within less agree local =
    subst (λ class. AgreesWith c class (c k)) (local_class j fits c k bit (omega arith) local) (agree k less)

-- Where the place is local, its bit is certain in its net's place before; it isn't free; and else it passes its net's
-- bit on.
pub record Finding (j : Job) (c : ℕ → Value) (place : ℕ) : Type 0 where
  pub local : (bit : Bool) → is_local j c place bit ≡ true → c (before j place) ≡ bit_value bit
  pub free : is_free j c place ≡ true → ⊥
  pub passes : is_local j c place false ≡ false → is_local j c place true ≡ false
      → passes_on j c (class_of j c) place ≡ true

pick : (Says : ClassByNumber → Type 0) (a b d e : Bool) (from : ℕ) (other : ClassByNumber)
    → (a ≡ true → Says (Local false)) → (b ≡ true → Says (Local true)) → (d ≡ true → ⊥)
    → (a ≡ false → b ≡ false → e ≡ true) → Says (Carried from false)
    → Says (if a then Local false else if b then Local true else if d then Free else if e then Carried from
    false else other)
pick Says true b d e from other zeros ones free passes on = zeros refl
pick Says false true d e from other zeros ones free passes on = ones refl
pick Says false false true e from other zeros ones free passes on = absurd (free refl)
pick Says false false false true from other zeros ones free passes on = on
pick Says false false false false from other zeros ones free passes on = let none = passes refl refl in cc

-- So its class says the same.
pub found_same : (j : Job) → Fits j → (c : ℕ → Value) (place : ℕ) → place < places_of j → Finding j c place
    → SaysTheSame j c place (class_of j c place)
found_same j fits c place within found =
    subst (SaysTheSame j c place) (sym (class_is j fits c place within))
    (pick (SaysTheSame j c place) (is_local j c place false) (is_local j c place true) (is_free j c place)
    (passes_on j c (class_of j c) place) (before j place) (carried_or_line j c place (arguments j c place))
    (found.local false) (found.local true) found.free found.passes (refl, refl))

-- A place whose rule moves is local only where its net's place before is.
pub moved_local : (j : Job) → Fits j → (c : ℕ → Value) (place : ℕ) → place < places_of j
    → (step_of j place == 0) ≡ false → AgreeBefore j c place → RulesMove j c place (before j place) → (bit : Bool)
    → is_local j c place bit ≡ true → c (before j place) ≡ bit_value bit
moved_local j fits c place within later agree moves bit local =
    local_value j fits c place (before j place) bit within (back_of j fits place within later) agree
    (sym ((kinds_moved j c place (before j place) moves).local bit) ∙ local)

-- A place whose rule, where all places that aren't certain have one bit, gives the value or the bit of its net's place
-- before.
abbrev pub GivesOwn : Job → (ℕ → Value) → ℕ → Type 0
GivesOwn j c place = (bit : Bool)
    → rule j c (assigned c (λ k. bit)) place ≡ bit_value (decided (c (before j place)) bit)

value_of : (v : Value) (bit : Bool) → bit_value (decided v false) ≡ bit_value bit
    → bit_value (decided v true) ≡ bit_value bit
    → v ≡ bit_value bit
value_of Zero bit zero_is one_is = zero_is
value_of One bit zero_is one_is = zero_is
value_of X false zero_is one_is = cc
value_of X true zero_is one_is = cc
value_of Z false zero_is one_is = cc
value_of Z true zero_is one_is = cc

pub bits_known : (bit : Bool) → is_unknown (bit_value bit) ≡ true → ⊥
bits_known false is = cc
bits_known true is = cc

pub own_local : (j : Job) (c : ℕ → Value) (place : ℕ) → GivesOwn j c place → (bit : Bool)
    → is_local j c place bit ≡ true
    → c (before j place) ≡ bit_value bit
own_local j c place gives bit local = value_of (c (before j place)) bit
    (sym (gives false) ∙ local_gives j c place bit (λ k. false) local)
    (sym (gives true) ∙ local_gives j c place bit (λ k. true) local)

pub own_free : (j : Job) (c : ℕ → Value) (place : ℕ) → GivesOwn j c place → is_free j c place ≡ true → ⊥
own_free j c place gives free = bits_known (decided (c (before j place)) false)
    (ap is_unknown (sym (gives false)) ∙ free_gives j c place (λ k. false) free)

not_both : (b : Bool) → b ≡ true → not b ≡ true → ⊥
not_both true is isnt = cc
not_both false is isnt = cc

pub never_free : (j : Job) (c : ℕ → Value) (place : ℕ) → is_never_unknown j c place ≡ true → is_free j c place ≡ true
    → ⊥
never_free j c place never free = not_both (is_unknown (rule j c (assigned c (λ k. false)) place))
    (free_gives j c place (λ k. false) free) (never_gives j c place (λ k. false) never)

-- A place that is local doesn't have to pass anything on.
pub no_passing : (j : Job) (c : ℕ → Value) (place : ℕ) (bit : Bool) → is_local j c place bit ≡ true
    → is_local j c place false ≡ false → is_local j c place true ≡ false → passes_on j c (class_of j c) place ≡ true
no_passing j c place false local zero_is one_is = cc
no_passing j c place true local zero_is one_is = cc
