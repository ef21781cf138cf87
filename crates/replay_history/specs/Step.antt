-- A step of a replay, as it is to be filled: what is known of it, in one way, as a fact on a type has to be.
use Rattle.std.specs.Prelude.{◌≡◌, ℕ, ◌*◌, ◌<◌, ◌≤◌, Bool, true, false, Option, List, length, refl}
use Rattle.std.specs.Coded.{Coded, Coded-set, code_by, coded_bool, coded_option, coded_ℕ, coded×, le_prop}
use Rattle.design_cell.specs.declared.value.Value.{Value}
use Rattle.design_cell.specs.declared.value.Value.TheVariants.{Zero, One, X, Z}
use Rattle.design_circuit.specs.Circuit.{job_in}
use Rattle.design_circuit.specs.Force.{forced_by}
use Rattle.design_circuit.specs.declared.circuit.Circuit.{Circuit}
use Rattle.design_circuit.specs.declared.force.Event.{Event}
use Rattle.replay_history.specs.Forced.{AreOrdered, HasForced, NoEventOf}
use Rattle.replay_history.specs.Still.{IsForcedSame}

-- Each net is forced at the step as one step before, but for those of the events from one on, up to another.
abbrev pub ForcedButFor : Circuit → List Event → ℕ → ℕ → ℕ → Type 0
ForcedButFor circuit events from to step = (net : ℕ) → net < (job_in circuit).width → NoEventOf events from to net
    → IsForcedSame (job_in circuit) (forced_by (job_in circuit) events) step net

-- The events are in order; the step is one of the circuit's; the nets are forced to these values at it; and the events
-- from one on, up to another, are those by which it differs from the step before.
pub record IsStep (circuit : Circuit) (events : List Event) (forced : List (Option Value)) (step from to : ℕ)
    : Type 0 where
  pub ordered : AreOrdered (job_in circuit).width events
  pub within : step < (job_in circuit).moments * (job_in circuit).rounds
  pub forces : HasForced (job_in circuit).width events step forced
  pub range : to ≤ length events
  pub before : 0 < step → ForcedButFor circuit events from to step

-- ---- a step is one in one way

abbrev bits_of : Value → Bool × Bool
bits_of Zero = (false, false)
bits_of One = (false, true)
bits_of X = (true, false)
bits_of Z = (true, true)

abbrev value_of : Bool × Bool → Value
value_of (false, false) = Zero
value_of (false, true) = One
value_of (true, false) = X
value_of (true, true) = Z

value_back : (v : Value) → value_of (bits_of v) ≡ v
value_back Zero = refl
value_back One = refl
value_back X = refl
value_back Z = refl

abbrev forced_code : Coded (Option Value)
forced_code = coded_option (code_by (Bool × Bool) (coded× coded_bool coded_bool) bits_of value_of value_back)

AreOrdered-prop : (nets : ℕ) (events : List Event) → IsProp (AreOrdered nets events)
AreOrdered-prop nets events x y = λ i. record {
  steps = λ a b before within. le_prop (x.steps a b before within) (y.steps a b before within) i;
  within = λ a within. le_prop (x.within a within) (y.within a within) i;
}

HasForced-prop : (nets : ℕ) (events : List Event) (step : ℕ) (values : List (Option Value))
    → IsProp (HasForced nets events step values)
HasForced-prop nets events step values x y = λ i. record {
  long = Coded-set coded_ℕ _ _ x.long y.long i;
  value = λ net within. Coded-set forced_code _ _ (x.value net within) (y.value net within) i;
}

pub IsStep-prop : (circuit : Circuit) (events : List Event) (forced : List (Option Value)) (step from to : ℕ)
    → IsProp (IsStep circuit events forced step from to)
IsStep-prop circuit events forced step from to x y = λ i. record {
  ordered = AreOrdered-prop (job_in circuit).width events x.ordered y.ordered i;
  within = le_prop x.within y.within i;
  forces = HasForced-prop (job_in circuit).width events step forced x.forces y.forces i;
  range = le_prop x.range y.range i;
  before = λ later net within none.
      Coded-set forced_code _ _ (x.before later net within none) (y.before later net within none) i;
}
