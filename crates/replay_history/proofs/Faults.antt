-- First faults: what is checked in turn leads to them, and there is at most one.
use Rattle.std.proofs.Common.{◌≡◌, ℕ, inl, inr, Result, Ok, Err, IfOk, IfErr, ◌<◌, length, slice_index, refl, sym, ap, ◌∙◌, arith, subst, ⊎_elim}
use Rattle.std.proofs.lemmas.Bool.{cases_lt}
use Rattle.design_circuit.specs.Fits.{Fits}
use Rattle.design_circuit.specs.Job.{Job, at}
use Rattle.design_circuit.specs.Order.{IsOrdering, position_of}
use Rattle.design_circuit.specs.Replay.{kept_at}
use Rattle.design_circuit.specs.Settled.{last_step, IsSettledAt, IsSettled}
use Rattle.design_circuit.proofs.OrderLemmas.{net_at_position, position_is}
use Rattle.design_circuit.proofs.Rules.{position_in}
use Rattle.recording_binding.specs.declared.binding.Binding.{Binding}
use Rattle.recording_binding.specs.declared.binding.Bound.{Bound}
use Rattle.recording_reader.specs.Recording.{Recording, value_at}
use Rattle.replay_fans.proofs.Positions.{net_within}
use Rattle.replay_history.specs.declared.differ.Differ.{Differ}
use Rattle.replay_history.specs.declared.differ.Differ.TheVariants.{Unsettled, Disagrees}
use Rattle.replay_history.specs.declared.differ.DifferErr.{DifferErr}
use Rattle.replay_history.specs.declared.differ.DifferErr.TheVariants.{Differs, Memory}
use Rattle.replay_history.specs.Fault.{BitAgrees, HasNoFault, IfDiffers, IsBitFault, IsDisagreementIn, IsFault, IsFaultIn, IsFaultless, IsFirstBit, IsFirstDisagreement, IsFirstFault, IsFirstUnsettled, IsUnsettledAt, IsUnsettledIn, IsVariableFault, TellsFaultless, TellsFirst, VariableAgrees, bound_at, kept_after, moment_of, no_variable, shown_bit}
use Rattle.replay_history.proofs.Places.{net_there}

-- The nets at the first n positions are settled in a moment.
abbrev pub SettledUpTo : Job → ℕ → ℕ → Type 0
SettledUpTo j moment n = (p : ℕ) → p < n → IsSettledAt j (last_step j moment) (slice_index j.order p) (j.driver (slice_index j.order p))

pub all_settled : (j : Job) → Fits j → (moment : ℕ) → SettledUpTo j moment j.width → IsSettled j moment
all_settled j fits moment settled net within =
    let P : ℕ → Type 0 = λ n. IsSettledAt j (last_step j moment) n (j.driver n) in
    subst P (net_there j fits net within) (settled (position_of j.order net) (position_in j fits net within))

pub first_unsettled : (j : Job) → Fits j → (moment position net : ℕ) (differ : Differ) → position < j.width → net ≡ slice_index j.order position → SettledUpTo j moment position → IsUnsettledAt j moment net (j.driver net) differ → IsUnsettledIn j moment differ
first_unsettled j fits moment position net (Unsettled other when kept next) within net_is settled fault =
    let all = fits.all in
    let inside : net < j.width = rw net_is (net_within j fits position within) in
    let here : position_of j.order net ≡ position = rw net_is (position_is j.order position fits.ordering (omega (arith, all, within))) in
    let P : ℕ → Type 0 = λ n. IsSettledAt j (last_step j moment) n (j.driver n) in (
      fault.1,
      rw fault.0 record {
        within = inside;
        before = λ n low less. subst P (net_there j fits n low) (settled (position_of j.order n) (rw here at less));
        unsettles = fault.2;
      },
    )
first_unsettled j fits moment position net (Disagrees variable bit when recorded replayed) within net_is settled fault = absurd fault

pub first_bit : (j : Job) (recording : Recording) (moment : ℕ) (b : Bound) (bit : ℕ) (differ : Differ) → bit < length b.bits → ((other : ℕ) → other < bit → BitAgrees j recording moment b other) → IsBitFault j recording moment b bit differ → IsVariableFault j recording moment b differ
first_bit j recording moment b bit (Unsettled net when kept next) within before fault = absurd fault
first_bit j recording moment b bit (Disagrees variable other when recorded replayed) within before fault =
    (fault.0, fault.2, rw fault.1 record { within = within; before = before; differs = fault.3 })

pub first_variable : (j : Job) (recording : Recording) (binding : Binding) (moment place : ℕ) (b : Bound) (differ : Differ) → place < length binding.bound → b ≡ bound_at binding place → ((other : ℕ) → other < place → VariableAgrees j recording moment (bound_at binding other)) → IsVariableFault j recording moment b differ → IsDisagreementIn j recording binding moment differ
first_variable j recording binding moment place b (Unsettled net when kept next) within is before fault = absurd fault
first_variable j recording binding moment place b (Disagrees variable bit when recorded replayed) within is before fault =
    let P : Bound → Type 0 = λ v. IsFirstBit j recording moment v bit recorded replayed in (
      fault.1,
      record {
        place = place;
        within = within;
        before = before;
        variable_is = sym (fault.0 ∙ ap (λ (v : Bound). v.variable) is);
        first = subst P is fault.2;
      },
    )

-- A register that isn't settled comes first in its moment, and a bit only where the moment is settled.
pub unsettled_fault : (j : Job) (recording : Recording) (binding : Binding) (moment : ℕ) (differ : Differ) → IsUnsettledIn j moment differ → IsFaultIn j recording binding moment differ
unsettled_fault j recording binding moment (Unsettled net when kept next) fault = record { moment_is = fault.0; fault = rw fault.0 fault.1 }
unsettled_fault j recording binding moment (Disagrees variable bit when recorded replayed) fault = absurd fault

pub recorded_fault : (j : Job) (recording : Recording) (binding : Binding) (moment : ℕ) (differ : Differ) → IsSettled j moment → IsDisagreementIn j recording binding moment differ → IsFaultIn j recording binding moment differ
recorded_fault j recording binding moment (Unsettled net when kept next) settled fault = absurd fault
recorded_fault j recording binding moment (Disagrees variable bit when recorded replayed) settled fault = record { moment_is = fault.0; fault = rw fault.0 (settled, fault.1) }

pub first_fault : (j : Job) (recording : Recording) (binding : Binding) (moment : ℕ) (differ : Differ) → moment < j.moments → ((m : ℕ) → m < moment → HasNoFault j recording binding m) → IsFaultIn j recording binding moment differ → IsFirstFault j recording binding differ
first_fault j recording binding moment differ within before fault = record {
  within = rw fault.moment_is within;
  before = rw fault.moment_is before;
  fault = fault.fault;
}

-- A moment with a fault has one.
pub clash : (j : Job) (recording : Recording) (binding : Binding) (differ : Differ) → IsFault j recording binding differ → HasNoFault j recording binding (moment_of differ) → ⊥
clash j recording binding (Unsettled net moment kept next) fault none = fault.unsettles.unsettled (none.settled net fault.within)
clash j recording binding (Disagrees variable bit moment recorded replayed) fault none =
    let first = fault.1 in
    first.first.differs.differs (none.agrees first.place no_variable first.within bit first.first.within)

-- Of two numbers that are each the least of their kind none is less than the other.
pub neither_less : (m n : ℕ) → (m < n → ⊥) → (n < m → ⊥) → m ≡ n
neither_less m n low high = ⊎_elim (λ less. absurd (low less)) (λ more. ⊎_elim (λ less. absurd (high less)) (λ equal. omega arith) (cases_lt n m)) (cases_lt m n)

-- An order of all nets of a job.
pub record OrdersAll (j : Job) : Type 0 where
  pub ordering : IsOrdering j.order
  pub all : length j.order ≡ j.width

ordered_net : (j : Job) → OrdersAll j → (net : ℕ) → net < j.width → slice_index j.order (position_of j.order net) ≡ net
ordered_net j orders net within =
    let all = orders.all in
    let at = orders.ordering.each net (omega (arith, all, within)) in
    net_at_position j.order net at.0 at.1 at.2

-- Two faults of one moment are the same.
pub same_fault : (j : Job) → OrdersAll j → (recording : Recording) (binding : Binding) (d e : Differ) → IsFault j recording binding d → IsFault j recording binding e → moment_of d ≡ moment_of e → d ≡ e
same_fault j orders recording binding (Unsettled net moment kept next) (Unsettled other when keeps then) first second same =
    let a : IsFirstUnsettled j moment other keeps then = rw same second in
    let low : position_of j.order net < position_of j.order other → ⊥ = λ less. first.unsettles.unsettled (a.before net first.within less) in
    let high : position_of j.order other < position_of j.order net → ⊥ = λ less. a.unsettles.unsettled (first.before other a.within less) in
    let positions = neither_less (position_of j.order net) (position_of j.order other) low high in
    let nets : net ≡ other = sym (ordered_net j orders net first.within) ∙ ap (slice_index j.order) positions ∙ ordered_net j orders other a.within in
    let keeps_same : kept ≡ keeps = first.unsettles.kept_is ∙ ap (λ n. kept_at j (at j (last_step j moment) n)) nets ∙ sym a.unsettles.kept_is in
    let next_same : next ≡ then = first.unsettles.next_is ∙ ap (λ n. kept_after j (last_step j moment) n (j.driver n)) nets ∙ sym a.unsettles.next_is in
    rw (nets, same, keeps_same, next_same) refl
same_fault j orders recording binding (Unsettled net moment kept next) (Disagrees variable bit when recorded replayed) first second same =
    let settled : IsSettled j moment = rw same second.0 in
    absurd (first.unsettles.unsettled (settled net first.within))
same_fault j orders recording binding (Disagrees variable bit when recorded replayed) (Unsettled net moment kept next) first second same =
    let settled : IsSettled j moment = rw (← same) first.0 in
    absurd (second.unsettles.unsettled (settled net second.within))
same_fault j orders recording binding (Disagrees variable bit moment recorded replayed) (Disagrees other place when reads shows) first second same =
    let a = first.1 in
    let b : IsFirstDisagreement j recording binding moment other place reads shows = rw same second.1 in
    let low : a.place < b.place → ⊥ = λ less. a.first.differs.differs (b.before a.place less bit a.first.within) in
    let high : b.place < a.place → ⊥ = λ less. b.first.differs.differs (a.before b.place less place b.first.within) in
    let places : a.place ≡ b.place = neither_less a.place b.place low high in
    let c : IsFirstBit j recording moment (bound_at binding a.place) place reads shows = rw places b.first in
    let bits : bit ≡ place = neither_less bit place (λ less. a.first.differs.differs (c.before bit less)) (λ less. c.differs.differs (a.first.before place less)) in
    let variables : variable ≡ other = sym a.variable_is ∙ ap (λ n. (bound_at binding n).variable) places ∙ b.variable_is in
    let reads_same : recorded ≡ reads = a.first.differs.recorded_is ∙ ap (λ n. value_at recording (bound_at binding a.place).variable n moment) bits ∙ sym c.differs.recorded_is in
    let shows_same : replayed ≡ shows = a.first.differs.replayed_is ∙ ap (λ n. shown_bit j moment (bound_at binding a.place) n) bits ∙ sym c.differs.replayed_is in
    rw (variables, bits, same, reads_same, shows_same) refl

-- There is at most one first fault.
pub one_fault : (j : Job) → OrdersAll j → (recording : Recording) (binding : Binding) (d e : Differ) → IsFirstFault j recording binding d → IsFirstFault j recording binding e → d ≡ e
one_fault j orders recording binding d e first second =
    let low : moment_of d < moment_of e → ⊥ = λ less. clash j recording binding d first.fault (second.before (moment_of d) less) in
    let high : moment_of e < moment_of d → ⊥ = λ less. clash j recording binding e second.fault (first.before (moment_of e) less) in
    same_fault j orders recording binding d e first.fault second.fault (neither_less (moment_of d) (moment_of e) low high)

-- Where there is no fault there is no first one.
pub no_first : (j : Job) (recording : Recording) (binding : Binding) (differ : Differ) → IsFaultless j recording binding → IsFirstFault j recording binding differ → ⊥
no_first j recording binding differ none first = clash j recording binding differ first.fault (none (moment_of differ) first.within)

-- An answer that is right where it is Ok and where it is a fault is so exactly, unless memory ran out.
pub tells_faultless : (j : Job) (recording : Recording) (binding : Binding) (result : Result (Unit {0}) DifferErr) → IfErr result (IfDiffers (IsFirstFault j recording binding)) → TellsFaultless j recording binding result
tells_faultless j recording binding (Ok unit) first none = inl refl
tells_faultless j recording binding (Err (Differs differ)) first none = absurd (no_first j recording binding differ none first)
tells_faultless j recording binding (Err Memory) first none = inr refl

pub tells_first : (j : Job) → Fits j → (recording : Recording) (binding : Binding) (result : Result (Unit {0}) DifferErr) → IfOk result (λ _. IsFaultless j recording binding) → IfErr result (IfDiffers (IsFirstFault j recording binding)) → TellsFirst j recording binding result
tells_first j fits recording binding (Ok unit) none first differ is = absurd (no_first j recording binding differ none is)
tells_first j fits recording binding (Err (Differs other)) none first differ is = inl (ap (λ (d : Differ). Err (Differs d)) (one_fault j (record { ordering = fits.ordering; all = fits.all }) recording binding other differ first is))
tells_first j fits recording binding (Err Memory) none first differ is = inr refl
