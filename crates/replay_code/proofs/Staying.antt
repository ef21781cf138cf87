-- A step keeps the moment and the round in range, and the events in order.
use Rattle.std.proofs.Common.{◌≡◌, ℕ, ◌+◌, ◌*◌, ◌<◌, ◌≤◌, ◌==◌, ◌^◌, Bool, cond, true, false, Option, None, Some, Result, Ok, Err, List, [], ◌∷◌, ◌++◌, codes, length, nat_lt, get_or, refl, sym, ap, arith, subst, ⊎_elim, if◌then◌else◌}
use Rattle.std.specs.List.{position_or_len}
use Rattle.std.specs.List.Sorted.{IsStrictlyIncreasing}
use Rattle.std.proofs.lemmas.Bool.{cases_lt, eqb-false, ltb-true}
use Rattle.std.proofs.lemmas.Bool.Decides.{nat_tests}
use Rattle.std.proofs.lemmas.Grind.{common_steps}
use Rattle.std.proofs.lemmas.List.Sums.{passes_at_first}
use Rattle.std.proofs.lemmas.Nat.{mul-add-lt}
use Rattle.design_cell.specs.declared.value.Value.{Value}
use Rattle.design_circuit.specs.Design.{FitsDesign}
use Rattle.design_circuit.specs.declared.force.Event.{Event}
use Rattle.design_circuit.specs.declared.stim.Stim.{Stim}
use Rattle.recording_binding.specs.Naming.{Texts}
use Rattle.replay_history.specs.Forced.{event_at}
use Rattle.netlist_tokens.specs.declared.token.Token.{Token}
use Rattle.replay_code.specs.Code.{Code}
use Rattle.replay_code.specs.Going.{AreStatements, HasMoment, HasNet, IsMoment, IsThere, IsUpTo}
use Rattle.replay_code.specs.Lookup.{below, net_below}
use Rattle.replay_code.specs.Clock.{moment_at, moment_by}
use Rattle.replay_code.specs.Machine.{Next, Progress, begun, bit_by, body, capped, index_by, name_by, net_named, next, on, refused, release_by, round_on, statement_by, step, target, target_by, time_on, wait_by, with_event, with_name}
use Rattle.replay_code.specs.Statements.{forced_now}
use Rattle.replay_code.specs.Words.{is_mark, is_word, token_name, number_of, value_of}
use Rattle.replay_code.specs.declared.fault.CodeFault.{CodeFault}
use Rattle.replay_code.specs.declared.fault.CodeFault.TheVariants.{RoundPast}
use Rattle.replay_code.specs.declared.state.State.{State}
use Rattle.replay_code.specs.declared.state.State.TheVariants.{Module, Title, Semicolon, Initial, Begin, Body, Wait, WaitEnd, NameNext, AfterName, Index, IndexEnd, PathEnd, Bit, StatementEnd, Tail, Done}
use Rattle.replay_code.proofs.Events.{each_more, ordered_more}
use Rattle.replay_code.proofs.Lookups.{net_within}
use Rattle.replay_code.proofs.Moments.{rises}

-- What comes next is in range, of the same code.
pub record Goes (p : Progress) (n : Next) : Type 0 where
  pub there : IsThere n.progress
  pub code : n.progress.code ≡ p.code
  pub net : HasNet n.progress.code n.state

abbrev Stays : Progress → Result Next CodeFault → Type 0
Stays p (Ok n) = Goes p n
Stays p (Err e) = Unit {0}

stays_on : (p : Progress) (b : Bool) (x y : Result Next CodeFault) → Stays p x → Stays p y → Stays p (on b x y)
stays_on p true x y one other = one
stays_on p false x y one other = other

stays_one : (p : Progress) (b : Bool) (n : Next) (t : Token) → Goes p n → Stays p (on b (Ok n) (refused t))
stays_one p true n t is = is
stays_one p false n t is = tt

-- a state to which nothing but the token leads
abbrev state_of : State → Progress → Next
state_of state p = record { state = state; progress = p }

here : (state : State) (p : Progress) → HasNet p.code state → IsThere p → Goes p (state_of state p)
here state p net is = record { there = is; code = refl; net = net }

-- The statement in hand is of no concern.
with_statement : (p : Progress) (forces : Bool) (at : ℕ) (texts : Texts) (index : Option ℕ) → IsThere p → IsThere (record p { forces = forces; at = at; texts = texts; index = index })
with_statement p forces at texts index is = record { fits = is.fits; times = is.times; moment = is.moment; round = is.round; ordered = is.ordered; up_to = is.up_to }

stays_statement : (p : Progress) (forces : Bool) (at : ℕ) (moment : Option ℕ) → IsThere p → Stays p (statement_by p forces at moment)
stays_statement p forces at None is = tt
stays_statement p forces at (Some moment) is = record { there = with_statement p forces at [] None is; code = refl; net = tt }

stays_body : (p : Progress) (t : Token) → IsThere p → Stays p (body p t)
stays_body p t is =
    stays_on p (is_mark p.code.text t (codes "#")) (next (Wait t.start) p) (on (is_word p.code.text t (codes "force")) (statement_by p true t.start p.moment) (on (is_word p.code.text t (codes "release")) (statement_by p false t.start p.moment) (on (is_word p.code.text t (codes "end")) (next Tail p) (refused t)))) (here (Wait t.start) p tt is)
    (stays_on p (is_word p.code.text t (codes "force")) (statement_by p true t.start p.moment) (on (is_word p.code.text t (codes "release")) (statement_by p false t.start p.moment) (on (is_word p.code.text t (codes "end")) (next Tail p) (refused t))) (stays_statement p true t.start p.moment is)
    (stays_on p (is_word p.code.text t (codes "release")) (statement_by p false t.start p.moment) (on (is_word p.code.text t (codes "end")) (next Tail p) (refused t)) (stays_statement p false t.start p.moment is) (stays_one p (is_word p.code.text t (codes "end")) (state_of Tail p) t (here Tail p tt is))))

-- A moment that is found is that of the time.
found : (stim : Stim) (time : ℕ) → HasMoment stim time (moment_at stim time)
found stim time = picked (nat_lt (position_or_len test stim.times) (length stim.times)) (ltb-true _ _)
  where
    test : ℕ → Bool
    test at = at == time

    equal : (at : ℕ) → test at ≡ true → at ≡ time
    equal at h = grind (arith, nat_tests)

    picked : (within : Bool) → (within ≡ true → position_or_len test stim.times < length stim.times) → HasMoment stim time (cond within (Some (position_or_len test stim.times)) None)
    picked true low = record { within = low refl; at = equal (get_or stim.times (position_or_len test stim.times) 0) (passes_at_first test stim.times 0 (low refl)) }
    picked false low = tt

found_by : (stim : Stim) (time : ℕ) → HasMoment stim time (moment_by stim time)
found_by stim time = picked (nat_lt time (2 ^ 64))
  where
    picked : (within : Bool) → HasMoment stim time (if within then moment_at stim time else None)
    picked true = found stim time
    picked false = tt

-- Events up to a step are up to a later moment.
up_to_later : (stim : Stim) (round time later moment : ℕ) (was : Option ℕ) (events : List Event) → IsStrictlyIncreasing stim.times → round < stim.rounds → time < later → HasMoment stim time was → IsMoment stim later moment → IsUpTo stim.rounds round was events → IsUpTo stim.rounds 0 (Some moment) events
up_to_later stim round time later moment None events up low less has is up_to i within =
    let none : length events ≡ 0 = ap (λ (l : List Event). length l) up_to in absurd (omega (arith, none, within))
up_to_later stim round time later moment (Some was) events up low less has is up_to i within =
    let before : was < moment = ⊎_elim (λ (h : was < moment). h) (λ (h : moment ≤ was). absurd (back h)) (cases_lt was moment) in
    let first = up_to i within in
    let bound = mul-add-lt was stim.rounds round moment before low in
    omega (arith, first, bound)
  where
    back : moment ≤ was → ⊥
    back h =
        let one = has.at in
        let other = is.at in
        ⊎_elim (λ (k : moment < was). (let up = rises stim.times up moment was k has.within in omega (arith, up, one, other, less)))
        (λ (k : was ≤ moment). (let same : was ≡ moment = omega (arith, h, k) in let e : get_or stim.times was 0 ≡ get_or stim.times moment 0 = ap (λ n. get_or stim.times n 0) same in omega (arith, e, one, other, less))) (cases_lt moment was)

stays_time : (p : Progress) (at time : ℕ) (moment : Option ℕ) → p.time < time → HasMoment p.code.stim time moment → IsThere p → Stays p (time_on p at time moment)
stays_time p at time None later has is = tt
stays_time p at time (Some moment) later has is = record {
  there = record {
    fits = is.fits;
    times = is.times;
    moment = has;
    round = (let some = is.round in omega (arith, some));
    ordered = is.ordered;
    up_to = up_to_later p.code.stim p.round p.time time moment p.moment p.events is.times is.round later is.moment has is.up_to;
  };
  code = refl;
  net = tt;
}

stays_round : (p : Progress) (at : ℕ) (moment : Option ℕ) → p.moment ≡ moment → IsThere p → Stays p (round_on p at moment)
stays_round p at None at_moment is = tt
stays_round p at (Some moment) at_moment is = past (p.round + 1 == p.code.stim.rounds) (eqb-false _ _)
  where
    under : (r rounds : ℕ) → r < rounds → (r + 1 ≡ rounds → ⊥) → r + 1 < rounds
    under r rounds low other = grind (arith, common_steps)

    up_to : (was : Option ℕ) → IsUpTo p.code.stim.rounds p.round was p.events → IsUpTo p.code.stim.rounds (p.round + 1) was p.events
    up_to None h = h
    up_to (Some was) h = λ i within. (let first = h i within in omega (arith, first))

    past : (last : Bool) → (last ≡ false → p.round + 1 ≡ p.code.stim.rounds → ⊥) → Stays p (if last then Err (RoundPast at) else next WaitEnd (record p { round = p.round + 1 }))
    past true more = tt
    past false more = record {
      there = record { fits = is.fits; times = is.times; moment = is.moment; round = under p.round p.code.stim.rounds is.round (more refl); ordered = is.ordered; up_to = up_to p.moment is.up_to };
      code = refl;
      net = tt;
    }

stays_wait : (p : Progress) (at : ℕ) (t : Token) (d : Option ℕ) → IsThere p → Stays p (wait_by p at t d)
stays_wait p at t None is = tt
stays_wait p at t (Some d) is = either (d == 0) (eqb-false _ _)
  where
    either : (none : Bool) → (none ≡ false → d ≡ 0 → ⊥) → Stays p (if none then round_on p at p.moment else time_on p at (p.time + d) (moment_by p.code.stim (p.time + d)))
    either true some = stays_round p at p.moment refl is
    either false some = stays_time p at (p.time + d) (moment_by p.code.stim (p.time + d)) (later p.time d (some refl)) (found_by p.code.stim (p.time + d)) is
      where
        later : (time d : ℕ) → (d ≡ 0 → ⊥) → time < time + d
        later time d some = grind (arith, common_steps)

stays_name : (p : Progress) (t : Token) (name : Option (List ℕ)) → IsThere p → Stays p (name_by p t name)
stays_name p t None is = tt
stays_name p t (Some text) is = record { there = with_statement p p.forces (with_name p t text).at (with_name p t text).texts p.index is; code = refl; net = tt }

stays_index : (p : Progress) (t : Token) (index : Option ℕ) → IsThere p → Stays p (index_by p t index)
stays_index p t None is = tt
stays_index p t (Some index) is = record { there = with_statement p p.forces p.at p.texts (Some (capped index)) is; code = refl; net = tt }

-- an event more
event_there : (p : Progress) (moment net : ℕ) (value : Option Value) → p.moment ≡ Some moment → net < length p.code.design.nets → IsThere p → IsThere (with_event p moment net value)
event_there p moment net value at_moment within is = record {
  fits = is.fits;
  times = is.times;
  moment = is.moment;
  round = is.round;
  ordered = ordered_more (length p.code.design.nets) p.events event is.ordered up_to within;
  up_to = subst (λ (m : Option ℕ). IsUpTo p.code.stim.rounds p.round m (p.events ++ event ∷ [])) (sym at_moment) (each_more (λ e. e.step ≤ moment * p.code.stim.rounds + p.round) p.events event up_to (omega arith));
}
  where
    event : Event
    event = record { step = moment * p.code.stim.rounds + p.round; net = net; value = value }

    up_to : (i : ℕ) → i < length p.events → (event_at p.events i).step ≤ moment * p.code.stim.rounds + p.round
    up_to = subst (λ (m : Option ℕ). IsUpTo p.code.stim.rounds p.round m p.events) at_moment is.up_to

stays_release : (p : Progress) (t : Token) (moment net : ℕ) (force : Option Value) → p.moment ≡ Some moment → net < length p.code.design.nets → IsThere p → Stays p (release_by p t moment net force)
stays_release p t moment net None at_moment within is = tt
stays_release p t moment net (Some value) at_moment within is =
    stays_one p (is_mark p.code.text t (codes ";")) (state_of Body (with_event p moment net None)) t (record { there = event_there p moment net None at_moment within is; code = refl; net = tt })

stays_target : (p : Progress) (t : Token) (moment net : Option ℕ) → p.moment ≡ moment → ((n : ℕ) → net ≡ Some n → n < length p.code.design.nets) → IsThere p → Stays p (target_by p t moment net)
stays_target p t None net at_moment within is = tt
stays_target p t (Some moment) None at_moment within is = tt
stays_target p t (Some moment) (Some net) at_moment within is =
    stays_on p p.forces (on (is_mark p.code.text t (codes "=")) (next (Bit net) p) (refused t)) (release_by p t moment net (forced_now p.events net))
    (stays_one p (is_mark p.code.text t (codes "=")) (state_of (Bit net) p) t (here (Bit net) p (within net refl) is)) (stays_release p t moment net (forced_now p.events net) at_moment (within net refl) is)

-- The net that is named is one of the design.
named_within : (p : Progress) (net : ℕ) → net_named p ≡ Some net → net < length p.code.design.nets
named_within p net is = by (below p.code.scope p.texts) is
  where
    by : (texts : Option Texts) → net_below p.code.design texts p.index ≡ Some net → net < length p.code.design.nets
    by None is = absurd cc
    by (Some texts) is = net_within p.code.design texts p.index net is

stays_bit : (p : Progress) (t : Token) (net : ℕ) (moment : Option ℕ) (value : Option Value) → p.moment ≡ moment → net < length p.code.design.nets → IsThere p → Stays p (bit_by p t net moment value)
stays_bit p t net moment None at_moment within is = tt
stays_bit p t net None (Some value) at_moment within is = tt
stays_bit p t net (Some moment) (Some value) at_moment within is = record { there = event_there p moment net (Some value) at_moment within is; code = refl; net = tt }

stays_named : (p : Progress) (t : Token) → IsThere p → Stays p (target p t)
stays_named p t is = stays_target p t p.moment (net_named p) refl (named_within p) is

stays : (state : State) (p : Progress) (t : Token) → HasNet p.code state → IsThere p → Stays p (step state p t)
stays Module p t net is = stays_one p (is_word p.code.text t (codes "module")) (state_of Title p) t (here Title p tt is)
stays Title p t net is = stays_one p (is_word p.code.text t (codes "xrepair_code")) (state_of Semicolon p) t (here Semicolon p tt is)
stays Semicolon p t net is = stays_one p (is_mark p.code.text t (codes ";")) (state_of Initial p) t (here Initial p tt is)
stays Initial p t net is = stays_one p (is_word p.code.text t (codes "initial")) (state_of Begin p) t (here Begin p tt is)
stays Begin p t net is = stays_one p (is_word p.code.text t (codes "begin")) (state_of Body p) t (here Body p tt is)
stays Body p t net is = stays_body p t is
stays (Wait at) p t net is = stays_wait p at t (number_of p.code.text t) is
stays WaitEnd p t net is = stays_one p (is_mark p.code.text t (codes ";")) (state_of Body p) t (here Body p tt is)
stays NameNext p t net is = stays_name p t (token_name p.code.text t) is
stays AfterName p t net is =
    stays_on p (is_mark p.code.text t (codes ".")) (next NameNext p) (on (is_mark p.code.text t (codes "[")) (next Index p) (target p t)) (here NameNext p tt is)
    (stays_on p (is_mark p.code.text t (codes "[")) (next Index p) (target p t) (here Index p tt is) (stays_named p t is))
stays Index p t net is = stays_index p t (number_of p.code.text t) is
stays IndexEnd p t net is = stays_one p (is_mark p.code.text t (codes "]")) (state_of PathEnd p) t (here PathEnd p tt is)
stays PathEnd p t net is = stays_named p t is
stays (Bit number) p t net is = stays_bit p t number p.moment (value_of p.code.text t) refl net is
stays StatementEnd p t net is = stays_one p (is_mark p.code.text t (codes ";")) (state_of Body p) t (here Body p tt is)
stays Tail p t net is = stays_one p (is_word p.code.text t (codes "endmodule")) (state_of Done p) t (here Done p tt is)
stays Done p t net is = tt

pub still_there : (state : State) (p : Progress) (t : Token) (n : Next) → HasNet p.code state → IsThere p → step state p t ≡ Ok n → Goes p n
still_there state p t n net is stepped = subst (Stays p) stepped (stays state p t net is)

-- So it is before the first token.
pub begins_there : (code : Code) → FitsDesign code.design → IsStrictlyIncreasing code.stim.times → IsThere (begun code)
begins_there code fits up = record {
  fits = fits;
  times = up;
  moment = found code.stim 0;
  round = code.stim.some_round;
  ordered = record { steps = λ i k less within. absurd (omega (arith, within)); within = λ i within. absurd (omega (arith, within)) };
  up_to = none (moment_at code.stim 0);
}
  where
    none : (moment : Option ℕ) → IsUpTo code.stim.rounds 0 moment []
    none None = refl
    none (Some moment) = λ i within. absurd (omega (arith, within))

-- What was read stands at steps of the stimulus.
pub are_statements : (p : Progress) → IsThere p → AreStatements p.code p.events
are_statements p is = record { ordered = is.ordered; steps = by p.moment is.moment is.up_to }
  where
    by : (moment : Option ℕ) → HasMoment p.code.stim p.time moment → IsUpTo p.code.stim.rounds p.round moment p.events → (i : ℕ) → i < length p.events → (event_at p.events i).step < length p.code.stim.times * p.code.stim.rounds
    by None has up_to i within = (let none : length p.events ≡ 0 = ap (λ (l : List Event). length l) up_to in absurd (omega (arith, none, within)))
    by (Some moment) has up_to i within =
        let first = up_to i within in
        let bound = mul-add-lt moment p.code.stim.rounds p.round (length p.code.stim.times) has.within is.round in
        omega (arith, first, bound)
