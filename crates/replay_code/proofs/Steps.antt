-- What the code sees of its progress, and what the words say of it.
use Rattle.std.proofs.Common.{◌≡◌, ℕ, ◌+◌, ◌<◌, ◌≤◌, ◌&&◌, Bool, true, false, None, Some, Result, List, refl, get_or, sym, ap, ◌∙◌, subst, ⊎_elim, arith, if◌then◌else◌}
use Rattle.std.proofs.lemmas.Bool.{cases_lt}
use Rattle.netlist_tokens.specs.declared.token.Token.{Token}
use Rattle.std.specs.List.Sorted.{IsStrictlyIncreasing}
use Rattle.design_circuit.specs.Design.{FitsDesign}
use Rattle.netlist_tokens.specs.Left.{Left}
use Rattle.replay_code.specs.Code.{Code}
use Rattle.replay_code.specs.Going.{Goes, HasMoment, IsMoment, IsThere, Steps}
use Rattle.replay_code.specs.Machine.{Progress, begun, next, on, refused, run}
use Rattle.replay_code.specs.Says.{statements_of, stop_of}
use Rattle.replay_code.specs.declared.refusal.CodeErr.{CodeErr}
use Rattle.replay_code.specs.declared.state.State.{State}
use Rattle.replay_code.specs.declared.state.State.TheVariants.{Module}
use Rattle.replay_code.specs.Words.{digits_of, is_number_kind, number_of, spelled}
use Rattle.base_scan.specs.Bytes.{all_digits}
use Rattle.base_scan.specs.Numbers.{number_from}
use Rattle.replay_code.proofs.Moments.{rises}
use Rattle.replay_code.proofs.Staying.{begins_there}

-- The times up to the present moment are earlier than a later one.
pub earlier_times : (q p : Progress) (moment later k : ℕ) → q ≡ p → q.moment ≡ Some moment → IsThere p → p.time < later → k < moment + 1 → get_or q.code.stim.times k 0 < later
earlier_times q p moment later k same at_moment is less below =
    let there : IsThere q = subst IsThere (sym same) is in
    let has : IsMoment q.code.stim q.time moment = subst (HasMoment q.code.stim q.time) at_moment there.moment in
    let here = has.at in
    let time : q.time ≡ p.time = ap (λ (r : Progress). r.time) same in
    ⊎_elim (λ (h : k < moment). (let up = rises q.code.stim.times there.times k moment h has.within in omega (arith, up, here, time, less)))
    (λ (h : moment ≤ k). (let last : k ≡ moment = omega (arith, h, below) in rw last (omega (arith, here, time, less)))) (cases_lt k moment)

-- The number of the digits.
pub number_is : (text other : List ℕ) (t : Token) (digits : List ℕ) (number : ℕ) → text ≡ other → digits_of text t ≡ Some digits → number ≡ number_from 0 digits → Some number ≡ number_of other t
number_is text other t digits number same are is = by (is_number_kind t.kind && all_digits (spelled text t)) are ∙ ap (λ (l : List ℕ). number_of l t) same
  where
    by : (b : Bool) → (if b then Some (spelled text t) else None) ≡ Some digits → Some number ≡ (if b then Some (number_from 0 (spelled text t)) else None)
    by true h = (let e : spelled text t ≡ digits = cc in ap Some (is ∙ ap (number_from 0) (sym e)))
    by false h = absurd cc

-- One word is a step.
pub goes_on : (is : Bool) (t : Token) (state : State) (p : Progress) (result : Result State CodeErr) → Goes is t state result → Steps (on is (next state p) (refused t)) result p
goes_on true t state p result goes = subst (λ (r : Result State CodeErr). Steps (next state p) r p) (sym goes) refl
goes_on false t state p result goes = subst (λ (r : Result State CodeErr). Steps (refused t) r p) (sym goes) refl

-- Before the first token the whole is left.
pub record Begins (c : Code) (p : Progress) (left : Left) : Type 0 where
  pub whole : run Module p left.tokens (stop_of c.text left.fault) ≡ statements_of c left
  pub there : IsThere p
  pub code : p.code ≡ c

pub begins : (c : Code) (p : Progress) (left : Left) → p ≡ begun c → FitsDesign c.design → IsStrictlyIncreasing c.stim.times → Begins c p left
begins c p left is fits up = record {
  whole = ap (λ (q : Progress). run Module q left.tokens (stop_of c.text left.fault)) is;
  there = subst IsThere (sym is) (begins_there c fits up);
  code = ap (λ (q : Progress). q.code) is;
}
