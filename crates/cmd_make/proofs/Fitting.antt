-- Made stimuli and bindings fit.
use Rattle.std.proofs.Common.{◌≡◌, ℕ, zero, suc, ◌+◌, ◌*◌, ◌-◌, ◌<◌, ◌≤◌, ◌^◌, inl, inr, List, [], ◌∷◌, ◌++◌, length, get_or, All, refl, sym, ap, ◌∙◌, subst, arith, length-append}
use Rattle.std.proofs.lemmas.Bool.{cases_lt}
use Rattle.std.proofs.lemmas.List.{get_or_append_left, get_or-append_right, get_or_default}
use Rattle.std.proofs.Math.ListN.{get_or-eq_default}
use Rattle.std.proofs.lemmas.List.Elements.{All-append}
use Rattle.std.specs.List.Sorted.{IsStrictlyIncreasing}
use Rattle.design_cell.specs.declared.value.Value.{Value}
use Rattle.design_cell.specs.declared.value.Value.TheVariants.{X, Z}
use Rattle.design_cell.specs.Table.{Table as Primitive}
use Rattle.design_circuit.specs.Design.{FitsDesign}
use Rattle.design_circuit.specs.Fits.{FitsDriver}
use Rattle.design_circuit.specs.Job.{driver_in}
use Rattle.design_circuit.specs.Stim.{FitsStim}
use Rattle.design_circuit.specs.declared.design.Design.{Design}
use Rattle.design_circuit.specs.declared.design.Driver.{Driver}
use Rattle.design_circuit.specs.declared.design.Driver.TheVariants.{Input, Undriven, Constant, Copy, Cell, Register}
use Rattle.design_circuit.specs.declared.stim.Stim.{Stim}
use Rattle.design_inputs.specs.Rows.{HasWidth, moment_row}
use Rattle.recording_binding.specs.Binding.{FitsBinding, FitsBound}
use Rattle.cmd_make.specs.Recording.{made_binding, net_bound, nets_bound}
use Rattle.cmd_make.specs.Stimulus.{IsMadeStim, made_start, own_start, times_of}

-- ---- the times

pub times_length : (moments : ℕ) → length (times_of moments) ≡ moments
unfolding times_of
times_length zero = refl
times_length (suc moment) =
    let e = length-append (times_of moment) (10 * moment ∷ []) in
    let f = times_length moment in
    omega (arith, e, f)

time_is : (moments moment : ℕ) → moment < moments → get_or (times_of moments) moment 0 ≡ 10 * moment
unfolding times_of
time_is zero moment within = absurd (omega (arith, within))
time_is (suc last) moment within = elim (cases_lt moment last) as (λ _. get_or (times_of last ++ 10 * last ∷ []) moment 0 ≡ 10 * moment) [
  | inl less ↦ (let all = times_length last in
      get_or_append_left (times_of last) (10 * last ∷ []) 0 moment (omega (arith, all, less)) ∙ time_is last moment less)
  | inr more ↦ (let is : moment ≡ last = omega (arith, within, more) in
      let none : moment - last ≡ 0 = omega (arith, is) in
      get_or-append_right (times_of last) (10 * last ∷ []) last moment 0 (times_length last) more
      ∙ ap (λ n. get_or (10 * last ∷ []) n 0) none ∙ ap (λ n. 10 * n) (sym is))
]

times_ascend : (moments : ℕ) → IsStrictlyIncreasing (times_of moments)
times_ascend moments = λ k within.
    let all = times_length moments in
    let first = time_is moments k (omega (arith, all, within)) in
    let second = time_is moments (k + 1) (omega (arith, all, within)) in
    omega (arith, first, second)

pub times_small : (moments : ℕ) → moments ≤ 16 → All (λ time. time < 2 ^ 64) (times_of moments)
times_small moments few = λ k d within.
    let all = times_length moments in
    let is = time_is moments k (omega (arith, all, within)) in
    rw (get_or_default (times_of moments) k d 0 within) (omega (arith, all, within, few, is))

-- ---- the starts

-- a driver that fits starts at no z
start_fits : (udps : List Primitive) (width : ℕ) (driver : Driver) → FitsDriver udps width driver → own_start driver ≡ Z → ⊥
start_fits udps width Input fits is = cc
start_fits udps width Undriven fits is = cc
start_fits udps width (Constant bit) fits is = cc
start_fits udps width (Copy argument) fits is = cc
start_fits udps width (Cell table pins) fits is = cc
start_fits udps width (Register latching) fits is = fits.start is

starts_fit : (design : Design) (starts : List Value) → FitsDesign design → length starts ≡ length design.nets
    → ((net : ℕ) → net < length design.nets → get_or starts net X ≡ made_start design net) → (net : ℕ) → get_or starts net X ≡ Z → ⊥
starts_fit design starts fits long values net is = elim (cases_lt net (length design.nets)) as (λ _. ⊥) [
  | inl less ↦ start_fits design.udps (length design.nets) (driver_in design net) (fits.drivers net less) (sym (values net less) ∙ is)
  | inr more ↦ (let none = get_or-eq_default starts X {n = net} (omega (arith, long, more)) in let e = sym none ∙ is in cc)
]

-- ---- the stimulus

pub stim_fits : (design : Design) (number gates : ℕ) (stim : Stim) → FitsDesign design → IsMadeStim design number gates stim → FitsStim design stim
stim_fits design number gates stim fits is =
    let many = is.many in
    let all : length stim.times ≡ 16 = ap (λ (l : List ℕ). length l) is.times ∙ times_length 16 in
    let few = fits.few in
    let rounds = is.rounds in
    let sixty : length stim.times * stim.rounds ≡ 64 = ap (λ n. n * stim.rounds) all ∙ ap (λ n. 16 * n) rounds in
    record {
      times = subst (λ (l : List ℕ). IsStrictlyIncreasing l) (sym is.times) (times_ascend 16);
      values = λ moment within. (is.inputs moment (omega (arith, many, within))).long;
      starts = is.starts.long;
      no_float = starts_fit design stim.starts fits is.starts.long is.starts.values;
      places = subst (λ n. length design.nets * n ≤ 2 ^ 40) (sym sixty) (omega (arith, few));
    }

-- Rows of one width are as wide as the first.
pub rows_even : (width : ℕ) (rows : List (List Value)) → ((moment : ℕ) → moment < length rows → length (get_or rows moment []) ≡ width)
    → 0 < length rows → All (HasWidth (length (moment_row rows 0))) rows
rows_even width rows each some = λ k d within.
    ap (λ (l : List Value). length l) (get_or_default rows k d [] within) ∙ (each k within ∙ sym (each 0 some))

-- ---- the binding

all_one : {X : Type 0} (P : X → Type 0) (x : X) → P x → All P (x ∷ [])
all_one P x is zero d within = is
all_one P x is (suc k) d within = absurd (omega (arith, within))

net_fits : (design : Design) (net : ℕ) → net < length design.nets → FitsBound design (net_bound design net)
net_fits design net within = record { some = omega arith; few = omega arith; nets = all_one (λ n. n < length design.nets) net within }

each_fits : (design : Design) (nets : ℕ) → nets ≤ length design.nets → All (FitsBound design) (nets_bound design nets)
unfolding nets_bound
each_fits design zero within = λ k d less. absurd (omega (arith, less))
each_fits design (suc net) within =
    All-append (FitsBound design) (nets_bound design net) (net_bound design net ∷ []) (each_fits design net (omega (arith, within)))
    (all_one (FitsBound design) (net_bound design net) (net_fits design net (omega (arith, within))))

nets_length : (design : Design) (nets : ℕ) → length (nets_bound design nets) ≡ nets
unfolding nets_bound
nets_length design zero = refl
nets_length design (suc net) =
    let e = length-append (nets_bound design net) (net_bound design net ∷ []) in
    let f = nets_length design net in
    omega (arith, e, f)

pub binding_fits : (design : Design) → FitsDesign design → FitsBinding design (made_binding design)
binding_fits design fits =
    let all = nets_length design (length design.nets) in
    let few = fits.few in
    record { each = each_fits design (length design.nets) (omega arith); few = omega (arith, all, few) }
