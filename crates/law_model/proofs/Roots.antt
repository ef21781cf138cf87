-- Laws of the roots, and of the fillings that are stated.
use Rattle.std.proofs.Common.{◌≡◌, ℕ, zero, suc, ◌+◌, ◌-◌, ◌/◌, ◌%◌, ◌<◌, ◌≤◌, ◌==◌, ◌&&◌, not, Bool, true, false, [], ◌∷◌, ◌++◌, length, refl, sym, ap, ◌∙◌, arith, add-one, length-append, slice_index_or, subst, ⊎_elim}
use Rattle.std.specs.Prelude.{nat_lt}
use Rattle.std.specs.List.{list_all}
use Rattle.std.proofs.Math.ListN.{get_or-append}
use Rattle.std.proofs.Math.Seq.{get_or-append_seam}
use Rattle.std.proofs.lemmas.Bool.{and_parts, ltb-true}
use Rattle.design_cell.specs.declared.value.Value.{Value}
use Rattle.design_cell.specs.Value.{is_unknown}
use Rattle.design_circuit.specs.declared.design.Driver.{Driver}
use Rattle.design_circuit.specs.declared.design.Driver.TheVariants.{Input, Undriven, Constant, Copy, Cell, Register}
use Rattle.design_circuit.specs.Job.{Job, step_of, net_of, places_of}
use Rattle.design_circuit.specs.Order.{net_pins}
use Rattle.design_circuit.specs.Fits.{Fits}
use Rattle.design_circuit.specs.Register.{had_uncertain_clock}
use Rattle.design_circuit.specs.Rule.{arguments}
use Rattle.design_circuit.proofs.Prefix.{prefix}
use Rattle.design_circuit.proofs.Rules.{AgreeBelow, arguments_below}
use Rattle.law_model.specs.Class.{flipped, keeps, passes_on_of, is_never_unknown, class_in, classes, class_of}
use Rattle.law_model.specs.Root.{Root, no_root, root_by, roots, root_of}
use Rattle.law_model.specs.Cone.{is_carried}
use Rattle.law_model.specs.Stated.{Stated, swapped}
use Rattle.law_model.specs.declared.class.ClassByNumber.{ClassByNumber}
use Rattle.law_model.specs.declared.class.ClassByNumber.TheVariants.{Local, Free, Carried, Line}
use Rattle.law_model.proofs.Classes.{ClassSays, class_says, class_rule, all_at}
use Rattle.law_model.proofs.CarryLaw.{back_of, behind_one, later, later_in_round}
use Rattle.law_model.proofs.ClassesBefore.{class_local}

passes_later : (j : Job) (c : ℕ → Value) (class : ℕ → ClassByNumber) (place step net : ℕ) (driver : Driver)
    → passes_on_of j c class place step net driver ≡ true → (step == 0) ≡ false
passes_later j c class place step net Input passes = later_in_round step j.rounds
    (and_parts (not (step % j.rounds == 0)) (is_unknown (j.recorded (step / j.rounds) net)) passes).0
passes_later j c class place step net Undriven passes = later_in_round step j.rounds passes
passes_later j c class place step net (Constant bit) passes = cc
passes_later j c class place step net (Copy argument) passes = later step (and_parts (not (step == 0)) _ passes).0
passes_later j c class place step net (Cell table pins) passes =
    later step (and_parts (not (step == 0)) (list_all (keeps j c class step) (net_pins pins))
    (and_parts (not (step == 0) && list_all (keeps j c class step) (net_pins pins)) (is_never_unknown j c place)
    passes).0).0
passes_later j c class place step net (Register latching) passes =
    (behind_one step (ltb-true 1 step (and_parts (nat_lt 1 step) (not (had_uncertain_clock j c step latching))
    (and_parts (nat_lt 1 step && not (had_uncertain_clock j c step latching))
    (list_all (keeps j c class (step - 1)) (net_pins latching.pins)) passes).0).0)).0

-- A place is carried from an earlier one.
pub carried_below : (j : Job) → Fits j → (c : ℕ → Value) (place from : ℕ) (inverted : Bool) → place < places_of j
    → class_of j c place ≡ Carried from inverted → from < place
carried_below j fits c place from inverted within is =
    let class : ℕ → ClassByNumber = class_in (classes j c place) in
    let says : ClassSays j c class place (Carried from inverted) = subst (ClassSays j c class place)
    (sym (class_rule j c place) ∙ is) (class_says j c class place) in
    ⊎_elim (λ h. subst (λ k. k < place) (sym h.1)
    (back_of j fits place within (passes_later j c class place (step_of j place) (net_of j place)
    (j.driver (net_of j place)) h.0))) (λ h. all_at (λ k. k < place) (arguments j c place) from
    (arguments_below j fits c place within) h.0) says

roots_length : (j : Job) (c : ℕ → Value) (n : ℕ) → length (roots j c n) ≡ n
unfolding roots
roots_length j c zero = refl
roots_length j c (suc n) = let ih = roots_length j c n in simp length-append (omega arith)

kept : (j : Job) (c : ℕ → Value) (n i : ℕ) → i < n
    → slice_index_or (roots j c (suc n)) i no_root ≡ slice_index_or (roots j c n) i no_root
unfolding roots
kept j c n i within = let len = roots_length j c n in get_or-append (roots j c n) _ no_root i (omega (arith, len))

roots_prefix : (j : Job) (c : ℕ → Value) (n i : ℕ) → i < n → slice_index_or (roots j c n) i no_root ≡ root_of j c i
roots_prefix j c n i within = prefix (roots j c) no_root (kept j c) n i within

pub root_rule : (j : Job) (c : ℕ → Value) (place : ℕ)
    → root_of j c place ≡ root_by (λ k. slice_index_or (roots j c place) k no_root) place (class_of j c place)
unfolding roots
root_rule j c place =
    let earlier = roots j c place in
    let here = root_by (λ k. slice_index_or earlier k no_root) place (class_of j c place) in
    let long : length earlier ≡ place = roots_length j c place in
    let seam : slice_index_or (earlier ++ here ∷ []) place no_root ≡ here =
    subst (λ n. slice_index_or (earlier ++ here ∷ []) n no_root ≡ here) long
    (get_or-append_seam earlier here [] no_root) in
    ap (λ n. slice_index_or (roots j c n) place no_root) (add-one place) ∙ seam

-- The root of a place that isn't carried is the place.
pub root_free : (j : Job) (c : ℕ → Value) (place : ℕ) → class_of j c place ≡ Free
    → root_of j c place ≡ record { place = place; inverted = false }
root_free j c place is = root_rule j c place ∙ ap (root_by (λ k. slice_index_or (roots j c place) k no_root) place) is

pub root_line : (j : Job) (c : ℕ → Value) (place : ℕ) → class_of j c place ≡ Line
    → root_of j c place ≡ record { place = place; inverted = false }
root_line j c place is = root_rule j c place ∙ ap (root_by (λ k. slice_index_or (roots j c place) k no_root) place) is

pub root_own : (j : Job) (c : ℕ → Value) (place : ℕ) → is_carried (class_of j c place) ≡ false
    → root_of j c place ≡ record { place = place; inverted = false }
root_own j c place free = root_rule j c place
    ∙ own (λ k. slice_index_or (roots j c place) k no_root) (class_of j c place) free
  where
    own : (e : ℕ → Root) (class : ClassByNumber) → is_carried class ≡ false
        → root_by e place class ≡ record { place = place; inverted = false }
    own e (Local bit) free = refl
    own e Free free = refl
    own e (Carried from inverted) free = cc
    own e Line free = refl

-- That of a carried place is that of the place that it is carried from.
pub root_carried : (j : Job) → Fits j → (c : ℕ → Value) (place from : ℕ) (inverted : Bool) → place < places_of j
    → class_of j c place ≡ Carried from inverted
    → root_of j c place ≡ record {
      place = (root_of j c from).place;
      inverted = flipped inverted
          (root_of j c from).inverted;
    }
root_carried j fits c place from inverted within is =
    let less = carried_below j fits c place from inverted within is in
    let earlier : slice_index_or (roots j c place) from no_root ≡ root_of j c from = roots_prefix j c place from less in
    root_rule j c place ∙ ap (root_by (λ k. slice_index_or (roots j c place) k no_root) place) is
    ∙ ap (λ (r : Root). record { place = r.place; inverted = flipped inverted r.inverted }) earlier

roots_local : (j : Job) → Fits j → (c d : ℕ → Value) (n : ℕ) → n ≤ places_of j → ((k : ℕ) → suc k < n → c k ≡ d k)
    → roots j c n ≡ roots j d n
unfolding roots
roots_local j fits c d zero within agree = refl
roots_local j fits c d (suc n) within agree =
    let ih = roots_local j fits c d n (omega arith) (λ k less. agree k (omega arith)) in
    let same = class_local j fits c d n (omega arith) (λ k less. agree k (omega arith)) in
    rw (ih, same) refl

pub root_local : (j : Job) → Fits j → (c d : ℕ → Value) (place : ℕ) → place < places_of j → AgreeBelow c d place
    → root_of j c place ≡ root_of j d place
root_local j fits c d place within agree = ap (λ rs. slice_index_or rs place no_root)
    (roots_local j fits c d (place + 1) (omega arith) (λ k less. agree k (omega arith)))

root_by_within : (e : ℕ → Root) (place : ℕ) (class : ClassByNumber)
    → ((from : ℕ) (inverted : Bool) → class ≡ Carried from inverted → (e from).place ≤ place)
    → (root_by e place class).place ≤ place
root_by_within e place (Local bit) earlier = omega arith
root_by_within e place Free earlier = omega arith
root_by_within e place (Carried from inverted) earlier = earlier from inverted refl
root_by_within e place Line earlier = omega arith

root_below : (j : Job) → Fits j → (c : ℕ → Value) (n place : ℕ) → place < n → place < places_of j
    → (root_of j c place).place ≤ place
root_below j fits c zero place below within = absurd (omega arith)
root_below j fits c (suc n) place below within =
    let earlier : (from : ℕ) (inverted : Bool) → class_of j c place ≡ Carried from inverted
    → (slice_index_or (roots j c place) from no_root).place ≤ place =
    λ from inverted is. (let less = carried_below j fits c place from inverted within is in
    let low = root_below j fits c n from (omega arith) (omega arith) in
    let same = ap (λ (r : Root). r.place) (roots_prefix j c place from less) in
    omega (arith, less, low, same)) in
    subst (λ (r : Root). r.place ≤ place) (sym (root_rule j c place))
    (root_by_within (λ k. slice_index_or (roots j c place) k no_root) place (class_of j c place) earlier)

-- No root stands behind its place.
pub root_within : (j : Job) → Fits j → (c : ℕ → Value) (place : ℕ) → place < places_of j
    → (root_of j c place).place ≤ place
root_within j fits c place within = root_below j fits c (suc place) place (omega arith) within

-- Swaps in a row.
pub swapped_twice : (a b : Bool) (s : Stated) → swapped (flipped a b) s ≡ swapped a (swapped b s)
swapped_twice false b s = refl
swapped_twice true false s = refl
swapped_twice true true s = refl
