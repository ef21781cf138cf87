-- Rows of values, one input or one net more.
use Rattle.std.proofs.Common.{◌≡◌, ◌≢◌, ℕ, zero, suc, ◌+◌, ◌<◌, ◌≤◌, ◌==◌, Bool, true, false, List, [], ◌∷◌, ◌++◌, Option, None, Some, length, get_or, set, refl, sym, ap, subst, ◌∙◌, arith, if◌then◌else◌, All, ⊎_elim, replicate, take, Result, Ok, Err, OnOk, length-append}
use Rattle.std.proofs.Math.ListN.{get_or-eq_default}
use Rattle.std.proofs.Math.Seq.{get_or-append_seam}
use Rattle.std.proofs.lemmas.Bool.{cases_lt}
use Rattle.std.proofs.lemmas.Bool.Decides.{Decides-eqb}
use Rattle.std.proofs.lemmas.List.{get_or-set_same, get_or-set_other, get_or_append_left, take_more}
use Rattle.std.proofs.lemmas.List.Elements.{All-nil, All-push, All-append}
use Rattle.base_lists.specs.declared.memory.Memory.{Memory}
use Rattle.design_cell.specs.Value.{read}
use Rattle.design_cell.specs.declared.value.Value.{Value}
use Rattle.design_cell.specs.declared.value.Value.TheVariants.{Zero, One, X, Z}
use Rattle.design_circuit.specs.Design.{FitsDesign}
use Rattle.design_circuit.specs.Fits.{FitsDriver}
use Rattle.design_circuit.specs.Job.{driver_in}
use Rattle.design_circuit.specs.declared.design.Design.{Design}
use Rattle.design_circuit.specs.declared.design.Driver.{Driver}
use Rattle.design_circuit.specs.declared.design.Driver.TheVariants.{Input, Undriven, Constant, Copy, Cell, Register}
use Rattle.design_circuit.specs.declared.stim.StartRule.{StartRule}
use Rattle.design_circuit.specs.declared.stim.StartRule.TheVariants.{Cold, Recorded}
use Rattle.design_inputs.specs.Rows.{WrittenRows, all_rows}
use Rattle.recording_reader.specs.Recording.{Recording, value_at}
use Rattle.recording_binding.specs.Holding.{IsHolder}
use Rattle.recording_binding.specs.StimOf as spec
use Rattle.recording_binding.specs.declared.inputs.Holder.{Holder}
use Rattle.recording_binding.specs.declared.stimulus.Held.{Held}

abbrev held_at : Recording → ℕ → Holder → Value
held_at recording moment h = value_at recording h.variable h.bit moment

-- what follows where it is well
pub on_ok : (r : Result (Unit {0}) Memory) (P Q : Type 0) → (P → Q) → OnOk r P → OnOk r Q
on_ok (Ok u) P Q step is = step is
on_ok (Err e) P Q step is = tt

-- one input of a row has its value
pub set_one : (recording : Recording) (moment : ℕ) (row : List Value) (input : Held) (net : ℕ) → input.net < length row
    → get_or (set row input.net (value_at recording input.holder.variable input.holder.bit moment)) net X ≡ (if input.net == net then value_at recording input.holder.variable input.holder.bit moment else get_or row net X)
set_one recording moment row input net within = by (input.net == net) refl
  where
    v : Value
    v = value_at recording input.holder.variable input.holder.bit moment

    by : (b : Bool) → (input.net == net) ≡ b → get_or (set row input.net v) net X ≡ (if b then v else get_or row net X)
    by true is = (let e : input.net ≡ net = (Decides-eqb input.net net).0 is in ap (λ (k : ℕ). get_or (set row input.net v) k X) (sym e) ∙ get_or-set_same row input.net v X within)
    by false is = (let ne : net ≢ input.net = (λ e. (let t : (input.net == net) ≡ true = (Decides-eqb input.net net).1 (sym e) in absurd cc)) in get_or-set_other row input.net net v X ne)

set_append : (recording : Recording) (moment : ℕ) (xs ys : List Held) (net : ℕ) (old : Value) → spec.set_from recording moment (xs ++ ys) net old ≡ spec.set_from recording moment ys net (spec.set_from recording moment xs net old)
set_append recording moment [] ys net old = refl
set_append recording moment (x ∷ xs) ys net old = set_append recording moment xs ys net (if x.net == net then held_at recording moment x.holder else old)

-- what an input of this number sets
set_other : (recording : Recording) (moment own net : ℕ) (o : Option Holder) (d : Driver) (old : Value) → (own ≡ net → ⊥) → spec.set_from recording moment (spec.input_at own o d) net old ≡ old
set_other recording moment own net None d old apart = refl
set_other recording moment own net (Some h) Input old apart = by (own == net) (Decides-eqb own net).0
  where
    by : (b : Bool) → (b ≡ true → own ≡ net) → (if b then held_at recording moment h else old) ≡ old
    by true e = absurd (apart (e refl))
    by false e = refl
set_other recording moment own net (Some h) Undriven old apart = refl
set_other recording moment own net (Some h) (Constant bit) old apart = refl
set_other recording moment own net (Some h) (Copy argument) old apart = refl
set_other recording moment own net (Some h) (Cell table pins) old apart = refl
set_other recording moment own net (Some h) (Register latching) old apart = refl

set_own : (recording : Recording) (moment net : ℕ) (o : Option Holder) (d : Driver) (old : Value) → spec.set_from recording moment (spec.input_at net o d) net old ≡ spec.input_by recording moment old o d
set_own recording moment net None Input old = refl
set_own recording moment net None Undriven old = refl
set_own recording moment net None (Constant bit) old = refl
set_own recording moment net None (Copy argument) old = refl
set_own recording moment net None (Cell table pins) old = refl
set_own recording moment net None (Register latching) old = refl
set_own recording moment net (Some h) Input old = ap (λ (b : Bool). if b then held_at recording moment h else old) ((Decides-eqb net net).1 refl)
set_own recording moment net (Some h) Undriven old = refl
set_own recording moment net (Some h) (Constant bit) old = refl
set_own recording moment net (Some h) (Copy argument) old = refl
set_own recording moment net (Some h) (Cell table pins) old = refl
set_own recording moment net (Some h) (Register latching) old = refl

set_above : (design : Design) (recording : Recording) (holders : List (Option Holder)) (moment count net : ℕ) (old : Value) → count ≤ net → spec.set_from recording moment (spec.inputs_below design holders count) net old ≡ old
set_above design recording holders moment zero net old above = refl
set_above design recording holders moment (suc n) net old above =
    let o = get_or holders n None in
    set_append recording moment (spec.inputs_below design holders n) (spec.input_at n o (driver_in design n)) net old
    ∙ set_other recording moment n net o (driver_in design n) (spec.set_from recording moment (spec.inputs_below design holders n) net old) (λ e. absurd (omega (arith, e, above)))
    ∙ set_above design recording holders moment n net old (omega (arith, above))

set_below : (design : Design) (recording : Recording) (holders : List (Option Holder)) (moment count net : ℕ) (old : Value) → net < count
    → spec.set_from recording moment (spec.inputs_below design holders count) net old ≡ spec.input_by recording moment old (get_or holders net None) (driver_in design net)
set_below design recording holders moment zero net old within = absurd (omega arith)
set_below design recording holders moment (suc n) net old within =
    let o = get_or holders n None in
    let d = driver_in design n in
    let front = spec.inputs_below design holders n in
    set_append recording moment front (spec.input_at n o d) net old ∙ ⊎_elim (λ (h : net < n). (set_other recording moment n net o d (spec.set_from recording moment front net old) (λ e. absurd (omega (arith, e, h))) ∙ set_below design recording holders moment n net old h))
    (λ (h : n ≤ net). (let e : n ≡ net = omega (arith, h, within) in
    let P : ℕ → Type 0 = λ k. spec.set_from recording moment (spec.input_at n o d) k (spec.set_from recording moment front k old) ≡ spec.input_by recording moment old (get_or holders k None) (driver_in design k) in
    subst P e (ap (spec.set_from recording moment (spec.input_at n o d) n) (set_above design recording holders moment n n old (omega arith)) ∙ set_own recording moment n o d old))) (cases_lt net n)

-- a value that was set leaves those of later moments
again : (recording : Recording) (before after : ℕ) (old : Value) (o : Option Holder) (d : Driver) → spec.input_by recording after (spec.input_by recording before old o d) o d ≡ spec.input_by recording after old o d
again recording before after old None Input = refl
again recording before after old (Some h) Input = refl
again recording before after old o Undriven = refl
again recording before after old o (Constant bit) = refl
again recording before after old o (Copy argument) = refl
again recording before after old o (Cell table pins) = refl
again recording before after old o (Register latching) = refl

module _ (design : Design) (recording : Recording) (holders : List (Option Holder)) (moment : ℕ) (row new : List Value)
    (set_all : (net : ℕ) → get_or new net X ≡ spec.set_from recording moment (spec.inputs_below design holders (length design.nets)) net (get_or row net X)) (others : spec.HasOthers design recording holders row) where
  new_at : (net : ℕ) → net < length design.nets → get_or new net X ≡ spec.input_by recording moment (get_or row net X) (get_or holders net None) (driver_in design net)
  new_at net within = set_all net ∙ set_below design recording holders moment (length design.nets) net (get_or row net X) within

  pub row_is : length new ≡ length design.nets → spec.IsRow design (spec.value_by design recording holders moment) new
  row_is long = record { long = long; values = λ net within. new_at net within ∙ others.each moment net }

  pub others_stay : spec.HasOthers design recording holders new
  others_stay = record {
    each = λ after net. ⊎_elim (λ (h : net < length design.nets).
        (ap (λ (v : Value). spec.input_by recording after v (get_or holders net None) (driver_in design net)) (new_at net h) ∙ again recording moment after (get_or row net X) (get_or holders net None) (driver_in design net) ∙ others.each after net))
        (λ (h : length design.nets ≤ net). (ap (λ (v : Value). spec.input_by recording after v (get_or holders net None) (driver_in design net)) (set_all net ∙ set_above design recording holders moment (length design.nets) net (get_or row net X) h) ∙ others.each after net))
        (cases_lt net (length design.nets));
  }

-- each input that is set is a net held by a bit of a variable
put_fits : (recording : Recording) (nets net : ℕ) (o : Option Holder) (d : Driver) → net < nets → ((h : Holder) → o ≡ Some h → IsHolder recording h) → All (spec.FitsHolder recording nets) (spec.input_at net o d)
put_fits recording nets net None d within each = All-nil (spec.FitsHolder recording nets)
put_fits recording nets net (Some h) Input within each =
    All-push (spec.FitsHolder recording nets) [] (record { net = net; holder = h }) (All-nil (spec.FitsHolder recording nets)) (record { net = within; holder = each h refl })
put_fits recording nets net (Some h) Undriven within each = All-nil (spec.FitsHolder recording nets)
put_fits recording nets net (Some h) (Constant bit) within each = All-nil (spec.FitsHolder recording nets)
put_fits recording nets net (Some h) (Copy argument) within each = All-nil (spec.FitsHolder recording nets)
put_fits recording nets net (Some h) (Cell table pins) within each = All-nil (spec.FitsHolder recording nets)
put_fits recording nets net (Some h) (Register latching) within each = All-nil (spec.FitsHolder recording nets)

pub inputs_fit : (design : Design) (recording : Recording) (holders : List (Option Holder)) (nets count : ℕ) → spec.AreHolders recording holders → count ≤ length holders → count ≤ nets → All (spec.FitsHolder recording nets) (spec.inputs_below design holders count)
inputs_fit design recording holders nets zero are held few = All-nil (spec.FitsHolder recording nets)
inputs_fit design recording holders nets (suc n) are held few =
    All-append (spec.FitsHolder recording nets) (spec.inputs_below design holders n) (spec.input_at n (get_or holders n None) (driver_in design n))
    (inputs_fit design recording holders nets n are (omega (arith, held)) (omega (arith, few))) (put_fits recording nets n (get_or holders n None) (driver_in design n) (omega (arith, few)) (λ h e. are.each n h (omega (arith, held)) e))

-- no net starts at z
read_known : (v : Value) → read v ≡ Z → ⊥
read_known Zero h = absurd cc
read_known One h = absurd cc
read_known X h = absurd cc
read_known Z h = absurd cc

start_known : (recording : Recording) (o : Option Holder) (own : Value) (rule : StartRule) → (own ≡ Z → ⊥) → spec.start_by recording o own rule ≡ Z → ⊥
start_known recording o own Cold known h = known h
start_known recording None own Recorded known h = known h
start_known recording (Some b) own Recorded known h = read_known (value_at recording b.variable b.bit 0) h

pub start_no_float : (design : Design) (recording : Recording) (o : Option Holder) (rule : StartRule) (d : Driver) → FitsDriver design.udps (length design.nets) d → spec.start_of recording o rule d ≡ Z → ⊥
start_no_float design recording o rule Input fits h = absurd cc
start_no_float design recording o rule Undriven fits h = absurd cc
start_no_float design recording o rule (Constant bit) fits h = absurd cc
start_no_float design recording o rule (Copy argument) fits h = absurd cc
start_no_float design recording o rule (Cell table pins) fits h = absurd cc
start_no_float design recording o rule (Register latching) fits h = start_known recording o latching.start rule fits.start h

-- no start is a float
pub no_float_row : (design : Design) (recording : Recording) (holders : List (Option Holder)) (rule : StartRule) (row : List Value) → FitsDesign design
    → spec.IsRow design (spec.start_in design recording holders rule) row → (net : ℕ) → get_or row net X ≡ Z → ⊥
no_float_row design recording holders rule row fits is net float = ⊎_elim (λ (less : net < length design.nets).
    start_no_float design recording (get_or holders net None) rule (driver_in design net) (fits.drivers net less) (sym (is.values net less) ∙ float))
    (λ (more : length design.nets ≤ net). (let long = is.long in let none = get_or-eq_default row X {n = net} (omega (arith, long, more)) in let e = sym none ∙ float in absurd cc))
    (cases_lt net (length design.nets))

pub blank : (n net : ℕ) → get_or (replicate n X) net X ≡ X
blank zero net = refl
blank (suc n) zero = refl
blank (suc n) (suc net) = blank n net

pub blank_others : (design : Design) (recording : Recording) (holders : List (Option Holder)) (row : List Value) (n : ℕ) → row ≡ replicate n X → spec.HasOthers design recording holders row
blank_others design recording holders row n is =
    record { each = λ moment net. ap (λ (v : Value). spec.input_by recording moment v (get_or holders net None) (driver_in design net)) (ap (λ (r : List Value). get_or r net X) is ∙ blank n net) }

-- one element more
pub each_more : {A : Type 0} (P : ℕ → A → Type 0) (d : A) (xs new : List A) (x : A) (n : ℕ) → length xs ≡ n → ((k : ℕ) → k < n → P k (get_or xs k d)) → P n x → new ≡ xs ++ x ∷ [] → (k : ℕ) → k < n + 1 → P k (get_or new k d)
each_more {A} P d xs new x n long each here is k within =
    subst (λ (l : List A). P k (get_or l k d)) (sym is) (⊎_elim
    (λ (h : k < n). (let below : k < length xs = omega (arith, h, long) in subst (λ (y : A). P k y) (sym (get_or_append_left xs (x ∷ []) d k below)) (each k h)))
    (λ (h : n ≤ k). (let e : k ≡ length xs = omega (arith, h, within, long) in let f : n ≡ k = omega (arith, e, long) in
    let at : get_or (xs ++ x ∷ []) k d ≡ x = ap (λ (i : ℕ). get_or (xs ++ x ∷ []) i d) e ∙ get_or-append_seam xs x [] d in
    subst (λ (y : A). P k y) (sym at) (subst (λ (i : ℕ). P i x) f here))) (cases_lt k n))

-- the inputs so far have their values
pub set_more : (recording : Recording) (moment net i : ℕ) (inputs : List Held) (d : Held) (old : Value) → i < length inputs
    → spec.set_from recording moment (get_or inputs i d ∷ []) net (spec.set_from recording moment (take i inputs) net old) ≡ spec.set_from recording moment (take (i + 1) inputs) net old
set_more recording moment net i inputs d old within =
    sym (ap (λ (l : List Held). spec.set_from recording moment l net old) (take_more inputs i d within) ∙ set_append recording moment (take i inputs) (get_or inputs i d ∷ []) net old)

-- a moment more, whose row was set from the one before
module _ (design : Design) (recording seen : Recording) (holders : List (Option Holder)) (moment : ℕ) (inputs : List Held) (row : List Value) (rows : List (List Value)) (new : WrittenRows)
    (same : seen ≡ recording) (is : inputs ≡ spec.inputs_of design holders) (set_row : spec.Sets seen moment inputs row new.row) (others : spec.HasOthers design recording holders row) (before : new.before ≡ rows) where
  set_all : (net : ℕ) → get_or new.row net X ≡ spec.set_from recording moment (spec.inputs_below design holders (length design.nets)) net (get_or row net X)
  set_all net =
      set_row net ∙ ap (λ (r : Recording). spec.set_from r moment inputs net (get_or row net X)) same
      ∙ ap (λ (l : List Held). spec.set_from recording moment l net (get_or row net X)) is

  pub others_set : spec.HasOthers design recording holders new.row
  others_set = others_stay design recording holders moment row new.row set_all others

  pub rows_more : length new.row ≡ length design.nets → length rows ≡ moment → ((k : ℕ) → k < moment → spec.IsRow design (spec.value_by design recording holders k) (get_or rows k []))
      → (k : ℕ) → k < moment + 1 → spec.IsRow design (spec.value_by design recording holders k) (get_or (all_rows new) k [])
  rows_more long many each =
      each_more (λ k x. spec.IsRow design (spec.value_by design recording holders k) x) [] rows (all_rows new) new.row moment many each
      (row_is design recording holders moment row new.row set_all others long) (ap (λ (l : List (List Value)). l ++ new.row ∷ []) before)

-- a row more
pub many_more : (rows : List (List Value)) (new : WrittenRows) (moment : ℕ) → new.before ≡ rows → length rows ≡ moment → length (all_rows new) ≡ moment + 1
many_more rows new moment before many =
    let e = ap (λ (l : List (List Value)). length l) before in
    let f = length-append new.before (new.row ∷ []) in
    omega (arith, e, f, many)
