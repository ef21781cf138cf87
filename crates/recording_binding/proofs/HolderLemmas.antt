-- What holds a net is a bit of a variable of the recording.
use Rattle.std.proofs.Common.{◌≡◌, ℕ, zero, suc, ◌+◌, ◌<◌, ◌==◌, Bool, true, false, cond, List, [], ◌∷◌, Option, None, Some, length, map, get_or, refl, sym, ap, subst, ◌∙◌, arith, All, option_map}
use Rattle.std.specs.List.{position_from}
use Rattle.std.proofs.lemmas.List.{length-map}
use Rattle.design_circuit.specs.Job.{driver_in}
use Rattle.design_circuit.specs.declared.design.Design.{Design}
use Rattle.design_circuit.specs.declared.design.Driver.{Driver}
use Rattle.design_circuit.specs.declared.design.Driver.TheVariants.{Input, Undriven, Constant, Copy, Cell, Register}
use Rattle.recording_reader.specs.Recording.{Recording, width_at}
use Rattle.recording_binding.specs.Binding.{FitsBound}
use Rattle.recording_binding.specs.Bounds.{IsOf}
use Rattle.recording_binding.specs.Holding.{FitsHeld, HoldsBy, IsHolder, holder_in, holder_of, or_next}
use Rattle.recording_binding.specs.JobDesign.{copied_holder_of, holder_at, holder_by}
use Rattle.recording_binding.specs.Originals.{original_of, with_originals}
use Rattle.recording_binding.specs.StimOf as spec
use Rattle.recording_binding.specs.declared.binding.Bound.{Bound}
use Rattle.recording_binding.specs.declared.inputs.Holder.{Holder}
use Rattle.recording_binding.specs.declared.rule.UndrivenRule.{UndrivenRule}
use Rattle.recording_binding.specs.declared.rule.UndrivenRule.TheVariants.{Released, Recorded}

found_by : (b : Bool) (i k n : ℕ) (rest : Option ℕ) → cond b (Some i) rest ≡ Some k → (rest ≡ Some k → k < (i + 1) + n) → k < i + suc n
found_by true i k n rest h below = (let e : i ≡ k = cc in omega (arith, e))
found_by false i k n rest h below = (let l = below h in omega (arith, l))

found_within : (p : ℕ → Bool) (i k : ℕ) (bits : List ℕ) → position_from p i bits ≡ Some k → k < i + length bits
found_within p i k [] h = absurd cc
found_within p i k (b ∷ bits) h = found_by (p b) i k (length bits) (position_from p (i + 1) bits) h (found_within p (i + 1) k bits)

record IsBit (variable : ℕ) (bits : List ℕ) (h : Holder) : Type 0 where
  own : h.variable ≡ variable
  within : h.bit < length bits

bit_by : (variable : ℕ) (bits : List ℕ) (o : Option ℕ) (h : Holder) → ((k : ℕ) → o ≡ Some k → k < length bits) → option_map (λ bit. record { variable = variable; bit = bit }) o ≡ Some h → IsBit variable bits h
bit_by variable bits None h within is = absurd cc
bit_by variable bits (Some k) h within is =
    let made : Holder = record { variable = variable; bit = k } in
    let e : made ≡ h = cc in
    subst (λ (x : Holder). IsBit variable bits x) e (record { own = refl; within = within k refl })

bit_of : (variable : ℕ) (bits : List ℕ) (net : ℕ) (h : Holder) → holder_in variable bits net ≡ Some h → IsBit variable bits h
bit_of variable bits net h is = bit_by variable bits (position_from (λ own. own == net) 0 bits) h (λ k e. (let l = found_within (λ own. own == net) 0 k bits e in omega (arith, l))) is

next_by : (recording : Recording) (a b : Option Holder) (h : Holder) → (a ≡ Some h → IsHolder recording h) → (b ≡ Some h → IsHolder recording h) → or_next a b ≡ Some h → IsHolder recording h
next_by recording None b h p q is = q is
next_by recording (Some x) b h p q is = p is

held_of : (recording : Recording) (bound : List Bound) (net : ℕ) (h : Holder) → All (IsOf recording) bound → holder_of bound net ≡ Some h → IsHolder recording h
held_of recording [] net h all is = absurd cc
held_of recording (b ∷ bs) net h all is =
    let own : IsOf recording b = all 0 b (omega arith) in
    let here : holder_in b.variable b.bits net ≡ Some h → IsHolder recording h = λ e.
    (let bit = bit_of b.variable b.bits net h e in
    let w = own.wide in
    let is_own = bit.own in
    let below = bit.within in
    let known : h.variable < length recording.variables = (let k = own.known in omega (arith, k, is_own)) in
    let wide : width_at recording b.variable ≡ width_at recording h.variable = ap (width_at recording) (sym is_own) in
    record { known = known; within = omega (arith, below, w, wide) }) in
    next_by recording (holder_in b.variable b.bits net) (holder_of bs net) h here (held_of recording bs net h (λ k d within. all (suc k) d (omega arith))) is

-- so where nets without a driver are as recorded
all_originals : (design : Design) (recording : Recording) (bound : List Bound) → All (IsOf recording) bound → (k : ℕ) (b : Bound) → k < length (map (with_originals design) bound) → IsOf recording (get_or (map (with_originals design) bound) k b)
all_originals design recording [] all k b within = absurd (omega arith)
all_originals design recording (first ∷ bound) all zero b within =
    let own : IsOf recording first = all 0 first (omega arith) in
    record { known = own.known; wide = length-map first.bits (original_of design) ∙ own.wide }
all_originals design recording (first ∷ bound) all (suc k) b within = all_originals design recording bound (λ i d inside. all (suc i) d (omega arith)) k b (omega arith)

by_driver : (recording : Recording) (d : Driver) (own copied : Option Holder) (h : Holder) → (own ≡ Some h → IsHolder recording h) → (copied ≡ Some h → IsHolder recording h) → holder_at d own copied ≡ Some h → IsHolder recording h
by_driver recording Input own copied h first second is = first is
by_driver recording Undriven own copied h first second is = second is
by_driver recording (Constant bit) own copied h first second is = first is
by_driver recording (Copy argument) own copied h first second is = first is
by_driver recording (Cell table pins) own copied h first second is = first is
by_driver recording (Register latching) own copied h first second is = first is

held_by : (rule : UndrivenRule) (design : Design) (recording : Recording) (bound : List Bound) (net : ℕ) (h : Holder) → All (IsOf recording) bound → holder_by rule design bound net ≡ Some h → IsHolder recording h
held_by Released design recording bound net h all is = held_of recording bound net h all is
held_by Recorded design recording bound net h all is =
    by_driver recording (driver_in design net) (holder_of bound net) (copied_holder_of design bound net) h (held_of recording bound net h all)
    (held_of recording (map (with_originals design) bound) net h (all_originals design recording bound all)) is

pub are_holders : (rule : UndrivenRule) (design : Design) (recording : Recording) (bound : List Bound) (holders : List (Option Holder)) → HoldsBy (holder_by rule design bound) design holders → All (IsOf recording) bound → spec.AreHolders recording holders
are_holders rule design recording bound holders holds all = record {
  each = λ net h within is.
      (let m = holds.as_many in let below : net < length design.nets = omega (arith, within, m) in held_by rule design recording bound net h all (sym (holds.each net below) ∙ is));
}

pub held_fit : (design : Design) (bound : List Bound) → All (FitsBound design) bound → All (FitsHeld design) bound
held_fit design bound fits = λ k d within. (let b = fits k d within in record { nets = b.nets; few = b.few })
