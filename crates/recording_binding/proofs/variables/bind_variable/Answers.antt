-- Bits are nets of the design, one or more.
use Rattle.std.proofs.Common.{◌≡◌, ◌<◌, ◌≤◌, List, ℕ, All, ap, arith, length, sym, subst, ◌∙◌}
use Rattle.design_circuit.specs.declared.design.Design.{Design}
use Rattle.recording_binding.specs.Telling.{matched}
use Rattle.recording_binding.specs.declared.bits.Matched.TheVariants.{Bits}
use Rattle.recording_binding.proofs.TellLemmas.{bits_are}
use Rattle.recording_binding.proofs.variables.bind_variable.Goals as goal

pub ends_of-range-requires-clause-some : goal.ends_of-range-requires-clause-some
ends_of-range-requires-clause-some c =
    let u = c.args.matcher.now in
    let v = c.args.variable.now in
    let bits = c.in-Bits.bits in
    let is : Bits bits ≡ matched u.design u.scope u.recording v = sym c.in-Bits.is ∙ c.in_ok-matched.ensures in
    let wide : length bits ≡ v.width = (bits_are u.design u.scope u.recording v bits is).wide in
    let some : 1 ≤ v.width = c.requires.some in
    let here : length c.as_slice.result.now ≡ v.width = ap (length {A = ℕ}) c.as_slice.ensures ∙ wide in
    omega (arith, some, here)

pub ends_of-range-requires-clause-nets : goal.ends_of-range-requires-clause-nets
ends_of-range-requires-clause-nets c =
    let u = c.args.matcher.now in
    let v = c.args.variable.now in
    let bits = c.in-Bits.bits in
    let is : Bits bits ≡ matched u.design u.scope u.recording v = sym c.in-Bits.is ∙ c.in_ok-matched.ensures in
    let all : All (λ net. net < length u.design.nets) bits = (bits_are u.design u.scope u.recording v bits is).nets in
    subst (λ (d : Design). All (λ net. net < length d.nets) c.as_slice.result.now) (sym c.design.ensures.is) (subst (λ (l : List ℕ). All (λ net. net < length u.design.nets) l) (sym c.as_slice.ensures) all)
