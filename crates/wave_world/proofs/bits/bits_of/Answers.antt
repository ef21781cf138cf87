-- The bits grow as the world does.
use Rattle.std.proofs.Common.{◌≡◌, ◌+◌, ◌∙◌, ◌++◌, ◌∷◌, [], ap, subst, length, arith, refl}
use Rattle.design_circuit.specs.Circuit.{job_in}
use Rattle.design_circuit.specs.Filling.{bit_of}
use Rattle.design_circuit.specs.Job.{Job}
use Rattle.design_circuit.specs.Rule.{rule}
use Rattle.design_circuit.specs.Waveform.{certain}
use Rattle.design_circuit.specs.World.{bit_at, world}
use Rattle.design_circuit.proofs.Worlds.{world_length}
use Rattle.wave_proved.specs.Contents.{job}
use Rattle.wave_world.specs.Left.{Decides, IsLeft}
use Rattle.wave_world.proofs.Filled.{world_grown}
use Rattle.wave_world.proofs.Reading.{all_left}
use Rattle.wave_world.proofs.bits.bits_of.Goals as goal

pub places-init : goal.places-init
unfolding world
places-init c = record {
  bits = c.in_ok-bits.ensures.items;
  left = all_left (job c.args.wave.now) c.args.filling.now c.requires;
  decides = λ place from. refl;
}

pub rule_value-value-requires-clause-bits : goal.rule_value-value-requires-clause-bits
rule_value-value-requires-clause-bits c = λ k less.
    let j = job c.args.wave.now in
    let f = bit_of j c.args.filling.now in
    let read : length c.deref.result.now ≡ length c.places.bits.items = ap length c.deref.ensures.value in
    let long : length c.places.bits.items ≡ c.places.place =
    ap length c.places.invariant.bits ∙ world_length j (certain c.args.wave.now.written) f c.places.place in
    omega (arith, read, long, less)

pub places-preserved : goal.places-preserved
places-preserved c =
    let j = job c.args.wave.now in
    let known = certain c.args.wave.now.written in
    let f = bit_of j c.args.filling.now in
    let n = c.places.place in
    let bits = c.places.bits.items in
    let same : job_in c.circuit-circuit.result ≡ j = c.circuit-circuit.ensures.job in
    let items : c.push.new.self.items ≡ bits ++ c.decided_bit.result ∷ [] = c.in_ok-push.ensures.items in
    let value : c.rule_value-value.result ≡ rule j known (bit_at bits) n =
    subst (λ (jj : Job). c.rule_value-value.result ≡ rule jj known (bit_at bits) n) same
    (c.rule_value-value.ensures ∙ rw c.deref.ensures.value refl) in
    let bit : c.next_bit-bit.result.0 ≡ f n =
    subst (λ (jj : Job). c.next_bit-bit.result.0 ≡ bit_of jj c.places.left.now n) same c.next_bit-bit.ensures.bit
    ∙ c.places.invariant.decides n (omega arith) in
    let grown = world_grown j known f n bits c.rule_value-value.result c.next_bit-bit.result.0 c.places.invariant.bits value bit in
    let behind : Decides j (n + 1) c.next_bit-bit.result.1.now c.places.left.now =
    subst (λ (jj : Job). Decides jj (n + 1) c.next_bit-bit.result.1.now c.places.left.now) same c.next_bit-bit.ensures.decides in
    record {
      bits = items ∙ ap (λ b. bits ++ b ∷ []) c.decided_bit.ensures ∙ grown;
      left = subst (λ (jj : Job). IsLeft jj (n + 1) c.next_bit-bit.result.1.now) same c.next_bit-bit.ensures.left;
      decides = λ place from. behind place from ∙ c.places.invariant.decides place (omega arith);
    }
