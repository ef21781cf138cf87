-- The world of a filling over the written places of a wave.
use Rattle.std.proofs.Common.{◌≡◌, ℕ, ◌+◌, ◌<◌, ◌++◌, ◌∷◌, [], Bool, List, length, map, get_or, refl, sym, ap, ◌∙◌, subst, arith, add-one}
use Rattle.std.proofs.lemmas.List.FromFn.{length-map-range_with_len, get_or-map-range_with_len, map-range_with_len_more}
use Rattle.std.specs.List.{range_with_len}
use Rattle.design_cell.specs.declared.value.Value.{Value}
use Rattle.design_circuit.specs.declared.place.Place.{Place}
use Rattle.design_circuit.specs.Filling.{bit_of}
use Rattle.design_circuit.specs.Job.{Job, number_of}
use Rattle.design_circuit.specs.Order.{position_of}
use Rattle.design_circuit.specs.Rule.{rule}
use Rattle.design_circuit.specs.Waveform.{certain}
use Rattle.design_circuit.specs.World.{decided, bit_at, world}
use Rattle.design_circuit.proofs.Worlds.{world_length, world_prefix}
use Rattle.wave_proved.specs.Contents.{Contents, job}
use Rattle.wave_world.specs.View.{WorldView, HasWritten, GivesBits, filled, number_in, positions_in, written_bits}

-- A world with the bit of its next place.
pub world_grown : (j : Job) (c : ℕ → Value) (f : ℕ → Bool) (n : ℕ) (bits : List Bool) (value : Value) (bit : Bool)
    → bits ≡ world j c f n → value ≡ rule j c (bit_at bits) n → bit ≡ f n
    → bits ++ decided value bit ∷ [] ≡ world j c f (n + 1)
unfolding world
world_grown j c f n bits value bit before ruled read = rw (ruled, read, before, add-one) refl

-- A net more has its position.
pub positions_more : (order : List ℕ) (n : ℕ)
    → map (position_of order) (range_with_len 0 (n + 1)) ≡ map (position_of order) (range_with_len 0 n) ++ position_of order n ∷ []
positions_more order n = map-range_with_len_more (position_of order) 0 n n (omega arith)

-- It is made of the positions and the bits.
pub made : (c : Contents) (filling : List Place) (positions : List ℕ) (bits : List Bool)
    → positions ≡ positions_in c.order → bits ≡ written_bits c filling
    → record { positions = positions; bits = bits } ≡ filled c filling
made c filling positions bits positions_are bits_are = rw (positions_are, bits_are) refl

-- The number of a place by the positions of all nets.
long : (c : Contents) → length c.order ≡ (job c).width → length (positions_in c.order) ≡ (job c).width
long c all = length-map-range_with_len (position_of c.order) 0 (length c.order) ∙ all

numbered : (c : Contents) (filling : List Place) → length c.order ≡ (job c).width → (place : Place)
    → place.net < (job c).width → number_in (filled c filling) place ≡ number_of (job c) place
numbered c filling all place within =
    let position : get_or (positions_in c.order) place.net 0 ≡ position_of c.order place.net =
    get_or-map-range_with_len (position_of c.order) 0 (length c.order) place.net place.net 0 (omega (arith, all, within)) (omega arith) in
    rw (long c all, position) refl

-- It has each written place.
pub has_written : (c : Contents) (filling : List Place) → length c.order ≡ (job c).width → (w : WorldView)
    → w ≡ filled c filling → HasWritten c w
has_written c filling all w is = subst (HasWritten c) (sym is) (λ place written.
    let nets = long c all in
    let bits = world_length (job c) (certain c.written) (bit_of (job c) filling) (length c.written) in
    let number = numbered c filling all place written.within.net in
    let net = written.within.net in
    let less = written.written in
    record { net = omega (arith, nets, net); written = omega (arith, bits, number, less) })

-- It has its bit there.
pub gives_bits : (c : Contents) (filling : List Place) → length c.order ≡ (job c).width → (w : WorldView)
    → w ≡ filled c filling → GivesBits c filling w
gives_bits c filling all w is = subst (GivesBits c filling) (sym is) (λ place written.
    ap (bit_at (filled c filling).bits) (numbered c filling all place written.within.net)
    ∙ world_prefix (job c) (certain c.written) (bit_of (job c) filling) (length c.written) (number_of (job c) place) written.written)
