-- The nets of bits, and the steps of a wave's history.
use Rattle.std.proofs.Common.{ℕ, suc, ◌<◌, ◌≤◌, List, [], ◌∷◌, All, length, slice_index, arith, subst}
use Rattle.std.specs.Prelude.{Contains}
use Rattle.std.proofs.lemmas.List.Elements.{All-append, All-nil}
use Rattle.design_circuit.specs.declared.design.Design.{Design}
use Rattle.recording_binding.specs.Binding.{FitsBound}
use Rattle.recording_binding.specs.declared.binding.Bound.{Bound}
use Rattle.replay_due.specs.Readers.{AreReadersWithin, HasReadings, ReadersView, readers_of, reading_at}
use Rattle.replay_due.specs.declared.readings.Reading.{Reading}
use Rattle.report_bits.specs.Marked.{AreReadingsOf, bit_nets}

-- The nets of the bits of a binding that fits are the design's.
pub nets_low : (design : Design) (bound : List Bound) → All (FitsBound design) bound
    → All (λ net. net < length design.nets) (bit_nets bound)
nets_low design [] fits = All-nil (λ net. net < length design.nets)
nets_low design (b ∷ bound) fits =
    All-append (λ net. net < length design.nets) b.bits (bit_nets bound) (fits 0 b (omega arith)).nets
    (nets_low design bound (λ k d less. fits (suc k) d (omega (arith, less))))

-- Their readings are below a number that is as great as each of both counts.
pub readings_within : (nets : List ℕ) (readings : List Reading) (width room : ℕ) → width ≤ room → length nets ≤ room
    → All (λ net. net < width) nets → AreReadingsOf nets readings → AreReadersWithin room readings
readings_within nets readings width room wide long low are =
    let count = are.long in
    record {
      net = λ i less. (let is = are.net i less in let below = low i 0 (omega (arith, less, count)) in
          omega (arith, is, below, wide));
      position = λ i less. (let is = are.position i less in omega (arith, is, less, count, long));
    }

-- Each bit is among the readers of its net.
pub bits_among : (nets : List ℕ) (readings : List Reading) (table : ReadersView) → AreReadingsOf nets readings
    → HasReadings readings table → (number : ℕ) → number < length nets
    → Contains (readers_of table (slice_index nets number)) number
bits_among nets readings table are has number within =
    let count = are.long in
    let less : number < length readings = omega (arith, within, count) in
    subst (λ (net : ℕ). Contains (readers_of table net) number) (are.net number less)
    (subst (λ (n : ℕ). Contains (readers_of table (reading_at readings number).net) n) (are.position number less)
    (has number less))
