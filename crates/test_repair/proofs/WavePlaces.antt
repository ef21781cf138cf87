-- Places of a wave by their numbers, their cones, and what was handed in.
use Rattle.std.proofs.Common.{◌≡◌, ℕ, ◌<◌, List, length, sym, subst, arith}
use Rattle.design_circuit.specs.declared.spot.Spot.{Spot}
use Rattle.design_circuit.specs.Circuit.{IsSpot}
use Rattle.design_circuit.specs.Fits.{place_at}
use Rattle.design_circuit.specs.Handed.{IsHandedIn}
use Rattle.design_circuit.specs.History.{HistoryView}
use Rattle.design_circuit.specs.Job.{Job, places_of}
use Rattle.design_circuit.proofs.Numbers.{is_place_at, number_of_place_at}
use Rattle.wave_proved.specs.Contents.{Contents, IsWave, IsWritten, job}
use Rattle.decide_nodes.specs.declared.node.Node.{Node}
use Rattle.decide_nodes.specs.Traced.{IsWholeCone}
use Rattle.decide_cone.specs.Boundary.{IsSomeCone}

place_written : (c : Contents) → IsWave c → (number : ℕ) → number < length c.written
    → IsWritten c (place_at (job c) number)
place_written c wave number less =
    let fits = wave.fits.fits_job in
    let within : number < places_of (job c) = omega (arith, wave.holds.sound.within, less) in
    record {
      within = is_place_at (job c) number fits.ordering fits.all within;
      written = rw (number_of_place_at (job c) number fits.ordering fits.all within) less;
    }

-- The place of a spot whose number is that of a written place is written.
pub spot_written : (c : Contents) → IsWave c → (j : Job) → j ≡ job c → (number : ℕ) → number < length c.written
    → (spot : Spot) → IsSpot j number spot → IsWritten c (record { step = spot.step; net = spot.net })
spot_written c wave j same number less spot is = rw (is.step, is.net, same) (place_written c wave number less)

-- The history of a wave may be handed in with its job again.
pub handed_again : (c : Contents) → IsWave c → (j : Job) → j ≡ job c → (history : HistoryView) → history ≡ c.history
    → IsHandedIn j history
handed_again c wave j same history is =
    let own : IsHandedIn (job c) history = subst (λ (h : HistoryView). IsHandedIn (job c) h) (sym is) wave.handed in
    subst (λ (k : Job). IsHandedIn k history) (sym same) own

-- The whole cone of a place is that of some place.
pub some_cone : (c : Contents) (root : ℕ) (nodes : List Node) → IsWholeCone c root nodes → IsSomeCone c nodes
some_cone c root nodes is = record { root = root; is = is }
