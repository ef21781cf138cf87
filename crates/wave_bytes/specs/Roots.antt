-- What positions copy.
use Rattle.std.specs.Prelude.{◌≡◌, ℕ, ◌<◌, ◌≤◌, List, length, slice_index}
use Rattle.design_circuit.specs.Job.{Job}
use Rattle.design_circuit.specs.Order.{position_of}
use Rattle.design_circuit.specs.declared.design.Driver.TheVariants.{Copy}
use Rattle.wave_bytes.specs.Rows.{nth_root}

-- What a position copies: nothing, which is itself, or what the position of the net copies that its driver copies.
pub data IsRootBehind (j : Job) (roots : List ℕ) (position root : ℕ) : Type 0 where
  itself : root ≡ position → IsRootBehind j roots position root
  copied : (net : ℕ) → j.driver (slice_index j.order position) ≡ Copy net → position_of j.order net < position
      → root ≡ nth_root roots (position_of j.order net) → IsRootBehind j roots position root

abbrev pub HasRoot : Job → List ℕ → ℕ → Type 0
HasRoot j roots position = IsRootBehind j roots position (nth_root roots position)

-- So many positions have theirs, each of which stands at its position or before it, and copies nothing.
pub record AreRootsTo (j : Job) (n : ℕ) (roots : List ℕ) : Type 0 where
  pub long : length roots ≡ n
  pub low : (position : ℕ) → position < n → nth_root roots position ≤ position
  pub root : (position : ℕ) → position < n → nth_root roots (nth_root roots position) ≡ nth_root roots position
  pub each : (position : ℕ) → position < n → HasRoot j roots position
