-- The root of a place: where the bits that it carries come from.
use Rattle.std.specs.Prelude.{ℕ, zero, suc, ◌+◌, Bool, false, List, [], ◌∷◌, ◌++◌, slice_index_or}
use Rattle.design_cell.specs.declared.value.Value.{Value}
use Rattle.design_circuit.specs.Job.{Job}
use Rattle.law_model.specs.Class.{class_of, flipped}
use Rattle.law_model.specs.declared.class.ClassByNumber.{ClassByNumber}
use Rattle.law_model.specs.declared.class.ClassByNumber.TheVariants.{Local, Free, Carried, Line}

-- A place, and whether the way to it inverts.
pub record Root : Type 0 where
  pub place : ℕ
  pub inverted : Bool

abbrev pub no_root : Root
no_root = record { place = 0; inverted = false }

-- The root of a place is itself, or the root of the place that it is carried from.
abbrev pub root_by : (ℕ → Root) → ℕ → ClassByNumber → Root
root_by earlier place (Local bit) = record { place = place; inverted = false }
root_by earlier place Free = record { place = place; inverted = false }
root_by earlier place (Carried from inverted) =
    record { place = (earlier from).place; inverted = flipped inverted (earlier from).inverted }
root_by earlier place Line = record { place = place; inverted = false }

unfoldable pub roots : Job → (ℕ → Value) → ℕ → List Root
roots j certain zero = []
roots j certain (suc n) =
    roots j certain n ++ root_by (λ k. slice_index_or (roots j certain n) k no_root) n (class_of j certain n) ∷ []

abbrev pub root_of : Job → (ℕ → Value) → ℕ → Root
root_of j certain place = slice_index_or (roots j certain (place + 1)) place no_root
