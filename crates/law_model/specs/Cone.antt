-- Cones: what the bit of a place rests on, where the certain places before it are taken as constants.
use Rattle.std.specs.Prelude.{◌≡◌, ℕ, zero, suc, ◌+◌, ◌==◌, ◌&&◌, ◌||◌, Bool, true, false, List, [], ◌∷◌, ◌++◌, map}
use Rattle.std.specs.Prelude.{slice_index_or, not}
use Rattle.std.specs.List.{list_any}
use Rattle.design_cell.specs.declared.value.Value.{Value}
use Rattle.design_cell.specs.declared.value.Value.TheVariants.{Zero, One, X, Z}
use Rattle.design_cell.specs.Value.{bit_value, is_unknown}
use Rattle.design_circuit.specs.Job.{Job}
use Rattle.design_circuit.specs.Filling.{bit_of}
use Rattle.design_circuit.specs.Fits.{place_at}
use Rattle.design_circuit.specs.declared.place.Place.{Place}
use Rattle.design_circuit.specs.Rule.{rule}
use Rattle.design_circuit.specs.World.{world_bit}
use Rattle.law_model.specs.Assignment.{with_bit, assigned, for_every}
use Rattle.law_model.specs.Places.{among, places_where}
use Rattle.law_model.specs.Class.{class_of, flipped, is_never_unknown}
use Rattle.law_model.specs.declared.class.ClassByNumber.{ClassByNumber}
use Rattle.law_model.specs.declared.class.ClassByNumber.TheVariants.{Local, Free, Carried, Line}

abbrev pub is_carried : ClassByNumber → Bool
is_carried (Local bit) = false
is_carried Free = false
is_carried (Carried from inverted) = true
is_carried Line = false

-- Where a world may read its filling: at a place that isn't carried and whose rule gives x for some assignment.
abbrev pub reads_filling : Job → (ℕ → Value) → ℕ → Bool
reads_filling j certain place = not (is_carried (class_of j certain place)) && not (is_never_unknown j certain place)

-- Two values are the same, all four told apart.
abbrev pub are_alike : Value → Value → Bool
are_alike Zero Zero = true
are_alike One One = true
are_alike X X = true
are_alike Z Z = true
are_alike Zero One = false
are_alike Zero X = false
are_alike Zero Z = false
are_alike One Zero = false
are_alike One X = false
are_alike One Z = false
are_alike X Zero = false
are_alike X One = false
are_alike X Z = false
are_alike Z Zero = false
are_alike Z One = false
are_alike Z X = false

-- Whether the place has the bit 0 or 1, the rule of the other gives the same.
abbrev pub makes_no_difference : Job → (ℕ → Value) → ℕ → ℕ → (ℕ → Bool) → Bool
makes_no_difference j certain place argument bits =
    are_alike (rule j certain (with_bit argument false bits) place) (rule j certain (with_bit argument true bits) place)

-- An uncertain argument of a place is essential where two assignments that differ in it alone give different results, x
-- counting as a result.
abbrev pub is_essential : Job → (ℕ → Value) → ℕ → ℕ → Bool
is_essential j certain place argument =
    is_unknown (certain argument)
    && not (for_every j certain place (λ bits. makes_no_difference j certain place argument bits))

-- The essential arguments of a place, in place order.
unfoldable pub essentials : Job → (ℕ → Value) → ℕ → List ℕ
essentials j certain place = places_where (is_essential j certain place) place

-- The supports of a place: the one place that it is carried from, or else its essential arguments.
abbrev pub supports_by : List ℕ → ClassByNumber → List ℕ
supports_by essentials (Local bit) = essentials
supports_by essentials Free = essentials
supports_by essentials (Carried from inverted) = from ∷ []
supports_by essentials Line = essentials

abbrev pub supports : Job → (ℕ → Value) → ℕ → List ℕ
supports j certain place = supports_by (essentials j certain place) (class_of j certain place)

-- In the cone of a place are the place itself and all that is in the cones of its supports. Whether the place is
-- certain isn't asked, so for its own cone it counts as uncertain.
abbrev pub cone_by : (ℕ → ℕ → Bool) → ℕ → List ℕ → ℕ → Bool
cone_by earlier place supports k = (place == k) || list_any (λ support. earlier support k) supports

abbrev pub cone_at : List (ℕ → Bool) → ℕ → ℕ → Bool
cone_at cones place = slice_index_or cones place (λ k. false)

-- The cones of the first n places, in place order.
unfoldable pub cones : Job → (ℕ → Value) → ℕ → List (ℕ → Bool)
cones j certain zero = []
cones j certain (suc n) = cones j certain n ++ cone_by (cone_at (cones j certain n)) n (supports j certain n) ∷ []

-- Whether a place is in the cone of another.
abbrev pub in_cone : Job → (ℕ → Value) → ℕ → ℕ → Bool
in_cone j certain root = cone_at (cones j certain (root + 1)) root

-- That is: what supports reach from the place.
pub data Reaches (j : Job) (certain : ℕ → Value) (root : ℕ) : ℕ → Type 0 where
  itself : Reaches j certain root root
  further : (place support : ℕ) → Reaches j certain root place → among (supports j certain place) support ≡ true
      → Reaches j certain root support

-- The places of a cone, in place order.
abbrev pub cone : Job → (ℕ → Value) → ℕ → List ℕ
cone j certain root = places_where (in_cone j certain root) (root + 1)

-- Its sources: those that aren't carried and at which the rule gives x for some assignment.
abbrev pub is_source : Job → (ℕ → Value) → ℕ → ℕ → Bool
is_source j certain root place = in_cone j certain root place && reads_filling j certain place

abbrev pub sources : Job → (ℕ → Value) → ℕ → List ℕ
sources j certain root = places_where (is_source j certain root) (root + 1)

-- The filling that gives each source its bit in some bits: it lists the sources that have 1.
abbrev pub source_filling : Job → (ℕ → Value) → ℕ → (ℕ → Bool) → List Place
source_filling j certain root bits =
    map (place_at j) (places_where (λ place. is_source j certain root place && bits place) (root + 1))

-- Bits at some places, 0 elsewhere.
abbrev pub only : List ℕ → (ℕ → Bool) → ℕ → Bool
only places bits place = among places place && bits place

-- The rule of a place on the bits of its essential arguments, the certain ones having their value. No other bit
-- matters.
unfoldable pub table : Job → (ℕ → Value) → ℕ → (ℕ → Bool) → Value
table j certain place bits = rule j certain (assigned certain (only (essentials j certain place) bits)) place

-- A valuation of a cone is consistent where each carried place has the bit of the place that it is carried from, or its
-- complement where the class says inverted, and each other place has its rule's value on the bits of its essential
-- arguments wherever that value is 0 or 1.
pub record IsConsistent (j : Job) (certain : ℕ → Value) (root : ℕ) (valuation : ℕ → Bool) : Type 0 where
  pub carried : (place from : ℕ) (inverted : Bool) → in_cone j certain root place ≡ true
      → class_of j certain place ≡ Carried from inverted → valuation place ≡ flipped inverted (valuation from)
  pub ruled : (place : ℕ) (bit : Bool) → in_cone j certain root place ≡ true
      → is_carried (class_of j certain place) ≡ false → table j certain place valuation ≡ bit_value bit
      → valuation place ≡ bit

-- The value of a place under the empty filling, which the query denies.
abbrev pub denied_value : Job → (ℕ → Value) → ℕ → Bool
denied_value j certain place = world_bit j certain (bit_of j []) place
