-- Whether the filling that bits choose of a list lists a place.
use Rattle.std.proofs.Common.{◌≡◌, ℕ, ◌+◌, ◌*◌, ◌<◌, ◌&&◌, ◌||◌, ◌==◌, Bool, true, false, List, [], ◌∷◌, length, take, refl, sym, ap, ◌∙◌, if◌then◌else◌, slice_index_or}
use Rattle.std.proofs.lemmas.List.Folds.{list_any-append}
use Rattle.std.proofs.lemmas.Nat.Bits.{bit_at-zero}
use Rattle.design_circuit.specs.declared.place.Place.{Place}
use Rattle.decide_nodes.proofs.PickedLists.{chosen_more}
use Rattle.decide_nodes.specs.Lanes.{HasLanes, in_lane}
use Rattle.decide_nodes.specs.Nodes.{chosen, is_listed, is_same_place, number_bits}

last_listed : (b : Bool) (place listed : Place)
    → is_listed (if b then listed ∷ [] else []) place ≡ is_same_place place listed && b
last_listed true place listed = one (is_same_place place listed)
  where
    one : (a : Bool) → a || false ≡ a && true
    one true = refl
    one false = refl
last_listed false place listed = none (is_same_place place listed)
  where
    none : (a : Bool) → false ≡ a && false
    none true = refl
    none false = refl

-- One place more of the list.
pub listed_more : (list : List Place) (bits : ℕ → Bool) (i : ℕ) (place d : Place) → i < length list
    → is_listed (chosen (take (i + 1) list) bits) place
    ≡ is_listed (chosen (take i list) bits) place || (is_same_place place (slice_index_or list i d) && bits i)
listed_more list bits i place d less =
    ap (λ (places : List Place). is_listed places place) (chosen_more list bits i d less)
    ∙ list_any-append (is_same_place place) (chosen (take i list) bits) (if bits i then slice_index_or list i d ∷ [] else [])
    ∙ ap (λ b. is_listed (chosen (take i list) bits) place || b) (last_listed (bits i) place (slice_index_or list i d))

-- The number 0 chooses nothing.
pub none_chosen : (list : List Place) (bits : ℕ → Bool) → ((k : ℕ) → bits k ≡ false) → chosen list bits ≡ []
none_chosen [] bits none = refl
none_chosen (place ∷ list) bits none = rw (none 0) (none_chosen list (λ k. bits (k + 1)) (λ k. none (k + 1)))

pub empty_number : (list : List Place) → chosen list (number_bits 0) ≡ []
empty_number list = none_chosen list (number_bits 0) (λ k. ap (λ bit. bit == 1) (bit_at-zero k))

-- So the lanes in which it lists a place, of the first places of the list.
pub lanes_more : (list : List Place) (block i : ℕ) (place d : Place) (lanes part next : List ℕ) → i < length list
    → HasLanes lanes (λ lane. is_listed (chosen (take i list) (number_bits (256 * block + lane))) place)
    → HasLanes part (λ lane. is_same_place place (slice_index_or list i d) && number_bits (256 * block + lane) i)
    → HasLanes next (λ lane. in_lane lanes lane || in_lane part lane)
    → HasLanes next (λ lane. is_listed (chosen (take (i + 1) list) (number_bits (256 * block + lane))) place)
lanes_more list block i place d lanes part next less has more either lane small =
    either lane small ∙ rw (has lane small, more lane small) refl
    ∙ sym (listed_more list (number_bits (256 * block + lane)) i place d less)
