-- The part of a name's nets that begins with an index.
use Rattle.std.proofs.Common.{◌≡◌, ℕ, zero, suc, ◌<◌, Bool, true, false, List, [], ◌∷◌, length, get_or, drop, refl, sym, ap, arith, if◌then◌else◌, All}
use Rattle.std.proofs.lemmas.List.Elements.{All-nil}
use Rattle.design_circuit.specs.declared.design.Design.{Design}
use Rattle.recording_binding.specs.Bits.{has_index, from_index, AreApart}

apart_behind : (design : Design) (net : ℕ) (nets : List ℕ) → AreApart design (net ∷ nets) → AreApart design nets
apart_behind design net nets h = record { apart = λ i j index p q a b. (let e : suc i ≡ suc j = h.apart (suc i) (suc j) index (omega arith) (omega arith) a b in omega arith) }

-- no net before one of an index has that
pub rest_is : (design : Design) (index guess : ℕ) (nets : List ℕ) → AreApart design nets → guess < length nets → has_index design index (get_or nets guess 0) ≡ true → drop guess nets ≡ from_index design index nets
rest_is design index guess [] apart within has = absurd (omega arith)
rest_is design index zero (net ∷ nets) apart within has = ap (λ (b : Bool). if b then net ∷ nets else from_index design index nets) (sym has)
rest_is design index (suc guess) (net ∷ nets) apart within has = by (has_index design index net) refl (rest_is design index guess nets (apart_behind design net nets apart) (omega arith) has)
  where
    by : (b : Bool) → has_index design index net ≡ b → drop guess nets ≡ from_index design index nets → drop guess nets ≡ (if b then net ∷ nets else from_index design index nets)
    by true is rest = (let e : 0 ≡ suc guess = apart.apart 0 (suc guess) index (omega arith) within is has in absurd (omega arith))
    by false is rest = rest

-- the nets of a name, from an index on and as many as wanted, are nets of the design
pub from_within : (P : ℕ → Type 0) (design : Design) (index : ℕ) (nets : List ℕ) → All P nets → All P (from_index design index nets)
from_within P design index [] all = All-nil P
from_within P design index (net ∷ nets) all = by (has_index design index net) (from_within P design index nets (λ k d within. all (suc k) d (omega arith)))
  where
    by : (b : Bool) → All P (from_index design index nets) → All P (if b then net ∷ nets else from_index design index nets)
    by true rest = all
    by false rest = rest
