-- Where a net stands in a list of nets.
use Rattle.std.proofs.Common.{◌≡◌, ◌≢◌, ℕ, zero, suc, ◌+◌, ◌<◌, ◌≤◌, ◌^◌, List, [], ◌∷◌, length, get_or, set, get_or-set_other, get_or-set_same, length-set, refl, sym, ◌∙◌, arith, add-one, ⊎_elim, below_more, subst}
use Rattle.std.proofs.lemmas.Grind.{common_steps}
use Rattle.std.proofs.lemmas.Bool.{cases_eq}
use Rattle.design_circuit.specs.Order.{IsOrdering, IsIndexed, position_of}

first : (n net : ℕ) (ns : List ℕ) → n ≡ net → position_of (n ∷ ns) net ≡ 0
first n net ns same = grind (arith, common_steps)

further : (n net : ℕ) (ns : List ℕ) → n ≢ net → position_of (n ∷ ns) net ≡ position_of ns net + 1
further n net ns differ = grind (arith, common_steps)

-- a net that stands in a list stands at its position
pub net_at_position : (nets : List ℕ) (net p : ℕ) → p < length nets → get_or nets p 0 ≡ net → get_or nets (position_of nets net) 0 ≡ net
net_at_position [] net p within is = absurd (omega arith)
net_at_position (n ∷ ns) net zero within is = rw (first n net ns is) is
net_at_position (n ∷ ns) net (suc p) within is =
    ⊎_elim (λ same. rw (first n net ns same) same) (λ differ. rw (further n net ns differ, add-one) (net_at_position ns net p (omega arith) is)) (cases_eq n net)

pub position_within : (nets : List ℕ) (net p : ℕ) → p < length nets → get_or nets p 0 ≡ net → position_of nets net < length nets
position_within [] net p within is = absurd (omega arith)
position_within (n ∷ ns) net zero within is = rw (first n net ns is) (omega arith)
position_within (n ∷ ns) net (suc p) within is =
    ⊎_elim (λ same. rw (first n net ns same) (omega arith)) (λ differ. rw (further n net ns differ) (let short = position_within ns net p (omega arith) is in omega (arith, short))) (cases_eq n net)

-- in an ordering that is the only index
pub position_is : (nets : List ℕ) (p : ℕ) → IsOrdering nets → p < length nets → position_of nets (get_or nets p 0) ≡ p
position_is nets p ordering within =
    ordering.once (position_of nets (get_or nets p 0)) p (position_within nets (get_or nets p 0) p within refl) within (net_at_position nets (get_or nets p 0) p within refl)

pub position_indexed : (nets positions : List ℕ) (net : ℕ) → IsIndexed nets positions → net < length nets → get_or positions net 0 ≡ position_of nets net
position_indexed nets positions net indexed within =
    let P : ℕ → Type 0 = λ n. get_or positions net 0 ≡ position_of nets n in
    subst P (indexed.net_at net within) (sym (position_is nets (get_or positions net 0) indexed.ordering (indexed.position_in net within)))

-- the positions of the first nets are written
pub record Placed (nets positions : List ℕ) (n : ℕ) : Type 0 where
  pub length_is : length positions ≡ length nets
  pub position : (p : ℕ) → p < n → get_or positions (get_or nets p 0) 0 ≡ p

pub placed_more : (nets positions : List ℕ) (n : ℕ) → IsOrdering nets → n < length nets → Placed nets positions n → Placed nets (set positions (get_or nets n 0) n) (n + 1)
placed_more nets positions n ordering within placed = record {
  length_is = length-set positions (get_or nets n 0) n ∙ placed.length_is;
  position = below_more _ _ (λ p less. earlier p less) last;
}
  where
    inside : get_or nets n 0 < length positions
    inside = let low = ordering.below n within in omega (arith, low, placed.length_is)

    earlier : (p : ℕ) → p < n → get_or (set positions (get_or nets n 0) n) (get_or nets p 0) 0 ≡ p
    earlier p less =
        let differ : get_or nets p 0 ≢ get_or nets n 0 = λ same. (let equal = ordering.once p n (omega arith) within same in omega (arith, equal, less)) in
        rw get_or-set_other (placed.position p less)

    last : get_or (set positions (get_or nets n 0) n) (get_or nets n 0) 0 ≡ n
    last = let room : get_or nets n 0 < length positions = inside in rw get_or-set_same refl

pub placed_all : (nets positions : List ℕ) → IsOrdering nets → length nets ≤ 2 ^ 20 → Placed nets positions (length nets) → IsIndexed nets positions
placed_all nets positions ordering few placed = record {
  ordering = ordering;
  length_is = placed.length_is;
  few = few;
  position_in = λ net within. (let at = ordering.each net within in let P : ℕ → Type 0 = λ n. get_or positions n 0 < length nets in subst P at.2 (rw (placed.position at.0 at.1) at.1));
  net_at = λ net within. (let at = ordering.each net within in let P : ℕ → Type 0 = λ n. get_or nets (get_or positions n 0) 0 ≡ n in subst P at.2 (rw (placed.position at.0 at.1) refl));
}
