-- What positions copy, as more of them are known.
use Rattle.std.proofs.Common.{◌≡◌, ℕ, ◌+◌, ◌-◌, ◌<◌, ◌≤◌, List, [], ◌∷◌, ◌++◌, length, length-append}
use Rattle.std.proofs.Common.{slice_index_or, refl, sym, ap, ◌∙◌, arith, subst, ⊎_elim}
use Rattle.std.proofs.Math.ListN.{get_or-append}
use Rattle.std.proofs.Math.Seq.{get_or-append_right}
use Rattle.std.proofs.lemmas.Bool.{cases_eq}
use Rattle.design_circuit.specs.Job.{Job}
use Rattle.design_circuit.specs.Order.{position_of}
use Rattle.wave_bytes.specs.Roots.{AreRootsTo, HasRoot, IsRootBehind}
use Rattle.wave_bytes.specs.Rows.{nth_root}

pub roots_none : (j : Job) → AreRootsTo j 0 []
roots_none j = record {
  long = refl;
  low = λ p less. absurd (omega (arith, less));
  root = λ p less. absurd (omega (arith, less));
  each = λ p less. absurd (omega (arith, less));
}

-- The first ones are what they were, and the last one is the new one.
root_first : (n root : ℕ) (rs : List ℕ) → length rs ≡ n → (q : ℕ) → q < n
    → nth_root (rs ++ root ∷ []) q ≡ nth_root rs q
root_first n root rs long q low = get_or-append rs (root ∷ []) q q (omega (arith, low, long))

root_last : (n root : ℕ) (rs : List ℕ) → length rs ≡ n → nth_root (rs ++ root ∷ []) n ≡ root
root_last n root rs long =
    get_or-append_right rs (root ∷ []) n n (omega (arith, long))
    ∙ ap (λ k. slice_index_or (root ∷ []) k n) (let none : n - length rs ≡ 0 = omega (arith, long) in none)

-- What is copied, of the new one.
record IsLast (j : Job) (n : ℕ) (new : List ℕ) : Type 0 where
  low : nth_root new n ≤ n
  root : nth_root new (nth_root new n) ≡ nth_root new n
  each : HasRoot j new n

last_is : (j : Job) (n root : ℕ) (rs : List ℕ) → AreRootsTo j n rs → IsRootBehind j rs n root
    → IsLast j n (rs ++ root ∷ [])
last_is j n root rs are (IsRootBehind.itself own) =
    let last = root_last n root rs are.long in
    record {
      low = omega (arith, last, own);
      root = ap (nth_root (rs ++ root ∷ [])) (last ∙ own);
      each = IsRootBehind.itself (last ∙ own);
    }
last_is j n root rs are (IsRootBehind.copied net driver low is) =
    let new : List ℕ = rs ++ root ∷ [] in
    let q : ℕ = position_of j.order net in
    let last = root_last n root rs are.long in
    let up = are.low q low in
    record {
      low = omega (arith, last, is, up, low);
      root = ap (nth_root new) (last ∙ is) ∙ root_first n root rs are.long (nth_root rs q) (omega (arith, up, low))
          ∙ are.root q low ∙ sym is ∙ sym last;
      each = IsRootBehind.copied net driver low (last ∙ is ∙ sym (root_first n root rs are.long q low));
    }

rooted_first : (j : Job) (n root : ℕ) (rs : List ℕ) → length rs ≡ n → (q : ℕ) → q < n → HasRoot j rs q
    → HasRoot j (rs ++ root ∷ []) q
rooted_first j n root rs long q low (IsRootBehind.itself is) = IsRootBehind.itself (root_first n root rs long q low ∙ is)
rooted_first j n root rs long q low (IsRootBehind.copied net driver less is) =
    IsRootBehind.copied net driver less (root_first n root rs long q low ∙ is
    ∙ sym (root_first n root rs long (position_of j.order net) (omega (arith, less, low))))

by_cases : (n : ℕ) (P : ℕ → Type 0) → ((q : ℕ) → q < n → P q) → P n → (p : ℕ) → p < n + 1 → P p
by_cases n P old here p less = ⊎_elim (λ (same : p ≡ n). subst P (sym same) here)
    (λ (other : p ≡ n → ⊥). old p (omega (arith, less, other))) (cases_eq p n)

pub roots_grown : (j : Job) (n root : ℕ) (rs : List ℕ) → AreRootsTo j n rs → IsRootBehind j rs n root
    → AreRootsTo j (n + 1) (rs ++ root ∷ [])
roots_grown j n root rs are behind =
    let new : List ℕ = rs ++ root ∷ [] in
    let last = last_is j n root rs are behind in
    record {
      long = (let grows = length-append rs (root ∷ []) in let long = are.long in omega (arith, grows, long));
      low = by_cases n (λ q. nth_root new q ≤ q)
          (λ q low. (let up = are.low q low in let same = root_first n root rs are.long q low in
          omega (arith, up, same)))
          last.low;
      root = by_cases n (λ q. nth_root new (nth_root new q) ≡ nth_root new q)
          (λ q low. (let up = are.low q low in
          ap (nth_root new) (root_first n root rs are.long q low)
          ∙ root_first n root rs are.long (nth_root rs q) (omega (arith, up, low)) ∙ are.root q low
          ∙ sym (root_first n root rs are.long q low)))
          last.root;
      each = by_cases n (λ q. HasRoot j new q) (λ q low. rooted_first j n root rs are.long q low (are.each q low)) last.each;
    }
