-- What is put after what was put.
use Rattle.std.proofs.Common.{◌≡◌, ◌∙◌, ap, ℕ, List, ◌++◌, append_assoc}

pub two : (old middle new first second : List ℕ) → middle ≡ old ++ first → new ≡ middle ++ second → new ≡ old ++ (first ++ second)
two old middle new first second one other = other ∙ (ap (λ (l : List ℕ). l ++ second) one ∙ append_assoc old first second)

pub three : (old near far new first second third : List ℕ) → near ≡ old ++ first → far ≡ near ++ second
    → new ≡ far ++ third → new ≡ old ++ (first ++ (second ++ third))
three old near far new first second third one other last = two old near new first (second ++ third) one (two near far new second third other last)
