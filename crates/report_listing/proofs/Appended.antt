-- What several calls put behind a text, one after another.
use Rattle.std.proofs.Common.{◌≡◌, ℕ, List, ◌++◌, ap, ◌∙◌}
use Rattle.std.proofs.lemmas.List.{append_assoc}

pub four_put : (t t1 t2 t3 t4 a b c d : List ℕ) → t1 ≡ t ++ a → t2 ≡ t1 ++ b → t3 ≡ t2 ++ c → t4 ≡ t3 ++ d
    → t4 ≡ t ++ (a ++ (b ++ (c ++ d)))
four_put t t1 t2 t3 t4 a b c d first second third fourth =
    fourth ∙ ap (λ (l : List ℕ). l ++ d) (third ∙ ap (λ (l : List ℕ). l ++ c) (second ∙ ap (λ (l : List ℕ). l ++ b) first))
    ∙ simp append_assoc

pub five_put : (t t1 t2 t3 t4 t5 a b c d e : List ℕ) → t1 ≡ t ++ a → t2 ≡ t1 ++ b → t3 ≡ t2 ++ c → t4 ≡ t3 ++ d → t5 ≡ t4 ++ e
    → t5 ≡ t ++ ((((a ++ b) ++ c) ++ d) ++ e)
five_put t t1 t2 t3 t4 t5 a b c d e first second third fourth fifth =
    fifth ∙ ap (λ (l : List ℕ). l ++ e) (four_put t t1 t2 t3 t4 a b c d first second third fourth) ∙ simp append_assoc
