-- Puts, one after the other.
use Rattle.std.proofs.Common.{◌≡◌, ℕ, List, [], ◌∷◌, ◌++◌, sym, ◌∙◌, ap, append_assoc}
use Rattle.std.specs.Prelude.{codes}
use Rattle.cert_writer.specs.Pieces.{joined_by, spaced}
use Rattle.cert_writer.specs.Text.{with_newline}
use Rattle.cert_writer.proofs.Growing.{joined_spaced, spaced-append}

pub two_put : (a b c : List ℕ) (v w : List (List ℕ)) → b ≡ a ++ spaced v → c ≡ b ++ spaced w → c ≡ a ++ spaced (v ++ w)
two_put a b c v w first second =
    second ∙ (ap (λ t. t ++ spaced w) first ∙ (append_assoc a (spaced v) (spaced w) ∙ ap (λ t. a ++ t) (sym (spaced-append v w))))

pub pair_put : (a b c d e : List ℕ) (z o : List (List ℕ)) → b ≡ a ++ spaced (codes ":" ∷ []) → c ≡ b ++ spaced z
    → d ≡ c ++ spaced (codes ";" ∷ []) → e ≡ d ++ spaced o → e ≡ a ++ spaced (codes ":" ∷ z ++ codes ";" ∷ o)
pair_put a b c d e z o colon zero mark one =
    let left : c ≡ a ++ spaced (codes ":" ∷ z) = two_put a b c (codes ":" ∷ []) z colon zero in
    let right : d ≡ a ++ spaced (codes ":" ∷ z ++ codes ";" ∷ []) = two_put a c d (codes ":" ∷ z) (codes ";" ∷ []) left mark in
    two_put a d e (codes ":" ∷ z ++ codes ";" ∷ []) o right one ∙ ap (λ ws. a ++ spaced ws) (append_assoc (codes ":" ∷ z) (codes ";" ∷ []) o)

pub line_put : (a b c d e : List ℕ) (l : ℕ) (letter : List ℕ) (p w : List (List ℕ)) → l ∷ [] ≡ letter → b ≡ a ++ l ∷ []
    → c ≡ b ++ spaced p → d ≡ c ++ spaced w → e ≡ d ++ 10 ∷ [] → e ≡ a ++ with_newline (joined_by 32 (letter ∷ p ++ w))
line_put a b c d e l letter p w letter_is first place body last =
    let words : d ≡ b ++ spaced (p ++ w) = two_put b c d p w place body in
    let text : d ≡ a ++ (letter ++ spaced (p ++ w)) =
    words ∙ (ap (λ t. t ++ spaced (p ++ w)) (first ∙ ap (λ t. a ++ t) letter_is) ∙ append_assoc a letter (spaced (p ++ w))) in
    last ∙ (ap (λ t. t ++ 10 ∷ []) (text ∙ ap (λ t. a ++ t) (sym (joined_spaced letter (p ++ w))))
    ∙ append_assoc a (joined_by 32 (letter ∷ p ++ w)) (10 ∷ []))
