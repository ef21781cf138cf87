-- What a buffer is given of a text.
use Rattle.std.proofs.Common.{◌≡◌, ◌∙◌, ap, sym, ℕ, ◌+◌, List, ◌++◌, take, drop, length, min, arith}
use Rattle.std.proofs.lemmas.List.{take-append-drop, drop_min, take_at, drop-drop, length-take-le}

-- The next bytes of the text stand at the front of the buffer, and the rest comes after them.
pub given_next : (text rest old buffer : List ℕ) (done start n : ℕ) → start ≡ min done (length text) → rest ≡ drop start text
    → n ≡ min (length old) (length rest) → buffer ≡ take n rest ++ drop n old
    → drop done text ≡ take n buffer ++ drop (start + n) text
given_next text rest old buffer done start n start_is rest_is n_is filled =
    let short : length (take n rest) ≡ n = length-take-le n rest (omega (arith, n_is)) in
    let front : take n buffer ≡ take n rest = ap (λ (l : List ℕ). take n l) filled ∙ take_at (take n rest) (drop n old) n short in
    sym (drop_min done text)
    ∙ ap (λ (k : ℕ). drop k text) (sym start_is)
    ∙ sym rest_is
    ∙ sym (take-append-drop n rest)
    ∙ ap (λ (l : List ℕ). l ++ drop n rest) (sym front)
    ∙ ap (λ (l : List ℕ). take n buffer ++ l) (ap (λ (l : List ℕ). drop n l) rest_is ∙ drop-drop n start text)
