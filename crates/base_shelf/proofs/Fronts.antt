-- Fronts of a text, as they grow.
use Rattle.std.proofs.Common.{◌≡◌, ℕ, ◌+◌, ◌-◌, List, ◌++◌, length, take, drop, sym, ◌∙◌, ap, arith, append_assoc, length-drop}
use Rattle.std.proofs.lemmas.List.{take-append-drop, take_all}
use Rattle.std.proofs.Math.Seq.{take-add}
use Rattle.base_shelf.specs.Shelf.{Prefix}

pub front : (n : ℕ) (xs : List ℕ) → Prefix (take n xs) xs
front n xs = record { rest = drop n xs; is = take-append-drop n xs }

-- One write more.
pub grown : (old mid new : List ℕ) (done count : ℕ) (bytes : List ℕ) → mid ≡ old ++ take done bytes → new ≡ mid ++ take count (drop done bytes) → new ≡ old ++ take (done + count) bytes
grown old mid new done count bytes before step =
    step ∙ ap (λ (l : List ℕ). l ++ take count (drop done bytes)) before ∙ append_assoc old (take done bytes) (take count (drop done bytes)) ∙ ap (λ (l : List ℕ). old ++ l) (sym (take-add done count bytes))

-- One read more.
pub read_more : (text so_far unread part later : List ℕ) → text ≡ so_far ++ unread → unread ≡ part ++ later → text ≡ (so_far ++ part) ++ later
read_more text so_far unread part later before step = before ∙ ap (λ (l : List ℕ). so_far ++ l) step ∙ sym (append_assoc so_far part later)

-- What the code's `&bytes[done..]` is.
abbrev pub tail_of : ℕ → List ℕ → List ℕ
tail_of done bytes = take (length bytes - done) (drop done bytes)

pub tail_is : (done : ℕ) (bytes : List ℕ) → tail_of done bytes ≡ drop done bytes
tail_is done bytes = take_all (length bytes - done) (drop done bytes) (omega (arith, length-drop done bytes))
