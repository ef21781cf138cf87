-- Texts that grow line by line.
use Rattle.std.proofs.Common.{◌≡◌, ℕ, zero, suc, ◌+◌, ◌-◌, ◌/◌, ◌%◌, ◌<◌, ◌≤◌, List, [], ◌∷◌, ◌++◌, false, length, drop, get_or, refl, sym, ◌∙◌, ap, arith, append_assoc, add-one, drop-cons}
use Rattle.std.proofs.lemmas.Grind.{common_steps}
use Rattle.std.proofs.lemmas.List.{drop_all}
use Rattle.std.specs.List.{flat_map}
use Rattle.std.specs.Prelude.{nat_lt}
use Rattle.recording_writer.specs.Code.{digits_of}
use Rattle.recording_writer.specs.Declarations.{common, own_name, recorded_part}
use Rattle.design_circuit.specs.declared.name.NamePart.{NamePart}

-- a piece moves from what is left to the text
pub moved : (text piece rest all grown : List ℕ) → text ++ (piece ++ rest) ≡ all → grown ≡ text ++ piece → grown ++ rest ≡ all
moved text piece rest all grown before step = ap (λ (l : List ℕ). l ++ rest) step ∙ append_assoc text piece rest ∙ before

module _ {X : Type 0} (xs : List X) (i : ℕ) (x : X) (within : i < length xs) (is : x ≡ get_or xs i x) where
  pub rest_is : drop i xs ≡ x ∷ drop (i + 1) xs
  rest_is = rw (add-one, drop-cons xs i x) (ap (λ (y : X). y ∷ drop (suc i) xs) (sym is))

  pub line_moved : (f : X → List ℕ) (text all grown : List ℕ) → text ++ flat_map f (drop i xs) ≡ all → grown ≡ text ++ f x → grown ++ flat_map f (drop (i + 1) xs) ≡ all
  line_moved f text all grown before step = moved text (f x) (flat_map f (drop (i + 1) xs)) all grown (rw rest_is at before) step

  -- the same, where what is left is told from a number on
  pub numbered_moved : (rest : ℕ → List X → List ℕ) (piece : List ℕ) (text all grown : List ℕ) → rest i (x ∷ drop (i + 1) xs) ≡ piece ++ rest (i + 1) (drop (i + 1) xs) → text ++ rest i (drop i xs) ≡ all → grown ≡ text ++ piece → grown ++ rest (i + 1) (drop (i + 1) xs) ≡ all
  numbered_moved rest piece text all grown step before put = moved text piece (rest (i + 1) (drop (i + 1) xs)) all grown (ap (λ (l : List ℕ). text ++ l) (sym step) ∙ ap (λ (l : List X). text ++ rest i l) (sym rest_is) ∙ before) put

-- a digit more
pub more_digits : (most number : ℕ) → 0 < most → 94 ≤ number → digits_of most number ≡ (33 + number % 94) ∷ digits_of (most - 1) (number / 94)
unfolding digits_of
more_digits zero number some large = absurd (omega arith)
more_digits (suc most) number some large =
    let more : nat_lt number 94 ≡ false = grind (arith, common_steps) in
    let fewer : suc most - 1 ≡ most = omega arith in
    rw (more, fewer)

-- paths without a name have none in common
pub common-nil : (from : List (List ℕ)) → common from [] ≡ 0
common-nil [] = refl
common-nil (a ∷ from) = refl

pub common-past : (from to : List (List ℕ)) (count : ℕ) → length to ≤ count → common from to ≡ common (drop count from) (drop count to) + count → count ≡ common from to
common-past from to count le h =
    let none : drop count to ≡ [] = drop_all count to le in
    sym (h ∙ rw (none, common-nil (drop count from)) (omega arith))

-- the own name is the last part
pub own_name-last : (parts : List NamePart) (d : NamePart) → 0 < length parts → own_name parts ≡ recorded_part (get_or parts (length parts - 1) d)
own_name-last [] d lt = absurd (omega (arith, lt))
own_name-last (part ∷ []) d lt = refl
own_name-last (part ∷ next ∷ parts) d lt =
    let here : length (part ∷ next ∷ parts) - 1 ≡ suc (length (next ∷ parts) - 1) = omega arith in
    rw here (own_name-last (next ∷ parts) d (omega arith))

-- Five parts, each put behind those before.
pub five_put : (a b c d e one two three four five : List ℕ) → one ≡ a → two ≡ one ++ b → three ≡ two ++ c → four ≡ three ++ d
    → five ≡ four ++ e → five ≡ a ++ b ++ c ++ d ++ e
five_put a b c d e one two three four five first second third fourth fifth =
    fifth
    ∙ ap (λ (t : List ℕ). t ++ e) (fourth ∙ ap (λ (t : List ℕ). t ++ d) (third ∙ ap (λ (t : List ℕ). t ++ c)
    (second ∙ ap (λ (t : List ℕ). t ++ b) first)))
