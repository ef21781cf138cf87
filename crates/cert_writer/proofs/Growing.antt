-- Texts that grow word by word.
use Rattle.std.proofs.Common.{◌≡◌, ℕ, suc, ◌+◌, ◌<◌, List, [], ◌∷◌, ◌++◌, length, drop, get_or, map, refl, sym, ◌∙◌, ap, append_assoc, add-one, drop-cons}
use Rattle.std.specs.Prelude.{codes}
use Rattle.std.specs.List.{flat_map}
use Rattle.std.proofs.lemmas.Grind.{flat_map-append}
use Rattle.std.proofs.lemmas.List.{append-nil}
use Rattle.cert_writer.specs.declared.cert.Cert.{Cert}
use Rattle.cert_writer.specs.Pieces.{joined_by, line_of_words, spaced}
use Rattle.cert_writer.specs.Text.{beginning_text, cert_text, end_text, end_words, entry_text, head_words, title, with_newline}

pub spaced-append : (vs ws : List (List ℕ)) → spaced (vs ++ ws) ≡ spaced vs ++ spaced ws
spaced-append [] ws = refl
spaced-append (v ∷ vs) ws =
    ap (λ (t : List ℕ). 32 ∷ v ++ t) (spaced-append vs ws) ∙ sym (append_assoc (32 ∷ v) (spaced vs) (spaced ws))

-- A line is its first word, and the others with a space before each.
pub joined_spaced : (w : List ℕ) (ws : List (List ℕ)) → joined_by 32 (w ∷ ws) ≡ w ++ spaced ws
joined_spaced w [] = sym (append-nil w)
joined_spaced w (v ∷ ws) = ap (λ (t : List ℕ). w ++ 32 ∷ t) (joined_spaced v ws)

-- A piece moves from what is left to the text.
pub moved : (text piece rest all grown : List ℕ) → text ++ (piece ++ rest) ≡ all → grown ≡ text ++ piece
    → grown ++ rest ≡ all
moved text piece rest all grown before step =
    ap (λ (l : List ℕ). l ++ rest) step ∙ append_assoc text piece rest ∙ before

module _ {X : Type 0} (xs : List X) (i : ℕ) (x : X) (within : i < length xs) (is : x ≡ get_or xs i x) where
  pub rest_is : drop i xs ≡ x ∷ drop (i + 1) xs
  rest_is = rw (add-one, drop-cons xs i x) (ap (λ (y : X). y ∷ drop (suc i) xs) (sym is))

  pub lines_moved : (f : X → List ℕ) (text all grown : List ℕ) → text ++ flat_map f (drop i xs) ≡ all
      → grown ≡ text ++ f x → grown ++ flat_map f (drop (i + 1) xs) ≡ all
  lines_moved f text all grown before step =
      moved text (f x) (flat_map f (drop (i + 1) xs)) all grown (rw rest_is at before) step

  pub words_moved : (f : X → List (List ℕ)) (text all grown : List ℕ) → text ++ spaced (flat_map f (drop i xs)) ≡ all
      → grown ≡ text ++ spaced (f x) → grown ++ spaced (flat_map f (drop (i + 1) xs)) ≡ all
  words_moved f text all grown before step =
      moved text (spaced (f x)) (spaced (flat_map f (drop (i + 1) xs))) all grown
      (ap (λ (t : List ℕ). text ++ t) (sym (spaced-append (f x) (flat_map f (drop (i + 1) xs)))) ∙ (rw rest_is at before)) step

  pub word_moved : (f : X → List ℕ) (text all grown : List ℕ) → text ++ spaced (map f (drop i xs)) ≡ all
      → grown ≡ text ++ spaced (f x ∷ []) → grown ++ spaced (map f (drop (i + 1) xs)) ≡ all
  word_moved f text all grown before step =
      moved text (spaced (f x ∷ [])) (spaced (map f (drop (i + 1) xs))) all grown
      (ap (λ (t : List ℕ). text ++ t) (sym (spaced-append (f x ∷ []) (map f (drop (i + 1) xs)))) ∙ (rw rest_is at before)) step

-- The second line, field by field, and the line of a place and a body.
pub head_grown : (text a b c d : List ℕ)
    → ((((text ++ (codes "rounds " ++ a)) ++ (codes " conflicts " ++ b)) ++ (codes " moments " ++ c)) ++ (codes " nets " ++ d)) ++ codes "\n"
    ≡ text ++ (codes "rounds " ++ a ++ codes " conflicts " ++ b ++ codes " moments " ++ c ++ codes " nets " ++ d ++ codes "\n")
head_grown text a b c d = simp append_assoc

-- A text is its beginning, the lines between, and its end.
pub cert_text_parts : (cert : Cert) → cert_text cert
    ≡ beginning_text cert.form cert.head ++ flat_map with_newline (map entry_text cert.entries) ++ end_text (length cert.entries)
cert_text_parts cert =
    let first : List ℕ = with_newline (title cert.form) in
    let second : List ℕ = with_newline (line_of_words (head_words cert.head)) in
    let last : List ℕ = line_of_words (end_words (length cert.entries)) in
    let middle : List ℕ = flat_map with_newline (map entry_text cert.entries) in
    let rest : flat_map with_newline (map entry_text cert.entries ++ last ∷ []) ≡ middle ++ with_newline last =
    flat_map-append with_newline (map entry_text cert.entries) (last ∷ []) ∙ ap (λ t. middle ++ t) (append-nil (with_newline last)) in
    ap (λ t. first ++ (second ++ t)) rest
    ∙ (sym (append_assoc first second (middle ++ with_newline last)) ∙ sym (append_assoc (first ++ second) middle (with_newline last)))
