-- Lists of names, cut at their commas.
use Rattle.std.proofs.Common.{◌≡◌, ◌∙◌, ◌<◌, ℕ, ◌+◌, List, [], ◌∷◌, ◌++◌, Option, None, Some, Bool, true, false, cond, append_assoc, arith, ap, ap₂, drop, drop-drop, length, refl, subst, sym, take}
use Rattle.std.specs.Prelude.{◌==◌, ◌≤◌, ◌↔◌, IsSome, IsTrue, is_some, not}
use Rattle.std.specs.Borrow.{Bor}
use Rattle.std.specs.List.{position_or_len}
use Rattle.std.proofs.lemmas.List.{map-append}
use Rattle.std.proofs.lemmas.List.Sums.{prefix_len-le-length}
use Rattle.base_line.specs.Line.{Text, before_first_piece, pieces_of}
use Rattle.base_line.proofs.Pieces.{pieces_first, pieces_last}
use Rattle.netlist_stub.specs.Known.{texts_of}
use Rattle.cmd_trim.specs.Words.{AreLists, AreNames, names_in, text_in}

-- ---- names so far, and those of what is left

-- The names before the first comma, and after it.
first_of : (rest : Text) (n : ℕ) → n ≡ position_or_len (λ b. b == 44) rest → n < length rest
    → pieces_of 44 rest ≡ take n rest ∷ pieces_of 44 (drop 1 (drop n rest))
first_of rest n is within =
    pieces_first 44 rest (subst (λ k. k < length rest) is within)
    ∙ ap₂ (λ (a b : Text). a ∷ pieces_of 44 b) (ap (λ k. take k rest) (sym is)) (ap (λ k. drop (k + 1) rest) (sym is) ∙ sym (drop-drop 1 n rest))

module _ (names : List Text) (whole rest : Text) (n : ℕ) (is : n ≡ position_or_len (λ b. b == 44) rest)
    (so_far : names ++ pieces_of 44 rest ≡ pieces_of 44 whole) where
  pub cut_on : n < length rest → (names ++ take n rest ∷ []) ++ pieces_of 44 (drop 1 (drop n rest)) ≡ pieces_of 44 whole
  cut_on within =
      append_assoc names (take n rest ∷ []) (pieces_of 44 (drop 1 (drop n rest)))
      ∙ ap (λ (l : List Text). names ++ l) (sym (first_of rest n is within))
      ∙ so_far

  pub cut_end : length rest ≤ n → names ++ rest ∷ [] ≡ pieces_of 44 whole
  cut_end past =
      let most = prefix_len-le-length (λ b. not (b == 44)) rest in
      let last : position_or_len (λ b. b == 44) rest ≡ length rest = omega (arith, is, past, most) in
      ap (λ (l : List Text). names ++ l) (sym (pieces_last 44 rest last)) ∙ so_far

pub pushed : (names : List (Bor Text)) (name : Bor Text) → texts_of (names ++ name ∷ []) ≡ texts_of names ++ name.now ∷ []
pushed names name = map-append (λ (n : Bor Text). n.now) names (name ∷ [])

-- ---- a list has a name

grown : (byte : ℕ) (pieces : List Text) → 0 < length (before_first_piece byte pieces)
grown byte [] = omega arith
grown byte (piece ∷ pieces) = omega arith

some_pieces : (cut : ℕ) (bytes : Text) → 0 < length (pieces_of cut bytes)
some_pieces cut [] = omega arith
some_pieces cut (byte ∷ bytes) = go (byte == cut)
  where
    go : (here : Bool) → 0 < length (cond here ([] ∷ pieces_of cut bytes) (before_first_piece byte (pieces_of cut bytes)))
    go true = omega arith
    go false = grown byte (pieces_of cut bytes)

pub some_names : (list : Option (Bor Text)) → IsSome list → 0 < length (names_in (text_in list))
some_names None some = absurd (let bad : false ≡ true = some in cc)
some_names (Some list) some = some_pieces 44 list.now

pub no_names : (list : Option (Bor Text)) → list ≡ None → names_in (text_in list) ≡ []
no_names None none = refl
no_names (Some list) none = absurd (let bad : Some list ≡ None = none in cc)

-- ---- two lists

abbrev Uses : Option (Bor Text) → Bool → Option (Bor Text) → Type 0
Uses stubs r supplies = IsTrue r ↔ (IsSome (text_in supplies) → IsSome (text_in stubs))

used_here : (stubs : Option (Bor Text)) (list : Bor Text) (r : Bool) → r ≡ is_some stubs → Uses stubs r (Some list)
used_here None list r is = (λ t. absurd (let bad : false ≡ true = sym is ∙ t in cc), λ f. absurd (let bad : false ≡ true = f refl in cc))
used_here (Some other) list r is = (λ t some. refl, λ f. is)

pub used_some : (stubs supplies : Option (Bor Text)) (list : Bor Text) (r : Bool) → supplies ≡ Some list → r ≡ is_some stubs → Uses stubs r supplies
used_some stubs supplies list r here is = subst (Uses stubs r) (sym here) (used_here stubs list r is)

pub used_none : (stubs supplies : Option (Bor Text)) → supplies ≡ None → Uses stubs true supplies
used_none stubs supplies here = subst (Uses stubs true) (sym here) (λ t some. absurd (let bad : false ≡ true = some in cc), λ f. refl)

pub lists_are : (stubs supplies : Option Text) (a b c r : Bool) → IsTrue a ↔ AreNames (names_in stubs) → IsTrue b ↔ AreNames (names_in supplies)
    → IsTrue c ↔ (IsSome supplies → IsSome stubs) → IsTrue r ↔ (IsTrue a × IsTrue b × IsTrue c) → IsTrue r ↔ AreLists stubs supplies
lists_are stubs supplies a b c r first second third all = (
  λ t. let each = all.0 t in record { named = first.0 each.0; supplied = second.0 each.1; used = third.0 each.2 },
  λ lists. all.1 (first.1 lists.named, second.1 lists.supplied, third.1 lists.used),
)
