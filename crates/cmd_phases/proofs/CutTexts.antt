-- A text that is cut at a byte, byte by byte.
use Rattle.std.proofs.Common.{◌≡◌, ◌≢◌, ⊎_elim, ℕ, ◌+◌, ◌<◌, List, [], ◌∷◌, length, drop, get_or, refl, sym, ◌∙◌, ap, arith, add-one, drop-cons, ◌++◌, append_assoc, append-nil}
use Rattle.std.proofs.lemmas.Grind.{common_steps}
use Rattle.std.proofs.lemmas.Bool.{cases_eq}
use Rattle.base_line.specs.Line.{pieces_of, before_first_piece}

cut_is : (cut byte : ℕ) (bytes : List ℕ) → byte ≡ cut → pieces_of cut (byte ∷ bytes) ≡ [] ∷ pieces_of cut bytes
cut_is cut byte bytes is = grind (arith, common_steps)

other_is : (cut byte : ℕ) (bytes : List ℕ) → byte ≢ cut → pieces_of cut (byte ∷ bytes) ≡ before_first_piece byte (pieces_of cut bytes)
other_is cut byte bytes differ = grind (arith, common_steps)

grown : (byte : ℕ) (pieces : List (List ℕ)) → 0 < length (before_first_piece byte pieces)
grown byte [] = omega arith
grown byte (piece ∷ pieces) = omega arith

some_piece : (cut : ℕ) (bytes : List ℕ) → 0 < length (pieces_of cut bytes)
some_piece cut [] = omega arith
some_piece cut (byte ∷ bytes) =
    ⊎_elim (λ is. rw (cut_is cut byte bytes is) (omega arith)) (λ differ. rw (other_is cut byte bytes differ) (grown byte (pieces_of cut bytes))) (cases_eq byte cut)

rest_is : (text : List ℕ) (i : ℕ) → i < length text → drop i text ≡ get_or text i 0 ∷ drop (i + 1) text
rest_is text i within = rw (add-one, drop-cons text i 0)

-- The first of the pieces with bytes that stand before it.
abbrev pub joined : List ℕ → List (List ℕ) → List (List ℕ)
joined piece [] = piece ∷ []
joined piece (first ∷ pieces) = (piece ++ first) ∷ pieces

joined_none : (pieces : List (List ℕ)) → 0 < length pieces → joined [] pieces ≡ pieces
joined_none [] some = absurd (omega arith)
joined_none (piece ∷ pieces) some = refl

joined_byte : (piece : List ℕ) (byte : ℕ) (pieces : List (List ℕ)) → 0 < length pieces → joined piece (before_first_piece byte pieces) ≡ joined (piece ++ byte ∷ []) pieces
joined_byte piece byte [] some = absurd (omega arith)
joined_byte piece byte (first ∷ pieces) some = ap (λ (p : List ℕ). p ∷ pieces) (sym (append_assoc piece (byte ∷ []) first))

-- the pieces so far, and those of what is left
pub record CutAt (cut : ℕ) (text : List ℕ) (pieces : List (List ℕ)) (piece : List ℕ) (i : ℕ) : Type 0 where
  pub all : pieces ++ joined piece (pieces_of cut (drop i text)) ≡ pieces_of cut text

pub cut_none : (cut : ℕ) (text : List ℕ) → CutAt cut text [] [] 0
cut_none cut text = record { all = joined_none (pieces_of cut text) (some_piece cut text) }

module _ (cut : ℕ) (text : List ℕ) (pieces : List (List ℕ)) (piece : List ℕ) (i : ℕ) (is : CutAt cut text pieces piece i) where
  pub cut_here : i < length text → get_or text i 0 ≡ cut → CutAt cut text (pieces ++ piece ∷ []) [] (i + 1)
  cut_here within here = record { all = append_assoc pieces (piece ∷ []) (joined [] (pieces_of cut (drop (i + 1) text))) ∙ ap (λ (l : List (List ℕ)). pieces ++ piece ∷ l) (joined_none (pieces_of cut (drop (i + 1) text)) (some_piece cut (drop (i + 1) text))) ∙ before }
    where
      before : pieces ++ piece ∷ pieces_of cut (drop (i + 1) text) ≡ pieces_of cut text
      before = rw (rest_is text i within, cut_is cut (get_or text i 0) (drop (i + 1) text) here, append-nil piece) at is.all

  pub cut_byte : i < length text → get_or text i 0 ≢ cut → CutAt cut text pieces (piece ++ get_or text i 0 ∷ []) (i + 1)
  cut_byte within differ = record { all = ap (λ (l : List (List ℕ)). pieces ++ l) (sym (joined_byte piece (get_or text i 0) (pieces_of cut (drop (i + 1) text)) (some_piece cut (drop (i + 1) text)))) ∙ before }
    where
      before : pieces ++ joined piece (before_first_piece (get_or text i 0) (pieces_of cut (drop (i + 1) text))) ≡ pieces_of cut text
      before = rw (rest_is text i within, other_is cut (get_or text i 0) (drop (i + 1) text) differ) at is.all
