-- A text cut at its first byte of a kind.
use Rattle.std.proofs.Common.{drop-drop, ◌≡◌, ◌∙◌, ◌<◌, sym, ap, ap₂, subst, refl, ℕ, suc, ◌+◌, length, List, [], ◌∷◌, Bool, true, false, cond, arith, take, drop}
use Rattle.std.specs.Prelude.{◌==◌, ◌↔◌, ◌≤◌, IsTrue, not}
use Rattle.std.specs.List.{AllByRecursion, before_first, after_first, position_or_len}
use Rattle.std.proofs.lemmas.List.Sums.{prefix_len-le-length}
use Rattle.clap.specs.Walk.{Text}
use Rattle.base_line.specs.Line.{before_first_piece, pieces_of}

module _ (cut : ℕ) where
  abbrev is_cut : ℕ → Bool
  is_cut b = b == cut

  next_take : (k : ℕ) (x : ℕ) (xs : Text) → take (1 + k) (x ∷ xs) ≡ x ∷ take k xs
  next_take k x xs = let next : 1 + k ≡ suc k = omega arith in ap (λ n. take n (x ∷ xs)) next

  next_drop : (k : ℕ) (x : ℕ) (xs : Text) → drop ((1 + k) + 1) (x ∷ xs) ≡ drop (k + 1) xs
  next_drop k x xs = let next : (1 + k) + 1 ≡ suc (k + 1) = omega arith in ap (λ n. drop n (x ∷ xs)) next

  pub pieces_first : (bs : Text) → position_or_len is_cut bs < length bs → pieces_of cut bs ≡ before_first is_cut bs ∷ pieces_of cut (after_first is_cut bs)
  pieces_first [] lt = absurd (omega arith)
  pieces_first (x ∷ xs) lt = go (x == cut) (pieces_first xs) lt
    where
      k : ℕ
      k = position_or_len is_cut xs

      go : (b : Bool) → (position_or_len is_cut xs < length xs → pieces_of cut xs ≡ before_first is_cut xs ∷ pieces_of cut (after_first is_cut xs))
          → cond (not b) (1 + position_or_len is_cut xs) 0 < length (x ∷ xs)
          → cond b ([] ∷ pieces_of cut xs) (before_first_piece x (pieces_of cut xs))
          ≡ take (cond (not b) (1 + position_or_len is_cut xs) 0) (x ∷ xs) ∷ pieces_of cut (drop (cond (not b) (1 + position_or_len is_cut xs) 0 + 1) (x ∷ xs))
      go true later lt = refl
      go false later lt =
          let n = position_or_len is_cut xs in
          ap (before_first_piece x) (later (omega arith))
          ∙ ap₂ (λ (a b : Text). a ∷ pieces_of cut b) (sym (next_take n x xs)) (sym (next_drop n x xs))

  pub pieces_last : (bs : Text) → position_or_len is_cut bs ≡ length bs → pieces_of cut bs ≡ bs ∷ []
  pieces_last [] e = refl
  pieces_last (x ∷ xs) e = go (x == cut) (pieces_last xs) e
    where
      go : (b : Bool) → (position_or_len is_cut xs ≡ length xs → pieces_of cut xs ≡ xs ∷ []) → cond (not b) (1 + position_or_len is_cut xs) 0 ≡ length (x ∷ xs)
          → cond b ([] ∷ pieces_of cut xs) (before_first_piece x (pieces_of cut xs)) ≡ (x ∷ xs) ∷ []
      go true later lt = absurd (omega arith)
      go false later lt = ap (before_first_piece x) (later (omega arith))

  -- the pieces of what is left are in order exactly where all are
  module _ (P : Text → Type 0) where
    abbrev pub Left : Text → Text → Type 0
    Left whole rest = AllByRecursion P (pieces_of cut whole) ↔ AllByRecursion P (pieces_of cut rest)

    abbrev All_pieces : List Text → Type 0
    All_pieces = AllByRecursion P

    pub left_on : (whole rest : Text) → Left whole rest → position_or_len is_cut rest < length rest → P (before_first is_cut rest) → Left whole (after_first is_cut rest)
    left_on whole rest left within fits =
        let is = pieces_first rest within in
        (λ all. (subst All_pieces is (left.0 all)).1, λ all. left.1 (subst All_pieces (sym is) (fits, all)))

    pub left_bad : (whole rest : Text) → Left whole rest → position_or_len is_cut rest < length rest → (P (before_first is_cut rest) → ⊥) → AllByRecursion P (pieces_of cut whole) → ⊥
    left_bad whole rest left within bad all = bad (subst All_pieces (pieces_first rest within) (left.0 all)).0

    pub left_end : (whole rest : Text) → Left whole rest → position_or_len is_cut rest ≡ length rest → AllByRecursion P (pieces_of cut whole) ↔ P rest
    left_end whole rest left last =
        let is = pieces_last rest last in
        (λ all. (subst All_pieces is (left.0 all)).0, λ fits. left.1 (subst All_pieces (sym is) (fits, tt)))

    -- the same by the answer of a test
    at_place : (rest : Text) (n : ℕ) → n ≡ position_or_len is_cut rest → take n rest ≡ before_first is_cut rest
    at_place rest n is = ap (λ k. take k rest) is

    pub test_bad : (whole rest : Text) (n : ℕ) (r : Bool) → Left whole rest → n ≡ position_or_len is_cut rest → n < length rest → IsTrue r ↔ P (take n rest) → r ≡ false
        → IsTrue false ↔ AllByRecursion P (pieces_of cut whole)
    test_bad whole rest n r left is within tells no_fit = (
      λ t. absurd (let bad : false ≡ true = t in cc),
      λ all. absurd (left_bad whole rest left (subst (λ k. k < length rest) is within)
          (λ fits. let t : r ≡ true = tells.1 (subst P (sym (at_place rest n is)) fits) in let bad : false ≡ true = sym no_fit ∙ t in cc) all),
    )

    drop_two : (n : ℕ) (xs : Text) → drop 1 (drop n xs) ≡ drop (n + 1) xs
    drop_two n xs = drop-drop 1 n xs

    pub test_on : (whole rest : Text) (n : ℕ) (r : Bool) → Left whole rest → n ≡ position_or_len is_cut rest → n < length rest → IsTrue r ↔ P (take n rest) → r ≡ true
        → Left whole (drop 1 (drop n rest))
    test_on whole rest n r left is within tells fit =
        subst (Left whole) (ap (λ k. drop (k + 1) rest) (sym is) ∙ sym (drop_two n rest))
        (left_on whole rest left (subst (λ k. k < length rest) is within) (subst P (at_place rest n is) (tells.0 fit)))

    pub test_end : (whole rest : Text) (n : ℕ) (r : Bool) → Left whole rest → n ≡ position_or_len is_cut rest → length rest ≤ n → IsTrue r ↔ P rest
        → IsTrue r ↔ AllByRecursion P (pieces_of cut whole)
    test_end whole rest n r left is past tells =
        let most = prefix_len-le-length (λ b. not (is_cut b)) rest in
        let last : position_or_len is_cut rest ≡ length rest = omega (arith, is, past, most) in
        let ends = left_end whole rest left last in
        (λ t. ends.1 (tells.0 t), λ all. tells.1 (ends.0 all))
