-- Pieces: the first one, and that cutting and joining are inverse.
use Rattle.std.proofs.Common.{◌≡◌, ℕ, suc, ◌+◌, ◌<◌, ◌≤◌, ◌==◌, Bool, true, false, cond, List, [], ◌∷◌, ◌++◌, length, take, drop, refl, sym, ◌∙◌, ap, arith, add-one}
use Rattle.std.specs.Prelude.{Err, MatchOption, None, Option, Some}
use Rattle.std.specs.Borrow.{Bor}
use Rattle.std.specs.List.{AllByRecursion}
use Rattle.std.proofs.lemmas.Bool.Decides.{nat_tests}
use Rattle.cert_writer.specs.declared.cert.Cert.{Cert}
use Rattle.cert_reader.specs.Machine.{all, run}
use Rattle.base_scan.specs.declared.gap.Gap.TheVariants.{Byte}
use Rattle.base_scan.specs.Gaps.{IsCut, IsWhole, first_length}
use Rattle.cert_writer.specs.Pieces.{joined_by, pieces, with_front}

-- There is a piece.
pub data HasPieces : List (List ℕ) → Type 0 where
  some : (p : List ℕ) (ps : List (List ℕ)) → HasPieces (p ∷ ps)

with_some : (b : ℕ) (ps : List (List ℕ)) → HasPieces (with_front b ps)
with_some b [] = some (b ∷ []) []
with_some b (p ∷ ps) = some (b ∷ p) ps

pub pieces_some : (cut : ℕ) (bs : List ℕ) → HasPieces (pieces cut bs)
pieces_some cut [] = some [] []
pieces_some cut (b ∷ bs) =
    elim (b == cut) as (λ t. HasPieces (cond t ([] ∷ pieces cut bs) (with_front b (pieces cut bs)))) [
      | true ↦ some [] (pieces cut bs)
      | false ↦ with_some b (pieces cut bs)
    ]

-- The first piece ends at the first cut, and the others are those after it.
longer : (cut b m : ℕ) (bs : List ℕ) → pieces cut bs ≡ take m bs ∷ pieces cut (drop (suc m) bs)
    → with_front b (pieces cut bs) ≡ take (suc m) (b ∷ bs) ∷ pieces cut (drop (suc (suc m)) (b ∷ bs))
longer cut b m bs before = ap (with_front b) before

abbrev Cuts : ℕ → ℕ → List ℕ → Bool → Type 0
Cuts cut b bs t = cond t 0 (first_length (Byte cut) bs + 1) < length (b ∷ bs)
    → cond t ([] ∷ pieces cut bs) (with_front b (pieces cut bs))
    ≡ take (cond t 0 (first_length (Byte cut) bs + 1)) (b ∷ bs)
    ∷ pieces cut (drop (suc (cond t 0 (first_length (Byte cut) bs + 1))) (b ∷ bs))

first_cut : (cut : ℕ) (bs : List ℕ) → first_length (Byte cut) bs < length bs
    → pieces cut bs ≡ take (first_length (Byte cut) bs) bs ∷ pieces cut (drop (suc (first_length (Byte cut) bs)) bs)
first_cut cut [] less = absurd (omega arith)
first_cut cut (b ∷ bs) less =
    (elim (b == cut) as (Cuts cut b bs) [
      | true ↦ λ h. refl
      | false ↦ λ h. rw add-one (longer cut b (first_length (Byte cut) bs) bs (first_cut cut bs (omega (arith, h))))
    ]) less

-- A line without a cut is one piece.
abbrev Uncut : ℕ → ℕ → List ℕ → Bool → Type 0
Uncut cut b bs t = cond t 0 (first_length (Byte cut) bs + 1) ≡ length (b ∷ bs)
    → cond t ([] ∷ pieces cut bs) (with_front b (pieces cut bs)) ≡ (b ∷ bs) ∷ []

first_all : (cut : ℕ) (bs : List ℕ) → first_length (Byte cut) bs ≡ length bs → pieces cut bs ≡ bs ∷ []
first_all cut [] is = refl
first_all cut (b ∷ bs) is =
    (elim (b == cut) as (Uncut cut b bs) [
      | true ↦ λ h. absurd (omega (arith, h))
      | false ↦ λ h. ap (with_front b) (first_all cut bs (omega (arith, h)))
    ]) is

-- What a text's cut says of its pieces.
pub cut_pieces : (cut : ℕ) (text front : List ℕ) (after : Option (Bor (List ℕ)))
    → MatchOption after (IsWhole (Byte cut) text front) (λ rest. IsCut (Byte cut) text front rest.now)
    → MatchOption after (pieces cut text ≡ front ∷ []) (λ rest. pieces cut text ≡ front ∷ pieces cut rest.now)
cut_pieces cut text front None is = rw is.is (first_all cut text is.none)
cut_pieces cut text front (Some rest) is = rw (is.before, is.after) (first_cut cut text is.some)

-- Joined again they are the text.
joined_empty : (cut : ℕ) (ps : List (List ℕ)) → HasPieces ps → joined_by cut ([] ∷ ps) ≡ cut ∷ joined_by cut ps
joined_empty cut ps (some p qs) = refl

joined_front : (cut b : ℕ) (ps : List (List ℕ)) → joined_by cut (with_front b ps) ≡ b ∷ joined_by cut ps
joined_front cut b [] = refl
joined_front cut b (p ∷ []) = refl
joined_front cut b (p ∷ q ∷ ps) = refl

is_cut : (b cut : ℕ) → (b == cut) ≡ true → b ≡ cut
is_cut b cut is = grind (arith, nat_tests)

pub joined_pieces : (cut : ℕ) (bs : List ℕ) → joined_by cut (pieces cut bs) ≡ bs
joined_pieces cut [] = refl
joined_pieces cut (b ∷ bs) =
    (elim (b == cut) as (λ t. (b == cut) ≡ t → joined_by cut (cond t ([] ∷ pieces cut bs) (with_front b (pieces cut bs))) ≡ b ∷ bs) [
      | true ↦ λ is.
          joined_empty cut (pieces cut bs) (pieces_some cut bs)
          ∙ (ap (λ c. c ∷ joined_by cut (pieces cut bs)) (sym (is_cut b cut is)) ∙ ap (λ t. b ∷ t) (joined_pieces cut bs))
      | false ↦ λ is. joined_front cut b (pieces cut bs) ∙ ap (λ t. b ∷ t) (joined_pieces cut bs)
    ]) refl

-- No byte of a piece is the cut.
abbrev pub HasNoCut : ℕ → List ℕ → Type 0
HasNoCut cut bs = AllByRecursion (λ b. (b == cut) ≡ false) bs

pub pieces_one : (cut : ℕ) (w : List ℕ) → HasNoCut cut w → pieces cut w ≡ w ∷ []
pieces_one cut [] none = refl
pieces_one cut (b ∷ bs) none = rw none.0 (ap (with_front b) (pieces_one cut bs none.1))

cut_here : (cut : ℕ) (rest : List ℕ) → pieces cut (cut ∷ rest) ≡ [] ∷ pieces cut rest
cut_here cut rest = let is : (cut == cut) ≡ true = grind (arith, nat_tests) in rw is refl

pub pieces_more : (cut : ℕ) (w rest : List ℕ) → HasNoCut cut w → pieces cut (w ++ cut ∷ rest) ≡ w ∷ pieces cut rest
pieces_more cut [] rest none = cut_here cut rest
pieces_more cut (b ∷ bs) rest none = rw none.0 (ap (with_front b) (pieces_more cut bs rest none.1))

-- Cut again, pieces are what they were.
pub pieces_joined : (cut : ℕ) (p : List ℕ) (ps : List (List ℕ)) → AllByRecursion (HasNoCut cut) (p ∷ ps)
    → pieces cut (joined_by cut (p ∷ ps)) ≡ p ∷ ps
pieces_joined cut p [] none = pieces_one cut p none.0
pieces_joined cut p (q ∷ ps) none =
    pieces_more cut p (joined_by cut (q ∷ ps)) none.0 ∙ ap (λ qs. p ∷ qs) (pieces_joined cut q ps none.1)

-- A text without lines is empty.
front_some : (b : ℕ) (ps : List (List ℕ)) → with_front b ps ≡ [] ∷ [] → ⊥
front_some b [] is = absurd cc
front_some b (p ∷ ps) is = absurd cc

no_more : (ps : List (List ℕ)) → HasPieces ps → [] ∷ ps ≡ [] ∷ [] → ⊥
no_more ps (some p qs) is = absurd cc

pub nothing_left : (cut : ℕ) (bs : List ℕ) → pieces cut bs ≡ [] ∷ [] → bs ≡ []
nothing_left cut [] is = refl
nothing_left cut (b ∷ bs) left =
    (elim (b == cut) as (λ t. cond t ([] ∷ pieces cut bs) (with_front b (pieces cut bs)) ≡ [] ∷ [] → b ∷ bs ≡ []) [
      | true ↦ λ is. absurd (no_more (pieces cut bs) (pieces_some cut bs) is)
      | false ↦ λ is. absurd (front_some b (pieces cut bs) is)
    ]) left

-- Where all lines were read and something is left, the next line is wrong.
pub not_over : (cert : Cert) (number : ℕ) (ps : List (List ℕ)) → (ps ≡ [] ∷ [] → ⊥) → run (all cert) number ps ≡ Err number
not_over cert number [] more = refl
not_over cert number ([] ∷ []) more = absurd (more refl)
not_over cert number ((b ∷ bs) ∷ []) more = refl
not_over cert number (p ∷ q ∷ ps) more = refl

pub some_left : (bs : List ℕ) → 1 ≤ length bs → pieces 10 bs ≡ [] ∷ [] → ⊥
some_left [] filled is = absurd (omega (arith, filled))
some_left (b ∷ bs) filled is = let none = nothing_left 10 (b ∷ bs) is in absurd cc
