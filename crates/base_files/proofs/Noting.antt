-- What a note makes of the bytes of each name.
use Rattle.std.proofs.Common.{◌≡◌, ◌∙◌, ap, ℕ, List, ◌∷◌, ◌++◌, refl, Option, Some, None, Bool, true, false, cond, bytes_eq}
use Rattle.std.specs.Prelude.{is_some}
use Rattle.std.proofs.lemmas.Bool.{false_from_ne_true}
use Rattle.std.proofs.lemmas.Slice.Eq.{bytes_eq-Decides}
use Rattle.base_shelf.specs.Shelf.{Files, OthersKept, bytes_of}
use Rattle.base_trace.specs.Record.{Traced, traced, traced_more, is_traced, traced_bytes}
use Rattle.base_files.specs.Stage.{taken_over, taken_or}

differs : (name other : List ℕ) → (other ≡ name → ⊥) → bytes_eq other name ≡ false
differs name other not = false_from_ne_true (bytes_eq other name) (λ same. not ((bytes_eq-Decides other name).0 same))

pub traced_here : (name bytes : List ℕ) (entries : List Traced) → traced ((name, bytes) ∷ entries) name ≡ Some bytes
traced_here name bytes entries = ap (λ (b : Bool). cond b (Some bytes) (traced entries name)) ((bytes_eq-Decides name name).1 refl)

pub traced_there : (name bytes : List ℕ) (entries : List Traced) (other : List ℕ) → (other ≡ name → ⊥) → traced ((name, bytes) ∷ entries) other ≡ traced entries other
traced_there name bytes entries other not = ap (λ (b : Bool). cond b (Some bytes) (traced entries other)) (differs name other not)

pub is_traced_here : (name bytes : List ℕ) (entries : List Traced) → is_traced ((name, bytes) ∷ entries) name ≡ true
is_traced_here name bytes entries = ap (λ (o : Option (List ℕ)). is_some o) (traced_here name bytes entries)

-- Over texts.
pub over_here : (name bytes : List ℕ) (entries : List Traced) (texts : Files) → taken_over ((name, bytes) ∷ entries) texts name ≡ Some bytes
over_here name bytes entries texts = ap (λ (o : Option (List ℕ)). taken_or o (texts name)) (traced_here name bytes entries)

pub over_there : (name bytes : List ℕ) (entries : List Traced) (texts : Files) → OthersKept name (taken_over entries texts) (taken_over ((name, bytes) ∷ entries) texts)
over_there name bytes entries texts other not = ap (λ (o : Option (List ℕ)). taken_or o (texts other)) (traced_there name bytes entries other not)

held_is : (found before : Option (List ℕ)) → is_some found ≡ true → bytes_of found ≡ bytes_of (taken_or found before)
held_is (Some bytes) before there = refl
held_is None before there = let same : false ≡ true = there in cc

-- Bytes added to a name that is noted.
pub over_grown : (name more : List ℕ) (entries : List Traced) (texts : Files) → is_traced entries name ≡ true → taken_over (traced_more name more entries) texts name ≡ Some (bytes_of (taken_over entries texts name) ++ more)
over_grown name more entries texts there =
    over_here name (traced_bytes entries name ++ more) entries texts
    ∙ ap (λ (l : List ℕ). Some (l ++ more)) (held_is (traced entries name) (texts name) there)

-- Bytes added to a name of which some are noted.
pub traced_grown : (name so_far more : List ℕ) (entries : List Traced) → traced entries name ≡ Some so_far → traced (traced_more name more entries) name ≡ Some (so_far ++ more)
traced_grown name so_far more entries is =
    traced_here name (traced_bytes entries name ++ more) entries
    ∙ ap (λ (o : Option (List ℕ)). Some (bytes_of o ++ more)) is
