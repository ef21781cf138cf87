-- Files that are written under other names than those that are read; and what is fetched of none.
use Rattle.std.proofs.Common.{◌≡◌, ◌∙◌, ap, sym, Some, None, ℕ, zero, suc, List, [], ◌∷◌, arith}
use Rattle.std.specs.Prelude.{◌≢◌, Contains, is_some}
use Rattle.std.specs.List.{All, AllByRecursion}
use Rattle.std.proofs.lemmas.List.Elements.{All-nil}
use Rattle.std.proofs.lemmas.Bool.{false≢true}
use Rattle.base_shelf.specs.NamedFiles.{File as NamedFile, files_of}
use Rattle.base_run.specs.Outputs.{File}
use Rattle.base_files.specs.Fetched.{HasAmong, IsFetched}
use Rattle.base_files.specs.declared.fetched.Fetched.{Fetched}

pub all_cons : {X : Type 0} (P : X → Type 0) (x : X) (xs : List X) → P x → All P xs → All P (x ∷ xs)
all_cons P x xs here rest zero d less = here
all_cons P x xs here rest (suc i) d less = rest i d (omega (arith, less))

-- A name that none of these is isn't among them.
pub not_among : (inputs : List (List ℕ)) (output : List ℕ) → AllByRecursion (λ (name : List ℕ). name ≢ output) inputs → Contains inputs output → ⊥
not_among [] output apart (k, less, is) = omega (arith, less)
not_among (input ∷ inputs) output apart (zero, less, is) = apart.0 is
not_among (input ∷ inputs) output apart (suc k, less, is) = not_among inputs output apart.1 (k, omega (arith, less), is)

abbrev pub IsOther : List (List ℕ) → File → Type 0
IsOther inputs file = Contains inputs file.name → ⊥

pub none_written : (inputs : List (List ℕ)) → All (IsOther inputs) []
none_written inputs = All-nil (IsOther inputs)

pub one_more : (inputs : List (List ℕ)) (file : File) (files : List File) → AllByRecursion (λ (name : List ℕ). name ≢ file.name) inputs → All (IsOther inputs) files → All (IsOther inputs) (file ∷ files)
one_more inputs file files apart rest = all_cons (IsOther inputs) file files (not_among inputs file.name apart) rest

-- ---- nothing read yet

pub none_among : (all : List (List ℕ)) (f : Fetched) → f.texts ≡ [] → HasAmong all f
none_among all f none name has = absurd (false≢true (ap (λ (texts : List NamedFile). is_some (files_of texts name)) (sym none) ∙ has))

pub none_fetched : (f : Fetched) → f.texts ≡ [] → IsFetched f
none_fetched f none name bytes is = (let same : None ≡ Some bytes = ap (λ (texts : List NamedFile). files_of texts name) (sym none) ∙ is in cc)
