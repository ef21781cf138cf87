-- Unit clauses between the clauses of a cone and the denial: one of them taken away, or another in its place.
use Rattle.std.proofs.Common.{◌≡◌, ℕ, ◌+◌, List, [], ◌∷◌, ◌++◌, length, map, sym, ap, ◌∙◌, append_assoc, length-append, slice_index_or}
use Rattle.std.specs.Prelude.{slice_set}
use Rattle.std.specs.List.{remove}
use Rattle.std.proofs.Math.Seq.{get_or-append_seam, set-append_seam}
use Rattle.std.proofs.lemmas.List.{length-map, map-append}
use Rattle.cert_condition.proofs.ApartLists.{removed_is}

module _ {Y : Type 0} (f : ℕ → Y) (whole : List Y) (tail : List Y) where
  pub among_units : (before : List ℕ) (q : ℕ) (more : List ℕ)
      → (whole ++ map f (before ++ q ∷ more)) ++ tail ≡ (whole ++ map f before) ++ f q ∷ (map f more ++ tail)
  among_units before q more =
      ap (λ us. (whole ++ us) ++ tail) (map-append f before (q ∷ more))
      ∙ ap (λ us. us ++ tail) (sym (append_assoc whole (map f before) (map f (q ∷ more))))
      ∙ append_assoc (whole ++ map f before) (map f (q ∷ more)) tail

  pub without_unit : (before more : List ℕ)
      → (whole ++ map f before) ++ (map f more ++ tail) ≡ (whole ++ map f (before ++ more)) ++ tail
  without_unit before more =
      sym (append_assoc (whole ++ map f before) (map f more) tail)
      ∙ ap (λ us. us ++ tail) (append_assoc whole (map f before) (map f more))
      ∙ ap (λ us. (whole ++ us) ++ tail) (sym (map-append f before more))

  pub units_before : (before : List ℕ) → length (whole ++ map f before) ≡ length whole + length before
  units_before before = length-append whole (map f before)
      ∙ ap (λ n. length whole + n) (length-map before f)

  pub unit_taken : (clauses : List Y) (before : List ℕ) (q : ℕ) (more : List ℕ) (place : ℕ)
      → clauses ≡ (whole ++ map f (before ++ q ∷ more)) ++ tail → place ≡ length whole + length before
      → remove clauses place ≡ (whole ++ map f (before ++ more)) ++ tail
  unit_taken clauses before q more place are at =
      ap (λ cs. remove cs place) (are ∙ among_units before q more)
      ∙ ap (remove ((whole ++ map f before) ++ f q ∷ (map f more ++ tail))) (at ∙ sym (units_before before))
      ∙ removed_is (whole ++ map f before) (f q) (map f more ++ tail) ∙ without_unit before more

  pub unit_there : (clauses : List Y) (before : List ℕ) (q : ℕ) (more : List ℕ) (place : ℕ) (d : Y)
      → clauses ≡ (whole ++ map f (before ++ q ∷ more)) ++ tail → place ≡ length whole + length before
      → slice_index_or clauses place d ≡ f q
  unit_there clauses before q more place d are at =
      ap (λ cs. slice_index_or cs place d) (are ∙ among_units before q more)
      ∙ ap (λ n. slice_index_or ((whole ++ map f before) ++ f q ∷ (map f more ++ tail)) n d) (at ∙ sym (units_before before))
      ∙ get_or-append_seam (whole ++ map f before) (f q) (map f more ++ tail) d

  pub unit_exchanged : (clauses : List Y) (before : List ℕ) (p q : ℕ) (more : List ℕ) (place : ℕ)
      → clauses ≡ (whole ++ map f (before ++ q ∷ more)) ++ tail → place ≡ length whole + length before
      → slice_set clauses place (f p) ≡ (whole ++ map f ((before ++ p ∷ []) ++ more)) ++ tail
  unit_exchanged clauses before p q more place are at =
      ap (λ cs. slice_set cs place (f p)) (are ∙ among_units before q more)
      ∙ ap (λ n. slice_set ((whole ++ map f before) ++ f q ∷ (map f more ++ tail)) n (f p)) (at ∙ sym (units_before before))
      ∙ set-append_seam (whole ++ map f before) (f q) (map f more ++ tail) (f p)
      ∙ sym (among_units before p more)
      ∙ ap (λ xs. (whole ++ map f xs) ++ tail) (sym (append_assoc before (p ∷ []) more))
