-- Files written in their order.
use Rattle.std.proofs.Common.{◌≡◌, ◌≢◌, ◌∙◌, ℕ, ◌+◌, ◌<◌, List, [], ◌∷◌, ◌++◌, length, map, take, get_or, Bool, true, false, Some, IsTrue, refl, sym, ap, inl, inr, subst, arith, bytes_eq}
use Rattle.std.specs.Prelude.{◌⊎◌, Contains, slice_get}
use Rattle.std.specs.List.{All}
use Rattle.std.proofs.lemmas.Bool.{false≢true}
use Rattle.std.proofs.lemmas.List.{take_more, map-append, take_all}
use Rattle.std.proofs.lemmas.List.Elements.{All-nil, All-more, All-contains, All-map, Contains-append_left, Contains-push}
use Rattle.std.proofs.lemmas.Option.{slice_get_within, get_or_from_slice_get}
use Rattle.std.proofs.lemmas.Slice.Eq.{bytes_eq-Decides}
use Rattle.base_shelf.specs.Shelf.{Files, OthersKept}
use Rattle.base_run.specs.Outputs.{AreApart, File, IsWhole, WrittenTo, name_in}

pub none_written : (told : Bool) (files : List File) (old : Files) → WrittenTo told 0 files old old
none_written told files old = record { whole = All-nil (IsWhole told old); rest = λ name not. refl }

module _ (told : Bool) (k : ℕ) (files : List File) (file : File) (old mid new : Files) (apart : AreApart files)
    (before : WrittenTo told k files old mid) (is : slice_get files k ≡ Some file) (others : OthersKept file.name mid new) where
  within : k < length files
  within = slice_get_within files k file is

  here : get_or files k file ≡ file
  here = get_or_from_slice_get files k file file is

  one_more : take (k + 1) files ≡ take k files ++ file ∷ []
  one_more = rw (take_more files k file within, here) refl

  names_more : map name_in (take (k + 1) files) ≡ map name_in (take k files) ++ file.name ∷ []
  names_more = rw (one_more, map-append name_in (take k files) (file ∷ [])) refl

  -- The file has another name than those before it.
  apart_here : All (λ (f : File). f.name ≢ file.name) (take k files)
  apart_here = let all = apart k file within in subst (λ (x : File). All (λ (f : File). f.name ≢ x.name) (take k files)) here all

  -- Those stay whole.
  whole_still : All (IsWhole told new) (take k files)
  whole_still = λ i d less told_is. others (get_or (take k files) i d).name (apart_here i d less) ∙ before.whole i d less told_is

  rest_still : (name : List ℕ) → (Contains (map name_in (take (k + 1) files)) name → ⊥) → new name ≡ old name
  rest_still name not =
      let more : Contains (map name_in (take k files) ++ file.name ∷ []) name → ⊥ = subst (λ (l : List (List ℕ)). Contains l name → ⊥) names_more not in
      others name (λ same. more (subst (λ (n : List ℕ). Contains (map name_in (take k files) ++ file.name ∷ []) n) (sym same) (Contains-push (map name_in (take k files)) file.name)))
      ∙ before.rest name (λ found. more (Contains-append_left (map name_in (take k files)) (file.name ∷ []) name found))

  -- The next file is whole too.
  pub one_written : IsWhole told new file → WrittenTo told (k + 1) files old new
  one_written whole = record {
    whole = All-more (IsWhole told new) files k file within whole_still (subst (IsWhole told new) (sym here) whole);
    rest = rest_still;
  }

  -- What stood there stays.
  none_more : new file.name ≡ mid file.name → WrittenTo told k files old new
  none_more same = record { whole = whole_still; rest = λ name not. at name (bytes_eq name file.name) refl ∙ before.rest name not }
    where
      at : (name : List ℕ) (b : Bool) → bytes_eq name file.name ≡ b → new name ≡ mid name
      at name true eq = let one = (bytes_eq-Decides name file.name).0 eq in ap new one ∙ same ∙ ap mid (sym one)
      at name false eq = others name (λ one. false≢true (sym eq ∙ (bytes_eq-Decides name file.name).1 one))

  -- It is whole, or what stood there stays.
  pub stopped : (IsTrue told → (new file.name ≡ mid file.name) ⊎ (new file.name ≡ Some file.bytes))
      → (n : ℕ) × ((n ≡ k) ⊎ (n ≡ k + 1)) × WrittenTo told n files old new
  stopped part = by told refl
    where
      told_so : IsTrue told → (new file.name ≡ mid file.name) ⊎ (new file.name ≡ Some file.bytes) → (n : ℕ) × ((n ≡ k) ⊎ (n ≡ k + 1)) × WrittenTo told n files old new
      told_so t (inl same) = (k, inl refl, none_more same)
      told_so t (inr whole) = (k + 1, inr refl, one_written (λ _. whole))

      by : (b : Bool) → told ≡ b → (n : ℕ) × ((n ≡ k) ⊎ (n ≡ k + 1)) × WrittenTo told n files old new
      by true t = told_so t (part t)
      by false f = (k + 1, inr refl, one_written (λ t. absurd (false≢true (sym f ∙ t))))

-- All of them are whole.
pub all_whole : (told : Bool) (files : List File) (old new : Files) → WrittenTo told (length files) files old new → All (IsWhole told new) files
all_whole told files old new written = subst (All (IsWhole told new)) (take_all (length files) files (omega arith)) written.whole
