-- The arguments of a table by their places and by their numbers.
use Rattle.std.proofs.Common.{◌≡◌, ℕ, ◌≤◌, Bool, true, List, [], ◌∷◌, ◌++◌, length, map, refl, sym, ap, ◌∙◌, arith, slice_index_or}
use Rattle.std.proofs.Math.Seq.{take-length}
use Rattle.std.proofs.lemmas.List.Elements.{Contains-get_or}
use Rattle.std.specs.List.Sorted.{IsStrictlyIncreasing}
use Rattle.design_cell.specs.declared.value.Value.{Value}
use Rattle.design_cell.specs.declared.value.Value.TheVariants.{X}
use Rattle.design_circuit.specs.Order.{position_of}
use Rattle.law_model.specs.Mask.{mask_of}
use Rattle.law_model.specs.Node.{table_of, upto}
use Rattle.law_model.specs.Places.{among}
use Rattle.law_model.proofs.ArgumentPositions.{Matches, mask_same, upto_take}
use Rattle.law_model.proofs.ConeModels.{found_at, found_within, position_rises}
use Rattle.law_model.proofs.FoundFillings.{mask_map}
use Rattle.law_model.proofs.PlacesWhere.{among_all, among_contains, contains_among, in_picked, picked_in}

module _ (names : List ℕ) (values : List Value) (table : (ℕ → Bool) → Value) (rises : IsStrictlyIncreasing names)
    (are : (bits : ℕ → Bool) → slice_index_or values (mask_of names bits) X ≡ table bits) where
  pub name_in : (k : ℕ) → among (upto (length names)) k ≡ true → among names (slice_index_or names k 0) ≡ true
  name_in k inside = among_contains names (slice_index_or names k 0)
      (Contains-get_or names k 0 (in_picked (λ i. true) (length names) k inside).0)

  pub number_in : (k : ℕ) → among names k ≡ true → among (upto (length names)) (position_of names k) ≡ true
  number_in k inside = picked_in (λ i. true) (length names) (position_of names k)
      (found_within names k (contains_among names k inside)) refl

  pub name_back : (k : ℕ) → among names k ≡ true → slice_index_or names (position_of names k) 0 ≡ k
  name_back k inside = found_at names k (contains_among names k inside)

  pub number_back : (k : ℕ) → among (upto (length names)) k ≡ true → position_of names (slice_index_or names k 0) ≡ k
  number_back k inside = position_rises names k rises (in_picked (λ i. true) (length names) k inside).0

  pub by_number : (f : ℕ → Bool) → table f ≡ table_of values (length names) (λ k. f (slice_index_or names k 0))
  by_number f = sym (are f) ∙ ap (λ number. slice_index_or values number X)
      (ap (λ xs. mask_of xs f) (sym all)
      ∙ sym (mask_map (λ p. slice_index_or names p 0) (upto (length names)) f (λ k. f (slice_index_or names k 0))
      (among_all _ (upto (length names)) (λ k inside. refl))))
    where
      all : map (λ p. slice_index_or names p 0) (upto (length names)) ≡ names
      all = upto_take names (length names) (omega arith) ∙ take-length names

  pub by_name : (f : ℕ → Bool) → table_of values (length names) f ≡ table (λ k. f (position_of names k))
  by_name f = ap (λ number. slice_index_or values number X)
      (mask_same (upto (length names)) f (λ k. f (position_of names (slice_index_or names k 0)))
      (among_all _ (upto (length names)) (λ k inside. ap f (sym (number_back k inside)))))
      ∙ sym (by_number (λ k. f (position_of names k)))

  -- From places to numbers, and back.
  abbrev pub name_matches : Matches names (upto (length names)) table (table_of values (length names))
  name_matches = record {
    to = λ k. slice_index_or names k 0;
    from = position_of names;
    to_in = name_in;
    from_in = number_in;
    back = name_back;
    forth = number_back;
    there = by_number;
    here = by_name;
  }

  abbrev pub number_matches : Matches (upto (length names)) names (table_of values (length names)) table
  number_matches = record {
    to = position_of names;
    from = λ k. slice_index_or names k 0;
    to_in = number_in;
    from_in = name_in;
    back = number_back;
    forth = name_back;
    there = by_name;
    here = by_number;
  }
