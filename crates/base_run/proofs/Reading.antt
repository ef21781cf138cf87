-- What was found stands on the files that are read, and is as it always is.
use Rattle.std.proofs.Common.{◌≡◌, ap, sym, ℕ, zero, suc, ◌≤◌, List, [], ◌∷◌, ◌++◌, length, map, Option, Some, None, Ok, Bool, true, refl, inl, inr, subst, arith, length-append}
use Rattle.std.specs.Prelude.{Contains, IsSome}
use Rattle.std.proofs.lemmas.Bool.{false≢true}
use Rattle.base_shelf.specs.Shelf.{Files, bytes_of}
use Rattle.base_run.specs.Phases.{AreThere, ComesTo, Phases, joined_after, put_after, text_held}
use Rattle.base_run.specs.Reading.{FindsOnly, ReadsSurely}

-- ---- a text among those that are joined

grown : (before : List (List ℕ)) (first so_far : List ℕ) (texts : List (List ℕ)) → length so_far ≤ length (joined_after (first ∷ before) so_far texts)
grown before first so_far [] = omega arith
grown before first so_far (text ∷ texts) =
    let rest = grown (before ++ text ∷ []) first (so_far ++ 10 ∷ text) texts in
    omega (arith, rest, length-append so_far (10 ∷ text))

put_last : (before : List (List ℕ)) (so_far text : List ℕ) → length text ≤ length (put_after before so_far text)
put_last [] so_far text = omega arith
put_last (first ∷ before) so_far text = omega (arith, length-append so_far (10 ∷ text))

put_grown : (before : List (List ℕ)) (so_far text : List ℕ) (texts : List (List ℕ)) → length (put_after before so_far text) ≤ length (joined_after (before ++ text ∷ []) (put_after before so_far text) texts)
put_grown [] so_far text texts = grown [] text text texts
put_grown (first ∷ before) so_far text texts = grown (before ++ text ∷ []) first (put_after (first ∷ before) so_far text) texts

module _ (files : Files) (name : List ℕ) where
  abbrev holds : List ℕ → List ℕ
  holds other = bytes_of (files other)

  within : (names before : List (List ℕ)) (so_far : List ℕ) → Contains names name → length (holds name) ≤ length (joined_after before so_far (map holds names))
  within [] before so_far (k, less, is) = absurd (omega (arith, less))
  within (other ∷ names) before so_far (zero, less, is) =
      let own : length (holds other) ≡ length (holds name) = ap (λ (n : List ℕ). length (holds n)) is in
      let last = put_last before so_far (holds other) in
      let more = put_grown before so_far (holds other) (map holds names) in
      omega (arith, own, last, more)
  within (other ∷ names) before so_far (suc k, less, is) = within names (before ++ holds other ∷ []) (put_after before so_far (holds other)) (k, omega (arith, less), is)

  there : (names : List (List ℕ)) → AreThere files names → Contains names name → IsSome (files name)
  there [] are (k, less, is) = absurd (omega (arith, less))
  there (other ∷ names) are (zero, less, is) = subst (λ (n : List ℕ). IsSome (files n)) is are.0
  there (other ∷ names) are (suc k, less, is) = there names are.1 (k, omega (arith, less), is)

  text_in : (found : Option (List ℕ)) → files name ≡ found → IsSome found → (text : List ℕ) × (files name ≡ Some text)
  text_in None is none = absurd (false≢true none)
  text_in (Some text) is there = (text, is)

  -- Where something was found, a file that is surely read is there, and has so many bytes at most.
  pub surely_there : {A C : Type 0} (p : Phases A C) (found : A) (most : ℕ) → ReadsSurely name most p → ComesTo true files p (Ok found)
      → (text : List ℕ) × (files name ≡ Some text) × (length text ≤ most)
  surely_there (Phases.Finds other) found most sure comes = absurd sure
  surely_there (Phases.Reads names limit long next) found most sure (inl (is_long, is)) = absurd (cc)
  surely_there (Phases.Reads names limit long next) found most (inl (named, small)) (inr (text, read, comes)) =
      let own = text_in (files name) refl (there names (read.there refl) named) in
      let bytes : length (holds name) ≡ length own.0 = ap (λ (o : Option (List ℕ)). length (bytes_of o)) own.1 in
      let all : length text ≡ length (text_held files names) = ap length (read.is refl) in
      let part = within names [] [] named in
      let fits = read.fits in
      (own.0, own.1, omega (arith, small, bytes, all, part, fits))
  surely_there (Phases.Reads names limit long next) found most (inr sure) (inr (text, read, comes)) = surely_there (next text) found most (sure text) comes
  surely_there (Phases.Judges comes cause next) found most sure (inl (e, is_refused, is)) = absurd (cc)
  surely_there (Phases.Judges comes cause next) found most sure (inr (judged, is_judged, after)) = surely_there (next judged) found most (sure judged) after
  surely_there (Phases.Searches comes cause next) found most sure (inl (e, is_refused, is)) = absurd (cc)
  surely_there (Phases.Searches comes cause next) found most sure (inr (chosen, is_chosen, after)) = surely_there (next chosen) found most (sure chosen) after

-- What was found is as it always is.
pub found_so : {A C : Type 0} (Is : A → Type 0) (told : Bool) (files : Files) (p : Phases A C) (found : A) → FindsOnly Is p → ComesTo told files p (Ok found) → Is found
found_so Is told files (Phases.Finds other) found only comes = (let same : found ≡ other = cc in subst Is (sym same) only)
found_so Is told files (Phases.Reads names limit long next) found only (inl (is_long, is)) = absurd (cc)
found_so Is told files (Phases.Reads names limit long next) found only (inr (text, read, comes)) = found_so Is told files (next text) found (only text) comes
found_so Is told files (Phases.Judges comes cause next) found only (inl (e, is_refused, is)) = absurd (cc)
found_so Is told files (Phases.Judges comes cause next) found only (inr (judged, is_judged, after)) = found_so Is told files (next judged) found (only judged is_judged) after
found_so Is told files (Phases.Searches comes cause next) found only (inl (e, is_refused, is)) = absurd (cc)
found_so Is told files (Phases.Searches comes cause next) found only (inr (chosen, is_chosen, after)) = found_so Is told files (next chosen) found (only chosen is_chosen) after
