-- The copies are of what the top needs.
use Rattle.std.proofs.Common.{◌≡◌, ℕ, ◌+◌, ◌<◌, Bool, true, false, List, [], ◌∷◌, ◌++◌, length, drop, get_or, Option, Some, None, refl, sym, ap, subst, ◌∙◌, arith, inl, inr, if◌then◌else◌, Contains, nat_eq, position, nat_lt, true≢false}
use Rattle.std.specs.Prelude.{bytes_eq}
use Rattle.std.specs.List.{list_any, position_or_len}
use Rattle.std.proofs.lemmas.Bool.{cases_lt, lt-ltb}
use Rattle.std.proofs.lemmas.Bool.Decides.{nat_tests}
use Rattle.std.proofs.lemmas.List.{append_assoc, append-nil, drop_more}
use Rattle.std.proofs.lemmas.List.Elements.{Contains-append_right, Contains-get_or, at_from_Contains}
use Rattle.std.proofs.lemmas.List.Folds.{list_any_at}
use Rattle.std.proofs.lemmas.List.Sums.{fails_before_first}
use Rattle.std.proofs.lemmas.List.Quantifiers.{position-Some}
use Rattle.std.proofs.lemmas.Map.Views.{Contains-from_any}
use Rattle.std.proofs.lemmas.Slice.Eq.{bytes_eq-Decides}
use Rattle.netlist_trim.specs.Definition.{Defined}
use Rattle.netlist_trim.specs.Needed.{Needed, first_named}
use Rattle.netlist_trim.specs.Reached.{AreReached, Reaches}
use Rattle.netlist_trim.specs.Copies.{copies, is_among, is_kept}
use Rattle.netlist_trim.specs.Trims.{Keeps, copy_of}
use Rattle.netlist_trim.proofs.Growing.{same_number, some_same}
use Rattle.base_scan.proofs.FirstNumbers.{picked}
use Rattle.base_scan.proofs.Fronts.{same_word}

-- ---- a name and its first definition

-- Two names with one first definition are one.
one_name : (ds : List Defined) (a b : List ℕ) (k : ℕ) (d : Defined) → first_named ds a ≡ Some k → first_named ds b ≡ Some k → a ≡ b
one_name ds a b k d first second =
    same_word a (get_or ds k d).name (position-Some (λ (e : Defined). bytes_eq a e.name) ds k d first).1
    ∙ sym (same_word b (get_or ds k d).name (position-Some (λ (e : Defined). bytes_eq b e.name) ds k d second).1)

-- ---- numbers and names

pub record NeededAt (ds : List Defined) (top : List ℕ) (k : ℕ) : Type 0 where
  pub name : List ℕ
  pub first : first_named ds name ≡ Some k
  pub needed : Needed ds top name

needed_at : (ds : List Defined) (top : List ℕ) (number k : ℕ) → first_named ds top ≡ Some number → Reaches ds number k → NeededAt ds top k
needed_at ds top number k there Reaches.itself = record { name = top; first = there; needed = Needed.itself }
needed_at ds top number k there (Reaches.led {k = before} r leads) =
    let h = needed_at ds top number before there r in
    record { name = leads.name; first = leads.first; needed = Needed.mentioned h.needed h.first leads.is leads.mentioned }

pub needed_of : (ds : List Defined) (top name : List ℕ) (number k : ℕ) (d : Defined) → first_named ds top ≡ Some number → Reaches ds number k
    → first_named ds name ≡ Some k → Needed ds top name
needed_of ds top name number k d there r first =
    let h = needed_at ds top number k there r in
    subst (Needed ds top) (one_name ds h.name name k d h.first first) h.needed

pub reached_of : (ds : List Defined) (top name : List ℕ) (number k : ℕ) → first_named ds top ≡ Some number → Needed ds top name
    → first_named ds name ≡ Some k → Reaches ds number k
reached_of ds top name number k there Needed.itself first = subst (Reaches ds number) (some_same number k (sym there ∙ first)) Reaches.itself
reached_of ds top name number k there (Needed.mentioned {name = before} {k = j} {d = d} needed at is mentioned) first =
    Reaches.led (reached_of ds top before number j there needed at) (record { d = d; is = is; name = name; mentioned = mentioned; first = first })

-- ---- what is among the numbers

passes_somewhere : {A : Type 0} (p : A → Bool) (xs : List A) (i : ℕ) (d : A) → i < length xs → p (get_or xs i d) ≡ true
    → position p xs ≡ None → ⊥
passes_somewhere p xs i d less passes none = elim (cases_lt (position_or_len p xs) (length xs)) as (λ _. ⊥) [
  | inl here ↦ (let some : position p xs ≡ Some (position_or_len p xs) = picked (nat_lt (position_or_len p xs) (length xs)) (position_or_len p xs) (position_or_len p xs) (lt-ltb _ _ here) refl in
      let e : Some (position_or_len p xs) ≡ None = sym some ∙ none in absurd cc)
  | inr past ↦ true≢false (sym passes ∙ fails_before_first p xs i d (omega arith))
]

same_bytes : (a b : List ℕ) → a ≡ b → bytes_eq a b ≡ true
same_bytes a b h = (bytes_eq-Decides a b).1 h

is_named : (ds : List Defined) (d : Defined) → Contains ds d → first_named ds d.name ≡ None → ⊥
is_named ds d has =
    let h = at_from_Contains ds d has in
    passes_somewhere (λ (e : Defined). bytes_eq d.name e.name) ds h.0 d h.1
    (same_bytes d.name (get_or ds h.0 d).name (ap (λ (e : Defined). e.name) (sym (h.2 d))))

same_itself : (k n : ℕ) → n ≡ k → nat_eq k n ≡ true
same_itself k n h = grind (arith, nat_tests)

among_of : (numbers : List ℕ) (k : ℕ) → Contains numbers k → list_any (nat_eq k) numbers ≡ true
among_of numbers k has =
    let h = at_from_Contains numbers k has in
    list_any_at (nat_eq k) numbers h.0 k h.1 (same_itself k (get_or numbers h.0 k) (h.2 k))

module _ (text : List ℕ) (ds : List Defined) (top numbers : List ℕ) (number : ℕ) (there : first_named ds top ≡ Some number)
    (reached : AreReached ds number numbers) where
  kept_needed : (d : Defined) (r : Option ℕ) → first_named ds d.name ≡ r → is_among numbers r ≡ true → Needed ds top d.name
  kept_needed d None is h = absurd cc
  kept_needed d (Some k) is h = needed_of ds top d.name number k d there (reached.sound k (Contains-from_any same_number k numbers h)) is

  dropped_unneeded : (d : Defined) (r : Option ℕ) → first_named ds d.name ≡ r → (r ≡ None → ⊥) → is_among numbers r ≡ false
      → Needed ds top d.name → ⊥
  dropped_unneeded d None is named h needed = named refl
  dropped_unneeded d (Some k) is named h needed =
      true≢false (sym (among_of numbers k (reached.whole k (reached_of ds top d.name number k there needed is))) ∙ h)

  keeps_by : (b : Bool) (d : Defined) (some : List Defined) (out : List ℕ) → Contains ds d → is_kept ds numbers d ≡ b
      → Keeps text ds top some out → Keeps text ds top (d ∷ some) (if b then copy_of text d ++ out else out)
  keeps_by true d some out has is rest = Keeps.kept (kept_needed d (first_named ds d.name) refl is) rest
  keeps_by false d some out has is rest =
      Keeps.dropped (dropped_unneeded d (first_named ds d.name) refl (is_named ds d has) is) rest

  keeps_some : (some : List Defined) → ((d : Defined) → Contains some d → Contains ds d) → Keeps text ds top some (copies text ds numbers some)
  keeps_some [] within = Keeps.none
  keeps_some (d ∷ some) within =
      keeps_by (is_kept ds numbers d) d some (copies text ds numbers some) (within d (Contains-get_or (d ∷ some) 0 d (omega arith))) refl
      (keeps_some some (λ e has. within e (Contains-append_right (d ∷ []) some e has)))

  pub keeps_copies : Keeps text ds top ds (copies text ds numbers ds)
  keeps_copies = keeps_some ds (λ d has. has)

-- ---- a copy more

one_copy : (b : Bool) (copy rest : List ℕ) → (if b then copy ++ rest else rest) ≡ (if b then copy ++ [] else []) ++ rest
one_copy true copy rest = ap (λ (l : List ℕ). l ++ rest) (sym (append-nil copy))
one_copy false copy rest = refl

pub copies_more : (text : List ℕ) (ds : List Defined) (numbers : List ℕ) (some : List Defined) (i : ℕ) (d : Defined) (start old new : List ℕ)
    → i < length some → new ≡ old ++ copies text ds numbers (get_or some i d ∷ [])
    → old ++ copies text ds numbers (drop i some) ≡ start ++ copies text ds numbers some
    → new ++ copies text ds numbers (drop (i + 1) some) ≡ start ++ copies text ds numbers some
copies_more text ds numbers some i d start old new less is so_far =
    let x = get_or some i d in
    let rest = copies text ds numbers (drop (i + 1) some) in
    ap (λ (l : List ℕ). l ++ rest) is ∙ append_assoc old (copies text ds numbers (x ∷ [])) rest
    ∙ ap (λ (l : List ℕ). old ++ l) (sym (one_copy (is_kept ds numbers x) (copy_of text x) rest))
    ∙ ap (λ (l : List Defined). old ++ copies text ds numbers l) (sym (drop_more some i d less)) ∙ so_far
