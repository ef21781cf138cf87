-- Texts joined, one more at a time.
use Rattle.std.proofs.Common.{◌≡◌, ℕ, suc, ◌+◌, ◌<◌, List, [], ◌∷◌, ◌++◌, length, length-append, map, take, get_or, refl, ap, ◌∙◌, arith, append_assoc}
use Rattle.std.specs.Prelude.{Option, Some, None, Vec, Bool, IfSome, IsSome, IsTrue}
use Rattle.std.specs.declared.alloc.Global.{Global}
use Rattle.std.proofs.lemmas.List.{append-nil, take_more, map-append}
use Rattle.std.proofs.lemmas.Bool.{false≢true}
use Rattle.std.specs.List.{AllByRecursion}
use Rattle.base_shelf.specs.Shelf.{View, Files, Hand, Nothing, held}
use Rattle.base_run.specs.Phases.{AreThere, put_after, joined_after, joined}

all_push : {X : Type 0} (P : X → Type 0) (xs : List X) (x : X) → AllByRecursion P xs → P x → AllByRecursion P (xs ++ x ∷ [])
all_push P [] x all here = (here, tt)
all_push P (y ∷ xs) x all here = (all.0, all_push P xs x all.1 here)

after_more : (before : List (List ℕ)) (so_far : List ℕ) (texts : List (List ℕ)) (text : List ℕ) → joined_after before so_far (texts ++ text ∷ []) ≡ put_after (before ++ texts) (joined_after before so_far texts) text
after_more before so_far [] text = rw (append-nil before) refl
after_more before so_far (t ∷ texts) text = after_more (before ++ t ∷ []) (put_after before so_far t) texts text ∙ ap (λ (l : List (List ℕ)). put_after l (joined_after (before ++ t ∷ []) (put_after before so_far t) texts) text) (append_assoc before (t ∷ []) texts)

-- One text more is put after the others.
pub joined_more : (texts : List (List ℕ)) (text : List ℕ) → joined (texts ++ text ∷ []) ≡ put_after texts (joined texts) text
joined_more texts text = after_more [] [] texts text

-- what a name holds, where no file changed
pub held_same : (a b : View) (name : List ℕ) → b.files ≡ a.files → held b name ≡ held a name
held_same a b name same = rw same refl

-- the texts that a view holds under the first names, one more
pub held_more : {X : Type 0} (a : View) (name_of : X → List ℕ) (names : List X) (i : ℕ) (d : X) → i < length names
    → map (held a) (map name_of (take (i + 1) names)) ≡ map (held a) (map name_of (take i names)) ++ held a (name_of (get_or names i d)) ∷ []
held_more a name_of names i d within = rw (take_more names i d within, map-append name_of (take i names) (get_or names i d ∷ []), map-append (held a) (map name_of (take i names)) (name_of (get_or names i d) ∷ [])) refl

-- as many texts as names
pub as_many : {X : Type 0} (a : View) (name_of : X → List ℕ) (names : List X) → length (map (held a) (map name_of names)) ≡ length names
as_many a name_of [] = refl
as_many a name_of (n ∷ names) = ap (λ (k : ℕ). suc k) (as_many a name_of names)

-- where the texts so far are whole, so is the last one, and its file is closed
pub closed_next : (whole part : Option (Vec ℕ Global)) (hand : Hand) (n : ℕ) → IfSome whole (λ v. IsSome part) → (IsSome part → hand ≡ Nothing) → IfSome whole (λ v. 0 < n → hand ≡ Nothing)
closed_next None part hand n both closed = tt
closed_next (Some v) part hand n both closed = λ _. closed both

-- where the texts so far are whole, the files of their names are there, and the next one
pub there_next : {X : Type 0} (told : Bool) (files : Files) (name_of : X → List ℕ) (names : List X) (i : ℕ) (d : X) (before whole part : Option (Vec ℕ Global)) → i < length names
    → (IsSome whole → IsSome before) → IfSome whole (λ v. IsSome part) → IfSome before (λ v. IsTrue told → AreThere files (map name_of (take i names)))
    → (IsSome part → IsTrue told → IsSome (files (name_of (get_or names i d))))
    → IfSome whole (λ v. IsTrue told → AreThere files (map name_of (take (i + 1) names)))
there_next told files name_of names i d before None part within first both are next = tt
there_next told files name_of names i d None (Some v) part within first both are next = absurd (false≢true (first refl))
there_next told files name_of names i d (Some u) (Some v) part within first both are next = λ t.
    rw (take_more names i d within, map-append name_of (take i names) (get_or names i d ∷ [])) (all_push (λ (name : List ℕ). IsSome (files name)) (map name_of (take i names)) (name_of (get_or names i d)) (are t) (next both t))

-- Where what stands before is too long, or what comes next, the whole is.
pub long_before : (limit : ℕ) (before : List (List ℕ)) (so_far more : List ℕ) → (length before ≡ 0 → so_far ≡ []) → limit < length so_far → limit < length (put_after before so_far more)
long_before limit [] so_far more first long = let none : length so_far ≡ 0 = ap length (first refl) in absurd (omega (arith, none, long))
long_before limit (t ∷ ts) so_far more first long = omega (arith, length-append so_far (10 ∷ more), long)

pub long_next : (limit : ℕ) (before : List (List ℕ)) (so_far more : List ℕ) → limit < length more → limit < length (put_after before so_far more)
long_next limit [] so_far more long = long
long_next limit (t ∷ ts) so_far more long = omega (arith, length-append so_far (10 ∷ more), long)
