-- What is read of words in front, and what was read of them.
use Rattle.std.proofs.Common.{◌≡◌, ℕ, Bool, true, false, cond, List, [], ◌∷◌, Option, Some, None, refl}
use Rattle.std.specs.Prelude.{◌&&◌, bytes_eq, option_map}
use Rattle.std.proofs.lemmas.Slice.Eq.{bytes_eq-Decides}
use Rattle.base_scan.specs.Fronts.{◌>>=◌, word_in_front}

pub both : (a b : Bool) → a && b ≡ true → (a ≡ true) × (b ≡ true)
both true b h = (refl, h)
both false b h = absurd cc

pub some_is : {A : Type 0} (x y : A) → Some x ≡ Some y → x ≡ y
some_is x y h = cc

pub guarded : {A : Type 0} (b : Bool) (o : Option A) (x : A) → cond b o None ≡ Some x → (b ≡ true) × (o ≡ Some x)
guarded true o x h = (refl, h)
guarded false o x h = absurd cc

pub bind_some : {A B : Type 0} (o : Option A) (f : A → Option B) (y : B) → (o >>= f) ≡ Some y
    → (x : A) × (o ≡ Some x) × (f x ≡ Some y)
bind_some None f y read = absurd cc
bind_some (Some x) f y read = (x, refl, read)

pub mapped : {A B : Type 0} (f : A → B) (o : Option A) (y : B) → option_map f o ≡ Some y → (x : A) × (o ≡ Some x) × (f x ≡ y)
mapped f None y read = absurd cc
mapped f (Some x) y read = (x, refl, some_is (f x) y read)

pub same_word : (w v : List ℕ) → bytes_eq w v ≡ true → w ≡ v
same_word w v h = (bytes_eq-Decides w v).0 h

pub word_same : (w : List ℕ) → bytes_eq w w ≡ true
word_same w = (bytes_eq-Decides w w).1 refl

-- This word in front.
pub word_takes : (word : List ℕ) (ws rest : List (List ℕ)) → word_in_front word ws ≡ Some rest → ws ≡ word ∷ rest
word_takes word [] rest read = absurd cc
word_takes word (w ∷ ws) rest read =
    let found = guarded (bytes_eq w word) (Some ws) rest read in
    let here : w ≡ word = same_word w word found.0 in
    let there : ws ≡ rest = some_is ws rest found.1 in cc

pub word_again : (word : List ℕ) (rest : List (List ℕ)) → word_in_front word (word ∷ rest) ≡ Some rest
word_again word rest = rw (word_same word) refl
