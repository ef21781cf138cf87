-- What a word is: an option in one word, an option's name, or none.
use Rattle.std.proofs.Common.{◌≡◌, ◌∙◌, ◌≢◌, ◌<◌, ◌⊎◌, inl, inr, sym, ap, ap₂, subst, refl, ℕ, suc, zero, length, [], ◌∷◌, ◌++◌, Some, None, Bool, true, false, cond, true≢false, arith, get_or}
use Rattle.std.specs.Prelude.{◌==◌, ◌&&◌, ◌||◌}
use Rattle.std.specs.List.{after_first}
use Rattle.std.specs.Str.{bytes_eq}
use Rattle.std.proofs.Common.{lt-ltb, ltb-true}
use Rattle.std.proofs.lemmas.Bool.{ne_eqb}
use Rattle.std.proofs.lemmas.Bool.Decides.{Decides-eqb}
use Rattle.clap.proofs.CutLemmas.{after_first-at, before_first-Lacks, before_first-at, list_any-at}
use Rattle.clap.specs.Lexer.{has_byte, name_and_value}
use Rattle.clap.specs.Walk.{Text}
use Rattle.base_line.specs.Told.{is_flag, is_word}
use Rattle.base_line.specs.Line.{IsValue}
use Rattle.base_line.proofs.Steps.{IsLongWord, IsPlainWord}

-- ---- what stands before and after the first `=`

lacks_tail : (a b : Bool) → (a || b) ≡ false → (a ≡ false) × (b ≡ false)
lacks_tail true b e = absurd (true≢false e)
lacks_tail false b e = (refl, e)

lacks_at : (xs : Text) → has_byte 61 xs ≡ false → (i : ℕ) → i < length xs → get_or xs i 0 ≢ 61
lacks_at [] e i lt = absurd (omega arith)
lacks_at (x ∷ xs) e zero lt = λ same. true≢false (sym ((Decides-eqb x 61).1 same) ∙ (lacks_tail _ _ e).0)
lacks_at (x ∷ xs) e (suc i) lt = lacks_at xs (lacks_tail _ _ e).1 i (omega arith)

record Cut (text : Text) : Type 0 where
  pub name : Text
  pub value : Text
  pub is : text ≡ name ++ 61 ∷ value
  pub lacks : has_byte 61 name ≡ false

cut_more : (x : ℕ) (xs : Text) (b : Bool) → (x == 61) ≡ b → (has_byte 61 xs ≡ false) ⊎ Cut xs → (has_byte 61 (x ∷ xs) ≡ false) ⊎ Cut (x ∷ xs)
cut_more x xs true e rest = inr (record { name = []; value = xs; is = ap (λ y. y ∷ xs) ((Decides-eqb x 61).0 e); lacks = refl })
cut_more x xs false e (inl none) = inl (ap₂ (λ a b. a || b) e none)
cut_more x xs false e (inr c) = inr (record { name = x ∷ c.name; value = c.value; is = ap (λ ys. x ∷ ys) c.is; lacks = ap₂ (λ a b. a || b) e c.lacks })

cut : (text : Text) → (has_byte 61 text ≡ false) ⊎ Cut text
cut [] = inl refl
cut (x ∷ xs) = cut_more x xs (x == 61) refl (cut xs)

name_of_apart : (name : Text) → has_byte 61 name ≡ false → name_and_value name ≡ (name, None)
name_of_apart name none =
    let lacks = lacks_at name none in
    (λ i. (before_first-Lacks 61 name lacks i, cond (none i) (Some (after_first (λ x. x == 61) name)) None))

name_of_joined : (name value : Text) → has_byte 61 name ≡ false → name_and_value (name ++ 61 ∷ value) ≡ (name, Some value)
name_of_joined name value none =
    let lacks = lacks_at name none in
    (λ i. (before_first-at 61 name value lacks i, cond (list_any-at 61 name value i) (Some (after_first-at 61 name value lacks i)) None))

-- ---- a word that doesn't begin with `-`

plain_of : (byte : ℕ) (bytes : Text) → (byte == 45) ≡ false → IsPlainWord (byte ∷ bytes)
plain_of byte bytes other = record {
  dashes = ap (λ b. b && bytes_eq bytes (45 ∷ [])) other;
  long = rw other refl;
  short = rw other refl;
}

pub value_plain : (value : Text) → IsValue value → IsPlainWord value
value_plain [] v = absurd (let some = v.some in omega arith)
value_plain (byte ∷ bytes) v = plain_of byte bytes (ne_eqb byte 45 v.dash)

pub value_word : (value : Text) → IsValue value → is_word value ≡ true
value_word [] v = refl
value_word (byte ∷ bytes) v = ap (λ b. cond b (is_flag bytes) true) (ne_eqb byte 45 v.dash)

-- ---- the three kinds of words

pub record JoinedView (word : Text) : Type 0 where
  pub name : Text
  pub value : Text
  pub is : word ≡ 45 ∷ 45 ∷ (name ++ 61 ∷ value)
  pub long : IsLongWord word name (Some value)

pub record ApartView (word : Text) : Type 0 where
  pub name : Text
  pub is : word ≡ 45 ∷ 45 ∷ name
  pub long : IsLongWord word name None

abbrev pub View : Text → Type 0
View word = IsPlainWord word ⊎ (JoinedView word ⊎ ApartView word)

-- a word of an option with a name
pub apart_long : (name : Text) → 0 < length name → has_byte 61 name ≡ false → IsLongWord (45 ∷ 45 ∷ name) name None
apart_long [] some none = absurd (omega arith)
apart_long (x ∷ xs) some none = record { dashes = refl; long = ap Some (name_of_apart (x ∷ xs) none) }

pub joined_long : (name value : Text) → has_byte 61 name ≡ false → IsLongWord (45 ∷ 45 ∷ (name ++ 61 ∷ value)) name (Some value)
joined_long [] value none = record { dashes = refl; long = ap Some (name_of_joined [] value none) }
joined_long (x ∷ xs) value none = record { dashes = refl; long = ap Some (name_of_joined (x ∷ xs) value none) }

pub flag_word : (name : Text) → 0 < length name → is_word (45 ∷ 45 ∷ name) ≡ true
flag_word [] some = absurd (omega arith)
flag_word (x ∷ xs) some = lt-ltb 0 (length (x ∷ xs)) some

pub joined_word : (name value : Text) → is_word (45 ∷ 45 ∷ (name ++ 61 ∷ value)) ≡ true
joined_word [] value = lt-ltb 0 (length (61 ∷ value)) (omega arith)
joined_word (x ∷ xs) value = lt-ltb 0 (length (x ∷ (xs ++ 61 ∷ value))) (omega arith)

flag_view : (text : Text) → 0 < length text → (has_byte 61 text ≡ false) ⊎ Cut text → JoinedView (45 ∷ 45 ∷ text) ⊎ ApartView (45 ∷ 45 ∷ text)
flag_view text some (inl none) = inr (record { name = text; is = refl; long = apart_long text some none })
flag_view text some (inr c) =
    let is : 45 ∷ 45 ∷ text ≡ 45 ∷ 45 ∷ (c.name ++ 61 ∷ c.value) = ap (λ t. 45 ∷ 45 ∷ t) c.is in
    inl (record { name = c.name; value = c.value; is = is; long = subst (λ w. IsLongWord w c.name (Some c.value)) (sym is) (joined_long c.name c.value c.lacks) })

both_of : (a b : Bool) → (a && b) ≡ true → (a ≡ true) × (b ≡ true)
both_of true b e = (refl, e)
both_of false b e = absurd (true≢false (sym e))

dashed : (bytes : Text) → is_flag bytes ≡ true → View (45 ∷ bytes)
dashed [] e = absurd (true≢false (sym e))
dashed (x ∷ xs) e =
    let parts = both_of _ _ e in
    let first : x ≡ 45 = (Decides-eqb x 45).0 parts.0 in
    inr (subst (λ y. JoinedView (45 ∷ y ∷ xs) ⊎ ApartView (45 ∷ y ∷ xs)) (sym first) (flag_view xs (ltb-true 0 (length xs) parts.1) (cut xs)))

view_by : (byte : ℕ) (bytes : Text) (b : Bool) → (byte == 45) ≡ b → cond b (is_flag bytes) true ≡ true → View (byte ∷ bytes)
view_by byte bytes true first e = subst (λ y. View (y ∷ bytes)) (sym ((Decides-eqb byte 45).0 first)) (dashed bytes e)
view_by byte bytes false first e = inl (plain_of byte bytes first)

pub view : (word : Text) → is_word word ≡ true → View word
view [] is = inl (record { dashes = refl; long = refl; short = refl })
view (byte ∷ bytes) is = view_by byte bytes (byte == 45) refl is
