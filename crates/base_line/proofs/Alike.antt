-- A line of one list of options is one of each list that reads alike.
use Rattle.std.proofs.Common.{◌≡◌, ◌∙◌, sym, ap, subst, refl, ℕ, List, [], ◌∷◌, map, Option, Some, Bool, true, false, cond, true≢false}
use Rattle.std.specs.Prelude.{◌⊎◌, ◌≤◌, is_some, unwrap_or, IsSome}
use Rattle.std.specs.List.{AllByRecursion, list_any}
use Rattle.std.specs.Str.{bytes_eq}
use Rattle.clap.proofs.WalkLemmas.{list_any-map}
use Rattle.base_line.specs.declared.option.Kind.{Kind}
use Rattle.base_line.specs.declared.option.Kind.TheVariants as kind
use Rattle.base_line.specs.declared.option.Opt.{Opt}
use Rattle.base_line.specs.Line.{Fits, HasRequired, IsKnown, IsLine, IsNumber, IsScopeName, IsSet, Item, Text, given, name_in, named, pieces_of, value_in}
use Rattle.base_line.specs.Tables.{PlainKind, Reads as Read, Writes, Prefix, Module, Scope, Number, Word, Either, Sets, Plain, plain, plain_kind}

-- ---- values by the plain kind

abbrev pub FitsPlain : PlainKind → Text → Type 0
FitsPlain Read value = Unit {0}
FitsPlain Writes value = Unit {0}
FitsPlain Prefix value = Unit {0}
FitsPlain Module value = Unit {0}
FitsPlain Scope value = AllByRecursion IsScopeName (pieces_of 46 value)
FitsPlain (Number least most) value = (n : ℕ) × IsNumber value n × (least ≤ n) × (n ≤ most)
FitsPlain (Word words) value = list_any (λ word. bytes_eq word value) words ≡ true
FitsPlain (Either one other) value = (value ≡ one) ⊎ (value ≡ other)
FitsPlain Sets value = AllByRecursion IsSet (pieces_of 44 value)

pub to_plain : (k : Kind) (value : Text) → Fits k value → FitsPlain (plain_kind k) value
to_plain kind.Reads value h = h
to_plain kind.Writes value h = h
to_plain kind.Prefix value h = h
to_plain kind.Name value h = h
to_plain kind.Scope value h = h
to_plain (kind.Number least most) value h = h
to_plain (kind.Word words) value h = sym (list_any-map (λ w. bytes_eq w value) (λ w. w.now) words.now) ∙ h
to_plain (kind.Either one other) value h = h
to_plain kind.Sets value h = h

from_plain : (k : Kind) (value : Text) → FitsPlain (plain_kind k) value → Fits k value
from_plain kind.Reads value h = h
from_plain kind.Writes value h = h
from_plain kind.Prefix value h = h
from_plain kind.Name value h = h
from_plain kind.Scope value h = h
from_plain (kind.Number least most) value h = h
from_plain (kind.Word words) value h = list_any-map (λ w. bytes_eq w value) (λ w. w.now) words.now ∙ h
from_plain (kind.Either one other) value h = h
from_plain kind.Sets value h = h

-- ---- lists of options that read alike

head_of : Plain → List Plain → Plain
head_of d [] = d
head_of d (x ∷ xs) = x

same_head : (x y : Plain) (xs ys : List Plain) → x ∷ xs ≡ y ∷ ys → x ≡ y
unfolding head_of
same_head x y xs ys e = ap (head_of x) e

tail_of : List Plain → List Plain
tail_of [] = []
tail_of (x ∷ xs) = xs

same_tail : (x y : Plain) (xs ys : List Plain) → x ∷ xs ≡ y ∷ ys → xs ≡ ys
unfolding tail_of
same_tail x y xs ys e = ap tail_of e

record IsAlike (b : List Opt) (n : Text) (o : Opt) : Type 0 where
  pub option : Opt
  pub is : named b n ≡ Some option
  pub same : plain o ≡ plain option

alike : (a b : List Opt) → map plain a ≡ map plain b → (n : Text) (o : Opt) → named a n ≡ Some o → IsAlike b n o
alike [] b same n o e = absurd (true≢false (sym (ap is_some e)))
alike (x ∷ a) [] same n o e = absurd (let bad : plain x ∷ map plain a ≡ [] = same in cc)
alike (x ∷ a) (y ∷ b) same n o e =
    let first = same_head (plain x) (plain y) (map plain a) (map plain b) same in
    go first (alike a b (same_tail (plain x) (plain y) (map plain a) (map plain b) same) n o) (bytes_eq x.name.now n) refl e
  where
    go : plain x ≡ plain y → (named a n ≡ Some o → IsAlike b n o) → (t : Bool) → bytes_eq x.name.now n ≡ t → cond t (Some x) (named a n) ≡ Some o → IsAlike (y ∷ b) n o
    go first later true is h =
        let here : bytes_eq y.name.now n ≡ true = ap (λ (p : Plain). bytes_eq p.name n) (sym first) ∙ is in
        record {
          option = y;
          is = ap (λ t. cond t (Some y) (named b n)) here;
          same = ap (λ (p : Option Opt). plain (unwrap_or p x)) (sym h) ∙ first;
        }
    go first later false is h =
        let here : bytes_eq y.name.now n ≡ false = ap (λ (p : Plain). bytes_eq p.name n) (sym first) ∙ is in
        let more = later h in
        record { option = more.option; is = ap (λ t. cond t (Some y) (named b n)) here ∙ more.is; same = more.same }

module _ (a b : List Opt) (same : map plain a ≡ map plain b) where
  known_alike : (items : List Item) → AllByRecursion (IsKnown a) items → AllByRecursion (IsKnown b) items
  known_alike [] known = tt
  known_alike (i ∷ items) known =
      let k = known.0 in
      let other = alike a b same (name_in i) k.option k.is in (
        record {
          option = other.option;
          is = other.is;
          value = k.value;
          fits = from_plain other.option.kind (value_in i) (subst (λ (p : Plain). FitsPlain p.values (value_in i)) other.same (to_plain k.option.kind (value_in i) k.fits));
        },
        known_alike items known.1,
      )

required_alike : (a b : List Opt) → map plain a ≡ map plain b → (items : List Item) → HasRequired a items → HasRequired b items
required_alike a [] same items h = tt
required_alike [] (y ∷ b) same items h = absurd (let bad : [] ≡ plain y ∷ map plain b = same in cc)
required_alike (x ∷ a) (y ∷ b) same items h =
    let first = same_head (plain x) (plain y) (map plain a) (map plain b) same in
    (subst (λ (p : Plain). p.required ≡ true → IsSome (given items p.name)) first h.0, required_alike a b (same_tail (plain x) (plain y) (map plain a) (map plain b) same) items h.1)

pub line_alike : (a b : List Opt) → map plain a ≡ map plain b → (has : Bool) (words : List Text) (items : List Item) (files : List Text) → IsLine a has words items files → IsLine b has words items files
line_alike a b same has words items files l = record {
  is = l.is;
  known = known_alike a b same items l.known;
  once = l.once;
  required = required_alike a b same items l.required;
  some = l.some;
  plain = l.plain;
}
