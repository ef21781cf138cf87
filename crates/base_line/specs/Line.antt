-- The set of command lines over a declared list of options: the options in any order, each at most once, then the
-- FILEs.
use Rattle.std.specs.Prelude.{◌⊎◌, ◌≡◌, ◌≢◌, ℕ, ◌<◌, ◌≤◌, ◌==◌, ◌&&◌, ◌^◌, Bool, true, false, not, List, [], ◌∷◌, ◌++◌}
use Rattle.std.specs.Prelude.{length, slice_index, codes, Option, Some, None, IsTrue, IsSome, if◌then◌else◌, find}
use Rattle.std.specs.Prelude.{nat_lt}
use Rattle.std.specs.List.{AllByRecursion, list_all, list_any}
use Rattle.std.specs.Str.{all_ascii_digits, bytes_eq}
use Rattle.std.specs.Str.Parse.{digits_value}
use Rattle.base_line.specs.declared.option.Kind.{Kind}
use Rattle.base_line.specs.declared.option.Kind.TheVariants as kind
use Rattle.base_line.specs.declared.option.Opt.{Opt}

abbrev pub Text : Type 0
Text = List ℕ

-- An option with its value is two words, `--name value`, or one word, `--name=value`.
pub data Item : Type 0 where
  Apart : Text → Text → Item
  Joined : Text → Text → Item

abbrev pub name_in : Item → Text
name_in (Apart name value) = name
name_in (Joined name value) = name

abbrev pub value_in : Item → Text
value_in (Apart name value) = value
value_in (Joined name value) = value

abbrev pub words_of_item : Item → List Text
words_of_item (Apart name value) = (45 ∷ 45 ∷ name) ∷ value ∷ []
words_of_item (Joined name value) = (45 ∷ 45 ∷ (name ++ 61 ∷ value)) ∷ []

abbrev pub words_of_items : List Item → List Text
words_of_items [] = []
words_of_items (item ∷ items) = words_of_item item ++ words_of_items items

-- The value that is given for a name, if any.
abbrev pub given : List Item → Text → Option Text
given [] name = None
given (item ∷ items) name = if bytes_eq (name_in item) name then Some (value_in item) else given items name

-- Each name comes at most once.
abbrev pub AreOnce : List Item → Type 0
AreOnce [] = Unit {0}
AreOnce (item ∷ items) = (given items (name_in item) ≡ None) × AreOnce items

-- A value or a FILE isn't empty and doesn't begin with `-`.
pub record IsValue (value : Text) : Type 0 where
  pub some : 0 < length value
  pub dash : slice_index value 0 ≢ 45

-- One or more digits, and the number that they are.
pub record IsNumber (text : Text) (number : ℕ) : Type 0 where
  pub some : 0 < length text
  pub digits : IsTrue (all_ascii_digits text)
  pub value : number ≡ digits_value 10 text

-- A text cut at a byte.
abbrev pub before_first_piece : ℕ → List Text → List Text
before_first_piece byte [] = (byte ∷ []) ∷ []
before_first_piece byte (piece ∷ pieces) = (byte ∷ piece) ∷ pieces

abbrev pub pieces_of : ℕ → Text → List Text
pieces_of cut [] = [] ∷ []
pieces_of cut (byte ∷ bytes) =
    if byte == cut then [] ∷ pieces_of cut bytes else before_first_piece byte (pieces_of cut bytes)

-- A byte that is printed and no blank.
abbrev pub IsGraphic : ℕ → Type 0
IsGraphic byte = (33 ≤ byte) × (byte ≤ 126)

-- The name of a scope isn't empty and holds bytes 33 to 126 alone.
pub record IsScopeName (name : Text) : Type 0 where
  pub some : 0 < length name
  pub graphic : AllByRecursion IsGraphic name

-- A piece of a list of sets: a name of one or more bytes, `=`, and `0` or `1`.
pub record IsSet (piece : Text) : Type 0 where
  pub name : Text
  pub bit : ℕ
  pub is : piece ≡ name ++ 61 ∷ bit ∷ []
  pub some : 0 < length name
  pub low : 48 ≤ bit
  pub high : bit ≤ 49

-- The value is one that the kind of option takes.
abbrev pub Fits : Kind → Text → Type 0
Fits kind.Reads value = Unit {0}
Fits kind.Writes value = Unit {0}
Fits kind.Prefix value = Unit {0}
Fits kind.Name value = Unit {0}
Fits kind.Scope value = AllByRecursion IsScopeName (pieces_of 46 value)
Fits (kind.Number least most) value = (n : ℕ) × IsNumber value n × (least ≤ n) × (n ≤ most)
Fits (kind.Word words) value = list_any (λ word. bytes_eq word.now value) words.now ≡ true
Fits (kind.Either one other) value = (value ≡ one.now) ⊎ (value ≡ other.now)
Fits kind.Sets value = AllByRecursion IsSet (pieces_of 44 value)

-- The option of a name.
abbrev pub named : List Opt → Text → Option Opt
named options name = find (λ o. bytes_eq o.name.now name) options

-- The item is one of these options, with a value that it takes.
pub record IsKnown (options : List Opt) (item : Item) : Type 0 where
  pub option : Opt
  pub is : named options (name_in item) ≡ Some option
  pub value : IsValue (value_in item)
  pub fits : Fits option.kind (value_in item)

-- The required options are given.
abbrev pub HasRequired : List Opt → List Item → Type 0
HasRequired options items = AllByRecursion (λ o. o.required ≡ true → IsSome (given items o.name.now)) options

-- There are FILEs exactly where the command has them.
abbrev pub HasFiles : Bool → List Text → Type 0
HasFiles true files = 0 < length files
HasFiles false files = files ≡ []

-- The words after the command are these options and then these FILEs.
pub record IsLine (options : List Opt) (has_files : Bool) (words : List Text) (items : List Item)
    (files : List Text) : Type 0 where
  pub is : words ≡ words_of_items items ++ files
  pub known : AllByRecursion (IsKnown options) items
  pub once : AreOnce items
  pub required : HasRequired options items
  pub some : HasFiles has_files files
  pub plain : AllByRecursion IsValue files

-- A declared name isn't empty, holds no `=` and isn't FILE; a declared number fits 64 bits; no two options have one
-- name.
abbrev pub is_name : Text → Bool
is_name name =
    nat_lt 0 (length name) && (not (list_any (λ byte. byte == 61) name) && not (bytes_eq name (codes "FILE")))

abbrev pub is_kind : Kind → Bool
is_kind (kind.Number least most) = nat_lt most (2 ^ 64)
is_kind other = true

abbrev pub are_apart : List Opt → Bool
are_apart [] = true
are_apart (o ∷ os) = not (list_any (λ p. bytes_eq p.name.now o.name.now) os) && are_apart os

abbrev pub are_options : List Opt → Bool
are_options os = list_all (λ o. is_name o.name.now && is_kind o.kind) os && are_apart os

-- The words aren't in the set.
abbrev pub IsOutside : List Opt → Bool → List Text → Type 0
IsOutside options has_files words = (items : List Item) (files : List Text) → IsLine options has_files words items files
    → ⊥
