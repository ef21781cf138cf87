-- Lines of options, and what they mean.
use Rattle.std.proofs.Common.{◌≡◌, ◌∙◌, ◌<◌, List, [], ◌∷◌, Option, Some, None, Bool, true, false, map, length, codes, refl, sym, ap, ap₂, subst}
use Rattle.std.specs.Prelude.{◌&&◌, ◌||◌, ◌^◌, ◌↔◌, IfNone, IfSome, IsTrue, nat_lt, not, unwrap_or}
use Rattle.std.specs.List.{list_all, list_any}
use Rattle.std.specs.Str.{bytes_eq}
use Rattle.base_line.specs.declared.line.Line.{Line}
use Rattle.base_line.specs.declared.option.Opt.{Opt}
use Rattle.base_line.specs.declared.option.Kind.{Kind}
use Rattle.base_line.specs.declared.option.Kind.TheVariants as kind
use Rattle.base_line.specs.Tables.{Plain, PlainKind, Reads, Writes, Prefix, Module, Scope, Number, Word, Either, Sets, plain, plain_kind}
use Rattle.base_line.specs.Line.{IsLine, Item, Text, are_apart, are_options, given, is_kind, is_name}
use Rattle.base_line.specs.Read.{files_of, value_of}
use Rattle.base_line.proofs.Alike.{line_alike}
use Rattle.base_line.proofs.Settling.{many_is}
use Rattle.base_line.proofs.Whole.{IsPassed, line_passes}
use Rattle.cmd_trim.specs.Words.{AreLists, AreOutside, Gives, IsTrimLine, Means, MeansOnly, TrimValues, names_in, table, trim_values}
use Rattle.cmd_trim.specs.declared.trim_words.TrimWords.{TrimWords}

-- The values of the options are the same by two readings.
pub record SameValues (f g : Text → Option Text) : Type 0 where
  pub top : f (codes "top") ≡ g (codes "top")
  pub to : f (codes "to") ≡ g (codes "to")
  pub stub : f (codes "stub") ≡ g (codes "stub")
  pub supply : f (codes "supply") ≡ g (codes "supply")

gives_alike : (f g : Text → Option Text) (v : TrimValues) → SameValues f g → Gives f v → Gives g v
gives_alike f g v same gives = record {
  top = sym same.top ∙ gives.top;
  to = sym same.to ∙ gives.to;
  stubs = gives.stubs ∙ ap (λ (o : Option Text). names_in o) same.stub;
  supplies = gives.supplies ∙ ap (λ (o : Option Text). names_in o) same.supply;
  lists = subst (λ (o : Option Text). AreLists (g (codes "stub")) o) same.supply
      (subst (λ (o : Option Text). AreLists o (f (codes "supply"))) same.stub gives.lists);
  apart = gives.apart;
}

by_each : (f g : Text → Option Text) → ((name : Text) → bytes_eq name (codes "FILE") ≡ false → f name ≡ g name) → SameValues f g
by_each f g each = record {
  top = each (codes "top") refl;
  to = each (codes "to") refl;
  stub = each (codes "stub") refl;
  supply = each (codes "supply") refl;
}

-- ---- what was read

pub means_of : (words : List Text) (line : Line) (v : TrimValues) → IsTrimLine words line → v.files ≡ files_of line → Gives (value_of line) v → Means words v
means_of words line v is files gives = record {
  options = is.options;
  declared = is.declared;
  items = is.reads.items;
  line = subst (λ (l : List Text). IsLine is.options true words is.reads.items l) (sym files) is.reads.is;
  gives = gives_alike (value_of line) (given is.reads.items) v (by_each (value_of line) (given is.reads.items) is.reads.each) gives;
}

moved : (words : List Text) (options : List Opt) (v : TrimValues) → map plain options ≡ table → (m : Means words v) → IsLine options true words m.items v.files
moved words options v declared m = line_alike m.options options (m.declared ∙ sym declared) true words m.items v.files m.line

pub files_given : (words : List Text) (line : Line) (v : TrimValues) → IsTrimLine words line → Means words v → v.files ≡ files_of line
files_given words line v is m = is.only.files m.items v.files (moved words is.options v is.declared m)

pub gives_given : (words : List Text) (line : Line) (v : TrimValues) → IsTrimLine words line → Means words v → Gives (value_of line) v
gives_given words line v is m =
    let each = is.only.each m.items v.files (moved words is.options v is.declared m) in
    gives_alike (given m.items) (value_of line) v (by_each (given m.items) (value_of line) each) m.gives

pub outside_of : (words : List Text) (options : List Opt) → map plain options ≡ table
    → ((items : List Item) (files : List Text) → IsLine options true words items files → ⊥) → AreOutside words
outside_of words options declared none v m = none m.items v.files (moved words options v declared m)

pub set_of : (words files : List Text) (line : Line) → IsTrimLine words line → files ≡ files_of line → (r : Option TrimWords)
    → IfSome r (λ w. (trim_values w).files ≡ files) → IfSome r (λ w. Gives (value_of line) (trim_values w)) → IfSome r (λ w. Means words (trim_values w))
set_of words files line is same None f g = tt
set_of words files line is same (Some w) f g = means_of words line (trim_values w) is (f ∙ same) g

pub none_of : (words files : List Text) (line : Line) → IsTrimLine words line → files ≡ files_of line → (r : Option TrimWords)
    → IfNone r ((v : TrimValues) → v.files ≡ files → Gives (value_of line) v → ⊥) → IfNone r (AreOutside words)
none_of words files line is same (Some w) none = tt
none_of words files line is same None none = λ v m. none v (files_given words line v is m ∙ sym same) (gives_given words line v is m)

pub files_some : (words : List Text) (line : Line) → IsTrimLine words line → 0 < length (files_of line)
files_some words line is = is.reads.is.some

-- ---- lists as they are read

module _ (f : Text → Option Text) (stubs supplies : Option Text) (stub : stubs ≡ f (codes "stub")) (supply : supplies ≡ f (codes "supply")) where
  lists_read : AreLists (f (codes "stub")) (f (codes "supply")) → AreLists stubs supplies
  lists_read lists = subst (λ (o : Option Text). AreLists stubs o) (sym supply) (subst (λ (o : Option Text). AreLists o (f (codes "supply"))) (sym stub) lists)

  pub no_lists : (r : Bool) → IsTrue r ↔ AreLists stubs supplies → r ≡ false → (files : List Text) → (v : TrimValues) → v.files ≡ files → Gives f v → ⊥
  no_lists r tells bad files v same gives = absurd (let both : false ≡ true = sym bad ∙ tells.1 (lists_read gives.lists) in cc)

-- ---- one meaning

is_plain_kind : PlainKind → Bool
is_plain_kind Reads = true
is_plain_kind Writes = true
is_plain_kind Prefix = true
is_plain_kind Module = true
is_plain_kind Scope = true
is_plain_kind (Number least most) = nat_lt most (2 ^ 64)
is_plain_kind (Word words) = true
is_plain_kind (Either one other) = true
is_plain_kind Sets = true

is_plain_option : Plain → Bool
is_plain_option p = is_name p.name && is_plain_kind p.values

abbrev apart_plain : List Plain → Bool
apart_plain [] = true
apart_plain (p ∷ ps) = not (list_any (λ (q : Plain). bytes_eq q.name p.name) ps) && apart_plain ps

abbrev all_plain : List Plain → Bool
all_plain [] = true
all_plain (p ∷ ps) = is_plain_option p && all_plain ps

same_kind : (k : Kind) → is_kind k ≡ is_plain_kind (plain_kind k)
unfolding is_plain_kind
same_kind kind.Reads = refl
same_kind kind.Writes = refl
same_kind kind.Prefix = refl
same_kind kind.Name = refl
same_kind kind.Scope = refl
same_kind (kind.Number least most) = refl
same_kind (kind.Word words) = refl
same_kind (kind.Either one other) = refl
same_kind kind.Sets = refl

same_all : (os : List Opt) → list_all (λ o. is_name o.name.now && is_kind o.kind) os ≡ all_plain (map plain os)
unfolding is_plain_option
same_all [] = refl
same_all (o ∷ os) = ap₂ (λ (a b : Bool). a && b) (ap (λ (b : Bool). is_name o.name.now && b) (same_kind o.kind)) (same_all os)

any_plain : (p : Plain → Bool) (os : List Opt) → list_any (λ (o : Opt). p (plain o)) os ≡ list_any p (map plain os)
any_plain p [] = refl
any_plain p (o ∷ os) = ap (λ (b : Bool). p (plain o) || b) (any_plain p os)

same_apart : (os : List Opt) → are_apart os ≡ apart_plain (map plain os)
same_apart [] = refl
same_apart (o ∷ os) = ap₂ (λ (a b : Bool). not a && b) (any_plain (λ (q : Plain). bytes_eq q.name o.name.now) os) (same_apart os)

table_in_order : (all_plain table && apart_plain table) ≡ true
unfolding is_plain_kind is_plain_option
table_in_order = refl

orders : (options : List Opt) → map plain options ≡ table → are_options options ≡ true
orders options is =
    ap₂ (λ (a b : Bool). a && b) (same_all options) (same_apart options)
    ∙ ap (λ (ps : List Plain). all_plain ps && apart_plain ps) is
    ∙ table_in_order

module _ (words : List Text) (v other : TrimValues) (a : Means words v) (b : Means words other) where
  ordered : are_options a.options ≡ true
  ordered = orders a.options a.declared

  passed : IsPassed (codes "xrtrim") a.options true ordered words a.items v.files
  passed = line_passes (codes "xrtrim") a.options true ordered words a.items v.files a.line

  passed_too : IsPassed (codes "xrtrim") a.options true ordered words b.items other.files
  passed_too = line_passes (codes "xrtrim") a.options true ordered words b.items other.files (moved words a.options other a.declared b)

some_same : (x y : Text) → Some x ≡ Some y → x ≡ y
some_same x y h = cc

pub one_meaning : (words : List Text) (v other : TrimValues) → Means words v → Means words other → other ≡ v
one_meaning words v other a b =
    let p = passed words v other a b in
    let q = passed_too words v other a b in
    let same = by_each (given b.items) (given a.items) (λ name is. sym (q.first name is) ∙ p.first name is) in
    let top = some_same other.top v.top (sym b.gives.top ∙ same.top ∙ a.gives.top) in
    let to = some_same other.to v.to (sym b.gives.to ∙ same.to ∙ a.gives.to) in
    let stubs = b.gives.stubs ∙ ap (λ (o : Option Text). names_in o) same.stub ∙ sym a.gives.stubs in
    let supplies = b.gives.supplies ∙ ap (λ (o : Option Text). names_in o) same.supply ∙ sym a.gives.supplies in
    let files : other.files ≡ v.files = sym (many_is other.files) ∙ ap (λ (o : Option (List Text)). unwrap_or o []) (sym q.all ∙ p.all) ∙ many_is v.files in
    λ i. record { top = top i; to = to i; stubs = stubs i; supplies = supplies i; files = files i }

pub only_of : (words : List Text) (r : Option TrimWords) → IfSome r (λ w. Means words (trim_values w)) → IfSome r (λ w. MeansOnly words (trim_values w))
only_of words None means = tt
only_of words (Some w) means = λ other again. one_meaning words (trim_values w) other means again
