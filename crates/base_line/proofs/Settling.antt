-- What was read, and the set of lines.
use Rattle.std.proofs.Common.{◌≡◌, ◌≢◌, ◌∙◌, ⊎_elim, sym, ap, subst, refl, List, [], ◌∷◌, ◌++◌, map, Option, Some, None, Bool, true, false, cond, true≢false, codes}
use Rattle.std.specs.Prelude.{IfSome, IfNone, IsTrue, ◌↔◌, is_some, unwrap_or}
use Rattle.std.specs.List.{All, AllByRecursion, list_any}
use Rattle.std.specs.Str.{bytes_eq}
use Rattle.std.specs.Borrow.{Bor}
use Rattle.std.proofs.lemmas.List.Elements.{All-from_recursion, recursion_from_All}
use Rattle.clap.specs.Faults.{fault_of}
use Rattle.clap.specs.Kinds.{HasKind}
use Rattle.clap.specs.Matches.{found_of}
use Rattle.clap.specs.Simple.{matches_of}
use Rattle.clap.specs.Values.{kind_of}
use Rattle.clap.specs.Walk.{Row, Text, all_of, first_of, rows_of}
use Rattle.clap.specs.declared.error.Error.{Error}
use Rattle.clap.specs.declared.error.kind.ErrorKind.TheVariants.{OutOfMemory}
use Rattle.clap.specs.declared.parser.ArgMatches.{ArgMatches}
use Rattle.clap.proofs.WalkLemmas.{first_value-rows, raw_values-rows}
use Rattle.base_line.specs.declared.option.Opt.{Opt}
use Rattle.base_line.specs.declared.line.Line.{Line}
use Rattle.base_line.specs.Told.{app_for}
use Rattle.base_line.specs.Line.{AreOnce, HasFiles, words_of_items, Fits, IsKnown, IsOutside, IsValue, Item, are_apart, are_options, given, name_in, value_in, named}
use Rattle.base_line.specs.Read.{HasFitting, HasOnly, IsFitting, ReadsLine, files_in, value_in_matches}
use Rattle.base_line.proofs.Once.{LacksName, given_lacks, many, turned}
use Rattle.base_line.proofs.Rows.{same_text, text_itself}
use Rattle.base_line.proofs.Rules.{name_is}
use Rattle.base_line.proofs.Through.{AreWords, IsTaken}
use Rattle.base_line.proofs.Whole.{IsName, back, both_of, line_passes, line_words, name_of, not_true, option_of, options_of, or_parts}

-- ---- lists

module _ {X Y : Type 0} (P : Y → Type 0) (f : X → Y) where
  mapped_to : (xs : List X) → AllByRecursion (λ x. P (f x)) xs → AllByRecursion P (map f xs)
  mapped_to [] h = h
  mapped_to (x ∷ xs) h = (h.0, mapped_to xs h.1)

  mapped_from : (xs : List X) → AllByRecursion P (map f xs) → AllByRecursion (λ x. P (f x)) xs
  mapped_from [] h = h
  mapped_from (x ∷ xs) h = (h.0, mapped_from xs h.1)

  pub map_to : (xs : List X) → All (λ x. P (f x)) xs → AllByRecursion P (map f xs)
  map_to xs h = mapped_to xs (recursion_from_All (λ x. P (f x)) xs h)

  pub map_from : (xs : List X) → AllByRecursion P (map f xs) → All (λ x. P (f x)) xs
  map_from xs h = All-from_recursion (λ x. P (f x)) xs (mapped_from xs h)

pub all_tell : (P : Text → Type 0) (files : List (Bor Text)) (r : Bool) (xs : List Text) → map (λ s. s.now) files ≡ xs → IsTrue r ↔ All (λ file. P file.now) files
    → IsTrue r ↔ AllByRecursion P xs
all_tell P files r xs same tells = (
  λ t. subst (AllByRecursion P) same (map_to P (λ s. s.now) files (tells.0 t)),
  λ all. tells.1 (map_from P (λ s. s.now) files (subst (AllByRecursion P) (sym same) all)),
)

pub values_tell : (files : List (Bor Text)) (r : Bool) (x : Option (List Text)) → Some (map (λ s. s.now) files) ≡ x → IsTrue r ↔ All (λ file. IsValue file.now) files
    → IsTrue r ↔ AllByRecursion IsValue (unwrap_or x [])
values_tell files r x is tells = all_tell IsValue files r (unwrap_or x []) (ap (λ (o : Option (List Text)). unwrap_or o []) is) tells

pub some_weaker : {X : Type 0} (o : Option X) (P Q : X → Type 0) → ((x : X) → P x → Q x) → IfSome o P → IfSome o Q
some_weaker None P Q f h = tt
some_weaker (Some x) P Q f h = f x h

pub none_weaker : {X : Type 0} (o : Option X) (P Q : Type 0) → (P → Q) → IfNone o P → IfNone o Q
none_weaker None P Q f h = f h
none_weaker (Some x) P Q f h = tt

-- ---- names

named_has : (P : Opt → Type 0) (os : List Opt) (n : Text) (o : Opt) → AllByRecursion P os → named os n ≡ Some o → P o
named_has P [] n o all e = absurd (true≢false (sym (ap is_some e)))
named_has P (x ∷ os) n o all e = go (named_has P os n o all.1) (bytes_eq x.name.now n) e
  where
    go : (named os n ≡ Some o → P o) → (b : Bool) → cond b (Some x) (named os n) ≡ Some o → P o
    go later true h = subst P (ap (λ (y : Option Opt). unwrap_or y x) h) all.0
    go later false h = later h

-- each option is the one of its name
abbrev IsOwn : List Opt → Opt → Type 0
IsOwn os o = named os o.name.now ≡ Some o

still_own : (x : Opt) (os xs : List Opt) → list_any (λ p. bytes_eq p.name.now x.name.now) xs ≡ false → AllByRecursion (IsOwn os) xs → AllByRecursion (IsOwn (x ∷ os)) xs
still_own x os [] none own = tt
still_own x os (o ∷ xs) none own =
    let parts = or_parts _ _ none in
    (ap (λ b. cond b (Some x) (named os o.name.now)) (turned o.name.now x.name.now parts.0) ∙ own.0, still_own x os xs parts.1 own.1)

all_own : (os : List Opt) → are_apart os ≡ true → AllByRecursion (IsOwn os) os
all_own [] are = tt
all_own (x ∷ os) are =
    let parts = both_of _ _ are in
    (ap (λ b. cond b (Some x) (named os x.name.now)) (text_itself x.name.now), still_own x os os (not_true _ parts.0) (all_own os parts.1))

-- ---- what is given

abbrev IsOwnValue : List Item → Item → Type 0
IsOwnValue items item = given items (name_in item) ≡ Some (value_in item)

still_given : (x : Item) (items xs : List Item) → LacksName (name_in x) xs → AllByRecursion (IsOwnValue items) xs → AllByRecursion (IsOwnValue (x ∷ items)) xs
still_given x items [] lacks own = tt
still_given x items (i ∷ xs) lacks own =
    (ap (λ b. cond b (Some (value_in x)) (given items (name_in i))) (turned (name_in i) (name_in x) lacks.0) ∙ own.0, still_given x items xs lacks.1 own.1)

all_given : (items : List Item) → AreOnce items → AllByRecursion (IsOwnValue items) items
all_given [] once = tt
all_given (x ∷ items) once =
    (ap (λ b. cond b (Some (value_in x)) (given items (name_in x))) (text_itself (name_in x)), still_given x items items (given_lacks (name_in x) items once.0) (all_given items once.1))

-- a value that is given is one of the items'
record IsFrom (os : List Opt) (n v : Text) : Type 0 where
  pub option : Opt
  pub is : named os n ≡ Some option
  pub value : IsValue v
  pub fits : Fits option.kind v

given_from : (os : List Opt) (items : List Item) (n v : Text) → AllByRecursion (IsKnown os) items → given items n ≡ Some v → IsFrom os n v
given_from os [] n v known e = absurd (true≢false (sym (ap is_some e)))
given_from os (i ∷ items) n v known e = go (given_from os items n v known.1) (bytes_eq (name_in i) n) refl e
  where
    go : (given items n ≡ Some v → IsFrom os n v) → (b : Bool) → bytes_eq (name_in i) n ≡ b → cond b (Some (value_in i)) (given items n) ≡ Some v → IsFrom os n v
    go later true same h =
        let k = known.0 in
        let here : value_in i ≡ v = ap (λ (o : Option Text). unwrap_or o (value_in i)) h in
        record { option = k.option; is = ap (named os) (sym (same_text (name_in i) n same)) ∙ k.is; value = subst IsValue here k.value; fits = subst (Fits k.option.kind) here k.fits }
    go later false same h = later h

-- ---- the matches

pub value_at : (m : ArgMatches) (rows : List Row) → rows_of (found_of m) ≡ rows → (n : Text) → value_in_matches m n ≡ first_of n rows
value_at m rows is n = first_value-rows (found_of m) n ∙ ap (first_of n) is

pub many_is : (left : List Text) → unwrap_or (many None left) [] ≡ left
many_is [] = refl
many_is (f ∷ fs) = refl

files_at : (m : ArgMatches) (rows : List Row) (left : List Text) → rows_of (found_of m) ≡ rows → all_of (codes "FILE") rows ≡ many None left → files_in m ≡ left
files_at m rows left is all =
    ap (λ (o : Option (List Text)). unwrap_or o []) (raw_values-rows (found_of m) (codes "FILE") ∙ ap (all_of (codes "FILE")) is ∙ all) ∙ many_is left

module _ (title : Text) (os : List Opt) (files : Bool) (are : are_options os ≡ true) (words : List Text) where
  pub outside_words : (AreWords words → ⊥) → IsOutside os files words
  outside_words none items left l = none (line_words title os files are words items left l)

  pub outside_error : (e : Error) → kind_of e ≢ OutOfMemory → HasKind (fault_of (app_for title os files) words) e → IsOutside os files words
  outside_error e other has items left l =
      let none = (line_passes title os files are words items left l).fault in
      ⊎_elim other (λ (never : ⊥). never) (subst (λ ks. HasKind ks e) none has)

  module _ (m : ArgMatches) (rows_are : rows_of (found_of m) ≡ matches_of (app_for title os files) words) where
    abbrev rows : List Row
    rows = matches_of (app_for title os files) words

    other_name : (o : Opt) (n : Text) → named os n ≡ Some o → IsName o.name.now
    other_name o n is = name_of o.name.now (both_of _ _ (option_of os (options_of os are) n o is)).0

    item_known : (items : List Item) (xs : List Item) → ((n : Text) → bytes_eq n (codes "FILE") ≡ false → first_of n rows ≡ given items n) → HasFitting os m
        → AllByRecursion (IsTaken title os files) xs → AllByRecursion (IsOwnValue items) xs → AllByRecursion (IsKnown os) xs
    item_known items [] first fitting taken own = tt
    item_known items (i ∷ xs) first fitting taken own =
        let o = taken.0.option in
        let is = taken.0.is in
        let same = name_is os (name_in i) o is in
        let value : value_in_matches m o.name.now ≡ Some (value_in i) =
        value_at m rows rows_are o.name.now ∙ first o.name.now (other_name o (name_in i) is).apart ∙ ap (given items) same ∙ own.0 in
        let fit = subst (λ (x : Option Text). IfSome x (λ v. IsValue v × Fits o.kind v)) value (named_has (IsFitting m) os (name_in i) o fitting is) in
        (record { option = o; is = is; value = fit.0; fits = fit.1 }, item_known items xs first fitting taken.1 own.1)

    pub line_reads : (line : Line) → line.matches ≡ m → AreWords words → fault_of (app_for title os files) words ≡ [] → HasFitting os m → AllByRecursion IsValue (files_in m)
        → ReadsLine os files words line
    line_reads line same are_words none fitting plain =
        let shown = back title os files are words are_words none in
        let left = files_at m rows shown.left rows_are shown.all in
        subst (λ (k : ArgMatches). ReadsLine os files words (record { matches = k })) (sym same) (record {
          items = shown.items;
          is = record {
            is = shown.is ∙ ap (λ fs. words_of_items shown.items ++ fs) (sym left);
            known = item_known shown.items shown.items shown.first fitting shown.taken (all_given shown.items shown.once);
            once = shown.once;
            required = shown.required;
            some = subst (HasFiles files) (sym left) shown.some;
            plain = plain;
          };
          each = λ n other. value_at m rows rows_are n ∙ shown.first n other;
        })

    pub line_only : (line : Line) → line.matches ≡ m → HasOnly os files words line
    line_only line same = subst (λ (k : ArgMatches). HasOnly os files words (record { matches = k })) (sym same) (record {
      files = λ items left l. sym (files_at m rows left rows_are (line_passes title os files are words items left l).all);
      each = λ items left l n other. sym (value_at m rows rows_are n ∙ (line_passes title os files are words items left l).first n other);
    })

    fit_of : (items : List Item) (o : Opt) (x : Option Text) → AllByRecursion (IsKnown os) items → IsOwn os o → given items o.name.now ≡ x → IfSome x (λ v. IsValue v × Fits o.kind v)
    fit_of items o None known own e = tt
    fit_of items o (Some v) known own e =
        let from = given_from os items o.name.now v known e in
        let same : from.option ≡ o = ap (λ (y : Option Opt). unwrap_or y o) (sym from.is ∙ own) in
        (from.value, subst (λ (p : Opt). Fits p.kind v) same from.fits)

    all_fit : (items : List Item) (xs : List Opt) → ((n : Text) → bytes_eq n (codes "FILE") ≡ false → first_of n rows ≡ given items n) → AllByRecursion (IsKnown os) items
        → AllByRecursion (IsOwn os) xs → HasFitting xs m
    all_fit items [] first known own = tt
    all_fit items (o ∷ xs) first known own =
        let value : value_in_matches m o.name.now ≡ given items o.name.now = value_at m rows rows_are o.name.now ∙ first o.name.now (other_name o o.name.now own.0).apart in
        (subst (λ (x : Option Text). IfSome x (λ v. IsValue v × Fits o.kind v)) (sym value) (fit_of items o (given items o.name.now) known own.0 refl), all_fit items xs first known own.1)

    pub outside_values : (HasFitting os m → AllByRecursion IsValue (files_in m) → ⊥) → IsOutside os files words
    outside_values none items left l =
        let passed = line_passes title os files are words items left l in
        none (all_fit items os passed.first l.known (all_own os (both_of _ _ are).1))
        (subst (AllByRecursion IsValue) (sym (files_at m rows left rows_are passed.all)) l.plain)
