-- What `clap` reads of all words, for a command of ours, and the set of lines.
use Rattle.std.proofs.Common.{◌≡◌, ◌∙◌, ◌<◌, ◌⊎◌, inl, inr, sym, ap, ap₂, subst, refl, length, List, [], ◌∷◌, ◌++◌, map, Option, Some, None, Bool, true, false, cond, true≢false, codes, arith, ltb-true}
use Rattle.std.specs.Prelude.{◌==◌, is_some, not, ◌||◌, ◌&&◌, unwrap_or, option_and_then, slice_get}
use Rattle.std.specs.List.{AllByRecursion, fold, list_any, list_all}
use Rattle.std.specs.Str.{bytes_eq}
use Rattle.clap.specs.Walk.{Row, Rule, Text, all_of, default_rows, first_of, has_row, nothing_held, reading_by, rows_after, is_empty, walk, with_default}
use Rattle.clap.specs.Takes.{is_given}
use Rattle.clap.specs.Kinds.{Kinds, or_else}
use Rattle.clap.specs.Faults.{built_fault, check_fault, default_fault, defaults_fault, fault_of, given_default_fault, walk_fault}
use Rattle.clap.specs.Simple.{App, matches_of, names_of}
use Rattle.clap.proofs.FaultLemmas.{leaf_fault}
use Rattle.clap.specs.declared.error.kind.ErrorKind.TheVariants as kind
use Rattle.base_line.specs.declared.option.Opt.{Opt}
use Rattle.base_line.specs.Told.{app_for}
use Rattle.base_line.specs.Line.{Apart, Joined, IsKnown, IsLine, IsValue, Item, AreOnce, HasFiles, HasRequired, given, name_in, value_in, words_of_items, named, is_name, is_kind, are_options}
use Rattle.base_line.proofs.Once.{LacksName, lacks_given, turned, fresh_once, once_fresh, items_show, files_show, others_show, or_shown, many, nothing}
use Rattle.base_line.proofs.Rows.{Shows, all_shown, first_shown, given_shown, same_text}
use Rattle.base_line.proofs.Rules.{name_is, built_is, ready_app, ready_files, ready_rule, ready_rules}
use Rattle.base_line.proofs.Passing.{fits_passes}
use Rattle.base_line.proofs.Views.{apart_long, joined_long, value_plain, value_word, flag_word, joined_word}
use Rattle.base_line.proofs.Steps.{IsPlainWord, idle_at, open_fault, or_assoc, or_both, or_first, or_second, our_rules, our_shape}
use Rattle.base_line.proofs.Through.{AreFresh, AreWords, IsSpelled, IsTaken, final, forth, read_back, shown_all, shown_items, total}

-- ---- defaults

or_true : (b : Bool) → (b || true) ≡ true
or_true true = refl
or_true false = refl

same_both : (b : Bool) (rows : List Row) → cond b rows rows ≡ rows
same_both true rows = refl
same_both false rows = refl

-- no rule has a default
abbrev LackDefaults : List Rule → Type 0
LackDefaults = AllByRecursion (λ a. a.defaults ≡ [])

with_none : (rows : List Row) (a : Rule) → a.defaults ≡ [] → with_default rows a ≡ rows
with_none rows a none = ap (λ ds. cond (has_row a.id rows) rows (default_rows a.id (reading_by a) ds rows)) none ∙ same_both (has_row a.id rows) rows

finished_none : (rows : List Row) (c : List Rule) → LackDefaults c → fold with_default rows c ≡ rows
finished_none rows [] none = refl
finished_none rows (a ∷ c) none = ap (λ rs. fold with_default rs c) (with_none rows a none.0) ∙ finished_none rows c none.1

default_none : (rows : List Row) (a : Rule) → a.defaults ≡ [] → default_fault rows a ≡ []
default_none rows a none =
    (λ i. cond (has_row a.id rows || is_empty (none i)) [] (given_default_fault a (none i)))
    ∙ ap (λ b. cond b [] (given_default_fault a [])) (or_true (has_row a.id rows))

defaults_none : (rows : List Row) (c : List Rule) → LackDefaults c → defaults_fault rows c ≡ []
unfolding defaults_fault
defaults_none rows [] none = refl
defaults_none rows (a ∷ c) none = or_both _ _ (default_none rows a none.0) (ap (λ rs. defaults_fault rs c) (with_none rows a none.0) ∙ defaults_none rows c none.1)

lack_defaults : (os : List Opt) (files : Bool) → LackDefaults (ready_rules os files)
lack_defaults [] true = (refl, tt)
lack_defaults [] false = tt
lack_defaults (o ∷ os) files = (refl, lack_defaults os files)

-- ---- the parse as the walk and the check of what is required

abbrev missing : List Opt → Bool → List Row → Bool
missing os files rows = list_any (λ a. a.required && not (is_given a.id rows)) (ready_rules os files)

abbrev wants : Bool → Kinds
wants b = cond b (kind.MissingRequiredArgument ∷ []) []

module _ (title : Text) (os : List Opt) (files : Bool) (words : List Text) where
  abbrev end_rows : List Row
  end_rows = final title os files (idle_at title os files nothing_held) words

  fault_is : fault_of (app_for title os files) words ≡ or_else (total title os files (idle_at title os files nothing_held) words) (wants (missing os files end_rows))
  fault_is =
      let rules = our_rules title os files in
      let end = (walk rules [] nothing_held words).held in
      let rest = λ (ds : Kinds) (rows : List Row). or_else ds (check_fault (our_shape title os files) rows false) in
      ap (λ (a : App). built_fault a nothing_held words) (built_is title os files)
      ∙ leaf_fault (ready_app title rules) nothing_held words refl
      ∙ sym (or_assoc (walk_fault (our_shape title os files) [] (idle_at title os files nothing_held) words) (open_fault title os files end)
      (or_else (defaults_fault end_rows rules) (check_fault (our_shape title os files) (fold with_default end_rows rules) false)))
      ∙ ap₂ (λ (ds : Kinds) (rows : List Row). or_else (total title os files (idle_at title os files nothing_held) words) (rest ds rows))
      (defaults_none end_rows rules (lack_defaults os files)) (finished_none end_rows rules (lack_defaults os files))

  rows_are : matches_of (app_for title os files) words ≡ end_rows
  rows_are =
      ap (λ (a : App). rows_after a.top.rules (names_of a) words) (built_is title os files) ∙ finished_none end_rows (our_rules title os files) (lack_defaults os files)

-- ---- what the declared options are

pub both_of : (a b : Bool) → (a && b) ≡ true → (a ≡ true) × (b ≡ true)
both_of true b e = (refl, e)
both_of false b e = absurd (true≢false (sym e))

pub not_true : (b : Bool) → not b ≡ true → b ≡ false
not_true true e = absurd (true≢false (sym e))
not_true false e = refl

abbrev pub is_option : Opt → Bool
is_option o = is_name o.name.now && is_kind o.kind

pub option_of : (os : List Opt) → list_all is_option os ≡ true → (n : Text) (o : Opt) → named os n ≡ Some o → is_option o ≡ true
option_of [] are n o e = absurd (true≢false (sym (ap is_some e)))
option_of (x ∷ os) are n o e = go (option_of os (both_of _ _ are).1 n o) (bytes_eq x.name.now n) e
  where
    go : (named os n ≡ Some o → is_option o ≡ true) → (b : Bool) → cond b (Some x) (named os n) ≡ Some o → is_option o ≡ true
    go later true h = ap (λ (y : Option Opt). is_option (unwrap_or y x)) (sym h) ∙ (both_of _ _ are).0
    go later false h = later h

pub record IsName (name : Text) : Type 0 where
  pub some : 0 < length name
  pub lacks : list_any (λ byte. byte == 61) name ≡ false
  pub apart : bytes_eq name (codes "FILE") ≡ false

pub name_of : (name : Text) → is_name name ≡ true → IsName name
name_of name e =
    let outer = both_of _ _ e in
    let inner = both_of _ _ outer.1 in
    record { some = ltb-true _ _ outer.0; lacks = not_true _ inner.0; apart = not_true _ inner.1 }

file_apart : (os : List Opt) → list_all is_option os ≡ true → named os (codes "FILE") ≡ None
file_apart [] are = refl
file_apart (o ∷ os) are =
    let parts = both_of _ _ are in
    ap (λ b. cond b (Some o) (named os (codes "FILE"))) (name_of o.name.now (both_of _ _ parts.0).0).apart ∙ file_apart os parts.1

turn_file : (n : Text) → bytes_eq n (codes "FILE") ≡ false → bytes_eq (codes "FILE") n ≡ false
turn_file n e = turned n (codes "FILE") e

-- ---- what is required

abbrev lacks_required : List Item → List Opt → Bool
lacks_required items = list_any (λ o. o.required && not (is_some (given items o.name.now)))

any_map : (p : Rule → Bool) (tail : List Rule) (os : List Opt) → list_any p (map ready_rule os ++ tail) ≡ (list_any (λ o. p (ready_rule o)) os || list_any p tail)
any_map p tail [] = refl
any_map p tail (o ∷ os) = go (p (ready_rule o)) (any_map p tail os)
  where
    go : (b : Bool) → list_any p (map ready_rule os ++ tail) ≡ (list_any (λ o. p (ready_rule o)) os || list_any p tail)
        → (b || list_any p (map ready_rule os ++ tail)) ≡ ((b || list_any (λ o. p (ready_rule o)) os) || list_any p tail)
    go true later = refl
    go false later = later

any_same : (p q : Opt → Bool) (os : List Opt) → AllByRecursion (λ o. p o ≡ q o) os → list_any p os ≡ list_any q os
any_same p q [] same = refl
any_same p q (o ∷ os) same = ap₂ (λ a b. a || b) same.0 (any_same p q os same.1)

pub or_parts : (a b : Bool) → (a || b) ≡ false → (a ≡ false) × (b ≡ false)
or_parts true b e = absurd (true≢false e)
or_parts false b e = (refl, e)

needed : (r g : Bool) → (r && not g) ≡ false → r ≡ true → g ≡ true
needed true true e h = refl
needed true false e h = absurd (true≢false e)
needed false g e h = absurd (true≢false (sym h))

unneeded : (r g : Bool) → (r ≡ true → g ≡ true) → (r && not g) ≡ false
unneeded true g h = ap not (h refl)
unneeded false g h = refl

required_from : (items : List Item) (os : List Opt) → lacks_required items os ≡ false → HasRequired os items
required_from items [] e = tt
required_from items (o ∷ os) e =
    let parts = or_parts _ _ e in
    (needed o.required _ parts.0, required_from items os parts.1)

required_to : (items : List Item) (os : List Opt) → HasRequired os items → lacks_required items os ≡ false
required_to items [] h = refl
required_to items (o ∷ os) h = ap₂ (λ a b. a || b) (unneeded o.required _ h.0) (required_to items os h.1)

abbrev is_nil : List Text → Bool
is_nil [] = true
is_nil (f ∷ fs) = false

files_from : (files : Bool) (left : List Text) → (left ≡ []) ⊎ (files ≡ true) → (files && is_nil left) ≡ false → HasFiles files left
files_from true [] some e = absurd (true≢false e)
files_from true (f ∷ fs) some e = omega arith
files_from false left (inl none) e = none
files_from false left (inr h) e = absurd (true≢false (sym h))

files_to : (files : Bool) (left : List Text) → HasFiles files left → ((left ≡ []) ⊎ (files ≡ true)) × ((files && is_nil left) ≡ false)
files_to true [] h = absurd (omega arith)
files_to true (f ∷ fs) h = (inr refl, refl)
files_to false left h = (inl h, refl)

-- ---- what the rows say

shown_some : (x : Option Text) → is_some (or_shown x None) ≡ is_some x
shown_some None = refl
shown_some (Some v) = refl

shown_first : (x : Option Text) → option_and_then (λ vs. slice_get vs 0) (or_shown x None) ≡ x
shown_first None = refl
shown_first (Some v) = refl

many_some : (left : List Text) → not (is_some (many None left)) ≡ is_nil left
many_some [] = refl
many_some (f ∷ fs) = refl

lack_file : (title : Text) (os : List Opt) (files : Bool) (items : List Item) → named os (codes "FILE") ≡ None → AllByRecursion (IsTaken title os files) items → LacksName (codes "FILE") items
lack_file title os files [] apart taken = tt
lack_file title os files (item ∷ items) apart taken = (go (bytes_eq (name_in item) (codes "FILE")) refl, lack_file title os files items apart taken.1)
  where
    go : (b : Bool) → bytes_eq (name_in item) (codes "FILE") ≡ b → bytes_eq (name_in item) (codes "FILE") ≡ false
    go false e = e
    go true e =
        let is = taken.0.is in
        absurd (true≢false (sym (ap is_some (sym (ap (named os) (same_text (name_in item) (codes "FILE") e)) ∙ is)) ∙ ap is_some apart))

module _ (title : Text) (os : List Opt) (files : Bool) (are : list_all is_option os ≡ true) (items : List Item) (left : List Text) (fresh : AreFresh nothing items)
    (taken : AllByRecursion (IsTaken title os files) items) (rows : List Row) (shows : Shows rows (shown_all nothing items left)) where
  own_shown : (n : Text) → bytes_eq n (codes "FILE") ≡ false → shown_all nothing items left n ≡ or_shown (given items n) None
  own_shown n other = others_show (shown_items nothing items) left n (turn_file n other) ∙ items_show nothing items fresh n

  file_shown : shown_all nothing items left (codes "FILE") ≡ many None left
  file_shown =
      files_show (shown_items nothing items) left
      ∙ ap (λ o. many o left) (items_show nothing items fresh (codes "FILE") ∙ ap (λ o. or_shown o None) (lacks_given (codes "FILE") items (lack_file title os files items (file_apart os are) taken)))

  pub first_is : (n : Text) → bytes_eq n (codes "FILE") ≡ false → first_of n rows ≡ given items n
  first_is n other = first_shown n rows (shown_all nothing items left) shows ∙ ap (option_and_then (λ vs. slice_get vs 0)) (own_shown n other) ∙ shown_first (given items n)

  pub all_is : all_of (codes "FILE") rows ≡ many None left
  all_is = all_shown (codes "FILE") rows (shown_all nothing items left) shows ∙ file_shown

  each_given : (xs : List Opt) → list_all is_option xs ≡ true → AllByRecursion (λ o. (o.required && not (is_given o.name.now rows)) ≡ (o.required && not (is_some (given items o.name.now)))) xs
  each_given [] each = tt
  each_given (o ∷ xs) each =
      let parts = both_of _ _ each in
      let other = (name_of o.name.now (both_of _ _ parts.0).0).apart in
      let n = o.name.now in
      (ap (λ b. o.required && not b) (given_shown n rows (shown_all nothing items left) shows ∙ ap is_some (own_shown n other) ∙ shown_some (given items n)), each_given xs parts.1)

  missing_file : (b : Bool) → list_any (λ (a : Rule). a.required && not (is_given a.id rows)) (ready_files b) ≡ (b && is_nil left)
  missing_file true = or_end (not (is_given (codes "FILE") rows)) ∙ ap not (given_shown (codes "FILE") rows (shown_all nothing items left) shows) ∙ ap (λ o. not (is_some o)) file_shown ∙ many_some left
    where
      or_end : (b : Bool) → (b || false) ≡ b
      or_end true = refl
      or_end false = refl
  missing_file false = refl

  missing_is : missing os files rows ≡ (lacks_required items os || (files && is_nil left))
  missing_is =
      any_map (λ a. a.required && not (is_given a.id rows)) (ready_files files) os
      ∙ ap₂ (λ a b. a || b) (any_same _ _ os (each_given os are)) (missing_file files)

-- ---- both ways

-- the items and FILEs that the rows show
pub record IsShown (title : Text) (os : List Opt) (files : Bool) (words : List Text) (rows : List Row) : Type 0 where
  pub items : List Item
  pub left : List Text
  pub is : words ≡ words_of_items items ++ left
  pub once : AreOnce items
  pub taken : AllByRecursion (IsTaken title os files) items
  pub required : HasRequired os items
  pub some : HasFiles files left
  pub first : (n : Text) → bytes_eq n (codes "FILE") ≡ false → first_of n rows ≡ given items n
  pub all : all_of (codes "FILE") rows ≡ many None left

wants_false : (b : Bool) → wants b ≡ [] → b ≡ false
wants_false true e = absurd (let bad : kind.MissingRequiredArgument ∷ [] ≡ [] = e in cc)
wants_false false e = refl

shows_nothing : Shows [] nothing
shows_nothing n = refl

pub options_of : (os : List Opt) → are_options os ≡ true → list_all is_option os ≡ true
options_of os are = (both_of _ _ are).0

module _ (title : Text) (os : List Opt) (files : Bool) (are : are_options os ≡ true) where
  each_option : list_all is_option os ≡ true
  each_option = options_of os are

  pub back : (words : List Text) → AreWords words → fault_of (app_for title os files) words ≡ [] → IsShown title os files words (matches_of (app_for title os files) words)
  back words are_words e =
      let both = sym (fault_is title os files words) ∙ e in
      let none = wants_false _ (or_second _ _ both) in
      let found = read_back title os files (file_apart os each_option) words nothing_held nothing are_words refl shows_nothing (or_first _ _ both) in
      let rows = end_rows title os files words in
      let missed = or_parts _ _ (sym (missing_is title os files each_option found.items found.left found.fresh found.known rows found.shows) ∙ none) in
      subst (IsShown title os files words) (sym (rows_are title os files words)) (record {
        items = found.items;
        left = found.left;
        is = found.is;
        once = (fresh_once nothing found.items found.fresh).0;
        taken = found.known;
        required = required_from found.items os missed.0;
        some = files_from files found.left found.files_are missed.1;
        first = first_is title os files each_option found.items found.left found.fresh found.known rows found.shows;
        all = all_is title os files each_option found.items found.left found.fresh found.known rows found.shows;
      })

  -- a line whose words are these fails in nothing, and is shown
  pub record IsPassed (words : List Text) (items : List Item) (left : List Text) : Type 0 where
    pub fault : fault_of (app_for title os files) words ≡ []
    pub first : (n : Text) → bytes_eq n (codes "FILE") ≡ false → first_of n (matches_of (app_for title os files) words) ≡ given items n
    pub all : all_of (codes "FILE") (matches_of (app_for title os files) words) ≡ many None left

  pub passes : (items : List Item) (left : List Text) → AreOnce items → AllByRecursion (IsTaken title os files) items → AllByRecursion (IsSpelled title os files) items
      → AllByRecursion IsPlainWord left → HasRequired os items → HasFiles files left → IsPassed (words_of_items items ++ left) items left
  passes items left once taken spelled plain required some =
      let words = words_of_items items ++ left in
      let fresh = once_fresh items once in
      let two = files_to files left some in
      let went = forth title os files (file_apart os each_option) items left nothing_held nothing refl shows_nothing fresh taken spelled plain two.0 in
      let rows = end_rows title os files words in
      let none : missing os files rows ≡ false = missing_is title os files each_option items left fresh taken rows went.shows ∙ ap₂ (λ a b. a || b) (required_to items os required) two.1 in
      record {
        fault = fault_is title os files words ∙ ap₂ or_else went.total_is (ap wants none);
        first = λ n other. ap (first_of n) (rows_are title os files words) ∙ first_is title os files each_option items left fresh taken rows went.shows n other;
        all = ap (all_of (codes "FILE")) (rows_are title os files words) ∙ all_is title os files each_option items left fresh taken rows went.shows;
      }

  -- ---- a line of the set

  known_taken : (item : Item) → IsKnown os item → IsTaken title os files item
  known_taken item k = record {
    option = k.option;
    is = k.is;
    accepted = fits_passes k.option.kind (value_in item) (both_of _ _ (option_of os each_option (name_in item) k.option k.is)).1 k.value k.fits;
  }

  name_facts : (item : Item) → IsKnown os item → IsName (name_in item)
  name_facts item k = subst IsName (name_is os (name_in item) k.option k.is) (name_of k.option.name.now (both_of _ _ (option_of os each_option (name_in item) k.option k.is)).0)

  known_spelled : (item : Item) → IsKnown os item → IsSpelled title os files item
  known_spelled (Apart name value) k = let n = name_facts (Apart name value) k in (apart_long name n.some n.lacks, value_plain value k.value)
  known_spelled (Joined name value) k = let n = name_facts (Joined name value) k in joined_long name value n.lacks

  all_taken : (items : List Item) → AllByRecursion (IsKnown os) items → AllByRecursion (IsTaken title os files) items
  all_taken [] known = tt
  all_taken (item ∷ items) known = (known_taken item known.0, all_taken items known.1)

  all_spelled : (items : List Item) → AllByRecursion (IsKnown os) items → AllByRecursion (IsSpelled title os files) items
  all_spelled [] known = tt
  all_spelled (item ∷ items) known = (known_spelled item known.0, all_spelled items known.1)

  all_plain : (left : List Text) → AllByRecursion IsValue left → AllByRecursion IsPlainWord left
  all_plain [] values = tt
  all_plain (file ∷ left) values = (value_plain file values.0, all_plain left values.1)

  pub line_passes : (words : List Text) (items : List Item) (left : List Text) → IsLine os files words items left → IsPassed words items left
  line_passes words items left l =
      subst (λ ws. IsPassed ws items left) (sym l.is)
      (passes items left l.once (all_taken items l.known) (all_spelled items l.known) (all_plain left l.plain) l.required l.some)

  file_words : (left : List Text) → AllByRecursion IsValue left → AreWords left
  file_words [] values = tt
  file_words (file ∷ left) values = (value_word file values.0, file_words left values.1)

  item_words : (items : List Item) (left : List Text) → AllByRecursion (IsKnown os) items → AllByRecursion IsValue left → AreWords (words_of_items items ++ left)
  item_words [] left known values = file_words left values
  item_words (Apart name value ∷ items) left known values = (flag_word name (name_facts (Apart name value) known.0).some, (value_word value known.0.value, item_words items left known.1 values))
  item_words (Joined name value ∷ items) left known values = (joined_word name value, item_words items left known.1 values)

  pub line_words : (words : List Text) (items : List Item) (left : List Text) → IsLine os files words items left → AreWords words
  line_words words items left l = subst AreWords (sym l.is) (item_words items left l.known l.plain)
