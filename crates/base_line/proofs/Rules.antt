-- The rules of a command once built, and what is found among them.
use Rattle.std.proofs.Common.{◌≡◌, ◌∙◌, sym, ap, ap₂, refl, ℕ, List, [], ◌∷◌, ◌++◌, map, Option, Some, None, Bool, true, false, cond, true≢false, codes}
use Rattle.std.specs.Prelude.{find, is_some, not, ◌||◌, ◌&&◌, ◌==◌, ◌+◌, count_by, unwrap_or}
use Rattle.std.specs.Option.{option_map_or}
use Rattle.std.specs.List.{fold, list_any, list_all}
use Rattle.std.specs.Str.{bytes_eq}
use Rattle.std.proofs.Common.{arith, ◌<◌, suc, length, take, get_or}
use Rattle.std.proofs.lemmas.List.{map-append}
use Rattle.std.proofs.Math.Seq.{take-suc}
use Rattle.clap.specs.Words.{with_rule}
use Rattle.clap.specs.Walk.{Rule, Text, arg_by_id, arg_by_index, arg_by_long, has_long, is_early_multiple}
use Rattle.clap.specs.Simple.{App, Shape, built, filled_from, is_buildable, is_in_order, is_ready, is_ready_leaf, is_simple}
use Rattle.clap.specs.Faults.{is_free_app, is_simple_and_free}
use Rattle.clap.specs.declared.builder.value_parser.ValueParser.TheVariants as parser
use Rattle.base_line.specs.declared.option.Opt.{Opt}
use Rattle.base_line.specs.Told.{app_for, app_with, file_rule, file_rules, rule_for}
use Rattle.base_line.specs.Line.{named}
use Rattle.base_line.proofs.Rows.{same_text}

abbrev pub ready_rule : Opt → Rule
ready_rule o = record (rule_for o) { range = Some (record { start_inclusive = 1; end_inclusive = 1 }) }

abbrev pub ready_file : Rule
ready_file = record file_rule {
  index = Some 1;
  parser = Some parser.String;
  range = Some (record { start_inclusive = 1; end_inclusive = 1 });
}

abbrev pub ready_files : Bool → List Rule
ready_files files = cond files (ready_file ∷ []) []

abbrev pub ready_rules : List Opt → Bool → List Rule
ready_rules os files = map ready_rule os ++ ready_files files

filled_is : (os : List Opt) (files : Bool) → filled_from 1 (map rule_for os ++ file_rules files) ≡ ready_rules os files
filled_is [] true = refl
filled_is [] false = refl
filled_is (o ∷ os) files = ap (λ rules. ready_rule o ∷ rules) (filled_is os files)

abbrev pub ready_shape : Text → List Rule → Shape
ready_shape name rules = record (app_with name rules).top { disable_help_subcommand = true; is_built = true }

abbrev pub ready_app : Text → List Rule → App
ready_app name rules = record { top = ready_shape name rules; subs = [] }

pub built_is : (name : Text) (os : List Opt) (files : Bool) → built (app_for name os files) ≡ ready_app name (ready_rules os files)
built_is name os files = ap (ready_app name) (filled_is os files)

-- ---- tests of all rules

all_rules : (p : Rule → Bool) (f : Opt → Rule) (tail : List Rule) (os : List Opt) → ((o : Opt) → p (f o) ≡ true) → list_all p tail ≡ true → list_all p (map f os ++ tail) ≡ true
all_rules p f tail [] each last = last
all_rules p f tail (o ∷ os) each last = ap₂ (λ a b. a && b) (each o) (all_rules p f tail os each last)

any_rules : (p : Rule → Bool) (f : Opt → Rule) (tail : List Rule) (os : List Opt) → ((o : Opt) → p (f o) ≡ false) → list_any p (map f os ++ tail) ≡ list_any p tail
any_rules p f tail [] each = refl
any_rules p f tail (o ∷ os) each = ap₂ (λ a b. a || b) (each o) (any_rules p f tail os each)

count_rules : (p : Rule → Bool) (f : Opt → Rule) (tail : List Rule) (os : List Opt) → ((o : Opt) → p (f o) ≡ false) → count_by p (map f os ++ tail) ≡ count_by p tail
count_rules p f tail [] each = refl
count_rules p f tail (o ∷ os) each =
    let more = count_rules p f tail os each in
    ap (λ (b : Bool). fold (λ (n : ℕ) (x : Rule). n + cond (p x) 1 0) (0 + cond b 1 0) (map f os ++ tail)) (each o) ∙ more

simple_rules : (os : List Opt) (files : Bool) → list_all (λ a. a.is_simple) (map rule_for os ++ file_rules files) ≡ true
simple_rules os true = all_rules (λ a. a.is_simple) rule_for (file_rules true) os (λ _. refl) refl
simple_rules os false = all_rules (λ a. a.is_simple) rule_for (file_rules false) os (λ _. refl) refl

ready_simple : (p : Rule → Bool) (os : List Opt) (files : Bool) → ((o : Opt) → p (ready_rule o) ≡ true) → p ready_file ≡ true → list_all p (ready_rules os files) ≡ true
ready_simple p os true each last = all_rules p ready_rule (ready_files true) os each (ap (λ b. b && true) last)
ready_simple p os false each last = all_rules p ready_rule (ready_files false) os each refl

in_order : (os : List Opt) (files : Bool) → is_in_order (ready_rules os files) ≡ true
in_order os files =
    let index = λ (a : Rule). is_some a.index in
    ap (λ n. not (list_any (is_early_multiple n) (ready_rules os files))) (count_rules index ready_rule (ready_files files) os (λ _. refl))
    ∙ ap not (any_rules (is_early_multiple (count_by index (ready_files files))) ready_rule (ready_files files) os (λ _. refl)) ∙ last files
  where
    last : (files : Bool) → not (list_any (is_early_multiple (count_by (λ a. is_some a.index) (ready_files files))) (ready_files files)) ≡ true
    last true = refl
    last false = refl

pub simple : (name : Text) (os : List Opt) (files : Bool) → is_simple (app_for name os files) ≡ true
simple name os files =
    let own = ready_simple (λ r. r.is_simple) os files (λ _. refl) refl in
    ap (λ (d : App). is_buildable (app_for name os files) && (is_ready d.top && list_all is_ready_leaf d.subs)) (built_is name os files)
    ∙ (λ i. (simple_rules os files i && true) && ((own i && in_order os files i) && true))

pub simple_and_free : (name : Text) (os : List Opt) (files : Bool) → is_simple_and_free (app_for name os files) ≡ true
simple_and_free name os files =
    let free = ready_simple (λ r. r.is_free) os files (λ _. refl) refl in
    ap (λ (d : App). is_simple (app_for name os files) && is_free_app d) (built_is name os files)
    ∙ (λ i. simple name os files i && (free i && true))

-- ---- the first rule that passes

find_some : (p : Rule → Bool) (f : Opt → Rule) (tail : List Rule) (os : List Opt) (o : Opt) → find (λ x. p (f x)) os ≡ Some o → find p (map f os ++ tail) ≡ Some (f o)
find_some p f tail [] o e = absurd (true≢false (sym (ap is_some e)))
find_some p f tail (x ∷ os) o e = go (find_some p f tail os o) (p (f x)) e
  where
    go : (find (λ y. p (f y)) os ≡ Some o → find p (map f os ++ tail) ≡ Some (f o)) → (b : Bool) → cond b (Some x) (find (λ y. p (f y)) os) ≡ Some o → cond b (Some (f x)) (find p (map f os ++ tail)) ≡ Some (f o)
    go later true h = ap (λ (y : Option Opt). Some (f (unwrap_or y x))) h
    go later false h = later h

find_none : (p : Rule → Bool) (f : Opt → Rule) (tail : List Rule) (os : List Opt) → find (λ x. p (f x)) os ≡ None → find p (map f os ++ tail) ≡ find p tail
find_none p f tail [] e = refl
find_none p f tail (x ∷ os) e = go (find_none p f tail os) (p (f x)) e
  where
    go : (find (λ y. p (f y)) os ≡ None → find p (map f os ++ tail) ≡ find p tail) → (b : Bool) → cond b (Some x) (find (λ y. p (f y)) os) ≡ None → cond b (Some (f x)) (find p (map f os ++ tail)) ≡ find p tail
    go later true h = absurd (true≢false (ap is_some h))
    go later false h = later h

find_never : (p : Opt → Bool) (os : List Opt) → ((o : Opt) → p o ≡ false) → find p os ≡ None
find_never p [] never = refl
find_never p (o ∷ os) never = rw (never o) (find_never p os never)

or_false : (b : Bool) → b ≡ (b || false)
or_false true = refl
or_false false = refl

pub name_is : (os : List Opt) (name : Text) (o : Opt) → named os name ≡ Some o → o.name.now ≡ name
name_is [] name o e = absurd (true≢false (sym (ap is_some e)))
name_is (x ∷ os) name o e = go (name_is os name o) (bytes_eq x.name.now name) refl e
  where
    go : (named os name ≡ Some o → o.name.now ≡ name) → (b : Bool) → bytes_eq x.name.now name ≡ b → cond b (Some x) (named os name) ≡ Some o → o.name.now ≡ name
    go later true is h = sym (ap (λ (y : Option Opt). (unwrap_or y x).name.now) h) ∙ same_text x.name.now name is
    go later false is h = later h

module _ (os : List Opt) (files : Bool) (name : Text) where
  abbrev by_long : Opt → Bool
  by_long o = not (is_some (ready_rule o).index) && has_long (ready_rule o) name

  long_finds : named os name ≡ find by_long os
  long_finds = ap (λ (q : Opt → Bool). find q os) (λ i o. or_false (bytes_eq o.name.now name) i)

  pub long_some : (o : Opt) → named os name ≡ Some o → arg_by_long (ready_rules os files) name ≡ Some (ready_rule o)
  long_some o e = find_some (λ a. not (is_some a.index) && has_long a name) ready_rule (ready_files files) os o (sym long_finds ∙ e)

  pub long_none : named os name ≡ None → arg_by_long (ready_rules os files) name ≡ None
  long_none e = find_none (λ a. not (is_some a.index) && has_long a name) ready_rule (ready_files files) os (sym long_finds ∙ e) ∙ last files
    where
      last : (b : Bool) → find (λ a. not (is_some a.index) && has_long a name) (ready_files b) ≡ None
      last true = refl
      last false = refl

  pub id_some : (o : Opt) → named os name ≡ Some o → arg_by_id (ready_rules os files) name ≡ Some (ready_rule o)
  id_some o e = find_some (λ a. bytes_eq a.id name) ready_rule (ready_files files) os o e

pub id_file : (os : List Opt) → named os (codes "FILE") ≡ None → arg_by_id (ready_rules os true) (codes "FILE") ≡ Some ready_file
id_file os e = find_none (λ a. bytes_eq a.id (codes "FILE")) ready_rule (ready_files true) os e

abbrev pub first_place : Bool → Option Rule
first_place files = cond files (Some ready_file) None

pub index_is : (os : List Opt) (files : Bool) → arg_by_index (ready_rules os files) 1 ≡ first_place files
index_is os files =
    find_none (λ a. option_map_or (λ k. k == 1) a.index false) ready_rule (ready_files files) os (find_never _ os (λ _. refl)) ∙ last files
  where
    last : (b : Bool) → find (λ a. option_map_or (λ k. k == 1) a.index false) (ready_files b) ≡ first_place b
    last true = refl
    last false = refl

-- one option more
pub one_more : (name : Text) (os : List Opt) (i : ℕ) (d : Opt) → i < length os
    → with_rule (app_with name (map rule_for (take i os))) (rule_for (get_or os i d)) ≡ app_with name (map rule_for (take (i + 1) os))
one_more name os i d within =
    let next : suc i ≡ i + 1 = omega arith in
    ap (app_with name) (sym (map-append rule_for (take i os) (get_or os i d ∷ [])) ∙ ap (map rule_for) (sym (take-suc os i d within)) ∙ ap (λ k. map rule_for (take k os)) next)
