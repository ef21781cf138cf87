-- What the walk makes of all words, for a command of ours.
use Rattle.std.proofs.Common.{◌≡◌, ◌∙◌, ◌≤◌, ◌⊎◌, inl, inr, ⊎_elim, sym, ap, ap₂, subst, refl, ℕ, suc, zero, length, List, [], ◌∷◌, ◌++◌, append_assoc, Option, Some, None, Bool, true, false, cond, true≢false, codes, arith}
use Rattle.std.specs.Prelude.{is_some, ◌&&◌}
use Rattle.std.specs.List.{AllByRecursion, fold}
use Rattle.std.specs.Option.{option_map_or}
use Rattle.clap.specs.ValueTests.{accepts}
use Rattle.clap.specs.Values.{refused_kind}
use Rattle.clap.specs.Walk.{arg_by_id, reading_by, used_by_id, Held, Row, Text, Walk, has_row, with_values, walked}
use Rattle.clap.specs.Kinds.{Kinds, or_else}
use Rattle.clap.specs.Faults.{use_fault, walk_fault}
use Rattle.clap.specs.declared.error.kind.ErrorKind.TheVariants as kind
use Rattle.clap.specs.declared.parser.matches.ValueSource.TheVariants.{CommandLine}
use Rattle.base_line.specs.declared.option.Opt.{Opt}
use Rattle.base_line.specs.Told.{is_word, parser_for}
use Rattle.base_line.specs.Line.{Item, Apart, Joined, name_in, value_in, words_of_item, words_of_items, named}
use Rattle.base_line.proofs.Rows.{Shown, Shows, has_shown, none_gone, shown_with, shows_with}
use Rattle.base_line.proofs.Rules.{id_file, id_some, ready_file, ready_rule, ready_rules, name_is}
use Rattle.base_line.proofs.Views.{View, JoinedView, ApartView, view}
use Rattle.base_line.proofs.Steps.{IsLongWord, IsPlainWord, or_assoc, or_both, or_first, or_second, our_rules, our_shape, open_fault, open_rows, idle_at, waits_at, files_at, turn, goes, with_rows, with_open, take_fault, take_rows, unknown_turn, joined_turn, joined_goes, apart_turn, apart_goes, unsaid, cut_off, value_turn, value_goes, stray_turn, file_turn, file_goes, more_turn, more_goes}

-- what items and FILEs show
abbrev pub shown_items : Shown → List Item → Shown
shown_items g [] = g
shown_items g (item ∷ items) = shown_items (shown_with (name_in item) (value_in item ∷ []) g) items

abbrev pub shown_files : Shown → List Text → Shown
shown_files g [] = g
shown_files g (file ∷ files) = shown_files (shown_with (codes "FILE") (file ∷ []) g) files

abbrev pub shown_all : Shown → List Item → List Text → Shown
shown_all g items files = shown_files (shown_items g items) files

-- no name was there before
abbrev pub AreFresh : Shown → List Item → Type 0
AreFresh g [] = Unit {0}
AreFresh g (item ∷ items) = (g (name_in item) ≡ None) × AreFresh (shown_with (name_in item) (value_in item ∷ []) g) items

abbrev pub AreWords : List Text → Type 0
AreWords = AllByRecursion (λ w. is_word w ≡ true)

module _ (title : Text) (os : List Opt) (files : Bool) where
  -- the item is one of the options, with a value that `clap` takes
  pub record IsTaken (item : Item) : Type 0 where
    pub option : Opt
    pub is : named os (name_in item) ≡ Some option
    pub accepted : accepts false (parser_for option.kind) (value_in item) ≡ true

  abbrev pub IsSpelled : Item → Type 0
  IsSpelled (Apart name value) = IsLongWord (45 ∷ 45 ∷ name) name None × IsPlainWord value
  IsSpelled (Joined name value) = IsLongWord (45 ∷ 45 ∷ (name ++ 61 ∷ value)) name (Some value)

  abbrev pub total : Walk → List Text → Kinds
  total w words = or_else (walk_fault (our_shape title os files) [] w words) (open_fault title os files (fold (walked (our_rules title os files) []) w words).held)

  abbrev pub final : Walk → List Text → List Row
  final w words = open_rows title os files (fold (walked (our_rules title os files) []) w words).held

  total_step : (w : Walk) (word : Text) (rest : List Text) → total w (word ∷ rest) ≡ or_else (turn title os files w word) (total (goes title os files w word) rest)
  unfolding walk_fault
  total_step w word rest = or_assoc (turn title os files w word) _ _

  total_end : (w : Walk) → total w [] ≡ open_fault title os files w.held
  unfolding walk_fault
  total_end w = refl

  -- ---- one use of an option

  abbrev use_of : Opt → Bool → Bool → Kinds
  use_of o has passes = or_else (cond (has && true) (kind.ArgumentConflict ∷ []) []) (or_else (cond passes [] (refused_kind (parser_for o.kind) ∷ [])) [])

  taken_from : (o : Opt) (has passes : Bool) → use_of o has passes ≡ [] → (has ≡ false) × (passes ≡ true)
  taken_from o true passes e = absurd (let bad : kind.ArgumentConflict ∷ [] ≡ [] = e in cc)
  taken_from o false true e = (refl, refl)
  taken_from o false false e = absurd (let bad : refused_kind (parser_for o.kind) ∷ [] ≡ [] = e in cc)

  take_passes : (o : Opt) (v : Text) (rows : List Row) → take_fault title os files o v rows ≡ [] → (has_row o.name.now rows ≡ false) × (accepts false (parser_for o.kind) v ≡ true)
  take_passes o v rows e = taken_from o _ _ e

  take_allowed : (o : Opt) (v : Text) (rows : List Row) → has_row o.name.now rows ≡ false → accepts false (parser_for o.kind) v ≡ true → take_fault title os files o v rows ≡ []
  take_allowed o v rows has passes = ap₂ (use_of o) has passes

  take_shows : (o : Opt) (v : Text) (rows : List Row) (g : Shown) → Shows rows g → has_row o.name.now rows ≡ false → Shows (take_rows title os files o v rows) (shown_with o.name.now (v ∷ []) g)
  take_shows o v rows g shows none =
      let how = reading_by (ready_rule o) in
      subst (λ (rs : List Row). Shows (with_values o.name.now how CommandLine (v ∷ []) rs) (shown_with o.name.now (v ∷ []) g)) (sym (none_gone o.name.now rows none))
      (shows_with o.name.now how (v ∷ []) rows g shows)

  -- ---- FILEs

  pub record Went (w : Walk) (words : List Text) (g : Shown) : Type 0 where
    pub total_is : total w words ≡ []
    pub shows : Shows (final w words) g

  module _ (has : files ≡ true) (apart : named os (codes "FILE") ≡ None) where
    file_is : arg_by_id (our_rules title os files) (codes "FILE") ≡ Some ready_file
    file_is = ap (λ b. arg_by_id (ready_rules os b) (codes "FILE")) has ∙ id_file os apart

    file_open : (file : Text) (rows : List Row) (h : Held) → open_fault title os files (with_open title os files rows (codes "FILE") (file ∷ []) h) ≡ []
    file_open file rows h = ap (λ a. option_map_or (λ r. use_fault false r (file ∷ []) rows) a []) file_is

    file_shows : (file : Text) (rows : List Row) (h : Held) (g : Shown) → Shows rows g
        → Shows (open_rows title os files (with_open title os files rows (codes "FILE") (file ∷ []) h)) (shown_with (codes "FILE") (file ∷ []) g)
    file_shows file rows h g shows =
        subst (λ (rs : List Row). Shows rs (shown_with (codes "FILE") (file ∷ []) g)) (sym (ap (λ a. used_by_id a (file ∷ []) rows) file_is))
        (shows_with (codes "FILE") (reading_by ready_file) (file ∷ []) rows g shows)

    pub files_pass : (fs : List Text) (h : Held) (g : Shown) → open_fault title os files h ≡ [] → Shows (open_rows title os files h) g → Went (files_at title os files h) fs (shown_files g fs)
    files_pass [] h g none shows = record { total_is = total_end _ ∙ none; shows = shows }
    files_pass (f ∷ fs) h g none shows =
        let h2 = with_open title os files (open_rows title os files h) (codes "FILE") (f ∷ []) h in
        let later = files_pass fs h2 (shown_with (codes "FILE") (f ∷ []) g) (file_open f (open_rows title os files h) h) (file_shows f (open_rows title os files h) h g shows) in
        let next = more_goes title os files f h has in record {
          total_is = total_step (files_at title os files h) f fs ∙ or_both _ _ (more_turn title os files f h has ∙ none) (ap (λ w. total w fs) next ∙ later.total_is);
          shows = subst (λ (w : Walk). Shows (final w fs) (shown_files g (f ∷ fs))) (sym next) later.shows;
        }

  -- ---- a walk that fails in nothing has nothing that fails

  known_or : (name : Text) → (named os name ≡ None) ⊎ ((o : Opt) × (named os name ≡ Some o))
  known_or name = go (named os name)
    where
      go : (n : Option Opt) → (n ≡ None) ⊎ ((o : Opt) × (n ≡ Some o))
      go None = inl refl
      go (Some o) = inr (o, refl)

  files_or : (files ≡ false) ⊎ (files ≡ true)
  files_or = go files
    where
      go : (b : Bool) → (b ≡ false) ⊎ (b ≡ true)
      go false = inl refl
      go true = inr refl

  -- the first word's turn
  first_turn : (w : Walk) (word : Text) (rest : List Text) → total w (word ∷ rest) ≡ [] → turn title os files w word ≡ []
  first_turn w word rest e = or_first _ _ (sym (total_step w word rest) ∙ e)

  then_total : (w : Walk) (word : Text) (rest : List Text) → total w (word ∷ rest) ≡ [] → total (goes title os files w word) rest ≡ []
  then_total w word rest e = or_second _ _ (sym (total_step w word rest) ∙ e)

  stray_none : (word : Text) (h : Held) → IsPlainWord word → files ≡ false → turn title os files (idle_at title os files h) word ≡ [] → ⊥
  stray_none word h w lacks e = let bad : kind.UnknownArgument ∷ [] ≡ [] = sym (stray_turn title os files word h w lacks) ∙ e in cc

  turn_first : (word : Text) (h : Held) → View word → turn title os files (idle_at title os files h) word ≡ [] → open_fault title os files h ≡ []
  turn_first word h (inl w) e =
      ⊎_elim (λ lacks. absurd (stray_none word h w lacks e)) (λ has. sym (file_turn title os files word h w has) ∙ e) files_or
  turn_first word h (inr (inl v)) e =
      ⊎_elim (λ none. absurd (unknown_turn title os files word v.name (Some v.value) h [] v.long none (or_both _ _ e refl)))
      (λ found. or_first _ _ (sym (joined_turn title os files word v.name v.value found.0 h v.long found.1) ∙ e)) (known_or v.name)
  turn_first word h (inr (inr v)) e =
      ⊎_elim (λ none. absurd (unknown_turn title os files word v.name None h [] v.long none (or_both _ _ e refl)))
      (λ found. sym (apart_turn title os files word v.name found.0 h v.long found.1) ∙ e) (known_or v.name)

  total_first : (words : List Text) (h : Held) → AreWords words → total (idle_at title os files h) words ≡ [] → open_fault title os files h ≡ []
  total_first [] h are e = sym (total_end (idle_at title os files h)) ∙ e
  total_first (word ∷ rest) h are e = turn_first word h (view word are.0) (first_turn (idle_at title os files h) word rest e)

  -- ---- what a walk that fails in nothing read

  pub record Found (words : List Text) (g : Shown) (rows : List Row) : Type 0 where
    pub items : List Item
    pub left : List Text
    pub is : words ≡ words_of_items items ++ left
    pub fresh : AreFresh g items
    pub known : AllByRecursion IsTaken items
    pub files_are : (left ≡ []) ⊎ (files ≡ true)
    pub shows : Shows rows (shown_all g items left)

  abbrev Reads : List Text → Type 0
  Reads words = (h : Held) (g : Shown) → AreWords words → open_fault title os files h ≡ [] → Shows (open_rows title os files h) g
      → total (idle_at title os files h) words ≡ [] → Found words g (final (idle_at title os files h) words)

  none_has : (name : Text) (rows : List Row) (g : Shown) → Shows rows g → has_row name rows ≡ false → g name ≡ None
  none_has name rows g shows e = go (g name) (sym (has_shown name rows g shows) ∙ e)
    where
      go : (x : Option (List Text)) → is_some x ≡ false → x ≡ None
      go None f = refl
      go (Some vs) f = absurd (true≢false f)

  -- one item before what is found after it
  onto : (item : Item) (o : Opt) (words rest : List Text) (g : Shown) (rows : List Row) → words ≡ words_of_item item ++ rest → named os (name_in item) ≡ Some o
      → g (name_in item) ≡ None → accepts false (parser_for o.kind) (value_in item) ≡ true
      → Found rest (shown_with (name_in item) (value_in item ∷ []) g) rows → Found words g rows
  onto item o words rest g rows is found none passes f = record {
    items = item ∷ f.items;
    left = f.left;
    is = is ∙ ap (λ ws. words_of_item item ++ ws) f.is ∙ sym (append_assoc (words_of_item item) (words_of_items f.items) f.left);
    fresh = (none, f.fresh);
    known = (record { option = o; is = found; accepted = passes }, f.known);
    files_are = f.files_are;
    shows = f.shows;
  }

  module _ (apart : named os (codes "FILE") ≡ None) where
    read_plain : (word : Text) (rest : List Text) → IsPlainWord word → Reads (word ∷ rest)
    read_plain word rest w h g are open_none shows e =
        let turned = first_turn (idle_at title os files h) word rest e in
        ⊎_elim (λ lacks. absurd (stray_none word h w lacks turned))
        (λ has. (
        let h2 = with_open title os files (open_rows title os files h) (codes "FILE") (word ∷ []) h in
        let passed = files_pass has apart rest h2 (shown_with (codes "FILE") (word ∷ []) g) (file_open has apart word (open_rows title os files h) h) (file_shows has apart word (open_rows title os files h) h g shows) in
        record {
          items = [];
          left = word ∷ rest;
          is = refl;
          fresh = tt;
          known = tt;
          files_are = inr has;
          shows = subst (λ (v : Walk). Shows (final v rest) (shown_all g [] (word ∷ rest))) (sym (file_goes title os files word h w has)) passed.shows;
        }))
        files_or

    read_joined : (word : Text) (rest : List Text) → JoinedView word → Reads rest → Reads (word ∷ rest)
    read_joined word rest v later h g are open_none shows e =
        let turned = first_turn (idle_at title os files h) word rest e in
        ⊎_elim (λ none. absurd (unknown_turn title os files word v.name (Some v.value) h [] v.long none (or_both _ _ turned refl)))
        (λ found. (
        let o = found.0 in
        let rows = open_rows title os files h in
        let next = joined_goes title os files word v.name v.value o h v.long found.1 in
        let took = take_passes o v.value rows (or_second _ _ (sym (joined_turn title os files word v.name v.value o h v.long found.1) ∙ turned)) in
        let h2 = with_rows title os files (take_rows title os files o v.value rows) h in
        let same = name_is os v.name o found.1 in
        let has_none = subst (λ n. has_row n rows ≡ false) same took.0 in
        let shows2 = subst (λ n. Shows (take_rows title os files o v.value rows) (shown_with n (v.value ∷ []) g)) same (take_shows o v.value rows g shows took.0) in
        let total2 = ap (λ w. total w rest) (sym next) ∙ then_total (idle_at title os files h) word rest e in
        let more = later h2 (shown_with v.name (v.value ∷ []) g) are.1 refl shows2 total2 in
        onto (Joined v.name v.value) o (word ∷ rest) rest g (final (idle_at title os files h) (word ∷ rest)) (ap (λ w. w ∷ rest) v.is) found.1 (none_has v.name rows g shows has_none) took.1
        (subst (λ (w : Walk). Found rest (shown_with v.name (v.value ∷ []) g) (final w rest)) (sym next) more)))
        (known_or v.name)

    -- an option and the word after it
    read_pair : (word value : Text) (rest : List Text) (v : ApartView word) → IsPlainWord value → Reads rest → Reads (word ∷ value ∷ rest)
    read_pair word value rest v w later h g are open_none shows e =
        let turned = first_turn (idle_at title os files h) word (value ∷ rest) e in
        ⊎_elim (λ none. absurd (unknown_turn title os files word v.name None h [] v.long none (or_both _ _ turned refl)))
        (λ found. (
        let o = found.0 in
        let rows = open_rows title os files h in
        let same = name_is os v.name o found.1 in
        let own : named os o.name.now ≡ Some o = ap (named os) same ∙ found.1 in
        let next = apart_goes title os files word v.name o h v.long found.1 in
        let after = value_goes title os files o value rows h w own in
        let h2 = with_open title os files rows o.name.now (value ∷ []) h in
        let by_id = id_some os files o.name.now o own in
        let fault_is : open_fault title os files h2 ≡ take_fault title os files o value rows = ap (λ a. option_map_or (λ r. use_fault false r (value ∷ []) rows) a []) by_id in
        let rows_is : open_rows title os files h2 ≡ take_rows title os files o value rows = ap (λ a. used_by_id a (value ∷ []) rows) by_id in
        let both = ap (λ w. goes title os files w value) next ∙ after in
        let total2 = ap (λ w. total w rest) (sym both) ∙ then_total (goes title os files (idle_at title os files h) word) value rest (then_total (idle_at title os files h) word (value ∷ rest) e) in
        let none2 = total_first rest h2 are.1.1 total2 in
        let took = take_passes o value rows (sym fault_is ∙ none2) in
        let has_none = subst (λ n. has_row n rows ≡ false) same took.0 in
        let shows1 = subst (λ n. Shows (take_rows title os files o value rows) (shown_with n (value ∷ []) g)) same (take_shows o value rows g shows took.0) in
        let shows2 = subst (λ (rs : List Row). Shows rs (shown_with v.name (value ∷ []) g)) (sym rows_is) shows1 in
        let more = later h2 (shown_with v.name (value ∷ []) g) are.1.1 none2 shows2 total2 in
        onto (Apart v.name value) o (word ∷ value ∷ rest) rest g (final (idle_at title os files h) (word ∷ value ∷ rest)) (ap (λ w. w ∷ value ∷ rest) v.is) found.1 (none_has v.name rows g shows has_none) took.1
        (subst (λ (w : Walk). Found rest (shown_with v.name (value ∷ []) g) (final w rest)) (sym both) more)))
        (known_or v.name)

    -- an option at the end, or before another
    read_cut : (word : Text) (rest : List Text) (v : ApartView word) → ((w : Walk) (o : Opt) (h : Held) → w ≡ waits_at title os files o.name.now (with_open title os files (open_rows title os files h) o.name.now [] h) → named os o.name.now ≡ Some o → total w rest ≡ [] → ⊥) → Reads (word ∷ rest)
    read_cut word rest v never h g are open_none shows e =
        let turned = first_turn (idle_at title os files h) word rest e in
        ⊎_elim (λ none. absurd (unknown_turn title os files word v.name None h [] v.long none (or_both _ _ turned refl)))
        (λ found. (
        let own : named os found.0.name.now ≡ Some found.0 = ap (named os) (name_is os v.name found.0 found.1) ∙ found.1 in
        absurd (never (goes title os files (idle_at title os files h) word) found.0 h (apart_goes title os files word v.name found.0 h v.long found.1) own (then_total (idle_at title os files h) word rest e))))
        (known_or v.name)

    ended : (w : Walk) (o : Opt) (h : Held) → w ≡ waits_at title os files o.name.now (with_open title os files (open_rows title os files h) o.name.now [] h) → named os o.name.now ≡ Some o → total w [] ≡ [] → ⊥
    ended w o h is own e =
        let bad : kind.InvalidValue ∷ [] ≡ [] = sym (unsaid title os files o (open_rows title os files h) h own) ∙ sym (total_end _) ∙ ap (λ x. total x []) (sym is) ∙ e in cc

    cut_by : (next : Text) (rest : List Text) (name : Text) (x : Option Text) → IsLongWord next name x → (w : Walk) (o : Opt) (h : Held) → w ≡ waits_at title os files o.name.now (with_open title os files (open_rows title os files h) o.name.now [] h)
        → named os o.name.now ≡ Some o → total w (next ∷ rest) ≡ [] → ⊥
    cut_by next rest name x long w o h is own e =
        let h2 = with_open title os files (open_rows title os files h) o.name.now [] h in
        cut_off title os files o.name.now next name x h2 [] long (unsaid title os files o (open_rows title os files h) h own)
        (or_both _ _ (first_turn (waits_at title os files o.name.now h2) next rest (ap (λ v. total v (next ∷ rest)) (sym is) ∙ e)) refl)

    read_apart : (word : Text) (rest : List Text) → ApartView word → ((words : List Text) → suc (length words) ≤ length rest → Reads words) → Reads (word ∷ rest)
    read_apart word [] v later h g are open_none shows e = read_cut word [] v ended h g are open_none shows e
    read_apart word (value ∷ rest) v later h g are open_none shows e =
        by (view value are.1.0)
      where
        by : View value → Found (word ∷ value ∷ rest) g (final (idle_at title os files h) (word ∷ value ∷ rest))
        by (inl w) = read_pair word value rest v w (later rest (omega arith)) h g are open_none shows e
        by (inr (inl x)) = read_cut word (value ∷ rest) v (cut_by value rest x.name (Some x.value) x.long) h g are open_none shows e
        by (inr (inr x)) = read_cut word (value ∷ rest) v (cut_by value rest x.name None x.long) h g are open_none shows e

    read_none : Reads []
    read_none h g are open_none shows e = record { items = []; left = []; is = refl; fresh = tt; known = tt; files_are = inl refl; shows = shows }

    read_word : (word : Text) (rest : List Text) → ((words : List Text) → length words ≤ length rest → Reads words) → Reads (word ∷ rest)
    read_word word rest later h g are open_none shows e = by (view word are.0)
      where
        by : View word → Found (word ∷ rest) g (final (idle_at title os files h) (word ∷ rest))
        by (inl w) = read_plain word rest w h g are open_none shows e
        by (inr (inl v)) = read_joined word rest v (later rest (omega arith)) h g are open_none shows e
        by (inr (inr v)) = read_apart word rest v (λ words short. later words (omega arith)) h g are open_none shows e

    read_within : (k : ℕ) (words : List Text) → length words ≤ k → Reads words
    read_within k [] short = read_none
    read_within zero (word ∷ rest) short = absurd (omega arith)
    read_within (suc k) (word ∷ rest) short = read_word word rest (λ words shorter. read_within k words (omega arith))

    pub read_back : (words : List Text) → Reads words
    read_back words = read_within (length words) words (omega arith)

    -- ---- a line of the set

    stepped : (w v : Walk) (word : Text) (rest : List Text) (g : Shown) → turn title os files w word ≡ [] → goes title os files w word ≡ v → Went v rest g → Went w (word ∷ rest) g
    stepped w v word rest g none next later = record {
      total_is = total_step w word rest ∙ or_both _ _ none (ap (λ x. total x rest) next ∙ later.total_is);
      shows = subst (λ (x : Walk). Shows (final x rest) g) (sym next) later.shows;
    }

    pub forth : (items : List Item) (left : List Text) (h : Held) (g : Shown) → open_fault title os files h ≡ [] → Shows (open_rows title os files h) g → AreFresh g items
        → AllByRecursion IsTaken items → AllByRecursion IsSpelled items → AllByRecursion IsPlainWord left → (left ≡ []) ⊎ (files ≡ true)
        → Went (idle_at title os files h) (words_of_items items ++ left) (shown_all g items left)
    forth [] [] h g open_none shows fresh taken spelled plain some = record { total_is = total_end (idle_at title os files h) ∙ open_none; shows = shows }
    forth [] (file ∷ rest) h g open_none shows fresh taken spelled plain some =
        ⊎_elim (λ none. absurd (let bad : file ∷ rest ≡ [] = none in cc))
        (λ has. (
        let rows = open_rows title os files h in
        let h2 = with_open title os files rows (codes "FILE") (file ∷ []) h in
        let later = files_pass has apart rest h2 (shown_with (codes "FILE") (file ∷ []) g) (file_open has apart file rows h) (file_shows has apart file rows h g shows) in
        stepped (idle_at title os files h) (files_at title os files h2) file rest (shown_all g [] (file ∷ rest)) (file_turn title os files file h plain.0 has ∙ open_none) (file_goes title os files file h plain.0 has) later))
        some
    forth (Joined name value ∷ items) left h g open_none shows fresh taken spelled plain some =
        let word = 45 ∷ 45 ∷ (name ++ 61 ∷ value) in
        let rest = words_of_items items ++ left in
        let o = taken.0.option in
        let is = taken.0.is in
        let rows = open_rows title os files h in
        let same = name_is os name o is in
        let none = subst (λ n. has_row n rows ≡ false) (sym same) (has_shown name rows g shows ∙ ap is_some fresh.0) in
        let h2 = with_rows title os files (take_rows title os files o value rows) h in
        let shows2 = subst (λ n. Shows (take_rows title os files o value rows) (shown_with n (value ∷ []) g)) same (take_shows o value rows g shows none) in
        let later = forth items left h2 (shown_with name (value ∷ []) g) refl shows2 fresh.1 taken.1 spelled.1 plain some in
        stepped (idle_at title os files h) (idle_at title os files h2) word rest (shown_all g (Joined name value ∷ items) left)
        (joined_turn title os files word name value o h spelled.0 is ∙ or_both _ _ open_none (take_allowed o value rows none taken.0.accepted))
        (joined_goes title os files word name value o h spelled.0 is) later
    forth (Apart name value ∷ items) left h g open_none shows fresh taken spelled plain some =
        let word = 45 ∷ 45 ∷ name in
        let rest = words_of_items items ++ left in
        let o = taken.0.option in
        let is = taken.0.is in
        let rows = open_rows title os files h in
        let same = name_is os name o is in
        let own : named os o.name.now ≡ Some o = ap (named os) same ∙ is in
        let none = subst (λ n. has_row n rows ≡ false) (sym same) (has_shown name rows g shows ∙ ap is_some fresh.0) in
        let h1 = with_open title os files rows o.name.now [] h in
        let h2 = with_open title os files rows o.name.now (value ∷ []) h in
        let by_id = id_some os files o.name.now o own in
        let fault_is : open_fault title os files h2 ≡ take_fault title os files o value rows = ap (λ a. option_map_or (λ r. use_fault false r (value ∷ []) rows) a []) by_id in
        let rows_is : open_rows title os files h2 ≡ take_rows title os files o value rows = ap (λ a. used_by_id a (value ∷ []) rows) by_id in
        let shows1 = subst (λ n. Shows (take_rows title os files o value rows) (shown_with n (value ∷ []) g)) same (take_shows o value rows g shows none) in
        let shows2 = subst (λ (rs : List Row). Shows rs (shown_with name (value ∷ []) g)) (sym rows_is) shows1 in
        let later = forth items left h2 (shown_with name (value ∷ []) g) (fault_is ∙ take_allowed o value rows none taken.0.accepted) shows2 fresh.1 taken.1 spelled.1 plain some in
        let all = shown_all g (Apart name value ∷ items) left in
        stepped (idle_at title os files h) (waits_at title os files o.name.now h1) word (value ∷ rest) all (apart_turn title os files word name o h spelled.0.0 is ∙ open_none) (apart_goes title os files word name o h spelled.0.0 is)
        (stepped (waits_at title os files o.name.now h1) (idle_at title os files h2) value rest all (value_turn title os files o value rows h spelled.0.1 own) (value_goes title os files o value rows h spelled.0.1 own) later)
