-- What the walk makes of each word, for a command of ours.
use Rattle.std.proofs.Common.{◌≡◌, ◌∙◌, sym, ap, refl, List, [], ◌∷◌, Option, Some, None, Bool, true, false, cond, codes}
use Rattle.std.specs.Prelude.{is_some, ◌&&◌}
use Rattle.std.specs.Option.{option_map_or}
use Rattle.std.specs.Prelude.{nat_lt}
use Rattle.std.specs.Str.{bytes_eq}
use Rattle.clap.specs.Lexer.{long_of, short_of}
use Rattle.clap.specs.Walk.{Held, Row, Rule, Step, Text, Walk, after_flag, after_step, arg_by_index, arg_by_long, idle, long_met, long_or_other, next, option, option_word, positional, is_pending, pushed, takes_values, settled, short_or_plain, trailing, to_positional, used, walk_from, walked}
use Rattle.clap.specs.Simple.{Shape}
use Rattle.clap.specs.Kinds.{Kinds, or_else}
use Rattle.clap.specs.Faults.{bundle_fault, option_fault, flag_word_fault, long_fault, positional_fault, react_fault, settle_fault, step_fault, turn_fault, use_fault}
use Rattle.clap.specs.declared.error.kind.ErrorKind.TheVariants as kind
use Rattle.base_line.specs.declared.option.Opt.{Opt}
use Rattle.base_line.specs.Line.{named}
use Rattle.base_line.proofs.Rows.{text_itself}
use Rattle.base_line.proofs.Rules.{first_place, id_some, index_is, long_none, long_some, ready_file, ready_rule, ready_rules, ready_shape}

-- ---- kinds

pub or_none : (a : Kinds) → or_else a [] ≡ a
or_none [] = refl
or_none (k ∷ ks) = refl

pub or_assoc : (a b c : Kinds) → or_else (or_else a b) c ≡ or_else a (or_else b c)
or_assoc [] b c = refl
or_assoc (k ∷ ks) b c = refl

is_nil : Kinds → Bool
is_nil [] = true
is_nil (k ∷ ks) = false

pub or_first : (a b : Kinds) → or_else a b ≡ [] → a ≡ []
or_first [] b e = refl
or_first (k ∷ ks) b e = e

pub or_second : (a b : Kinds) → or_else a b ≡ [] → b ≡ []
or_second [] b e = e
or_second (k ∷ ks) b e = absurd (never e)
  where
    never : k ∷ ks ≡ [] → ⊥
    never h = cc

pub or_both : (a b : Kinds) → a ≡ [] → b ≡ [] → or_else a b ≡ []
or_both a b x y = ap (λ k. or_else k b) x ∙ y

-- ---- words

pub record IsPlainWord (word : Text) : Type 0 where
  pub dashes : bytes_eq word (45 ∷ 45 ∷ []) ≡ false
  pub long : long_of word ≡ None
  pub short : short_of word ≡ None

pub record IsLongWord (word name : Text) (v : Option Text) : Type 0 where
  pub dashes : bytes_eq word (45 ∷ 45 ∷ []) ≡ false
  pub long : long_of word ≡ Some (name, v)

module _ (title : Text) (os : List Opt) (files : Bool) where
  abbrev pub our_rules : List Rule
  our_rules = ready_rules os files

  abbrev pub our_shape : Shape
  our_shape = ready_shape title our_rules

  -- what the pending argument fails by, and the rows with it
  abbrev pub open_fault : Held → Kinds
  open_fault h = settle_fault our_rules false h

  abbrev pub open_rows : Held → List Row
  open_rows h = (settled our_rules h).rows

  abbrev pub idle_at : Held → Walk
  idle_at h = walk_from h

  abbrev pub waits_at : Text → Held → Walk
  waits_at id h = record (walk_from h) { waiting = option id }

  abbrev pub files_at : Held → Walk
  files_at h = record { held = h; waiting = positional; position = 1; is_trailing = true; stopped = None }

  abbrev pub turn : Walk → Text → Kinds
  turn w word = turn_fault our_shape [] w word

  abbrev pub goes : Walk → Text → Walk
  goes w word = walked our_rules [] w word

  abbrev pub with_rows : List Row → Held → Held
  with_rows rows h = record h { rows = rows; pending = None }

  abbrev pub with_open : List Row → Text → List Text → Held → Held
  with_open rows id values h = record h { rows = rows; pending = Some (id, values) }

  -- a use of an option
  abbrev pub take_fault : Opt → Text → List Row → Kinds
  take_fault o v rows = use_fault false (ready_rule o) (v ∷ []) rows

  abbrev pub take_rows : Opt → Text → List Row → List Row
  take_rows o v rows = used (ready_rule o) (v ∷ []) rows

  -- ---- a word at an idle walk

  abbrev idle_met : Text → Held → Bool → Option (Text × Option Text) → Held × Step
  idle_met word h b l = cond b (h, trailing 1) (long_or_other our_rules idle word l h)

  abbrev idle_turn : Text → Held → Bool → Option (Text × Option Text) → Kinds
  idle_turn word h b l = or_else (cond b [] (flag_word_fault our_rules false l word h)) (step_fault our_shape 1 (idle_met word h b l).0 (idle_met word h b l).1)

  abbrev idle_goes : Text → Held → Bool → Option (Text × Option Text) → Walk
  idle_goes word h b l = after_step our_rules word (walk_from h) (idle_met word h b l).0 (idle_met word h b l).1

  turned : (word name : Text) (v : Option Text) (h : Held) → IsLongWord word name v → turn (idle_at h) word ≡ idle_turn word h false (Some (name, v))
  turned word name v h w = λ i. idle_turn word h (w.dashes i) (w.long i)

  gone : (word name : Text) (v : Option Text) (h : Held) → IsLongWord word name v → goes (idle_at h) word ≡ idle_goes word h false (Some (name, v))
  unfolding walked
  gone word name v h w = λ i. idle_goes word h (w.dashes i) (w.long i)

  abbrev flag_turn : Text → Option Text → Held → Option Rule → Kinds
  flag_turn word v h a = or_else (long_fault our_rules false a v h)
      (step_fault our_shape 1 (after_flag our_rules idle word (long_met our_rules a v h).0 (long_met our_rules a v h).1).0 (after_flag our_rules idle word (long_met our_rules a v h).0 (long_met our_rules a v h).1).1)

  abbrev flag_goes : Text → Option Text → Held → Option Rule → Walk
  flag_goes word v h a = after_step our_rules word (walk_from h)
      (after_flag our_rules idle word (long_met our_rules a v h).0 (long_met our_rules a v h).1).0 (after_flag our_rules idle word (long_met our_rules a v h).0 (long_met our_rules a v h).1).1

  pub unknown_turn : (word name : Text) (v : Option Text) (h : Held) (rest : Kinds) → IsLongWord word name v → named os name ≡ None → or_else (turn (idle_at h) word) rest ≡ [] → ⊥
  unknown_turn word name v h rest w none e =
      let is = turned word name v h w ∙ ap (flag_turn word v h) (long_none os files name none) in
      let bad : kind.UnknownArgument ∷ [] ≡ [] = sym (ap (λ k. or_else k rest) is) ∙ e in cc

  module _ (word name v : Text) (o : Opt) (h : Held) (w : IsLongWord word name (Some v)) (is : named os name ≡ Some o) where
    pub joined_turn : turn (idle_at h) word ≡ or_else (open_fault h) (take_fault o v (open_rows h))
    joined_turn = turned word name (Some v) h w ∙ ap (flag_turn word (Some v) h) (long_some os files name o is) ∙ or_none _

    pub joined_goes : goes (idle_at h) word ≡ idle_at (with_rows (take_rows o v (open_rows h)) h)
    joined_goes = gone word name (Some v) h w ∙ ap (flag_goes word (Some v) h) (long_some os files name o is)

  module _ (word name : Text) (o : Opt) (h : Held) (w : IsLongWord word name None) (is : named os name ≡ Some o) where
    pub apart_turn : turn (idle_at h) word ≡ open_fault h
    apart_turn = turned word name None h w ∙ ap (flag_turn word None h) (long_some os files name o is) ∙ or_none _

    pub apart_goes : goes (idle_at h) word ≡ waits_at o.name.now (with_open (open_rows h) o.name.now [] h)
    apart_goes = gone word name None h w ∙ ap (flag_goes word None h) (long_some os files name o is)

  -- ---- a word at an option that waits for its value

  abbrev wait_met : Text → Text → Held → Bool → Option (Text × Option Text) → Held × Step
  wait_met id word h b l = cond b (h, trailing 1) (long_or_other our_rules (option id) word l h)

  abbrev wait_turn : Text → Text → Held → Bool → Option (Text × Option Text) → Kinds
  wait_turn id word h b l = or_else (cond b [] (flag_word_fault our_rules false l word h)) (step_fault our_shape 1 (wait_met id word h b l).0 (wait_met id word h b l).1)

  -- an option without its value
  pub unsaid : (o : Opt) (rows : List Row) (h : Held) → named os o.name.now ≡ Some o → open_fault (with_open rows o.name.now [] h) ≡ kind.InvalidValue ∷ []
  unsaid o rows h is = ap (λ a. option_map_or (λ r. use_fault false r [] rows) a []) (id_some os files o.name.now o is)

  -- a flag comes in its place
  pub cut_off : (id word name : Text) (v : Option Text) (h : Held) (k : Kinds) → IsLongWord word name v → open_fault h ≡ kind.InvalidValue ∷ [] → or_else (turn (waits_at id h) word) k ≡ [] → ⊥
  cut_off id word name v h k w unsaid_is e =
      let is : turn (waits_at id h) word ≡ wait_turn id word h false (Some (name, v)) = λ i. wait_turn id word h (w.dashes i) (w.long i) in
      go (arg_by_long our_rules name) v (or_first _ _ (or_first _ _ (sym (ap (λ x. or_else x k) is) ∙ e)))
    where
      never : (rest : Kinds) → or_else (open_fault h) rest ≡ [] → ⊥
      never rest f = let bad : kind.InvalidValue ∷ [] ≡ [] = sym unsaid_is ∙ or_first _ _ f in cc

      taken : (a : Rule) (b : Bool) (v : Option Text) → cond b (option_fault our_rules false a v h) (cond (is_some v) (kind.TooManyValues ∷ []) (react_fault our_rules false a [] h)) ≡ [] → ⊥
      taken a true (Some v) f = never _ f
      taken a true None f = never [] (or_none (open_fault h) ∙ f)
      taken a false (Some v) f = let bad : kind.TooManyValues ∷ [] ≡ [] = f in cc
      taken a false None f = never _ f

      go : (a : Option Rule) (v : Option Text) → long_fault our_rules false a v h ≡ [] → ⊥
      go None v f = let bad : kind.UnknownArgument ∷ [] ≡ [] = f in cc
      go (Some a) v f = taken a (takes_values a) v f

  module _ (o : Opt) (word : Text) (rows : List Row) (h : Held) (w : IsPlainWord word) (is : named os o.name.now ≡ Some o) where
    abbrev waiting_held : Held
    waiting_held = with_open rows o.name.now [] h

    abbrev value_word : Option Text → Option Rule → Held × Step
    value_word s a = short_or_plain our_rules (option o.name.now) word s waiting_held

    pub value_turn : turn (waits_at o.name.now waiting_held) word ≡ []
    value_turn =
        (λ i. wait_turn o.name.now word waiting_held (w.dashes i) (w.long i))
        ∙ (λ i. or_else (option_map_or (λ flags. bundle_fault our_rules false flags waiting_held) (w.short i) [])
        (step_fault our_shape 1 (short_or_plain our_rules (option o.name.now) word (w.short i) waiting_held).0 (short_or_plain our_rules (option o.name.now) word (w.short i) waiting_held).1))

    pub value_goes : goes (waits_at o.name.now waiting_held) word ≡ idle_at (with_open rows o.name.now (word ∷ []) h)
    unfolding walked
    value_goes =
        let after = λ (m : Held × Step). after_step our_rules word (waits_at o.name.now waiting_held) m.0 m.1 in
        (λ i. after (wait_met o.name.now word waiting_held (w.dashes i) (w.long i)))
        ∙ (λ i. after (short_or_plain our_rules (option o.name.now) word (w.short i) waiting_held))
        ∙ ap (λ a. after ((option_word a o.name.now word waiting_held).0, next (option_word a o.name.now word waiting_held).1)) (id_some os files o.name.now o is)
        ∙ ap (λ b. after (with_open rows o.name.now (word ∷ []) h, next (cond (nat_lt (cond b 1 0) 1) (option o.name.now) idle))) (text_itself o.name.now)

  -- ---- a plain word at an idle walk, and any word after a FILE

  and_false : (b : Bool) → (b && false) ≡ false
  and_false true = refl
  and_false false = refl

  module _ (word : Text) (h : Held) (w : IsPlainWord word) where
    abbrev plain_turn : Option Text → Option Rule → Kinds
    plain_turn s a = or_else (option_map_or (λ flags. bundle_fault our_rules false flags h) s [])
        (step_fault our_shape 1 (short_or_plain our_rules idle word s h).0 (short_or_plain our_rules idle word s h).1)

    plain_step : turn (idle_at h) word ≡ option_map_or (λ a. positional_fault our_rules false a h) (arg_by_index our_rules 1) (kind.UnknownArgument ∷ [])
    plain_step = (λ i. idle_turn word h (w.dashes i) (w.long i)) ∙ (λ i. plain_turn (w.short i) None)

    pub stray_turn : files ≡ false → turn (idle_at h) word ≡ kind.UnknownArgument ∷ []
    stray_turn lacks = plain_step ∙ ap (λ a. option_map_or (λ a. positional_fault our_rules false a h) a (kind.UnknownArgument ∷ [])) (index_is os files ∙ ap first_place lacks)

    pub file_turn : files ≡ true → turn (idle_at h) word ≡ open_fault h
    file_turn has = plain_step ∙ ap (λ a. option_map_or (λ a. positional_fault our_rules false a h) a (kind.UnknownArgument ∷ [])) (index_is os files ∙ ap first_place has)
        ∙ ap (λ b. cond b [] (open_fault h)) (and_false (is_pending ready_file h.pending))

    pub file_goes : files ≡ true → goes (idle_at h) word ≡ files_at (with_open (open_rows h) (codes "FILE") (word ∷ []) h)
    unfolding walked
    file_goes has =
        let after = λ (m : Held × Step). after_step our_rules word (idle_at h) m.0 m.1 in
        (λ i. after (idle_met word h (w.dashes i) (w.long i)))
        ∙ (λ i. after (short_or_plain our_rules idle word (w.short i) h))
        ∙ ap (λ a. to_positional our_rules a word (idle_at h) h) (index_is os files ∙ ap first_place has)
        ∙ ap (λ b. files_at (pushed (codes "FILE") word (cond b h (settled our_rules h)))) (and_false (is_pending ready_file h.pending))

  module _ (word : Text) (h : Held) (has : files ≡ true) where
    pub more_turn : turn (files_at h) word ≡ open_fault h
    more_turn = ap (λ a. option_map_or (λ a. positional_fault our_rules false a h) a (kind.UnknownArgument ∷ [])) (index_is os files ∙ ap first_place has)
        ∙ ap (λ b. cond b [] (open_fault h)) (and_false (is_pending ready_file h.pending))

    pub more_goes : goes (files_at h) word ≡ files_at (with_open (open_rows h) (codes "FILE") (word ∷ []) h)
    unfolding walked
    more_goes =
        ap (λ a. to_positional our_rules a word (files_at h) h) (index_is os files ∙ ap first_place has)
        ∙ ap (λ b. files_at (pushed (codes "FILE") word (cond b h (settled our_rules h)))) (and_false (is_pending ready_file h.pending))
