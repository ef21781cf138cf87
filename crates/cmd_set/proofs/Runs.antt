-- What a run of a set of commands comes to.
use Rattle.std.proofs.Common.{◌≡◌, ◌∙◌, ℕ, ◌≤◌, List, [], ◌∷◌, Option, Some, None, Result, Ok, Err, inl, inr, sym, ap, subst, arith}
use Rattle.std.specs.Prelude.{IfOk}
use Rattle.base_lists.specs.Text.{line}
use Rattle.base_shelf.specs.Shelf.{View}
use Rattle.base_shelf.specs.Sink.{SinkView}
use Rattle.base_line.specs.Line.{Text}
use Rattle.base_run.specs.Ends.{Comes, LineMade, LinePrinted, RanWords, Reporting}
use Rattle.base_run.specs.Rows.{Start}
use Rattle.base_run.proofs.Causes.{each_cause}
use Rattle.base_run.proofs.Comes.{Lawful, comes}
use Rattle.cmd_set.specs.Command.{AreInputs, Command, HasInputs, IsLineOf, IsNoLineOf}
use Rattle.cmd_set.specs.Set.{AreInputsOf, AreOutside, Done, EndsInOrder, Means, RanAs, ReadsInputs, RefusesTexts, Values, commands, phases_of}
use Rattle.cmd_set.specs.declared.inputs.Inputs.{Inputs}
use Rattle.cmd_set.proofs.Lawful.{IsLawful, one_line}

cons_same : (a b : Text) (more rest : List Text) → a ∷ more ≡ b ∷ rest → (a ≡ b) × (more ≡ rest)
cons_same a b more rest same = (cc, cc)

module _ {C Name : Type 0} (command_of : Name → Command C) (t : Reporting C)
    (apart : (a b : Name) → (command_of a).word ≡ (command_of b).word → a ≡ b) where
  -- ---- words

  module _ (words : List Text) (name : Name) (rest : List Text) (is : words ≡ (command_of name).word ∷ rest) where
    -- What words of the set mean is of the command that they begin with.
    name_is : (v : Values command_of) → Means command_of words v → v.0 ≡ name
    name_is v m = apart v.0 name (cons_same _ _ _ _ (sym m.is ∙ is)).0

    rest_is : (v : Values command_of) (m : Means command_of words v) → m.rest ≡ rest
    rest_is v m = (cons_same _ _ _ _ (sym m.is ∙ is)).1

    line_is : (v : Values command_of) → Means command_of words v → IsLineOf (command_of v.0) rest v.1
    line_is v m = subst (λ (r : List Text). IsLineOf (command_of v.0) r v.1) (rest_is v m) m.line

    none_of : IsNoLineOf (command_of name) rest → AreOutside command_of words
    none_of none v m =
        subst (λ (n : Name). IsNoLineOf (command_of n) rest) (sym (name_is v m)) none v.1 (line_is v m)

  -- Words that begin with no word of a command are outside of the set.
  pub outside_unnamed : (words : List Text) (first : Text) (rest : List Text) → words ≡ first ∷ rest → ((name : Name) → first ≡ (command_of name).word → ⊥) → AreOutside command_of words
  outside_unnamed words first rest is none v m = none v.0 (cons_same _ _ _ _ (sym is ∙ m.is)).0

  pub outside_none : (words : List Text) → words ≡ [] → AreOutside command_of words
  outside_none words is v m = let bad : [] ≡ (command_of v.0).word ∷ m.rest = sym is ∙ m.is in cc

  module _ (IsOfTexts : C → Type 0) (law : (name : Name) → IsLawful IsOfTexts (command_of name)) where
    -- Words mean one thing.
    pub one_meaning : (words : List Text) (v other : Values command_of) → Means command_of words v → Means command_of words other → other ≡ v
    one_meaning words v other first second =
        let P : Name → Type 0 = λ n. (w : (command_of n).Values) → IsLineOf (command_of n) first.rest w → (let there : Values command_of = (n, w) in there ≡ v) in
        let here : P v.0 = λ w l. (let at : (command_of v.0).Values → Values command_of = λ x. (v.0, x) in ap at (one_line IsOfTexts (command_of v.0) (law v.0) first.rest v.1 w first.line l)) in
        subst P (sym (name_is words v.0 first.rest first.is other second)) here other.1 (line_is words v.0 first.rest first.is other second)

    -- What a command reads by them.
    reads : (words : List Text) (name : Name) (rest : List Text) (inputs : Inputs) → words ≡ (command_of name).word ∷ rest
        → HasInputs (command_of name) rest inputs → ReadsInputs command_of words inputs
    reads words name rest inputs is has =
        let values : Values command_of = (name, has.values) in
        let means : Means command_of words values = record { rest = rest; is = is; line = has.line } in
        record { values = values; means = means; only = λ other again. one_meaning words values other means again; names = has.names; most = has.most }

    pub inputs_read : {E : Type 0} (words : List Text) (name : Name) (rest : List Text) → words ≡ (command_of name).word ∷ rest → (result : Result (Option Inputs) E)
        → IfOk result (AreInputs (command_of name) rest) → IfOk result (AreInputsOf command_of words)
    inputs_read words name rest is (Ok None) none = none_of words name rest is none
    inputs_read words name rest is (Ok (Some inputs)) has = reads words name rest inputs is has
    inputs_read words name rest is (Err e) has = tt

  -- ---- a run

  module _ (s : Start) (shelf : View) (sink : SinkView) (status : ℕ) where
    -- A command of the set ran.
    pub of_set : (name : Name) (rest : List Text) → s.line ≡ (command_of name).word ∷ rest → RanAs (command_of name) t rest s shelf sink status
        → RanWords (commands command_of t) s shelf sink status
    of_set name rest is (RanAs.ends_outside none same line) = RanWords.ends_outside (none_of s.line name rest is none) same line
    of_set name rest is (RanAs.ends_without_words same line) = RanWords.ends_without_words same line
    of_set name rest is (RanAs.ends_within v l ran) = RanWords.ends_within (name, v) record { rest = rest; is = is; line = l } ran

  -- ---- what it comes to

  module _ (IsOfTexts : C → Type 0) (statuses : (cause : C) → IsOfTexts cause → (5 ≤ t.status_of cause) × (t.status_of cause ≤ 19))
      (law : (name : Name) → IsLawful IsOfTexts (command_of name)) (s : Start) where
    lawful : Lawful (commands command_of t) s
    lawful = record {
      of_texts = λ w cause means comes. statuses cause (each_cause s.shelf_told s.shelf.files IsOfTexts (phases_of command_of w) ((law w.0).causes w.1) cause comes);
      one_meaning = one_meaning IsOfTexts law s.line;
      exact = λ w means. (law w.0).exact w.1;
    }

    -- A line of a status below 20 was made.
    made_printed : (text : List ℕ) (own : ℕ) (old new : SinkView) (status : ℕ) → status ≤ 19 → LineMade s.sink_told text own old new status → LinePrinted s.sink_told text own old new status
    made_printed text own old new status few (inl printed) = printed
    made_printed text own old new status few (inr none) = let is = none.is in absurd (omega (arith, few, is))

    module _ (shelf : View) (sink : SinkView) (status : ℕ) where
      pub all_comes : RanWords (commands command_of t) s shelf sink status → Comes (commands command_of t) s shelf sink status
      all_comes ran = comes (commands command_of t) s lawful shelf sink status ran

      module _ (all : Comes (commands command_of t) s shelf sink status) where
        pub done_says : status ≡ 0 → Done command_of s shelf sink
        done_says zero =
            let there = all.done zero in
            let words = there.0 in
            let means = there.1 in
            let row = there.2 in record {
              words = words;
              means = means;
              row = row;
              says = λ reports. (law words.0).says s.shelf_told means.rest s.shelf.files words.1 row.answer reports means.line row.stands;
            }

        pub refuses_texts : 5 ≤ status → status ≤ 19 → RefusesTexts command_of t s shelf sink status
        refuses_texts low high =
            let there = all.texts low high in
            let words = there.0 in
            let is = there.2 in record {
              words = words;
              means = there.1;
              cause = is.cause;
              status_is = is.status_is;
              fails = λ reports. (law words.0).fails s.shelf_told s.shelf.files words.1 is.cause reports is.row.comes;
              row = is.row;
              printed = made_printed (line (t.text_of is.cause)) (t.status_of is.cause) s.sink sink status high is.line;
            }

        pub in_order_ends : EndsInOrder command_of t s shelf sink status
        in_order_ends = λ words reports means order none. all.unrefused words means ((law words.0).unrefused s.shelf_told s.shelf.files words.1 reports order) none
