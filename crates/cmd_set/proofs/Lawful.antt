-- The laws of a command, and that the words after it have one meaning.
use Rattle.std.proofs.Common.{◌≡◌, ◌∙◌, List, [], Bool, Ok, Err, Option, sym, ap, subst}
use Rattle.std.specs.Prelude.{Contains, unwrap_or}
use Rattle.base_line.specs.Line.{IsLine, Text, given}
use Rattle.base_line.specs.Read.{options_by}
use Rattle.base_line.proofs.Alike.{line_alike}
use Rattle.base_line.proofs.SameOptions.{same_options}
use Rattle.base_line.proofs.Settling.{many_is}
use Rattle.base_line.proofs.Whole.{IsPassed, line_passes}
use Rattle.base_shelf.specs.Shelf.{Files}
use Rattle.base_run.specs.Phases.{Answer, AreExact, ComesTo, NeverRefused}
use Rattle.base_run.specs.Reading.{ReadsAmong, ReadsSurely}
use Rattle.base_run.proofs.Causes.{EachCause}
use Rattle.cmd_set.specs.Command.{Command, IsLineOf, ReportsInputs}
use Rattle.cmd_set.proofs.Tables.{IsTable, in_order}

-- The table is in order, the options with the FILEs give one set of values, each phase but a search comes to one thing,
-- and each cause has a status of texts.
pub record IsLawful {C : Type 0} (IsOfTexts : C → Type 0) (c : Command C) : Type 0 where
  pub ordered : IsTable c.table
  pub one : (option : Text → Option Text) (v w : c.Values) → c.Gives option v → c.Gives option w → c.files v ≡ c.files w → v ≡ w
  pub exact : (v : c.Values) → AreExact (c.phases v)
  pub causes : (v : c.Values) → EachCause IsOfTexts (c.phases v)
  -- What the texts come to says what is promised, and texts in order come to no refusal.
  pub says : (told : Bool) (rest : List Text) (files : Files) (v : c.Values) (answer : Answer) → ReportsInputs (c.inputs v) told → IsLineOf c rest v
      → ComesTo told files (c.phases v) (Ok answer) → c.Says files v answer
  pub fails : (told : Bool) (files : Files) (v : c.Values) (cause : C) → ReportsInputs (c.inputs v) told
      → ComesTo told files (c.phases v) (Err cause) → c.Fails files v cause
  pub unrefused : (told : Bool) (files : Files) (v : c.Values) → ReportsInputs (c.inputs v) told → c.InOrder files v → NeverRefused told files (c.phases v)
  -- The files that are read are those that are listed, each before anything is found.
  pub only : (v : c.Values) → ReadsAmong (c.inputs v) (c.phases v)
  pub sure : (v : c.Values) (name : Text) → Contains (c.inputs v) name → ReadsSurely name c.most (c.phases v)

-- ---- a line

module _ {C : Type 0} (IsOfTexts : C → Type 0) (c : Command C) (law : IsLawful IsOfTexts c) (rest : List Text) (v w : c.Values) (first : IsLineOf c rest v) (second : IsLineOf c rest w) where
  moved : IsLine first.options c.has_files rest second.items (c.files w)
  moved = line_alike second.options first.options (second.table ∙ sym first.table) c.has_files rest second.items (c.files w) second.line

  passed : IsPassed c.word first.options c.has_files (in_order c.table law.ordered first.options first.table) rest first.items (c.files v)
  passed = line_passes c.word first.options c.has_files (in_order c.table law.ordered first.options first.table) rest first.items (c.files v) first.line

  passed_too : IsPassed c.word first.options c.has_files (in_order c.table law.ordered first.options first.table) rest second.items (c.files w)
  passed_too = line_passes c.word first.options c.has_files (in_order c.table law.ordered first.options first.table) rest second.items (c.files w) moved

  given_alike : options_by (given second.items) ≡ options_by (given first.items)
  given_alike = same_options (given second.items) (given first.items) (λ n other. sym (passed_too.first n other) ∙ passed.first n other)

  one_files : c.files w ≡ c.files v
  one_files = sym (many_is (c.files w)) ∙ ap (λ (o : Option (List Text)). unwrap_or o []) (sym passed_too.all ∙ passed.all) ∙ many_is (c.files v)

  -- The words after a command have one meaning.
  pub one_line : w ≡ v
  one_line = law.one (options_by (given first.items)) w v (subst (λ (o : Text → Option Text). c.Gives o w) given_alike second.gives) first.gives one_files
