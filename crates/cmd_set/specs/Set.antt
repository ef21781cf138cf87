-- A set of commands, each by its name, and what a run of one comes to by its status.
use Rattle.std.specs.Prelude.{◌⊎◌, ◌≡◌, ℕ, List, ◌∷◌, Option, Some, None}
use Rattle.base_lists.specs.Text.{line}
use Rattle.base_line.specs.Line.{Text}
use Rattle.base_shelf.specs.Shelf.{View}
use Rattle.base_shelf.specs.Sink.{SinkView}
use Rattle.base_run.specs.Ends.{NoFault, Commands, LinePrinted, MemoryPrinted, Ran, Reporting}
use Rattle.base_run.specs.Lines.{usage_line}
use Rattle.base_run.specs.Phases.{Answer, Phases}
use Rattle.base_run.specs.Rows.{DoneRow, Start, TextRow}
use Rattle.cmd_set.specs.declared.inputs.Inputs.{Inputs}
use Rattle.cmd_set.specs.Command.{Command, IsLineOf, IsNoLineOf, ReportsInputs, names_of}

-- A command ran on the words after it; or they are none of its lines, or memory ran out before that was known.
pub data RanAs {C : Type 0} (c : Command C) (t : Reporting C) (rest : List Text) (s : Start) (shelf : View)
    (sink : SinkView) (status : ℕ) : Type 0 where
  ends_outside : IsNoLineOf c rest → shelf ≡ s.shelf → LinePrinted s.sink_told usage_line 2 s.sink sink status
      → RanAs c t rest s shelf sink status
  ends_without_words : shelf ≡ s.shelf → MemoryPrinted s.sink_told s.sink sink status
      → RanAs c t rest s shelf sink status
  ends_within : (v : c.Values) → IsLineOf c rest v → Ran (c.phases v) t s shelf sink status
      → RanAs c t rest s shelf sink status

module _ {C Name : Type 0} (command_of : Name → Command C) where
  -- What words of each command name: the command, and its values.
  abbrev pub Values : Type 0
  Values = (name : Name) × (command_of name).Values

  abbrev pub phases_of : Values → Phases Answer C
  phases_of v = (command_of v.0).phases v.1

  abbrev pub inputs_of : Values → List Text
  inputs_of v = (command_of v.0).inputs v.1

  -- The words are in the set, and mean this.
  pub record Means (words : List Text) (v : Values) : Type 0 where
    pub rest : List Text
    pub is : words ≡ (command_of v.0).word ∷ rest
    pub line : IsLineOf (command_of v.0) rest v.1

  -- They are outside of it.
  abbrev pub AreOutside : List Text → Type 0
  AreOutside words = (v : Values) → Means words v → ⊥

  -- They mean nothing else.
  abbrev pub MeansOnly : List Text → Values → Type 0
  MeansOnly words v = (other : Values) → Means words other → other ≡ v

  -- The command that they mean reads these files.
  pub record ReadsInputs (words : List Text) (inputs : Inputs) : Type 0 where
    pub values : Values
    pub means : Means words values
    pub only : MeansOnly words values
    pub names : names_of inputs ≡ inputs_of values
    pub most : inputs.most ≡ (command_of values.0).most

  -- Or there are none, where the words are outside of the set.
  abbrev pub AreInputsOf : List Text → Option Inputs → Type 0
  AreInputsOf words None = AreOutside words
  AreInputsOf words (Some inputs) = ReadsInputs words inputs

  abbrev pub commands : Reporting C → Commands
  commands reporting = record {
    Words = Values;
    Cause = C;
    Means = Means;
    phases_of = phases_of;
    reporting = reporting;
  }

  -- 0: the words mean this, and its answer is written and printed. Where the shelf reports what is read, the answer
  -- says what is promised.
  pub record Done (s : Start) (shelf : View) (sink : SinkView) : Type 0 where
    pub words : Values
    pub means : Means s.line words
    pub row : DoneRow (phases_of words) s shelf sink
    pub says : ReportsInputs (inputs_of words) s.shelf_told
        → (command_of words.0).Says s.shelf.files words.1 row.answer

  -- 5 to 19: the texts are refused for a cause of that status, and its line is printed. Where the shelf reports what is
  -- read, they fail so.
  pub record RefusesTexts (t : Reporting C) (s : Start) (shelf : View) (sink : SinkView) (status : ℕ) : Type 0 where
    pub words : Values
    pub means : Means s.line words
    pub cause : C
    pub status_is : status ≡ t.status_of cause
    pub fails : ReportsInputs (inputs_of words) s.shelf_told → (command_of words.0).Fails s.shelf.files words.1 cause
    pub row : TextRow (phases_of words) s shelf cause
    pub printed : LinePrinted s.sink_told (line (t.text_of cause)) (t.status_of cause) s.sink sink status

  -- Where the shelf reports what is read, and the texts are in order, they are answered, want of memory and faults
  -- aside.
  abbrev pub EndsInOrder : Reporting C → Start → View → SinkView → ℕ → Type 0
  EndsInOrder t s shelf sink status = (words : Values) → ReportsInputs (inputs_of words) s.shelf_told
      → Means s.line words → (command_of words.0).InOrder s.shelf.files words.1
      → NoFault (commands t) s words shelf sink → (status ≡ 0) ⊎ (status ≡ 20)
