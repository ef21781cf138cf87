-- What the options of a job give, and the values that its words name.
use Rattle.std.specs.Prelude.{◌≡◌, ◌∷◌, ℕ, ◌≤◌, List, Option, Some, None, codes, map, string_bytes}
use Rattle.cmd_words.specs.declared.words.Form.{Form}
use Rattle.cmd_words.specs.declared.words.Form.TheVariants.{Lines, Turns}
use Rattle.cmd_words.specs.declared.words.JobWords.{JobWords}
use Rattle.cmd_words.specs.declared.words.Levels.{Levels}
use Rattle.cmd_words.specs.declared.words.Levels.TheVariants.{Change, Hold}
use Rattle.cmd_words.specs.declared.words.Start.{Start}
use Rattle.cmd_words.specs.declared.words.Start.TheVariants.{Cold, Recorded}
use Rattle.cmd_words.specs.declared.words.Undriven.{Undriven}
use Rattle.cmd_words.specs.declared.words.Undriven.TheVariants as named
use Rattle.base_line.specs.Line.{IsNumber, Text}

-- ---- values

-- The number of an option that may be absent, from 1 to the most.
abbrev pub IsCount : Option Text → ℕ → ℕ → ℕ → Type 0
IsCount None absent most count = count ≡ absent
IsCount (Some text) absent most count = IsNumber text count × (1 ≤ count) × (count ≤ most)

-- The sources up to which all fillings are tried, 12 to 16, 12 where none are named.
abbrev pub IsSourceCount : Option Text → ℕ → Type 0
IsSourceCount None count = count ≡ 12
IsSourceCount (Some text) count = IsNumber text count × (12 ≤ count) × (count ≤ 16)

abbrev pub start_word : Start → Text
start_word Cold = codes "cold"
start_word Recorded = codes "recorded"

-- The start that is named, cold where none is.
abbrev pub IsStart : Option Text → Start → Type 0
IsStart None start = start ≡ Cold
IsStart (Some text) start = text ≡ start_word start

abbrev pub levels_word : Levels → Text
levels_word Change = codes "change"
levels_word Hold = codes "hold"

-- When levels decide registers, by change where nothing is said.
abbrev pub AreLevels : Option Text → Levels → Type 0
AreLevels None levels = levels ≡ Change
AreLevels (Some text) levels = text ≡ levels_word levels

abbrev pub undriven_word : Undriven → Text
undriven_word named.Released = codes "released"
undriven_word named.Recorded = codes "recorded"

-- What is said of nets without a driver; they are released where nothing is.
abbrev pub IsUndriven : Option Text → Undriven → Type 0
IsUndriven None undriven = undriven ≡ named.Released
IsUndriven (Some text) undriven = text ≡ undriven_word undriven

abbrev pub form_number : Form → ℕ
form_number Lines = 1
form_number Turns = 2

-- The form that is named, form 1 where none is.
abbrev pub IsForm : Option Text → Form → Type 0
IsForm None form = form ≡ Lines
IsForm (Some text) form = IsNumber text (form_number form)

-- ---- what words name

pub record JobValues : Type 0 where
  pub recording : Text
  pub scope : Text
  pub top : Text
  pub rounds : ℕ
  pub places : ℕ
  pub start : Start
  pub levels : Levels
  pub undriven : Undriven
  pub netlists : List Text

-- ---- what options give

-- These are the values of the options that every command with a job has. It has at most 2^27 places where nothing is
-- said, and at most 2^40.
pub record GivesJob (option : Text → Option Text) (job : JobValues) : Type 0 where
  pub recording : option (codes "record") ≡ Some job.recording
  pub scope : option (codes "scope") ≡ Some job.scope
  pub top : option (codes "top") ≡ Some job.top
  pub rounds : IsCount (option (codes "rounds")) 4 16 job.rounds
  pub places : IsCount (option (codes "places")) 134217728 1099511627776 job.places
  pub start : IsStart (option (codes "start")) job.start
  pub levels : AreLevels (option (codes "levels")) job.levels
  pub undriven : IsUndriven (option (codes "undriven")) job.undriven

-- ---- what was read

abbrev pub job_values : JobWords → JobValues
job_values words = record {
  recording = words.recording.now;
  scope = words.scope.now;
  top = words.top.now;
  rounds = words.rounds;
  places = words.places;
  start = words.start;
  levels = words.levels;
  undriven = words.undriven;
  netlists = map string_bytes words.netlists.now;
}

-- The files that a job is read from.
abbrev pub job_reads : JobValues → List Text
job_reads job = job.recording ∷ job.netlists
