-- What words that were read name.
use Rattle.std.specs.Prelude.{◌≡◌, Bool, false, List, [], Option, None, codes, option_map, unwrap_or, IfSome}
use Rattle.std.specs.Prelude.{if◌then◌else◌}
use Rattle.std.specs.List.{AllByRecursion}
use Rattle.std.specs.Str.{bytes_eq}
use Rattle.clap.specs.Words.{first_value, found_of, matched_of, raw_values}
use Rattle.clap.specs.declared.parser.ArgMatches.{ArgMatches}
use Rattle.base_line.specs.declared.option.Opt.{Opt}
use Rattle.base_line.specs.declared.line.Line.{Line}
use Rattle.base_line.specs.Line.{Fits, IsLine, IsValue, Item, Text, given}

abbrev pub value_in_matches : ArgMatches → Text → Option Text
value_in_matches m n = first_value (found_of m) n

abbrev pub files_in : ArgMatches → List Text
files_in m = unwrap_or (option_map raw_values (matched_of (found_of m) (codes "FILE"))) []

-- The value that is given for a name, and the FILEs.
abbrev pub value_of : Line → Text → Option Text
value_of line = value_in_matches line.matches

abbrev pub files_of : Line → List Text
files_of line = files_in line.matches

-- The values of options alone: FILE has none.
abbrev pub options_by : (Text → Option Text) → Text → Option Text
options_by option name = if bytes_eq name (codes "FILE") then None else option name

-- The line is in the set, and these are its values.
pub record ReadsLine (options : List Opt) (has_files : Bool) (words : List Text) (line : Line) : Type 0 where
  pub items : List Item
  pub is : IsLine options has_files words items (files_of line)
  pub each : (name : Text) → bytes_eq name (codes "FILE") ≡ false → value_of line name ≡ given items name

-- It has no others.
pub record HasOnly (options : List Opt) (has_files : Bool) (words : List Text) (line : Line) : Type 0 where
  pub files : (items : List Item) (files : List Text) → IsLine options has_files words items files
      → files ≡ files_of line
  pub each : (items : List Item) (files : List Text) → IsLine options has_files words items files
      → (name : Text) → bytes_eq name (codes "FILE") ≡ false → given items name ≡ value_of line name

-- The value of an option, if it is given, is one that the option takes.
abbrev pub IsFitting : ArgMatches → Opt → Type 0
IsFitting m o = IfSome (value_in_matches m o.name.now) (λ value. IsValue value × Fits o.kind value)

abbrev pub HasFitting : List Opt → ArgMatches → Type 0
HasFitting options m = AllByRecursion (IsFitting m) options
