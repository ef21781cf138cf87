-- What `clap` is told of a command.
use Rattle.std.specs.Prelude.{◌==◌, ◌&&◌, nat_lt, length, Bool, true, false, List, [], ◌∷◌, ◌++◌, map, Some, codes}
use Rattle.std.specs.Prelude.{if◌then◌else◌}
use Rattle.clap.specs.Words.{App, Rule, Text, new_app, new_rule}
use Rattle.clap.specs.declared.builder.action.ArgAction.TheVariants.{Set, Append}
use Rattle.clap.specs.declared.builder.value_parser.ValueParser.{ValueParser}
use Rattle.clap.specs.declared.builder.value_parser.ValueParser.TheVariants as parser
use Rattle.base_line.specs.declared.option.Kind.{Kind}
use Rattle.base_line.specs.declared.option.Kind.TheVariants as kind
use Rattle.base_line.specs.declared.option.Opt.{Opt}

abbrev pub parser_for : Kind → ValueParser
parser_for (kind.Number least most) = parser.Unsigned least most
parser_for (kind.Word words) = parser.Names words
parser_for kind.Reads = parser.NonEmptyString
parser_for kind.Writes = parser.NonEmptyString
parser_for kind.Prefix = parser.NonEmptyString
parser_for kind.Name = parser.NonEmptyString
parser_for kind.Scope = parser.NonEmptyString
parser_for (kind.Either one other) = parser.NonEmptyString
parser_for kind.Sets = parser.NonEmptyString

-- An option takes one value, and comes once.
abbrev pub rule_for : Opt → Rule
rule_for o = record (new_rule o.name.now) {
  long = Some o.name.now;
  action = Some Set;
  required = o.required;
  parser = Some (parser_for o.kind);
}

-- The FILEs, which take all words from the first of them on.
abbrev pub file_rule : Rule
file_rule = record (new_rule (codes "FILE")) {
  action = Some Append;
  required = true;
  trailing_var_arg = true;
}

abbrev pub file_rules : Bool → List Rule
file_rules files = if files then file_rule ∷ [] else []

-- No help, no version, no short names.
abbrev pub app_with : Text → List Rule → App
app_with name rules = record {
  top = record (new_app name).top { rules = rules; no_binary_name = true; disable_help_flag = true };
  subs = [];
}

abbrev pub app_for : Text → List Opt → Bool → App
app_for name options files = app_with name (map rule_for options ++ file_rules files)

-- A word that begins with `-` begins with `--` and goes on.
abbrev pub is_flag : Text → Bool
is_flag [] = false
is_flag (byte ∷ bytes) = byte == 45 && nat_lt 0 (length bytes)

abbrev pub is_word : Text → Bool
is_word [] = true
is_word (byte ∷ bytes) = if byte == 45 then is_flag bytes else true
