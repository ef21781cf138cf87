-- The set of command lines, `--top T --to F [--stub NAMES] [--supply NAMES] FILE..`, and what each means; NAMES are
-- names joined by commas.
use Rattle.std.specs.Prelude.{◌≡◌, ◌<◌, List, [], ◌∷◌, length, true, Option, None, Some, IsSome, codes, map}
use Rattle.std.specs.Prelude.{option_map, string_bytes}
use Rattle.std.specs.Borrow.{Bor}
use Rattle.std.specs.List.{AllByRecursion}
use Rattle.base_line.specs.declared.option.Opt.{Opt}
use Rattle.base_line.specs.Apart.{AreApart}
use Rattle.base_line.specs.Tables.{Plain, Module, Writes, needs, plain, takes}
use Rattle.base_line.specs.Line.{IsLine, Item, Text, given, pieces_of}
use Rattle.base_line.specs.Read.{HasOnly, ReadsLine}
use Rattle.base_line.specs.declared.line.Line.{Line}
use Rattle.cmd_trim.specs.declared.trim_words.TrimWords.{TrimWords}

abbrev pub table : List Plain
table =
    needs (codes "top") Module ∷ needs (codes "to") Writes ∷ takes (codes "stub") Module
    ∷ takes (codes "supply") Module ∷ []

-- ---- lists of names

-- The names of a list, which commas join; none where there is no list.
abbrev pub names_in : Option Text → List Text
names_in None = []
names_in (Some list) = pieces_of 44 list

-- No name is empty.
abbrev pub AreNames : List Text → Type 0
AreNames names = AllByRecursion (λ (name : Text). 0 < length name) names

-- The lists have names alone, and there are supplies only where there are stubs.
pub record AreLists (stubs supplies : Option Text) : Type 0 where
  pub named : AreNames (names_in stubs)
  pub supplied : AreNames (names_in supplies)
  pub used : IsSome supplies → IsSome stubs

abbrev pub text_in : Option (Bor Text) → Option Text
text_in list = option_map (λ (s : Bor Text). s.now) list

-- ---- what words name

-- What words name: the top, the file that is written, the modules that are stubbed, the inout ports that are supplies,
-- and the files that are read.
pub record TrimValues : Type 0 where
  pub top : Text
  pub to : Text
  pub stubs : List Text
  pub supplies : List Text
  pub files : List Text

abbrev pub trim_values : TrimWords → TrimValues
trim_values w = record {
  top = w.top.now;
  to = w.to.now;
  stubs = names_in (text_in w.stubs);
  supplies = names_in (text_in w.supplies);
  files = map string_bytes w.files.now;
}

-- Options with these values name them; the file that is written is none that is read.
pub record Gives (value : Text → Option Text) (v : TrimValues) : Type 0 where
  pub top : value (codes "top") ≡ Some v.top
  pub to : value (codes "to") ≡ Some v.to
  pub stubs : v.stubs ≡ names_in (value (codes "stub"))
  pub supplies : v.supplies ≡ names_in (value (codes "supply"))
  pub lists : AreLists (value (codes "stub")) (value (codes "supply"))
  pub apart : AreApart (v.to ∷ []) v.files

-- The words are a line of these options, and give these values.
pub record Means (words : List Text) (v : TrimValues) : Type 0 where
  pub options : List Opt
  pub declared : map plain options ≡ table
  pub items : List Item
  pub line : IsLine options true words items v.files
  pub gives : Gives (given items) v

abbrev pub AreOutside : List Text → Type 0
AreOutside words = (v : TrimValues) → Means words v → ⊥

-- They mean nothing else.
abbrev pub MeansOnly : List Text → TrimValues → Type 0
MeansOnly words v = (other : TrimValues) → Means words other → other ≡ v

-- What was read is a line of these options, and the words name nothing else.
pub record IsTrimLine (words : List Text) (line : Line) : Type 0 where
  pub options : List Opt
  pub declared : map plain options ≡ table
  pub reads : ReadsLine options true words line
  pub only : HasOnly options true words line
