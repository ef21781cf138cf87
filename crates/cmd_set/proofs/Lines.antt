-- A line that was read, and what it gives.
use Rattle.std.proofs.Common.{◌≡◌, ◌∙◌, List, ◌++◌, map, sym, subst}
use Rattle.std.specs.Prelude.{IfNone, Option, Some, None}
use Rattle.base_line.specs.declared.line.Line.{Line}
use Rattle.base_line.specs.declared.option.Opt.{Opt}
use Rattle.base_line.specs.Line.{HasFiles, IsLine, IsOutside, Text, given, words_of_items}
use Rattle.base_line.specs.Read.{HasOnly, ReadsLine, files_of, options_by, value_of}
use Rattle.base_line.specs.Tables.{plain}
use Rattle.base_line.proofs.Alike.{line_alike}
use Rattle.base_line.proofs.SameOptions.{same_options}
use Rattle.cmd_set.specs.Command.{Command, IsLineOf, IsNoLineOf}

module _ {C : Type 0} (c : Command C) (rest : List Text) (options : List Opt) (table : map plain options ≡ c.table) where
  moved : (v : c.Values) (l : IsLineOf c rest v) → IsLine options c.has_files rest l.items (c.files v)
  moved v l = line_alike l.options options (l.table ∙ sym table) c.has_files rest l.items (c.files v) l.line

  -- Words that are no line of the options give nothing.
  pub outside : IsOutside options c.has_files rest → IsNoLineOf c rest
  outside none v l = none l.items (c.files v) (moved v l)

  module _ (line : Line) where
    -- The FILEs stand last, and are there where the command has them.
    pub files_last : ReadsLine options c.has_files rest line → (before : List Text) × (rest ≡ before ++ files_of line)
    files_last r = (words_of_items r.items, r.is.is)

    pub some_files : ReadsLine options c.has_files rest line → (files : List Text) → files ≡ files_of line → HasFiles c.has_files files
    some_files r files is = subst (HasFiles c.has_files) (sym is) r.is.some

    pub gives_line : ReadsLine options c.has_files rest line → (v : c.Values) (files : List Text) → c.files v ≡ files → files ≡ files_of line → c.Gives (options_by (value_of line)) v → IsLineOf c rest v
    gives_line r v files of is gives = record {
      items = r.items;
      options = options;
      table = table;
      line = subst (λ (f : List Text). IsLine options c.has_files rest r.items f) (sym (of ∙ is)) r.is;
      gives = subst (λ (o : Text → Option Text). c.Gives o v) (same_options (value_of line) (given r.items) r.each) gives;
    }

    pub gives_none : HasOnly options c.has_files rest line → (files : List Text) → files ≡ files_of line
        → ((v : c.Values) → c.files v ≡ files → c.Gives (options_by (value_of line)) v → ⊥) → IsNoLineOf c rest
    gives_none only files is none v l =
        none v (only.files l.items (c.files v) (moved v l) ∙ sym is)
        (subst (λ (o : Text → Option Text). c.Gives o v) (same_options (given l.items) (value_of line) (only.each l.items (c.files v) (moved v l))) l.gives)

-- What holds where there is none, and what follows from it.
pub none_then : {X P Q : Type 0} (o : Option X) → (P → Q) → IfNone o P → IfNone o Q
none_then None then p = then p
none_then (Some x) then p = tt
