-- The words give one set of values, or none.
use Rattle.std.proofs.Common.{map, ◌<◌, ◌∙◌, ap, length, List, ℕ, subst, sym}
use Rattle.std.specs.Prelude.{string_bytes}
use Rattle.std.proofs.lemmas.List.{length-map}
use Rattle.base_line.specs.Line.{Text, words_of_items}
use Rattle.cmd_trim.proofs.Lines.{files_some, none_of, only_of, set_of}
use Rattle.cmd_trim.proofs.words.words_in.Goals as goal

pub files_in-requires : goal.files_in-requires
files_in-requires c = (words_of_items c.requires.reads.items, c.requires.reads.is.is)

pub words_of-requires : goal.words_of-requires
words_of-requires c =
    subst (λ (n : ℕ). 0 < n) (sym (sym (length-map c.files_in.result.now string_bytes) ∙ ap (λ (l : List Text). length l) c.files_in.ensures))
    (files_some (map string_bytes c.args.words.now) c.args.line.now c.requires)

pub returns-clause-set : goal.returns-clause-set
returns-clause-set c =
    set_of (map string_bytes c.args.words.now) (map string_bytes c.files_in.result.now) c.args.line.now c.requires c.files_in.ensures c.words_of.result c.words_of.ensures.files c.words_of.ensures.gives

pub returns-clause-only : goal.returns-clause-only
returns-clause-only c =
    only_of (map string_bytes c.args.words.now) c.words_of.result
    (set_of (map string_bytes c.args.words.now) (map string_bytes c.files_in.result.now) c.args.line.now c.requires c.files_in.ensures c.words_of.result c.words_of.ensures.files c.words_of.ensures.gives)

pub returns-clause-none : goal.returns-clause-none
returns-clause-none c =
    none_of (map string_bytes c.args.words.now) (map string_bytes c.files_in.result.now) c.args.line.now c.requires c.files_in.ensures c.words_of.result c.words_of.ensures.none
