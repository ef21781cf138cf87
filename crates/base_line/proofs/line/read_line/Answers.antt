-- What `clap` read and the checks beside it are the set.
use Rattle.std.proofs.Common.{rules, ◌≡◌, ◌≢◌, ◌∙◌, sym, ap, subst, true, false, map, []}
use Rattle.std.specs.Prelude.{string_bytes}
use Rattle.clap.specs.Kinds.{HasKind}
use Rattle.clap.specs.Faults.{fault_of, is_simple_and_free}
use Rattle.clap.specs.Simple.{App, app_of, is_simple, matches_of}
use Rattle.clap.specs.Matches.{found_of}
use Rattle.clap.specs.Values.{kind_of}
use Rattle.clap.specs.Walk.{rows_of}
use Rattle.clap.specs.declared.error.kind.ErrorKind.TheVariants.{OutOfMemory}
use Rattle.base_line.specs.Told.{app_for, is_word}
use Rattle.base_line.proofs.Rules.{simple, simple_and_free}
use Rattle.base_line.proofs.Through.{AreWords}
use Rattle.base_line.proofs.Settling.{line_only, line_reads, map_from, map_to, none_weaker, outside_error, outside_values, outside_words, some_weaker}
use Rattle.base_line.proofs.line.read_line.Goals as goal

pub returns-then-not-are_words-clause-none : goal.returns-then-not-are_words-clause-none
returns-then-not-are_words-clause-none c =
    outside_words c.args.name.now c.args.options.now c.args.files c.requires (map string_bytes c.args.words.now)
    (λ all. (
    let t : c.are_words.result ≡ true = c.are_words.ensures.1 (map_from (λ w. is_word w ≡ true) string_bytes c.args.words.now all) in
    let bad : false ≡ true = sym c.if-not-are_words.true ∙ t in cc))

pub returns-in-Ok-clause-set : goal.returns-in-Ok-clause-set
returns-in-Ok-clause-set c =
    let title = c.args.name.now in
    let os = c.args.options.now in
    let files = c.args.files in
    let words = map string_bytes c.args.words.now in
    let app = app_for title os files in
    let app_is = c.in_ok-command.ensures in
    let rows : rows_of (found_of c.in-Ok.matches) ≡ matches_of app words = (c.in-Ok.ensures.matches (ap is_simple app_is ∙ simple title os files)).0 ∙ ap (λ (a : App). matches_of a words) app_is in
    let none : fault_of app words ≡ [] = sym (ap (λ (a : App). fault_of a words) app_is) ∙ c.in-Ok.ensures.kinds (ap is_simple_and_free app_is ∙ simple_and_free title os files) in
    let are : AreWords words = map_to (λ w. is_word w ≡ true) string_bytes c.args.words.now (c.are_words.ensures.0 c.if-not-are_words.false) in
    some_weaker c.line_of.result _ _ (λ line h. line_reads title os files c.requires words c.in-Ok.matches rows line h.0 are none h.1 h.2) c.line_of.ensures.some

pub returns-in-Ok-clause-only : goal.returns-in-Ok-clause-only
returns-in-Ok-clause-only c =
    let title = c.args.name.now in
    let os = c.args.options.now in
    let files = c.args.files in
    let words = map string_bytes c.args.words.now in
    let app = app_for title os files in
    let app_is = c.in_ok-command.ensures in
    let rows : rows_of (found_of c.in-Ok.matches) ≡ matches_of app words = (c.in-Ok.ensures.matches (ap is_simple app_is ∙ simple title os files)).0 ∙ ap (λ (a : App). matches_of a words) app_is in
    some_weaker c.line_of.result _ _ (λ line h. line_only title os files c.requires words c.in-Ok.matches rows line h.0) c.line_of.ensures.some

pub returns-in-Ok-clause-none : goal.returns-in-Ok-clause-none
returns-in-Ok-clause-none c =
    let title = c.args.name.now in
    let os = c.args.options.now in
    let files = c.args.files in
    let words = map string_bytes c.args.words.now in
    let app = app_for title os files in
    let app_is = c.in_ok-command.ensures in
    let rows : rows_of (found_of c.in-Ok.matches) ≡ matches_of app words = (c.in-Ok.ensures.matches (ap is_simple app_is ∙ simple title os files)).0 ∙ ap (λ (a : App). matches_of a words) app_is in
    none_weaker c.line_of.result _ _ (λ h. outside_values title os files c.requires words c.in-Ok.matches rows h) c.line_of.ensures.none

pub returns-clause-none : goal.returns-clause-none
returns-clause-none c =
    let title = c.args.name.now in
    let os = c.args.options.now in
    let files = c.args.files in
    let words = map string_bytes c.args.words.now in
    let app_is = c.in_ok-command.ensures in
    let other : kind_of c.in-Err.error ≢ OutOfMemory = search rules in
    let has : HasKind (fault_of (app_of c.in_ok-command.command) words) c.in-Err.error = c.in-Err.ensures.kinds (ap is_simple_and_free app_is ∙ simple_and_free title os files) in
    outside_error title os files c.requires words c.in-Err.error other (subst (λ (a : App). HasKind (fault_of a words) c.in-Err.error) app_is has)
