-- Words that begin with no word of a command are outside of the set.
use Rattle.std.proofs.Common.{rules, ◌≡◌, ◌∙◌, ◌∷◌, [], List, map, Option, None, Some, length, ℕ, ap, refl, sym, arith}
use Rattle.std.specs.Prelude.{IfNone, string_bytes}
use Rattle.cmd_set.proofs.Runs.{outside_none, outside_unnamed}
use Rattle.cmd_program.specs.Commands.{command_of, reporting}
use Rattle.cmd_program.proofs.Lawful.{apart}
use Rattle.cmd_program.proofs.names.command_in.Goals as goal

held : {X P : Type 0} (o : Option X) → P → IfNone o P
held None p = p
held (Some x) p = tt

none_there : {X Y : Type 0} (f : X → Y) (l : List X) → length l ≡ 0 → map f l ≡ []
none_there f [] is = refl
none_there f (x ∷ l) is = absurd (omega (arith, is))

pub returns-in_err-first-clause-none : goal.returns-in_err-first-clause-none
returns-in_err-first-clause-none c =
    held c.from_residual.result (outside_none command_of reporting apart (map string_bytes c.args.words.now) (none_there string_bytes c.args.words.now c.in_err-first.ensures.cases))

pub returns-in_err-name-clause-none : goal.returns-in_err-name-clause-none
returns-in_err-name-clause-none c =
    let words = map string_bytes c.args.words.now in
    let rest = map string_bytes c.in_ok-first.rest.now in
    let first = string_bytes c.in_ok-first.first.now in
    let is : words ≡ first ∷ rest = search rules in
    held c.from_residual-in_err-name.result (outside_unnamed command_of reporting apart words first rest is (λ name same. c.in_err-name.ensures.none name (c.as_str.ensures.value ∙ same)))

pub returns-clause-begins : goal.returns-clause-begins
returns-clause-begins c =
    let words = map string_bytes c.args.words.now in
    let rest = map string_bytes c.in_ok-first.rest.now in
    let first = string_bytes c.in_ok-first.first.now in
    let is : words ≡ first ∷ rest = search rules in
    is ∙ ap (λ (f : List ℕ). f ∷ rest) (sym c.as_str.ensures.value ∙ c.in_ok-name.ensures.named)
