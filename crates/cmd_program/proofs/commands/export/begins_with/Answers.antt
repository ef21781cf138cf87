-- The name is the prefix and what stands after it, or it doesn't begin with the prefix.
use Rattle.std.proofs.Common.{◌≡◌, ◌∙◌, ◌≢◌, List, ℕ, ◌++◌, Some, None, sym, ap, true≢false}
use Rattle.std.proofs.lemmas.Bool.Decides.{Decides-eqb}
use Rattle.std.proofs.lemmas.Slice.Eq.{strip_prefix_is}
use Rattle.cmd_program.proofs.Free.{begins_from, begins_none, begins_to}
use Rattle.cmd_program.proofs.commands.export.begins_with.Goals as goal

pub returns-in-Some : goal.returns-in-Some
returns-in-Some c =
    let ending = c.in-Some.ending.now in
    let is : c.args.name.now ≡ c.args.prefix.now ++ ending =
    sym c.as_bytes.ensures.value
    ∙ strip_prefix_is Decides-eqb c.as_bytes.result.now c.as_bytes-2.result.now (Some c.in-Some.ending) c.in-Some.ensures.cases
    ∙ ap (λ (p : List ℕ). p ++ ending) c.as_bytes-2.ensures.value in (
      λ yes. begins_to c.args.prefix.now c.args.name.now ending is (c.is_ending.ensures.0 yes),
      λ begins. c.is_ending.ensures.1 (begins_from c.args.prefix.now c.args.name.now ending is begins),
    )

pub returns-in-None : goal.returns-in-None
returns-in-None c =
    let none : (rest : List ℕ) → c.args.name.now ≢ c.args.prefix.now ++ rest =
    λ rest is. strip_prefix_is Decides-eqb c.as_bytes.result.now c.as_bytes-2.result.now None c.in-None.ensures.cases rest
    (c.as_bytes.ensures.value ∙ is ∙ ap (λ (p : List ℕ). p ++ rest) (sym c.as_bytes-2.ensures.value)) in
    (λ no. absurd (true≢false (sym no)), λ begins. absurd (begins_none c.args.prefix.now c.args.name.now none begins))
