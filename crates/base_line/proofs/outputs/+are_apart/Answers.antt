-- The first output is none of the others, and the rest are apart.
use Rattle.std.proofs.Common.{rules, ◌≡◌, ◌∷◌, map}
use Rattle.std.specs.Borrow.{Bor}
use Rattle.base_line.specs.Line.{Text}
use Rattle.base_line.proofs.Apart.{none_from, none_to}
use Rattle.base_line.proofs.outputs.+are_apart.Goals as goal

pub returns-in-Some : goal.returns-in-Some
returns-in-Some t c =
    let output = c.in-Some.output.now.now in
    let rest = c.in-Some.rest.now in
    let whole : map (λ (s : Bor Text). s.now) c.args.outputs.now ≡ output ∷ map (λ (s : Bor Text). s.now) rest = search rules in (
      λ yes. (
          let parts = c.both-in-Some.ensures.0 yes in
          let first = c.both.ensures.0 parts.0 in
          rw whole (none_to (λ (s : Bor Text). s.now) output rest (c.is_none_of.ensures.0 first.0), c.is_no_input.ensures.0 first.1, c.are_apart.ensures.0 parts.1)),
      λ all. (
          let apart = rw whole at all in
          c.both-in-Some.ensures.1 (
            c.both.ensures.1 (c.is_none_of.ensures.1 (none_from (λ (s : Bor Text). s.now) output rest apart.0), c.is_no_input.ensures.1 apart.1),
            c.are_apart.ensures.1 apart.2,
          )),
    )
