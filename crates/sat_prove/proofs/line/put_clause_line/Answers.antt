-- The words, and then the number.
use Rattle.std.proofs.Common.{◌∙◌, ◌++◌, List, ℕ, ap, codes}
use Rattle.std.specs.Fmt.{decimal}
use Rattle.std.proofs.lemmas.List.{append_assoc}
use Rattle.sat_prove.proofs.line.put_clause_line.Goals as goal

pub returns : goal.returns
returns c =
    let number = decimal c.args.clause in
    c.in_ok-put_number.ensures
    ∙ ap (λ (l : List ℕ). l ++ number) c.in_ok-put.ensures
    ∙ append_assoc c.args.text.now.items (codes "refused: log clause ") number
