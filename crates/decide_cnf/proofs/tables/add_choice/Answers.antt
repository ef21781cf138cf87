-- The merged literals of a choice are its clause, and where two are opposed it has none.
use Rattle.std.proofs.Common.{ℕ, Bool, List, length, sym, ◌∙◌, subst, MatchOption}
use Rattle.std.specs.Prelude.{ℤ}
use Rattle.std.proofs.lemmas.Result.{on_ok_weaker}
use Rattle.decide_cnf.specs.Clauses.{node_says}
use Rattle.decide_cnf.specs.Growth.{IsChoiceClause, IsGrown}
use Rattle.decide_cnf.specs.Merged.{AreOpposed, IsMerged}
use Rattle.decide_cnf.proofs.GrownLists.{choice_grown, chosen_below, grown_same, opposed_clause}
use Rattle.decide_cnf.proofs.tables.add_choice.Goals as goal

pub returns-in-Some : goal.returns-in-Some
returns-in-Some c =
    let arguments : List ℕ = c.args.table.now.arguments.now in
    let count : ℕ = length arguments in
    let says : ℕ → Bool → ℤ = node_says c.args.table.now.literals.now arguments c.args.table.now.position in
    let found = subst (λ o. MatchOption o (AreOpposed c.as_slice.result.now) (λ v. IsMerged c.as_slice.result.now v.items))
    c.in-Some.is c.in_ok-list.ensures in
    let merged = subst (λ wanted. IsMerged wanted c.in-Some.list.items)
    (c.as_slice.ensures ∙ c.in_ok-wanted.ensures) found in
    on_ok_weaker c.push.result (λ pushed. subst (IsGrown (IsChoiceClause c.args.table.now.literals.now arguments
    c.args.table.now.position c.args.bit c.args.choice) c.args.lists.now) (sym pushed)
    (choice_grown says count c.args.choice c.args.bit (chosen_below count c.args.choice c.requires.among)
    c.args.lists.now c.in-Some.list.items merged)) c.push.ensures

pub returns : goal.returns
returns c =
    let arguments : List ℕ = c.args.table.now.arguments.now in
    let count : ℕ = length arguments in
    let says : ℕ → Bool → ℤ = node_says c.args.table.now.literals.now arguments c.args.table.now.position in
    let found = subst (λ o. MatchOption o (AreOpposed c.as_slice.result.now) (λ v. IsMerged c.as_slice.result.now v.items))
    c.in-None.is c.in_ok-list.ensures in
    let opposed = subst AreOpposed (c.as_slice.ensures ∙ c.in_ok-wanted.ensures) found in
    grown_same (IsChoiceClause c.args.table.now.literals.now arguments c.args.table.now.position c.args.bit
    c.args.choice) c.args.lists.now
    (opposed_clause says count c.args.choice c.args.bit (chosen_below count c.args.choice c.requires.among) opposed)
