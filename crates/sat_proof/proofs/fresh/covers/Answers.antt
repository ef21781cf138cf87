-- One more literal that is marked, and all of them at the end.
use Rattle.std.proofs.Common.{◌≡◌, ◌≤◌, true, length, pos, sym, ◌∙◌, arith, rules}
use Rattle.std.proofs.lemmas.List.{take_all}
use Rattle.std.proofs.lemmas.List.Elements.{All-more, All-same}
use Rattle.sat_proof.specs.Code.{is_false}
use Rattle.sat_proof.proofs.fresh.covers.Goals as goal

pub loop-k-preserved : goal.loop-k-preserved
loop-k-preserved c = All-more (λ l. is_false c.args.marks.now l ≡ true) c.args.literals.now c.loop-k.k (pos 0) c.loop-k-test.true c.loop-k.invariant
    (sym c.is_marked.ensures ∙ c.if-not-is_marked.false)

pub returns : goal.returns
returns c =
    let le : length c.args.literals.now ≤ c.loop-k.k = omega arith in
    ((λ _. All-same (λ l. is_false c.args.marks.now l ≡ true) c.args.literals.now _ (sym (take_all c.loop-k.k c.args.literals.now le)) c.loop-k.invariant), (λ _. search rules))
