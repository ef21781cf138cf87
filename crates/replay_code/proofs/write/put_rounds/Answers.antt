-- One wait more.
use Rattle.std.proofs.Common.{◌++◌, ◌-◌, ◌+◌, ◌∙◌, sym, ap, arith, append_assoc}
use Rattle.std.proofs.lemmas.List.{append-nil}
use Rattle.replay_code.specs.Written.{round_lines, wait_line}
use Rattle.replay_code.proofs.Waits.{last_round, next_round}
use Rattle.replay_code.proofs.write.put_rounds.Goals as goal

pub rounds-preserved : goal.rounds-preserved
rounds-preserved c =
    let more = next_round c.args.count c.rounds.counter c.rounds-test.true in
    let left = round_lines (c.args.count - (c.rounds.counter + 1)) in
    ap (λ t. t ++ left) c.in_ok-put_wait.ensures
    ∙ (append_assoc c.rounds.text.items (wait_line 0) left ∙ (ap (λ t. c.rounds.text.items ++ t) (sym more) ∙ c.rounds.invariant))

pub returns : goal.returns
returns c =
    let end = c.rounds-test.false in
    let none = last_round c.args.count c.rounds.counter (omega (arith, end)) in
    sym (append-nil c.rounds.text.items) ∙ (ap (λ t. c.rounds.text.items ++ t) (sym none) ∙ c.rounds.invariant)
