-- The number of the digits is that of the token.
use Rattle.std.proofs.Common.{ℕ, Option, ap, subst}
use Rattle.replay_code.specs.Going.{Steps}
use Rattle.replay_code.specs.Machine.{Progress, wait_by}
use Rattle.replay_code.proofs.Steps.{number_is}
use Rattle.replay_code.proofs.machine.at_wait.Goals as goal

pub returns-in-Some-number_of : goal.returns-in-Some-number_of
returns-in-Some-number_of c =
    let p = c.args.progress.now in
    let text = ap (λ (q : Progress). q.code.text) c.progress.view_is in
    let number = number_is _ p.code.text c.args.token c.in-Some.digits.now c.in-Some-number_of.units text c.in-Some.ensures c.in-Some-number_of.ensures in
    subst (λ (n : Option ℕ). Steps (wait_by p c.args.at c.args.token n) c.wait_for.result c.wait_for.new.progress) number c.wait_for.ensures
