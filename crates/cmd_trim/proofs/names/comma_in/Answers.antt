-- The first comma.
use Rattle.std.proofs.Common.{rules, ◌≡◌, sym, get_or, arith, true}
use Rattle.std.specs.Prelude.{◌==◌}
use Rattle.std.proofs.lemmas.List.Sums.{position_or_len_is}
use Rattle.cmd_trim.proofs.names.comma_in.Goals as goal

pub returns-then-list-place-eq44 : goal.returns-then-list-place-eq44
returns-then-list-place-eq44 c =
    let here : (get_or c.args.list.now c.bytes.place 0 == 44) ≡ true = search rules in
    sym (position_or_len_is (λ b. b == 44) c.args.list.now c.bytes.place 0 c.bytes.invariant.within c.bytes.invariant.before (λ _. here))

pub returns : goal.returns
returns c =
    sym (position_or_len_is (λ b. b == 44) c.args.list.now c.bytes.place 0 c.bytes.invariant.within c.bytes.invariant.before (λ inside. absurd (omega arith)))
