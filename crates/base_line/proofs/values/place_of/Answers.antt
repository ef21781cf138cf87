-- The first byte that is the one.
use Rattle.std.proofs.Common.{rules, ◌≡◌, sym, get_or, arith, true}
use Rattle.std.specs.Prelude.{◌==◌}
use Rattle.std.proofs.lemmas.List.Sums.{position_or_len_is}
use Rattle.base_line.proofs.values.place_of.Goals as goal

pub returns-then-bytes-place : goal.returns-then-bytes-place
returns-then-bytes-place c =
    let here : (get_or c.args.bytes.now c.bytes.place 0 == c.args.byte) ≡ true = search rules in
    sym (position_or_len_is (λ b. b == c.args.byte) c.args.bytes.now c.bytes.place 0 c.bytes.invariant.within c.bytes.invariant.before (λ _. here))

pub returns : goal.returns
returns c =
    sym (position_or_len_is (λ b. b == c.args.byte) c.args.bytes.now c.bytes.place 0 c.bytes.invariant.within c.bytes.invariant.before (λ inside. absurd (omega arith)))
