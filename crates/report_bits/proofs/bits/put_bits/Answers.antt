-- The lines of bound bits are those of their nets.
use Rattle.std.proofs.Common.{◌≡◌, ◌++◌, ◌∙◌, List, ℕ, OnOk, length, ap, subst, sym}
use Rattle.report_bits.specs.Bits.{bit_lines}
use Rattle.report_bits.specs.Marked.{moments_lines}
use Rattle.report_bits.proofs.BitLines.{bound_lines}
use Rattle.report_bits.proofs.bits.put_bits.Goals as goal

pub returns-in-Some : goal.returns-in-Some
unfolding bit_lines
returns-in-Some c =
    let wave = c.args.from.now.wave.now in
    let moments = length wave.stim.times in
    let nets = rw c.in-Some.is at c.in_ok-found.ensures.nets in
    let all = ap (λ (nets : List ℕ). moments_lines wave c.args.from.now.lines nets 0 moments) nets
    ∙ sym (bound_lines wave c.args.from.now.lines c.args.bound.now.bound 0 moments) in
    subst (λ (lines : List ℕ). OnOk c.put_moments.result
    (c.put_moments.new.writer.text.items ≡ c.args.writer.now.text.items ++ lines)) all c.put_moments.ensures
