-- The number drawn is that of the member drawn.
use Rattle.std.proofs.Common.{ap, ◌∙◌, arith}
use Rattle.cmd_make.specs.Draw.{draw}
use Rattle.cmd_make.proofs.Members.{drawn_is}
use Rattle.cmd_make.proofs.pool.draw_member.Goals as goal

pub returns-clause-drawn : goal.returns-clause-drawn
returns-clause-drawn c =
    let state = c.args.draws.now.state in
    let counted = c.size_of.ensures.counted in
    let within = c.draw.ensures.within in
    drawn_is c.args.gates state c.draw.result
    (c.draw.ensures.drawn ∙ ap (λ n. draw n state) c.size_of.ensures.is) (omega (arith, counted, within))
