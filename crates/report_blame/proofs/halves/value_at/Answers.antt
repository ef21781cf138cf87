-- The value of the cone is the bit in the world of the joined filling.
use Rattle.std.proofs.Common.{◌∙◌, subst}
use Rattle.std.proofs.lemmas.Result.{IfOk-weaker}
use Rattle.design_circuit.specs.Filling.{bit_of}
use Rattle.design_circuit.specs.Job.{Job}
use Rattle.wave_proved.specs.Contents.{job}
use Rattle.report_blame.specs.Joined.{IsJoined, joined_bit}
use Rattle.report_blame.proofs.Turns.{same_bits}
use Rattle.report_blame.proofs.halves.value_at.Goals as goal

pub returns : goal.returns
returns c =
    let wave = c.args.way.now.wave.now in
    let zeros = c.args.way.now.zero.now in
    let ones = c.args.way.now.one.now in
    let cut = c.args.cut in
    let joined : IsJoined (job wave) ones cut zeros cut c.in_ok-filling.filling =
    subst (λ (j : Job). IsJoined j ones cut zeros cut c.in_ok-filling.filling) c.circuit-circuit.ensures.job
    c.in_ok-filling.ensures in
    IfOk-weaker c.value.result _ _ (λ bit is. is wave c.args.way.now.number c.requires.cone joined.is_filling
    ∙ same_bits wave c.circuit-circuit.ensures.wave (bit_of (job wave) c.in_ok-filling.filling)
    (joined_bit (job wave) ones cut zeros cut) c.args.way.now.number c.requires.way.within
    (λ k low. joined.bits k)) c.value.ensures.world
