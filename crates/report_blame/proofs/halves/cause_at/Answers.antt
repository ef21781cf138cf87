-- The place at the turn is to blame.
use Rattle.std.proofs.Common.{◌≡◌, ◌+◌, ◌∙◌, ap, sym, subst}
use Rattle.design_circuit.specs.Filling.{IsPlace}
use Rattle.design_circuit.specs.Fits.{place_at}
use Rattle.design_circuit.specs.Job.{Job, number_of}
use Rattle.design_circuit.proofs.Numbers.{is_place_at, number_of_place_at}
use Rattle.wave_proved.specs.Contents.{job}
use Rattle.report_blame.specs.Joined.{IsJoined}
use Rattle.report_blame.proofs.Turns.{turn_blames}
use Rattle.report_blame.proofs.halves.cause_at.Goals as goal

pub returns : goal.returns
returns c =
    let wave = c.args.way.now.wave.now in
    let zeros = c.args.way.now.zero.now in
    let ones = c.args.way.now.one.now in
    let j = job wave in
    let cut = c.args.cut in
    let turn = c.requires.turn in
    let same = c.circuit-circuit.ensures.job in
    let fits = c.circuit-circuit.ensures.wave.fits.fits_job in
    let at : c.place_of.result ≡ place_at j cut = c.place_of.ensures ∙ ap (λ (i : Job). place_at i cut) same in
    turn_blames wave c.circuit-circuit.ensures.wave zeros ones c.in_ok-others.others c.args.way.now.number cut
    c.place_of.result c.requires.way.within turn
    (subst (IsPlace j) (sym at) (is_place_at j cut fits.ordering fits.all turn.within))
    (ap (number_of j) at ∙ number_of_place_at j cut fits.ordering fits.all turn.within)
    (subst (λ (i : Job). IsJoined i ones cut zeros (cut + 1) c.in_ok-others.others) same c.in_ok-others.ensures)
