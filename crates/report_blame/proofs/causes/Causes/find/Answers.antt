-- What is to blame for the root is to blame for the place.
use Rattle.std.proofs.Common.{◌≡◌, ◌∙◌, Bool, List, ap, sym, subst}
use Rattle.std.proofs.lemmas.Result.{IfOk-weaker}
use Rattle.design_circuit.specs.declared.place.Place.{Place}
use Rattle.design_circuit.specs.Job.{Job, number_of}
use Rattle.law_model.specs.declared.class.ClassByNumber.TheVariants.{Line}
use Rattle.wave_proved.specs.Contents.{class_in, job}
use Rattle.report_blame.specs.ToBlame.{IsToBlame}
use Rattle.report_blame.proofs.RootCauses.{free_blames, root_blames_place}
use Rattle.report_blame.proofs.causes.Causes.find.Goals as goal

pub returns-in-Line-clause-cause : goal.returns-in-Line-clause-cause
returns-in-Line-clause-cause c =
    IfOk-weaker c.find_line.result _ _ (λ cause blames. root_blames_place c.args.wave.now c.circuit.ensures.wave
    c.args.place (c.in_ok-root.root.place, c.in_ok-root.root.inverted) c.requires.written c.in_ok-root.ensures.root.root cause.source cause.others blames)
    c.find_line.ensures.cause

pub returns-in_default-clause-cause : goal.returns-in_default-clause-cause
returns-in_default-clause-cause c =
    let wave = c.args.wave.now in
    let root : Place × Bool = (c.in_ok-root.root.place, c.in_ok-root.root.inverted) in
    let number : c.number_of-number.result ≡ number_of (job wave) root.0 =
    c.number_of-number.ensures.number ∙ ap (λ (j : Job). number_of j root.0) c.circuit.ensures.job in
    let other : class_in wave (number_of (job wave) root.0) ≡ Line → ⊥ =
    λ line. c.in_default.not-Line (c.class_by_number.ensures ∙ ap (class_in wave) number ∙ line) in
    let blames = free_blames wave c.circuit.ensures.wave c.args.place root c.requires.written
    c.in_ok-root.ensures.root.root c.requires.unknown other in
    subst (λ (others : List Place). IsToBlame wave (number_of (job wave) c.args.place) root.0 others)
    (sym (c.from_vec.ensures ∙ c.new.ensures.items)) blames
