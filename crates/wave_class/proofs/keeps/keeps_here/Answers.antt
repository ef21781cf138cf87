-- A place behind the first step stands a width behind that of its net.
use Rattle.std.proofs.Common.{◌≡◌, ◌∙◌, ◌||◌, Bool, true, false, refl, sym, ap}
use Rattle.design_circuit.specs.Circuit.{job_in}
use Rattle.law_model.specs.Class.{are_equal, before}
use Rattle.wave_class.proofs.StepBefore.{before_back, keeps_later, more_width}
use Rattle.wave_class.proofs.keeps.keeps_here.Goals as goal

pub returns-then-are_equal : goal.returns-then-are_equal
returns-then-are_equal g c =
    let j = job_in c.args.circuit.now in
    let certain = g.C.Source.reads c.args.certain.now in
    let here = c.args.here in
    let back = before_back j c.args.circuit.now.fits.fits_job c.args.place c.width_of-width.result c.requires.within
    c.width_of-width.ensures c.if-place-width.true in
    let same = c.are_equal.ensures ∙ ap (are_equal here) (c.value.ensures ∙ ap certain back) in
    same ∙ either_true (are_equal here (certain (before j c.args.place))) c.args.carries (sym same
    ∙ c.if-are_equal.true)
    ∙ keeps_later j c.args.circuit.now.fits.fits_job c.args.place here (certain (before j c.args.place)) c.args.carries
    c.requires.within (more_width j.width c.width_of-width.result c.args.place c.width_of-width.ensures
    c.if-place-width.true)
  where
    either_true : (a b : Bool) → a ≡ true → a ≡ a || b
    either_true true b is = refl
    either_true false b is = cc

pub returns-else-are_equal : goal.returns-else-are_equal
returns-else-are_equal g c =
    let j = job_in c.args.circuit.now in
    let certain = g.C.Source.reads c.args.certain.now in
    let here = c.args.here in
    let back = before_back j c.args.circuit.now.fits.fits_job c.args.place c.width_of-width.result c.requires.within
    c.width_of-width.ensures c.if-place-width.true in
    let same = c.are_equal.ensures ∙ ap (are_equal here) (c.value.ensures ∙ ap certain back) in
    or_else (are_equal here (certain (before j c.args.place))) c.args.carries (sym same ∙ c.if-are_equal.false)
    ∙ keeps_later j c.args.circuit.now.fits.fits_job c.args.place here (certain (before j c.args.place)) c.args.carries
    c.requires.within (more_width j.width c.width_of-width.result c.args.place c.width_of-width.ensures
    c.if-place-width.true)
  where
    or_else : (a b : Bool) → a ≡ false → b ≡ a || b
    or_else false b is = refl
    or_else true b is = cc
