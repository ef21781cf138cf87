-- The way goes on to the root.
use Rattle.std.proofs.Common.{◌∙◌, Bool, sym, ap, subst}
use Rattle.law_model.specs.Cone.{is_carried}
use Rattle.wave_proved.proofs.Ways.{IsWay, not_carried, way_end, way_less, way_more}
use Rattle.wave_proved.proofs.wave.Wave.root.Goals as goal

pub way-smaller : goal.way-smaller
way-smaller c =
    way_less c.args.self.now c.args.number c.way.place c.way.inverted c.in-Carried.from c.in-Carried.flips
    c.requires.wave c.requires.written c.way.invariant (sym c.class_by_number.ensures ∙ c.in-Carried.is)

pub way-preserved : goal.way-preserved
way-preserved c = subst (λ (b : Bool). IsWay c.args.self.now c.args.number c.in-Carried.from b)
    (sym c.flipped-inverted.ensures)
    (way_more c.args.self.now c.args.number c.way.place c.way.inverted c.in-Carried.from c.in-Carried.flips
    c.requires.wave c.requires.written c.way.invariant (sym c.class_by_number.ensures ∙ c.in-Carried.is))

pub returns : goal.returns
returns c =
    let free = not_carried c.class_by_number.result c.in_default.not-Carried in
    let ends = way_end c.args.self.now c.args.number c.way.place c.way.inverted c.way.invariant
    (sym (ap is_carried c.class_by_number.ensures) ∙ free) in
    record { place = ends.0; inverted = ends.1; within = c.way.invariant.low }
