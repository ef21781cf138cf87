-- The place comes in.
use Rattle.std.proofs.Common.{◌<◌, ℕ, Option, Some, length, slice_set, subst, sym}
use Rattle.decide_cone.specs.Known.{Keeps, TracerView}
use Rattle.decide_cone.specs.declared.traced.Traced.{Traced}
use Rattle.decide_cone.proofs.KnownBodies.{comes_in}
use Rattle.decide_cone.proofs.tracer.Tracer.keep.Goals as goal

pub returns : goal.returns
returns c =
    let slots = c.make_slots.new.slots.items in
    let stands : Option Traced = Some (record { place = c.args.place; body = c.args.body }) in
    subst (λ (old : TracerView). Keeps old c.args.place c.args.body
    (record { slots = slice_set slots c.slot_of-slot.result stands })) c.self.view_is
    (subst (λ (i : ℕ). Keeps (record { slots = c.self.inside.slots.items }) c.args.place c.args.body
    (record { slots = slice_set slots i stands })) (sym c.slot_of-slot.ensures)
    (comes_in c.self.inside.slots.items slots c.args.place c.args.body c.in_ok-make_slots.ensures.same
    (subst (λ (i : ℕ). i < length slots) c.slot_of-slot.ensures c.in_ok-make_slots.ensures.has)))
