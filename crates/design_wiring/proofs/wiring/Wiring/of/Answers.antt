-- A wire more.
use Rattle.std.proofs.Common.{◌≡◌, ◌<◌, ℕ, List, ◌++◌, ◌∙◌, length, map, get_or, ap, sym, arith, length-append, subst, rules}
use Rattle.std.proofs.lemmas.List.{length-map}
use Rattle.design_circuit.specs.declared.design.Driver.{Driver}
use Rattle.design_circuit.specs.declared.design.Pin.{Pin}
use Rattle.design_circuit.specs.Job.{driver_in}
use Rattle.design_wiring.specs.declared.wiring.Head.{Head}
use Rattle.design_wiring.specs.declared.wiring.Kind.{Kind}
use Rattle.design_wiring.specs.Flat.{AreHeadsWithin, wires_in}
use Rattle.design_wiring.specs.Wired.{Wire, kind_of, pins_of, placed, wire_of}
use Rattle.design_wiring.proofs.Tables.{all_within, wirable_at, wire_added}
use Rattle.design_wiring.proofs.wiring.Wiring.of.Goals as goal

pub positions-preserved : goal.positions-preserved
positions-preserved c =
    let order = c.args.order.now in
    let p = c.positions.position in
    let all = c.requires.all in
    let test = c.positions-test.true in
    let nets = ap length c.as_slice-width.ensures in
    let less : p < length order = omega (arith, all, test, nets) in
    let driver_is : c.driver_of-driver.result.now ≡ driver_in c.args.design.now (get_or order p 0) =
    c.driver_of-driver.ensures ∙ ap (driver_in c.args.design.now) c.net.ensures in
    let own = pins_of (driver_in c.args.design.now (get_or order p 0)) in
    let more = map (placed order) own in
    let pins : c.add_pins_of.new.pins.items ≡ c.positions.pins.items ++ more =
    c.in_ok-add_pins_of.ensures ∙ ap (λ (d : Driver). c.positions.pins.items ++ map (placed order) (pins_of d)) driver_is in
    let head : Head = record { kind = c.kind_of.result; start = c.len-start.result; end = c.len.result } in
    let end_is : head.end ≡ length (c.positions.pins.items ++ more) = (let size : c.len.result ≡ length c.add_pins_of.new.pins.items = search rules in size ∙ ap length pins) in
    let start_is : head.start ≡ length c.positions.pins.items = search rules in
    let few = (wirable_at c.args.design.now order p less c.requires.nets).few in
    let long = length-append c.positions.pins.items more in
    let count = length-map own (placed order) in
    let total = ap length pins in
    let so_far = c.positions.invariant.few in
    let wire = λ (net : ℕ). wire_of order (driver_in c.args.design.now net) in
    let same : wire (get_or order p 0) ≡ record { kind = c.kind_of.result; pins = more } =
    ap (λ (k : Kind). let w : Wire = record { kind = k; pins = more } in w)
    (sym (c.kind_of.ensures ∙ ap kind_of driver_is)) in
    record {
      wires = ap (λ (ps : List Pin). wires_in ps c.push.new.self.items) pins
          ∙ ap (wires_in (c.positions.pins.items ++ more)) c.in_ok-push.ensures.items
          ∙ wire_added wire order c.positions.pins.items more c.positions.heads.items head p c.positions.invariant.inside
          start_is end_is less c.positions.invariant.wires same;
      inside = subst (λ (ps : List Pin). AreHeadsWithin ps c.push.new.self.items) (sym pins)
          (subst (AreHeadsWithin (c.positions.pins.items ++ more)) (sym c.in_ok-push.ensures.items)
          (all_within c.positions.pins.items more c.positions.heads.items head c.positions.invariant.inside
          start_is end_is));
      few = omega (arith, few, long, count, total, so_far);
    }
