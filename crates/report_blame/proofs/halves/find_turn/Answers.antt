-- At the ends of the way the bits differ, and where it is halved down to one place, that is the turn.
use Rattle.std.proofs.Common.{◌≡◌, ◌<◌, ◌+◌, ◌/◌, ◌-◌, ◌∙◌, ap, sym, not, arith, length, get_or, ℕ}
use Rattle.design_circuit.specs.Job.{places_of}
use Rattle.wave_proved.specs.Contents.{job}
use Rattle.report_blame.specs.Halves.{halfway}
use Rattle.report_blame.proofs.Turns.{cuts_begin, cuts_end, cuts_turn, not_first, same_read, some_listed}
use Rattle.report_blame.proofs.halves.find_turn.Goals as goal

pub halves-init : goal.halves-init
halves-init c =
    let wave = c.args.way.now.wave.now in
    let zeros = c.args.way.now.zero.now in
    let ones = c.args.way.now.one.now in
    let number = c.args.way.now.number in
    let numbers = c.args.listed.now in
    let sound = c.requires.way.wave in
    let first = c.in_ok-first.ensures in
    let some = some_listed wave sound number zeros ones c.requires.way numbers c.requires.listed in
    record {
      order = some;
      within = omega arith;
      low = sym (cuts_begin wave sound number zeros ones c.requires.way numbers c.requires.listed) ∙ sym first;
      high = cuts_end wave sound number zeros ones c.requires.way numbers c.requires.listed ∙ ap not (sym first);
    }

pub halves-preserved : goal.halves-preserved
halves-preserved c =
    let wave = c.args.way.now.wave.now in
    let zeros = c.args.way.now.zero.now in
    let ones = c.args.way.now.one.now in
    let number = c.args.way.now.number in
    let numbers = c.args.listed.now in
    let middle = c.halves.low + (c.halves.high - c.halves.low) / 2 in
    let test = c.halves-test.true in
    let within = c.halves.invariant.within in
    let less : middle < length numbers = omega (arith, test, within) in
    let read = same_read numbers middle (places_of (job wave)) 0 less in
    record {
      order = omega (arith, test);
      within = omega (arith, less);
      low = c.halves.invariant.low;
      high = ap (halfway wave zeros ones number) read ∙ sym c.in_ok-value_at.ensures
          ∙ not_first c.in_ok-value_at.field-0 c.in_ok-first.first c.if-branch-first.false;
    }

pub returns : goal.returns
returns c =
    let wave = c.args.way.now.wave.now in
    let zeros = c.args.way.now.zero.now in
    let ones = c.args.way.now.one.now in
    let number = c.args.way.now.number in
    let numbers = c.args.listed.now in
    let low = c.halves.low in
    let order = c.halves.invariant.order in
    let within = c.halves.invariant.within in
    let less : low < length numbers = omega (arith, order, within) in
    let test = c.halves-test.false in
    let next : c.halves.high ≡ low + 1 = omega (arith, order, test) in
    let turn = cuts_turn wave c.requires.way.wave number zeros ones c.requires.way numbers c.requires.listed low
    c.in_ok-first.first less c.halves.invariant.low
    (ap (λ (n : ℕ). halfway wave zeros ones number (get_or numbers n (places_of (job wave)))) (sym next)
    ∙ c.halves.invariant.high) in
    turn
