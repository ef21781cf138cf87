-- What is come to grows by what the next of it leads to, until there is no next.
use Rattle.std.proofs.Common.{◌≡◌, ℕ, None, List, ◌∙◌, sym, ap, arith, nat_eq}
use Rattle.indexmap.specs.IndexSet.{insert_key}
use Rattle.netlist_trim.proofs.Growing.{covers_all, covers_first, covers_more, next_below, number_below}
use Rattle.netlist_trim.proofs.needed.reached.Goals as goal

pub numbers-init : goal.numbers-init
numbers-init c =
    covers_first c.args.library.now c.args.top c.add.new.self (c.in_ok-add.ensures ∙ ap (λ (l : List ℕ). insert_key nat_eq l c.args.top) c.new-numbers.ensures)

pub add_led-requires : goal.add_led-requires
add_led-requires c =
    number_below c.args.library.now c.args.top c.numbers.next c.in-Some.number c.numbers.numbers c.requires (sym c.get.ensures.is ∙ c.in-Some.is) c.numbers.invariant

pub overflow_add-next : goal.overflow_add-next
overflow_add-next c =
    let below = next_below c.args.library.now c.args.top c.numbers.next c.in-Some.number c.numbers.numbers c.requires c.get.ensures.distinct (sym c.get.ensures.is ∙ c.in-Some.is) c.numbers.invariant in
    let same = c.count.ensures.is in
    let small = c.count.ensures.small in
    omega arith

pub numbers-smaller : goal.numbers-smaller
numbers-smaller c =
    let below = next_below c.args.library.now c.args.top c.numbers.next c.in-Some.number c.numbers.numbers c.requires c.get.ensures.distinct (sym c.get.ensures.is ∙ c.in-Some.is) c.numbers.invariant in
    omega arith

pub numbers-preserved : goal.numbers-preserved
numbers-preserved c =
    covers_more c.args.library.now c.args.top c.numbers.next c.in-Some.number c.numbers.numbers c.add_led.new.numbers (sym c.get.ensures.is ∙ c.in-Some.is) c.numbers.invariant c.in_ok-add_led.ensures

pub returns : goal.returns
returns c =
    let none : c.get.result ≡ None = search in
    covers_all c.args.library.now c.args.top c.numbers.next c.numbers.numbers (sym c.get.ensures.is ∙ none) c.numbers.invariant
