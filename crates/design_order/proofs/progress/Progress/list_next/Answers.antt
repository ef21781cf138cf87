-- The least net of the set comes next.
use Rattle.std.proofs.Common.{◌<◌, ◌∙◌, length, arith}
use Rattle.std.specs.BTreeSet.{contains}
use Rattle.std.specs.Ordering.{nat_cmp}
use Rattle.design_circuit.specs.Job.{driver_in}
use Rattle.design_order.proofs.Listings.{next_is, come_open, sound_after, pending_after, progress_after}
use Rattle.design_order.proofs.progress.Progress.list_next.Goals as goal

pub offer_readers-requires-clause-sound : goal.offer_readers-requires-clause-sound
offer_readers-requires-clause-sound c =
    let driver = driver_in c.args.design.now in
    let width = length c.args.design.now.nets in
    let flags = c.args.self.now.flags.items in
    let p = c.requires.progress in
    let pop = c.in-Some.ensures.taken in
    let within : c.in-Some.net < length c.args.self.now.flags.items = (let can = p.sound c.in-Some.net pop.here in omega (arith, can.0, p.listed_.long)) in
    sound_after driver width flags (contains nat_cmp c.args.self.now.ready) (contains nat_cmp c.take_least.new.ready) c.in-Some.net within p.sound pop

pub offer_readers-requires-clause-pending : goal.offer_readers-requires-clause-pending
offer_readers-requires-clause-pending c =
    let driver = driver_in c.args.design.now in
    let width = length c.args.design.now.nets in
    let flags = c.args.self.now.flags.items in
    let p = c.requires.progress in
    let pop = c.in-Some.ensures.taken in
    let within : c.in-Some.net < length c.args.self.now.flags.items = (let can = p.sound c.in-Some.net pop.here in omega (arith, can.0, p.listed_.long)) in
    pending_after driver width flags (contains nat_cmp c.args.self.now.ready) (contains nat_cmp c.take_least.new.ready) c.in-Some.net c.args.readers.now within p.complete pop c.requires.readers

pub returns-clause-progress : goal.returns-clause-progress
returns-clause-progress c =
    let driver = driver_in c.args.design.now in
    let width = length c.args.design.now.nets in
    let listed = c.args.self.now.listed.items in
    let flags = c.args.self.now.flags.items in
    let p = c.requires.progress in
    let pop = c.in-Some.ensures.taken in
    let next = next_is driver width listed flags (contains nat_cmp c.args.self.now.ready) (contains nat_cmp c.take_least.new.ready) c.in-Some.net p pop in
    progress_after driver width listed c.offer_readers.new.self.listed.items flags c.offer_readers.new.self.flags.items c.in-Some.net (contains nat_cmp c.offer_readers.new.self.ready) (c.in_ok-offer_readers.ensures.same ∙ c.in_ok-push.ensures.items) c.in_ok-offer_readers.ensures.flags p.listed_ next (come_open driver flags c.in-Some.net (p.sound c.in-Some.net pop.here).1) c.in_ok-offer_readers.ensures.sound c.in_ok-offer_readers.ensures.complete
