-- A link more of the chain.
use Rattle.std.proofs.Common.{◌<◌, ◌∙◌, sym, ap, length, arith, subst}
use Rattle.std.proofs.lemmas.List.{get_or_default}
use Rattle.std.specs.BTreeSet.{contains}
use Rattle.std.specs.Ordering.{nat_cmp}
use Rattle.design_circuit.specs.Job.{driver_in}
use Rattle.design_order.specs.declared.readers.Link.{Link}
use Rattle.design_order.specs.Progress.{IsSound}
use Rattle.design_order.specs.Pending.{Pending}
use Rattle.design_order.specs.Readers.{no_link}
use Rattle.design_order.proofs.Chains.{rest_less, pending_step}
use Rattle.design_order.proofs.Listings.{sound_offered}
use Rattle.design_order.proofs.progress.Progress.offer_readers.Goals as goal

pub chain-smaller : goal.chain-smaller
chain-smaller c =
    let e = c.in-Some.e in
    let inside = c.chain.invariant.inside e c.in-Some.is in
    let link = c.index-link.ensures ∙ get_or_default c.args.readers.now.links.items e c.index-link.result.now no_link inside in
    rest_less c.chain.at c.index-link.result.now.next e c.in-Some.is (λ f h. c.requires.table.back e f inside (sym (ap (λ (k : Link). k.next) link) ∙ h))

pub chain-preserved : goal.chain-preserved
chain-preserved c =
    let e = c.in-Some.e in
    let driver = driver_in c.args.design.now in
    let width = length c.args.design.now.nets in
    let inside = c.chain.invariant.inside e c.in-Some.is in
    let link = c.index-link.ensures ∙ get_or_default c.args.readers.now.links.items e c.index-link.result.now no_link inside in
    let reader_is = ap (λ (k : Link). k.reader) link in
    let reader_in = subst (λ r. r < length c.args.design.now.nets) (sym reader_is) (c.requires.table.reader e inside) in
    let flags_are = c.in_ok-offer.ensures.flags in
    let offered = c.in_ok-offer.ensures.offered in
    record {
      listed = c.in_ok-offer.ensures.same ∙ c.chain.invariant.listed;
      flags = flags_are ∙ c.chain.invariant.flags;
      inside = λ f h. (let back = c.requires.table.back e f inside (sym (ap (λ (k : Link). k.next) link) ∙ h) in omega (arith, back, inside));
      sound = subst (λ fs. IsSound (driver_in c.args.design.now) (length c.args.design.now.nets) fs (contains nat_cmp c.offer.new.self.ready)) (sym flags_are) (sound_offered driver width c.chain.self.flags.items (contains nat_cmp c.chain.self.ready) (contains nat_cmp c.offer.new.self.ready) c.index-link.result.now.reader reader_in c.chain.invariant.sound offered);
      pending = subst (λ fs. Pending (driver_in c.args.design.now) (length c.args.design.now.nets) fs c.args.readers.now c.index-link.result.now.next (contains nat_cmp c.offer.new.self.ready)) (sym flags_are) (pending_step driver width c.chain.self.flags.items c.args.readers.now c.chain.at c.index-link.result.now.next e c.index-link.result.now.reader (contains nat_cmp c.chain.self.ready) (contains nat_cmp c.offer.new.self.ready) c.in-Some.is (ap (λ (k : Link). k.next) link) reader_is c.chain.invariant.pending offered);
    }
