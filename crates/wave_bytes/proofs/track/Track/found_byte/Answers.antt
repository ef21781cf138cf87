-- The last entry up to the step gives the byte.
use Rattle.std.proofs.Common.{◌≡◌, ◌<◌, ◌∙◌, List, ◌-◌, ap, arith, subst, sym}
use Rattle.std.proofs.lemmas.List.{get_or_default}
use Rattle.wave_bytes.specs.Track.{byte_at, byte_from, no_entry}
use Rattle.wave_bytes.specs.declared.track.Entry.{Entry}
use Rattle.wave_bytes.proofs.Tracks.{byte_counted, byte_uncounted}
use Rattle.wave_bytes.proofs.track.Track.found_byte.Goals as goal

pub returns-then-count-eq0 : goal.returns-then-count-eq0
returns-then-count-eq0 c =
    subst (λ (entries : List Entry). 64 ≡ byte_at entries c.args.step) c.self.view_is
    (byte_uncounted c.self.inside.entries.items c.args.step c.count_up_to-count.result c.self.invariant.ascending
    (omega (arith, c.if-count-eq0.true)) (rw c.as_slice.ensures.value at c.count_up_to-count.ensures.next))

pub returns : goal.returns
returns c =
    let entries = c.self.inside.entries.items in
    let count = c.count_up_to-count.result in
    let some : 0 < count = (let test = c.if-count-eq0.false in omega (arith, test)) in
    let within = rw c.as_slice.ensures.value at c.count_up_to-count.ensures.within in
    let there = c.index.ensures ∙ get_or_default entries (count - 1) c.index.result.now no_entry (omega (arith, some, within)) in
    subst (λ (es : List Entry). c.byte_of.result ≡ byte_at es c.args.step) c.self.view_is
    (c.byte_of.ensures ∙ ap (λ (entry : Entry). byte_from entry c.args.step) there
    ∙ sym (byte_counted entries c.args.step count c.self.invariant.ascending within some
    (rw c.as_slice.ensures.value at c.count_up_to-count.ensures.last some)
    (rw c.as_slice.ensures.value at c.count_up_to-count.ensures.next)))
