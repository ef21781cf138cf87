-- The nets of the bits are the design's, and each bit reads its own.
use Rattle.std.proofs.Common.{◌≡◌, ◌<◌, ◌≤◌, ◌^◌, ◌∙◌, ℕ, List, All, ap, length, rules, subst, sym}
use Rattle.replay_due.specs.Readers.{AreReadersWithin, HasReadings}
use Rattle.replay_due.specs.declared.readings.Reading.{Reading}
use Rattle.report_bits.specs.Marked.{AreReadingsOf, bit_nets}
use Rattle.report_bits.proofs.BitNets.{bits_among, nets_low, readings_within}
use Rattle.report_bits.proofs.nets.BitNets.of.Goals as goal

pub new-requires-clause-within : goal.new-requires-clause-within
new-requires-clause-within c =
    let design = c.args.design.now in
    let nets = c.in-Some.nets.items in
    let readings = c.in_ok-readings.readings.items in
    let is : nets ≡ bit_nets c.args.bound.now.bound =
    (rw c.in-Some.is at c.in_ok-nets.ensures.nets) ∙ ap bit_nets c.as_slice.ensures in
    let low = subst (λ (l : List ℕ). All (λ net. net < length design.nets) l) (sym is)
    (nets_low design c.args.bound.now.bound c.requires.bound.each) in
    let wide : length design.nets ≤ c.max-room.result = search rules in
    let long : length nets ≤ c.max-room.result = search rules in
    let are = subst (λ (l : List ℕ). AreReadingsOf l readings) c.as_slice-3.ensures.value c.in_ok-readings.ensures in
    subst (λ (l : List Reading). AreReadersWithin c.max-room.result l) (sym c.as_slice-4.ensures.value)
    (readings_within nets readings (length design.nets) c.max-room.result wide long low are)

pub returns-clause-are : goal.returns-clause-are
returns-clause-are c =
    let design = c.args.design.now in
    let nets = c.in-Some.nets.items in
    let readings = c.in_ok-readings.readings.items in
    let readers = c.in_ok-readers.readers in
    let is : nets ≡ bit_nets c.args.bound.now.bound =
    (rw c.in-Some.is at c.in_ok-nets.ensures.nets) ∙ ap bit_nets c.as_slice.ensures in
    let are = subst (λ (l : List ℕ). AreReadingsOf l readings) c.as_slice-3.ensures.value c.in_ok-readings.ensures in
    let has = subst (λ (l : List Reading). HasReadings l readers) c.as_slice-4.ensures.value
    c.in_ok-readers.ensures.has in
    let small : c.max-room.result ≤ 2 ^ 20 = search rules in
    let wide : length design.nets ≤ c.max-room.result = search rules in
    let long : length nets ≤ c.max-room.result = search rules in
    record {
      small = small;
      inside = wide;
      few = long;
      low = subst (λ (l : List ℕ). All (λ net. net < length design.nets) l) (sym is)
          (nets_low design c.args.bound.now.bound c.requires.bound.each);
      table = c.in_ok-readers.ensures.table;
      has = bits_among nets readings readers are has;
    }
