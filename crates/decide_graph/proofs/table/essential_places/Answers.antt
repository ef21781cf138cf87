-- An argument is essential where the values rest on its bit, and the essential ones are no more than the uncertain ones.
use Rattle.std.proofs.Common.{◌≡◌, ◌<◌, ◌∙◌, ◌++◌, ◌∷◌, [], ℕ, List, filter, length, take, slice_index, sym, ap, arith, subst}
use Rattle.std.proofs.Math.Pow.{pow_mono}
use Rattle.std.proofs.Math.Seq.{take-length}
use Rattle.std.proofs.lemmas.List.{length-take-le}
use Rattle.std.proofs.lemmas.List.Sums.{length-filter, count_by-le-length}
use Rattle.design_circuit.specs.Fits.{Fits}
use Rattle.design_circuit.specs.Waveform.{certain}
use Rattle.law_model.specs.Cone.{is_essential}
use Rattle.decide_nodes.specs.OfWave.{job}
use Rattle.decide_graph.specs.Table.{Rests}
use Rattle.decide_graph.proofs.EssentialBits.{essentials_filter, filter_next, rests_essential, uncertain_apart}
use Rattle.decide_graph.proofs.table.essential_places.Goals as goal
use Rattle.decide_graph.proofs.table.essential_places.Goals.{then-rests_on, else-rests_on}

pub rests_on-requires-clause-long : goal.rests_on-requires-clause-long
rests_on-requires-clause-long c =
    let less = c.bits-test.true in
    let up = pow_mono {i = c.bits.bit} {j = length c.args.uncertain.now} (omega (arith, less)) in
    let long = c.in_ok-fill_table.ensures.long in
    rw c.as_slice.ensures.value (omega (arith, up, long))

pub push-requires : goal.push-requires
push-requires c =
    let test = is_essential (job c.args.wave.now) (certain c.args.wave.now.written) c.args.place in
    let so_far = take c.bits.bit c.args.uncertain.now in
    let kept = length-filter test so_far in
    let count = count_by-le-length test so_far in
    let less = c.bits-test.true in
    let long = length-take-le c.bits.bit c.args.uncertain.now (omega (arith, less)) in
    let few = c.requires.few in
    rw c.bits.invariant (omega (arith, kept, count, less, long, few))

pub bits-preserved : goal.bits-preserved
bits-preserved c =
    let j = job c.args.wave.now in
    let known = certain c.args.wave.now.written in
    let places = c.args.uncertain.now in
    let argument = slice_index places c.bits.bit in
    let test = is_essential j known c.args.place in
    let less : c.bits.bit < length places = c.bits-test.true in
    let fits : Fits j = c.recall.ensures.fits.fits_job in
    let rests : Rests c.fill_table.new.values.items c.bits.bit c.rests_on.result =
    rw c.as_slice.ensures.value at c.rests_on.ensures in
    let is : test argument ≡ c.rests_on.result = rests_essential j fits known c.args.place places
    c.fill_table.new.values.items c.requires.reach.within c.requires.uncertain
    (uncertain_apart j known c.args.place places c.requires.uncertain) c.in_ok-fill_table.ensures c.bits.bit
    c.rests_on.result less rests in
    let step = filter_next test places c.bits.bit less in
    elim c.if-rests_on.branch [
      | then-rests_on w ↦ w.essential-is ∙ w.push.ensures ∙ ap (λ (xs : List ℕ). xs ++ argument ∷ []) c.bits.invariant
          ∙ sym (rw (is ∙ w.if-rests_on.true) at step)
      | else-rests_on w ↦ w.essential-is ∙ c.bits.invariant ∙ sym (rw (is ∙ w.if-rests_on.false) at step)
    ]

pub returns-clause-places : goal.returns-clause-places
returns-clause-places c =
    let j = job c.args.wave.now in
    let known = certain c.args.wave.now.written in
    let test = is_essential j known c.args.place in
    let past = c.bits-test.false in
    let end = c.bits.auto.bit-end in
    let all : c.bits.bit ≡ length c.args.uncertain.now = omega (arith, past, end) in
    let whole : take c.bits.bit c.args.uncertain.now ≡ c.args.uncertain.now =
    ap (λ n. take n c.args.uncertain.now) all ∙ take-length c.args.uncertain.now in
    c.bits.invariant ∙ ap (filter test) (whole ∙ c.requires.uncertain)
    ∙ essentials_filter j known c.args.place
