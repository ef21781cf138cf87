-- The laws of waveforms, from the lemmas.
use Rattle.std.proofs.Common.{◌≡◌, ◌<◌, Bool, true, false, sym, arith, refl}
use Rattle.design_circuit.specs.Filling.{bit_of}
use Rattle.design_circuit.specs.Rule.{arguments}
use Rattle.design_circuit.specs.Waveform.{certain}
use Rattle.design_circuit.proofs.Rules.{arguments_below}
use Rattle.law_model.specs.Places.{among}
use Rattle.law_model.specs.Cone.{source_filling}
use Rattle.law_model.specs.Laws.{ArgumentsLaw, ClassLaw, CarryLaw, ReachLaw, WorldsAreConsistent, ConsistentAreWorlds, SourcesDecide, ConsistentAreModels, ModelsAreConsistent, RefutedLaw, BodyLaw, BodyBeforeLaw, StartLaw, GrowthLaw, YieldsGrowthLaw, YieldsLaw, HonestLaw, OneSound, OneForHistories, FewSourcesLaw, world_over}
use Rattle.law_model.proofs.BodyGives.{body_gives}
use Rattle.law_model.proofs.CarryLaw.{carry}
use Rattle.law_model.proofs.ClassFromClasses.{class_is}
use Rattle.law_model.proofs.ConeModels.{consistent_model, model_consistent, valuation_back, model_back, refuted_bit}
use Rattle.law_model.proofs.ConeWorlds.{world_consistent, consistent_world, source_worlds}
use Rattle.law_model.proofs.Cones.{cone_reaches, reaches_cone}
use Rattle.law_model.proofs.FactsBefore.{body_moved}
use Rattle.law_model.proofs.PlacesWhere.{picked_in, in_picked, all_among}
use Rattle.law_model.proofs.RootSources.{undecided_many}
use Rattle.law_model.proofs.SoundWorlds.{true_world}
use Rattle.law_model.proofs.SourceFillings.{source_filling_is, source_given}
use Rattle.law_model.proofs.Uniqueness.{unique, unique_certain, yields_one}
use Rattle.law_model.proofs.WaveInvariant.{grown, yields_grown, nothing_holds}
use Rattle.law_model.proofs.YieldedSound.{yielded_sound, sound_honest}

same_where : (a b : Bool) → (a ≡ true → b ≡ true) → (b ≡ true → a ≡ true) → a ≡ b
same_where true b there back = sym (there refl)
same_where false true there back = back refl
same_where false false there back = refl

pub arguments_law : ArgumentsLaw
arguments_law j c place k fits within =
    same_where _ _ (λ at. (in_picked (among (arguments j c place)) place k at).1)
    (λ at. picked_in (among (arguments j c place)) place k
    (all_among (λ i. i < place) (arguments j c place) k (arguments_below j fits c place within) at) at)

pub class_law : ClassLaw
class_law j c place fits within = class_is j fits c place within

pub carry_law : CarryLaw
carry_law j limits shown waveform lines fits sound place from inverted filling reach filled is =
    carry j fits (certain waveform) (bit_of j filling) (world_over j waveform filling) place from inverted
    (true_world j limits fits shown waveform lines sound place reach.written reach.within filling filled) is

pub reach_law : ReachLaw
reach_law j c root place fits within = (
  cone_reaches j fits c root place within,
  reaches_cone j fits c root place
      within,
)

pub worlds_are_consistent : WorldsAreConsistent
worlds_are_consistent j limits shown waveform lines fits sound root filling reach filled =
    world_consistent j fits (certain waveform) (bit_of j filling) (world_over j waveform filling) root
    (true_world j limits fits shown waveform lines sound root reach.written reach.within filling filled)

pub consistent_are_worlds : ConsistentAreWorlds
consistent_are_worlds j limits shown waveform lines fits sound root valuation reach consistent =
    let c = certain waveform in
    let own = source_filling j c root valuation in
    let filled = source_filling_is j fits c root valuation reach.within in
    record {
      filling = filled;
      world = λ place inside. consistent_world j fits c root (bit_of j own) (world_over j waveform own) valuation
          (true_world j limits fits shown waveform lines sound root reach.written reach.within own filled) consistent
          (λ k source. source_given j fits c root valuation k reach.within source) place inside;
    }

pub sources_decide : SourcesDecide
sources_decide j limits shown waveform lines fits sound root place f g reach filled_f filled_g same inside =
    let c = certain waveform in
    source_worlds j fits c (bit_of j f) (bit_of j g) (world_over j waveform f) (world_over j waveform g) root place
    (true_world j limits fits shown waveform lines sound root reach.written reach.within f filled_f)
    (true_world j limits fits shown waveform lines sound root reach.written reach.within g filled_g) same inside

pub consistent_are_models : ConsistentAreModels
consistent_are_models j c root valuation fits within consistent = record {
  met = λ clause is. consistent_model j fits c root valuation clause within consistent is;
  back = λ place inside. valuation_back j fits c root place valuation within inside consistent;
}

pub models_are_consistent : ModelsAreConsistent
models_are_consistent j c root model fits within met = record {
  consistent = model_consistent j fits c root model within met;
  back = λ n less. model_back j fits c root n model within less;
}

pub refuted_law : RefutedLaw
refuted_law j limits shown waveform lines fits sound place query log reach is_query literals refutes filling filled =
    let c = certain waveform in
    let seen = true_world j limits fits shown waveform lines sound place reach.written reach.within filling filled in
    refuted_bit j fits c place (world_over j waveform filling) query log reach.within
    (world_consistent j fits c (bit_of j filling) (world_over j waveform filling) place seen) is_query literals
    refutes

pub body_law : BodyLaw
body_law j limits shown waveform lines fits sound budget place body reach holds =
    body_gives j limits fits shown waveform lines sound place reach.written reach.within budget body holds

pub body_before_law : BodyBeforeLaw
body_before_law j limits v w place body fits within same holds = body_moved j limits fits v w place body within same holds

pub start_law : StartLaw
start_law j limits shown = nothing_holds j limits shown

pub growth_law : GrowthLaw
growth_law j limits shown waveform lines written new fits holds next = grown j limits fits shown waveform lines written
    new holds next

pub yields_growth_law : YieldsGrowthLaw
yields_growth_law j limits shown waveform lines written new fits yields next =
    yields_grown j limits fits shown waveform lines written new yields next

pub yields_law : YieldsLaw
yields_law j limits shown v w lines fits long yields_v yields_w = yields_one j limits fits shown v w lines long
    yields_v.within yields_v yields_w

pub honest_law : HonestLaw
honest_law j limits shown waveform lines fits yields =
    (yielded_sound j limits fits shown waveform lines yields, sound_honest j limits shown waveform lines)

pub one_sound : OneSound
one_sound j limits shown v w lines more fits long sound_v sound_w decided_v decided_w =
    unique j limits fits shown v w lines more long sound_v.within decided_v decided_w sound_v sound_w

pub one_for_histories : OneForHistories
one_for_histories j limits bounds shown other v w lines more fits long sound_v sound_w decided_v decided_w place less =
    let same = unique_certain j limits bounds fits shown other v w lines more long sound_v.within decided_v decided_w
    sound_v sound_w place less in
    record { mark = same.mark; certain_value = same.certain_value }

pub few_sources_law : FewSourcesLaw
few_sources_law j limits shown waveform lines fits sound place less few is =
    let many = undecided_many j limits fits shown waveform lines sound place less is in
    omega (arith, few, many)
