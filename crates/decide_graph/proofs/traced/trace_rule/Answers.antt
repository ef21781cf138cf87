-- The table that is cut down is that over the essential arguments.
use Rattle.std.proofs.Common.{◌≡◌, ◌∙◌, ap, sym, subst}
use Rattle.wave_class.specs.Arguments.{uncertain_places}
use Rattle.design_circuit.specs.Fits.{Fits}
use Rattle.design_circuit.specs.Job.{Job}
use Rattle.design_circuit.specs.Waveform.{certain}
use Rattle.decide_nodes.specs.OfWave.{job}
use Rattle.decide_graph.specs.Table.{IsTableOver}
use Rattle.decide_graph.proofs.EssentialBits.{cut_is_table, uncertain_rises}
use Rattle.decide_graph.proofs.traced.trace_rule.Goals as goal

pub kept_table-requires-clause-rising : goal.kept_table-requires-clause-rising
kept_table-requires-clause-rising c =
    uncertain_rises (job c.args.wave.now) (certain c.args.wave.now.written) c.args.place c.as_slice-places.result.now
    (c.as_slice-places.ensures.places ∙ c.uncertain_places-uncertain.ensures
    ∙ ap (λ (k : Job). uncertain_places k (certain c.args.wave.now.written) c.args.place) c.circuit.ensures.job)

pub returns : goal.returns
returns c =
    let j = job c.args.wave.now in
    let known = certain c.args.wave.now.written in
    let place = c.args.place in
    let places = c.as_slice-places.result.now in
    let kept = c.as_slice.result.now in
    let fits : Fits j = subst Fits c.circuit.ensures.job c.circuit.result.fits.fits_job in
    let are : places ≡ uncertain_places j known place = c.as_slice-places.ensures.places
    ∙ c.uncertain_places-uncertain.ensures ∙ ap (λ (k : Job). uncertain_places k known place) c.circuit.ensures.job in
    let whole : IsTableOver j known place places c.as_slice-2.result.now =
    subst (IsTableOver j known place places) (sym c.as_slice-2.ensures.value) c.in_ok-essential.ensures.table in
    record {
      free = c.requires.free;
      few = rw (← c.as_slice.ensures.places) c.as_slice.ensures.few;
      are_essential = c.in_ok-essential.ensures.places;
      is_table = rw (← c.as_slice.ensures.places, c.from_vec.ensures) (cut_is_table j fits known place places kept
          c.as_slice-2.result.now c.in_ok-values.values.items c.requires.reach.within are whole c.in_ok-values.ensures);
    }
