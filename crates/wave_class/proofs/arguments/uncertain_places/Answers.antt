-- The argument places stand before the place.
use Rattle.std.proofs.Common.{◌≡◌, ◌∙◌, ap, filter}
use Rattle.design_cell.specs.Value.{is_unknown}
use Rattle.design_circuit.specs.Circuit.{job_in}
use Rattle.law_model.specs.Places.{among, places_where}
use Rattle.wave_class.proofs.EarlierPlaces.{arguments_have, unknowns, unknowns_below, unknowns_small, unknowns_are}
use Rattle.wave_class.proofs.arguments.uncertain_places.Goals as goal

pub uncertain_of-uncertain-requires-clause-certain : goal.uncertain_of-uncertain-requires-clause-certain
uncertain_of-uncertain-requires-clause-certain g c =
    rw (c.as_slice.ensures.places, c.ruled_arguments-ruled.ensures) (arguments_have (job_in c.args.circuit.now)
    c.args.circuit.now.fits.fits_job (g.C.Source.reads c.args.certain.now) c.args.place (g.C.Source.has c.args.certain.now)
    c.requires.within c.requires.certain)

pub ascending-requires-clause-small : goal.ascending-requires-clause-small
ascending-requires-clause-small g c =
    rw (
      c.as_slice-2.ensures.places,
      c.uncertain_of-uncertain.ensures,
      c.as_slice.ensures.places,
      c.ruled_arguments-ruled.ensures,
    ) (unknowns_small (job_in c.args.circuit.now) c.args.circuit.now.fits.fits_job
    (g.C.Source.reads c.args.certain.now) c.args.place c.requires.within)

pub returns : goal.returns
returns g c =
    let j = job_in c.args.circuit.now in
    let certain = g.C.Source.reads c.args.certain.now in
    let is : c.as_slice-2.result.now ≡ unknowns j certain c.args.place = c.as_slice-2.ensures.places
    ∙ c.uncertain_of-uncertain.ensures
    ∙ ap (filter (λ k. is_unknown (certain k))) (c.as_slice.ensures.places ∙ c.ruled_arguments-ruled.ensures) in
    c.ascending.ensures c.args.place (rw is (unknowns_below j c.args.circuit.now.fits.fits_job certain c.args.place
    c.requires.within))
    ∙ ap (λ xs. places_where (among xs) c.args.place) is ∙ unknowns_are j certain c.args.place
