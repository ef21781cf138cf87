-- The argument places stand before the place.
use Rattle.std.proofs.Common.{◌∙◌, ap}
use Rattle.design_circuit.specs.Circuit.{job_in}
use Rattle.design_circuit.proofs.Rules.{arguments_below}
use Rattle.law_model.specs.Places.{among, places_where}
use Rattle.wave_class.proofs.EarlierPlaces.{arguments_small}
use Rattle.wave_class.proofs.arguments.argument_places.Goals as goal

pub ascending-requires-clause-small : goal.ascending-requires-clause-small
ascending-requires-clause-small g c =
    rw (c.as_slice.ensures.places, c.ruled_arguments.ensures) (arguments_small (job_in c.args.circuit.now)
    c.args.circuit.now.fits.fits_job (g.C.Source.reads c.args.certain.now) c.args.place c.requires.within)

pub returns : goal.returns
returns g c =
    let is = c.as_slice.ensures.places ∙ c.ruled_arguments.ensures in
    c.ascending.ensures c.args.place (rw is (arguments_below (job_in c.args.circuit.now) c.args.circuit.now.fits.fits_job
    (g.C.Source.reads c.args.certain.now) c.args.place c.requires.within))
    ∙ ap (λ xs. places_where (among xs) c.args.place) is
