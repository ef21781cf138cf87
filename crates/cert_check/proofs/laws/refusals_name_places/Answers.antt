-- The laws.
use Rattle.cert_check.proofs.NamedPlaces.{missing_is_place, objection_is_place}
use Rattle.cert_check.proofs.laws.refusals_name_places.Goals as goal

pub returns-clause-missing : goal.returns-clause-missing
returns-clause-missing c = missing_is_place

pub returns-clause-objection : goal.returns-clause-objection
returns-clause-objection c = objection_is_place
