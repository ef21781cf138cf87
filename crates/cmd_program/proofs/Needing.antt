-- What conditions of a wave say of their places.
use Rattle.std.proofs.Common.{List, [], ◌∷◌, sym, subst}
use Rattle.std.specs.List.{AllByRecursion}
use Rattle.cmd_phases.specs.OfCert.{AreConditionsFor, AreConditionsOf, settled_places}
use Rattle.cert_writer.specs.declared.cert.Form.{Form}
use Rattle.cert_writer.specs.declared.cert.Form.TheVariants.{Lines, Turns}
use Rattle.cmd_phases.specs.OfCond.{ConditionView, IsConditionOf, current_list, settled_bit}
use Rattle.cmd_phases.proofs.LawsOfCond.{condition_holds}
use Rattle.design_circuit.specs.Job.{number_of}
use Rattle.design_circuit.specs.declared.place.Place.{Place}
use Rattle.cmd_phases.specs.OfListing.{IsSomeCondition}
use Rattle.wave_proved.specs.Contents.{Contents, job}
use Rattle.cmd_program.specs.Needs.{EachNeeds, Needs}
use Rattle.cmd_program.proofs.Conditioned.{condition_of, conditions_of}

-- Each is that of some place.
some_of : (c : Contents) (places : List Place) (views : List ConditionView) → AreConditionsOf c places views → AllByRecursion (IsSomeCondition c) views
some_of c [] [] are = tt
some_of c [] (view ∷ views) are = absurd are
some_of c (place ∷ places) [] are = absurd are
some_of c (place ∷ places) (view ∷ views) are = ((number_of (job c) place, are.0.is), some_of c places views are.1)

pub are_some : (form : Form) (c : Contents) (views : List ConditionView) → AreConditionsFor form c views → AllByRecursion (IsSomeCondition c) views
are_some Lines c views are = subst (AllByRecursion (IsSomeCondition c)) (sym are) tt
are_some Turns c views are = some_of c (settled_places c.lines) views are

-- And its place needs what is listed.
needed : (c : Contents) (root : _) (view : ConditionView) → IsConditionOf c root view → Needs (job c) c.written (condition_of view)
needed c root view is = record {
  number = root;
  within = is.has.within;
  place_is = is.place;
  bit = settled_bit c root;
  has = is.has.has;
  listed = current_list c root view.turns;
  listed_is = is.listed;
  is = condition_holds c root view is;
}

each_of : (c : Contents) (views : List ConditionView) → AllByRecursion (IsSomeCondition c) views → EachNeeds (job c) c.written (conditions_of views)
each_of c [] are = tt
each_of c (view ∷ views) are = (needed c are.0.0 view are.0.1, each_of c views are.1)

pub each_needs : (form : Form) (c : Contents) (views : List ConditionView) → AreConditionsFor form c views → EachNeeds (job c) c.written (conditions_of views)
each_needs form c views are = each_of c views (are_some form c views are)
