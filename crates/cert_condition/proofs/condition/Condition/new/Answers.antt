-- All certain boundary places, and the query without the first.
use Rattle.std.proofs.Common.{◌∙◌, ap, subst, sym}
use Rattle.std.proofs.lemmas.Result.{IfOk-weaker}
use Rattle.decide_cone.specs.Boundary.{IsCertainBoundary}
use Rattle.cert_condition.specs.First.{IsConditionOfCone}
use Rattle.cert_condition.specs.View.{IsBegun}
use Rattle.cert_condition.proofs.FirstNodes.{root_last}
use Rattle.cert_condition.proofs.condition.Condition.new.Goals as goal

pub certain_boundary-requires : goal.certain_boundary-requires
certain_boundary-requires c = record { root = c.requires.0; is = c.requires.1.whole }

pub next_of-requires-clause-listed : goal.next_of-requires-clause-listed
next_of-requires-clause-listed c = subst (IsCertainBoundary c.args.wave.now c.args.cone.nodes)
    (sym c.as_slice.ensures.value) c.in_ok-listed.ensures

pub returns-clause-condition : goal.returns-clause-condition
returns-clause-condition c = IfOk-weaker c.begin.result
    (IsBegun c.last_place.result c.in_ok-listed.listed.items c.in_ok-next.next c.limits.result.conflicts)
    (IsConditionOfCone c.args.wave.now c.args.cone.nodes)
    (λ condition begun root of. begun c.args.wave.now root (record {
      wave = of.whole.wave;
      has = of.has;
      limit_is = ap (λ l. l.conflicts) c.limits.ensures;
      place_is = c.last_place.ensures ∙ root_last c.args.wave.now root c.args.cone.nodes of.whole;
      listed_are = c.in_ok-listed.ensures root of.whole;
      about = c.in_ok-next.ensures.first root of;
    })) c.begin.ensures.begun
