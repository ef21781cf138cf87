-- The literals and the clauses of the nodes make the query.
use Rattle.std.proofs.Common.{rules, ℕ, ◌≡◌, ◌∙◌, ◌+◌, ◌-◌, not, List, ap, arith, length, map, slice_index, subst, sym}
use Rattle.std.specs.Prelude.{ℤ}
use Rattle.std.specs.List.{All}
use Rattle.std.proofs.lemmas.Int.{to_z-of_z}
use Rattle.std.proofs.lemmas.List.{length-map}
use Rattle.std.proofs.lemmas.Result.{IfOk-weaker}
use mir.Syntax.{w32}
use mir.Val.{SFits}
use Rattle.decide_cnf.specs.Clauses.{AreNodeClauses}
use Rattle.decide_cnf.specs.Literals.{IsLiteral, literal_at, says}
use Rattle.decide_cnf.proofs.EarlyClauses.{variables_few}
use Rattle.cert_condition.specs.First.{IsAssembled, IsQueryOver, StandForPlaces, unit_says}
use Rattle.cert_condition.specs.View.{settled_bit}
use Rattle.cert_condition.proofs.FirstQueries.{about_first, assembled_long, denial_fits, last_written, some_place, stand_for, units_fit, written_among}
use Rattle.cert_condition.proofs.query.query_over.Goals as goal

pub literals_of-requires : goal.literals_of-requires
literals_of-requires c = c.requires.nodes.1.are.are_nodes

pub unit_literals-requires-clause-places : goal.unit_literals-requires-clause-places
unit_literals-requires-clause-places c =
    subst (StandForPlaces c.args.places.now) (sym c.as_slice.ensures.value)
    (stand_for c.args.wave.now c.requires.nodes.0 c.args.places.now c.args.nodes.now c.args.numbers.now c.requires.nodes.1
    c.in_ok-literals.literals.items c.in_ok-literals.ensures)

pub unit_literals-requires-clause-numbers : goal.unit_literals-requires-clause-numbers
unit_literals-requires-clause-numbers c =
    written_among c.args.wave.now c.requires.nodes.0 c.args.places.now c.args.nodes.now c.args.numbers.now
    c.requires.nodes.1

pub denial_of-denial-requires-clause-places : goal.denial_of-denial-requires-clause-places
denial_of-denial-requires-clause-places c =
    subst (StandForPlaces c.args.places.now) (sym c.as_slice-2.ensures.value)
    (stand_for c.args.wave.now c.requires.nodes.0 c.args.places.now c.args.nodes.now c.args.numbers.now c.requires.nodes.1
    c.in_ok-literals.literals.items c.in_ok-literals.ensures)

pub denial_of-denial-requires-clause-some : goal.denial_of-denial-requires-clause-some
denial_of-denial-requires-clause-some c =
    some_place c.args.wave.now c.requires.nodes.0 c.args.places.now c.args.nodes.now c.args.numbers.now c.requires.nodes.1

pub denial_of-denial-requires-clause-written : goal.denial_of-denial-requires-clause-written
denial_of-denial-requires-clause-written c =
    last_written c.args.wave.now c.requires.nodes.0 c.args.places.now c.args.nodes.now c.args.numbers.now c.requires.nodes.1

pub overflow_cast-variables_of : goal.overflow_cast-variables_of
overflow_cast-variables_of c =
    let few = variables_few c.args.nodes.now c.in_ok-literals.literals.items c.requires.nodes.1.are.are_nodes
    c.in_ok-literals.ensures in
    let same = c.variables_of.ensures in
    omega (arith, few, same)

pub assemble-requires-clause-few : goal.assemble-requires-clause-few
assemble-requires-clause-few c =
    let few = variables_few c.args.nodes.now c.in_ok-literals.literals.items c.requires.nodes.1.are.are_nodes
    c.in_ok-literals.ensures in
    let same = c.variables_of.ensures in
    omega (arith, few, same)

pub assemble-requires-clause-units : goal.assemble-requires-clause-units
assemble-requires-clause-units c =
    let w = c.args.wave.now in
    let places : List ℕ = c.args.places.now in
    let literals : List ℤ = c.in_ok-literals.literals.items in
    let units_are : c.as_slice-4.result.now ≡ map (unit_says w places literals) c.args.numbers.now =
    c.as_slice-4.ensures.value ∙ c.in_ok-units.ensures
    ∙ ap (λ ls. map (unit_says w places ls) c.args.numbers.now) c.as_slice.ensures.value in
    subst (All (IsLiteral c.variables_of.result)) (sym units_are)
    (subst (λ n. All (IsLiteral n) (map (unit_says w places literals) c.args.numbers.now)) (sym c.variables_of.ensures)
    (units_fit w c.requires.nodes.0 places c.args.nodes.now c.args.numbers.now c.requires.nodes.1 literals
    c.in_ok-literals.ensures))

pub assemble-requires-clause-denial : goal.assemble-requires-clause-denial
assemble-requires-clause-denial c =
    let w = c.args.wave.now in
    let places : List ℕ = c.args.places.now in
    let literals : List ℤ = c.in_ok-literals.literals.items in
    let sized : SFits w32 c.denial_of-denial.result = search rules in
    let denial_is = c.denial_of-denial.ensures
    ∙ ap (λ (ls : List ℤ). says (literal_at ls (length ls - 1))
    (not (settled_bit w (slice_index places (length places - 1))))) c.as_slice-2.ensures.value in
    subst (IsLiteral c.variables_of.result) (sym (to_z-of_z w32 c.denial_of-denial.result sized))
    (subst (λ n. IsLiteral n c.denial_of-denial.result) (sym c.variables_of.ensures)
    (denial_fits w c.requires.nodes.0 places c.args.nodes.now c.args.numbers.now c.requires.nodes.1 literals
    c.in_ok-literals.ensures c.denial_of-denial.result denial_is))

pub returns-clause-long : goal.returns-clause-long
returns-clause-long c =
    let w = c.args.wave.now in
    let places : List ℕ = c.args.places.now in
    let literals : List ℤ = c.in_ok-literals.literals.items in
    let units_are : c.as_slice-4.result.now ≡ map (unit_says w places literals) c.args.numbers.now =
    c.as_slice-4.ensures.value ∙ c.in_ok-units.ensures
    ∙ ap (λ ls. map (unit_says w places ls) c.args.numbers.now) c.as_slice.ensures.value in
    let count = ap length units_are ∙ length-map c.args.numbers.now (unit_says w places literals) in
    IfOk-weaker c.assemble.result _ (λ next. length next.query.clauses ≡ next.cone + length c.args.numbers.now)
    (λ next is. assembled_long c.variables_of.result c.in_ok-clauses.clauses.items c.as_slice-4.result.now _ next is
    (let some = c.requires.some in omega (arith, some, count)) ∙ ap (λ n. next.cone + n) count) c.assemble.ensures

pub returns-clause-query : goal.returns-clause-query
returns-clause-query c =
    let w = c.args.wave.now in
    let places : List ℕ = c.args.places.now in
    let literals : List ℤ = c.in_ok-literals.literals.items in
    let units_are : c.as_slice-4.result.now ≡ map (unit_says w places literals) c.args.numbers.now =
    c.as_slice-4.ensures.value ∙ c.in_ok-units.ensures
    ∙ ap (λ ls. map (unit_says w places ls) c.args.numbers.now) c.as_slice.ensures.value in
    let sized : SFits w32 c.denial_of-denial.result = search rules in
    let denial_is = c.denial_of-denial.ensures
    ∙ ap (λ (ls : List ℤ). says (literal_at ls (length ls - 1))
    (not (settled_bit w (slice_index places (length places - 1))))) c.as_slice-2.ensures.value in
    IfOk-weaker c.assemble.result _ (IsQueryOver w places c.args.nodes.now c.args.numbers.now)
    (λ next is root of. about_first w root places c.args.nodes.now c.args.numbers.now of literals
    c.in_ok-literals.ensures c.in_ok-clauses.clauses.items c.variables_of.result c.as_slice-4.result.now
    c.denial_of-denial.result next
    (subst (λ ls. AreNodeClauses c.args.nodes.now ls c.in_ok-clauses.clauses.items) c.as_slice-3.ensures.value
    c.in_ok-clauses.ensures) c.variables_of.ensures units_are denial_is
    (subst (λ z. IsAssembled c.variables_of.result c.in_ok-clauses.clauses.items c.as_slice-4.result.now z next)
    (to_z-of_z w32 c.denial_of-denial.result sized) is)) c.assemble.ensures
