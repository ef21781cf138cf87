-- One more literal is kept, until the clause of those that are kept follows.
use Rattle.std.proofs.Common.{◌≡◌, ◌∙◌, ◌++◌, ◌∷◌, [], ◌<◌, sym, subst, ap, List, length, take, arith, append-nil}
use Rattle.std.specs.Prelude.{ℤ}
use Rattle.std.specs.List.{All}
use Rattle.std.proofs.lemmas.List.{take_all}
use Rattle.std.proofs.lemmas.List.Elements.{All-take}
use Rattle.sat_proof.specs.Premises.{all_in}
use Rattle.sat_proof.specs.Closed.{NoneResists}
use Rattle.sat_proof.specs.Code.{HasRoom}
use Rattle.sat_proof.specs.Status.{literal_at}
use Rattle.sat_proof.proofs.Bases.{back_more, back_none}
use Rattle.sat_search.specs.Learn.{AreNeeded, IsExtended}
use Rattle.sat_search.specs.Reach.{IsMet, IsFixed}
use Rattle.sat_search.proofs.Learning.{fixed_not_follows, needed_alone, round_needed, round_follows, below_taken, room_more, extended_more, extended_none}
use Rattle.sat_search.proofs.tighten.tighten.Goals as goal

pub probe-requires-clause-room_kept : goal.probe-requires-clause-room_kept
probe-requires-clause-room_kept c = subst (λ (xs : List ℤ). All (HasRoom (length c.rounds.propagator.trail.marks.items)) xs) (sym c.deref.ensures.value)
    (subst (λ n. All (HasRoom n) c.rounds.kept.items) (sym (ap length c.rounds.invariant.back.kept.marks)) c.rounds.invariant.room)

pub probe-requires-clause-room_rest : goal.probe-requires-clause-room_rest
probe-requires-clause-room_rest c = subst (λ n. All (HasRoom n) (take c.rounds.len c.args.rest.now)) (sym (ap length c.rounds.invariant.back.kept.marks))
    (All-take (HasRoom (length c.args.propagator.now.trail.marks.items)) c.rounds.len c.args.rest.now c.requires.room_rest)

pub rounds-init : goal.rounds-init
rounds-init c =
    let all : take (length c.args.rest.now) c.args.rest.now ≡ c.args.rest.now = take_all (length c.args.rest.now) c.args.rest.now (omega arith) in
    record {
      low = omega arith;
      back = back_none c.args.propagator.now (all_in c.args.clauses.now) c.requires.base;
      room = c.requires.room_kept;
      needed = subst (λ (xs : List ℤ). AreNeeded (all_in c.args.clauses.now) c.args.kept.now.items xs) (sym all) c.requires.needed;
      follows = λ none. subst (λ (xs : List ℤ). NoneResists (all_in c.args.clauses.now) (c.args.kept.now.items ++ xs)) (sym all) none;
      extended = extended_none c.args.kept.now.items c.args.rest.now;
    }

pub returns-in-Nowhere-clause-back : goal.returns-in-Nowhere-clause-back
returns-in-Nowhere-clause-back c = back_more c.args.propagator.now c.rounds.propagator c.probe.new.propagator (all_in c.args.clauses.now) c.rounds.invariant.back c.probe.ensures.back

pub returns-in-Kept-clause-back : goal.returns-in-Kept-clause-back
returns-in-Kept-clause-back c = back_more c.args.propagator.now c.rounds.propagator c.probe.new.propagator (all_in c.args.clauses.now) c.rounds.invariant.back c.probe.ensures.back

pub returns-then-k-eq0-clause-back : goal.returns-then-k-eq0-clause-back
returns-then-k-eq0-clause-back c = back_more c.args.propagator.now c.rounds.propagator c.probe.new.propagator (all_in c.args.clauses.now) c.rounds.invariant.back c.probe.ensures.back

pub returns-in-Nowhere-clause-no : goal.returns-in-Nowhere-clause-no
returns-in-Nowhere-clause-no c _ none =
    let (f, h) = c.in-Nowhere.ensures.found in
    fixed_not_follows (all_in c.args.clauses.now) (c.rounds.kept.items ++ take c.rounds.len c.args.rest.now) f
    (subst (λ (xs : List ℤ). IsFixed (all_in c.args.clauses.now) (xs ++ take c.rounds.len c.args.rest.now) f) c.deref.ensures.value h) (c.rounds.invariant.follows none)

pub returns-in-Kept-clause-yes : goal.returns-in-Kept-clause-yes
returns-in-Kept-clause-yes c _ = subst (λ (xs : List ℤ). NoneResists (all_in c.args.clauses.now) xs) c.deref.ensures.value c.in-Kept.ensures.found

pub returns-in-Kept-clause-needed : goal.returns-in-Kept-clause-needed
returns-in-Kept-clause-needed c _ = needed_alone (all_in c.args.clauses.now) c.rounds.kept.items (take c.rounds.len c.args.rest.now) c.rounds.invariant.needed

pub returns-then-k-eq0-clause-yes : goal.returns-then-k-eq0-clause-yes
returns-then-k-eq0-clause-yes c _ =
    let met : IsMet (all_in c.args.clauses.now) c.rounds.kept.items (take c.rounds.len c.args.rest.now) c.in-Rest.k =
    subst (λ (xs : List ℤ). IsMet (all_in c.args.clauses.now) xs (take c.rounds.len c.args.rest.now) c.in-Rest.k) c.deref.ensures.value c.in-Rest.ensures.found.1 in
    let kept_is : (c.rounds.kept.items ++ literal_at c.args.rest.now c.in-Rest.k ∷ []) ++ take c.in-Rest.k c.args.rest.now ≡ c.push_at.new.kept.items =
    ap (λ n. (c.rounds.kept.items ++ literal_at c.args.rest.now c.in-Rest.k ∷ []) ++ take n c.args.rest.now) c.if-k-eq0.true
    ∙ append-nil (c.rounds.kept.items ++ literal_at c.args.rest.now c.in-Rest.k ∷ []) ∙ sym c.in_ok-push_at-in-Rest.ensures in
    subst (λ (xs : List ℤ). NoneResists (all_in c.args.clauses.now) xs) kept_is
    (round_follows (all_in c.args.clauses.now) c.rounds.kept.items c.args.rest.now c.rounds.len c.in-Rest.k c.in-Rest.ensures.found.0 met)

pub returns-then-k-eq0-clause-needed : goal.returns-then-k-eq0-clause-needed
returns-then-k-eq0-clause-needed c _ =
    let met : IsMet (all_in c.args.clauses.now) c.rounds.kept.items (take c.rounds.len c.args.rest.now) c.in-Rest.k =
    subst (λ (xs : List ℤ). IsMet (all_in c.args.clauses.now) xs (take c.rounds.len c.args.rest.now) c.in-Rest.k) c.deref.ensures.value c.in-Rest.ensures.found.1 in
    subst (λ (xs : List ℤ). AreNeeded (all_in c.args.clauses.now) xs []) (sym c.in_ok-push_at-in-Rest.ensures)
    (needed_alone (all_in c.args.clauses.now) (c.rounds.kept.items ++ literal_at c.args.rest.now c.in-Rest.k ∷ []) (take c.in-Rest.k c.args.rest.now)
    (round_needed (all_in c.args.clauses.now) c.rounds.kept.items c.args.rest.now c.rounds.len c.in-Rest.k c.in-Rest.ensures.found.0 met c.rounds.invariant.needed))

pub returns-then-k-eq0-clause-extended : goal.returns-then-k-eq0-clause-extended
returns-then-k-eq0-clause-extended c =
    subst (IsExtended c.args.kept.now.items c.args.rest.now) (sym c.in_ok-push_at-in-Rest.ensures)
    (extended_more c.rounds.kept.items c.args.rest.now c.in-Rest.k (below_taken c.rounds.len c.in-Rest.k c.args.rest.now c.in-Rest.ensures.found.0).0
    c.args.kept.now.items c.rounds.invariant.extended)

pub returns-then-k-eq0-clause-room_kept : goal.returns-then-k-eq0-clause-room_kept
returns-then-k-eq0-clause-room_kept c =
    subst (λ (xs : List ℤ). All (HasRoom (length c.args.propagator.now.trail.marks.items)) xs) (sym c.in_ok-push_at-in-Rest.ensures)
    (room_more (length c.args.propagator.now.trail.marks.items) c.rounds.kept.items c.args.rest.now c.in-Rest.k
    (below_taken c.rounds.len c.in-Rest.k c.args.rest.now c.in-Rest.ensures.found.0).0 c.rounds.invariant.room c.requires.room_rest)

pub rounds-preserved : goal.rounds-preserved
rounds-preserved c =
    let met : IsMet (all_in c.args.clauses.now) c.rounds.kept.items (take c.rounds.len c.args.rest.now) c.in-Rest.k =
    subst (λ (xs : List ℤ). IsMet (all_in c.args.clauses.now) xs (take c.rounds.len c.args.rest.now) c.in-Rest.k) c.deref.ensures.value c.in-Rest.ensures.found.1 in
    let below : (c.in-Rest.k < length c.args.rest.now) × (c.in-Rest.k < c.rounds.len) = below_taken c.rounds.len c.in-Rest.k c.args.rest.now c.in-Rest.ensures.found.0 in
    let kept_is : c.rounds.kept.items ++ literal_at c.args.rest.now c.in-Rest.k ∷ [] ≡ c.push_at.new.kept.items = sym c.in_ok-push_at-in-Rest.ensures in
    record {
      low = omega (arith, below.0);
      back = back_more c.args.propagator.now c.rounds.propagator c.probe.new.propagator (all_in c.args.clauses.now) c.rounds.invariant.back c.probe.ensures.back;
      room = subst (λ (xs : List ℤ). All (HasRoom (length c.args.propagator.now.trail.marks.items)) xs) kept_is
          (room_more (length c.args.propagator.now.trail.marks.items) c.rounds.kept.items c.args.rest.now c.in-Rest.k below.0 c.rounds.invariant.room c.requires.room_rest);
      needed = subst (λ (xs : List ℤ). AreNeeded (all_in c.args.clauses.now) xs (take c.in-Rest.k c.args.rest.now)) kept_is
          (round_needed (all_in c.args.clauses.now) c.rounds.kept.items c.args.rest.now c.rounds.len c.in-Rest.k c.in-Rest.ensures.found.0 met c.rounds.invariant.needed);
      follows = λ _. subst (λ (xs : List ℤ). NoneResists (all_in c.args.clauses.now) (xs ++ take c.in-Rest.k c.args.rest.now)) kept_is
          (round_follows (all_in c.args.clauses.now) c.rounds.kept.items c.args.rest.now c.rounds.len c.in-Rest.k c.in-Rest.ensures.found.0 met);
      extended = subst (IsExtended c.args.kept.now.items c.args.rest.now) kept_is
          (extended_more c.rounds.kept.items c.args.rest.now c.in-Rest.k below.0 c.args.kept.now.items c.rounds.invariant.extended);
    }
