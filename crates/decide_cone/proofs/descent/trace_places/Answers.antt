-- The greatest of the places that wait is taken, and its supports come in.
use Rattle.std.proofs.Common.{ℕ, List, subst, sym, arith}
use Rattle.design_circuit.specs.Fits.{Fits}
use Rattle.design_circuit.specs.Waveform.{certain}
use Rattle.wave_proved.specs.Contents.{job}
use Rattle.decide_graph.specs.Reached.{Adds, AddsAll}
use Rattle.decide_graph.specs.Traced.{supports_in}
use Rattle.decide_cone.proofs.KnownBodies.{known_body}
use Rattle.decide_cone.proofs.TracedBodies.{supports_are}
use Rattle.decide_cone.proofs.TracedPlaces.{IsDescent, descent_begins, descent_ends, descent_more, descent_within}
use Rattle.decide_cone.proofs.descent.trace_places.Goals as goal

pub places-init : goal.places-init
places-init c =
    let j = job c.args.wave.now in
    let known = certain c.args.wave.now.written in
    let fits : Fits j = c.recall.ensures.fits.fits_job in
    record {
      descent = subst (λ (ps : List ℕ). IsDescent j known c.args.root ps c.insert.new.self) (sym c.new-traced.ensures.items)
          (descent_begins j fits known c.args.root c.insert.new.self c.requires.reach.within
          (subst (λ (xs : List ℕ). Adds xs c.args.root c.insert.new.self) c.new-reached.ensures c.in_ok-insert.ensures));
      right = c.requires.right;
    }

pub find-requires-clause-reach : goal.find-requires-clause-reach
find-requires-clause-reach c =
    let j = job c.args.wave.now in
    let fits : Fits j = c.recall.ensures.fits.fits_job in
    let low = descent_within j fits (certain c.args.wave.now.written) c.args.root c.in-Some.place c.places.traced.items
    c.places.reached c.take_greatest.new.self c.requires.reach.within c.places.invariant.descent c.in-Some.ensures in
    let up = low.0 in
    let within = c.requires.reach.within in
    let written = c.requires.reach.written in
    record { written = omega (arith, up, written); within = omega (arith, up, within) }

pub places-smaller : goal.places-smaller
places-smaller c =
    let j = job c.args.wave.now in
    let fits : Fits j = c.recall.ensures.fits.fits_job in
    let low = descent_within j fits (certain c.args.wave.now.written) c.args.root c.in-Some.place c.places.traced.items
    c.places.reached c.take_greatest.new.self c.requires.reach.within c.places.invariant.descent c.in-Some.ensures in
    let room = low.1 in
    let long = c.in_ok-push.ensures.len in
    omega (arith, room, long)

pub places-preserved : goal.places-preserved
places-preserved c =
    let j = job c.args.wave.now in
    let known = certain c.args.wave.now.written in
    let place : ℕ = c.in-Some.place in
    let left : List ℕ = c.take_greatest.new.self in
    let more : List ℕ = c.insert_supports.new.reached in
    let fits : Fits j = c.recall.ensures.fits.fits_job in
    let body = known_body c.args.wave.now c.find.new.self place (λ body. AddsAll left (supports_in body) more)
    c.in_ok-find.ensures.right c.in_ok-find.ensures.known c.in_ok-insert_supports.ensures in
    let adds = subst (λ (xs : List ℕ). AddsAll left xs more) (supports_are j known place body.0 body.1.0) body.1.1 in
    record {
      descent = subst (λ (ps : List ℕ). IsDescent j known c.args.root ps more) (sym c.in_ok-push.ensures.items)
          (descent_more j fits known c.args.root place c.places.traced.items c.places.reached left more
          c.requires.reach.within c.places.invariant.descent c.in-Some.ensures adds);
      right = c.in_ok-find.ensures.right;
    }

pub returns-clause-traced : goal.returns-clause-traced
returns-clause-traced c =
    let j = job c.args.wave.now in
    let fits : Fits j = c.recall.ensures.fits.fits_job in
    descent_ends j fits (certain c.args.wave.now.written) c.args.root _ c.places.reached c.requires.reach.within
    c.places.invariant.descent c.in_default.ensures
