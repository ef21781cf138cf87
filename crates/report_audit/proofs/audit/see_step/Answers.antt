-- Each position has the place of its number, which is seen.
use Rattle.std.proofs.Common.{◌≡◌, ℕ, ◌+◌, ◌<◌, ◌∙◌, length, refl, sym, ap, subst, arith}
use Rattle.design_circuit.specs.Job.{Job}
use Rattle.design_circuit.specs.declared.place.Place.{Place}
use Rattle.report_audit.specs.Seen.{AreSeen}
use Rattle.report_audit.proofs.SeenPlaces.{open_few, seen_more, stands_at, step_ends}
use Rattle.report_audit.proofs.audit.see_step.Goals as goal

pub positions-init : goal.positions-init
positions-init c =
    let seen = c.args.seen.now in
    let same : c.args.first ≡ c.args.first + 0 = omega arith in
    subst (λ (n : ℕ). AreSeen c.args.wave.now c.args.row.now.history n seen.listed.items seen.unsure) same
    c.requires.before

pub net-net-requires : goal.net-net-requires
net-net-requires c =
    let test = c.positions-test.true in
    let all = c.circuit-circuit.result.fits.fits_job.all in
    let wide = c.width_of-position-end.ensures in
    omega (arith, test, all, wide)

pub written-written-requires : goal.written-written-requires
written-written-requires c =
    let test = c.positions-test.true in
    let wide = c.width_of-position-end.ensures ∙ ap (λ (j : Job). j.width) c.circuit-circuit.ensures.job in
    let ends = step_ends c.args.wave.now c.args.row.now c.args.first c.requires.step in
    omega (arith, test, wide, ends)

pub see_place-requires-clause-place : goal.see_place-requires-clause-place
see_place-requires-clause-place c =
    let test = c.positions-test.true in
    let wide = c.width_of-position-end.ensures ∙ ap (λ (j : Job). j.width) c.circuit-circuit.ensures.job in
    let net = c.net-net.result in
    let place : Place = record { step = c.step-step.result; net = net } in
    (stands_at c.args.wave.now c.circuit-circuit.ensures.wave _ c.circuit-circuit.ensures.job c.args.row.now
    c.args.first c.positions.position net place c.written-written.result c.requires.step (omega (arith, test, wide))
    c.net-net.ensures (ap (λ (s : ℕ). record { step = s; net = net }) c.step-step.ensures) c.written-written.ensures).1

pub see_place-requires-clause-few : goal.see_place-requires-clause-few
see_place-requires-clause-few c =
    let wave = c.args.wave.now in
    let row = c.args.row.now in
    let test = c.positions-test.true in
    let wide = c.width_of-position-end.ensures ∙ ap (λ (j : Job). j.width) c.circuit-circuit.ensures.job in
    let ends = step_ends wave row c.args.first c.requires.step in
    let finished = c.requires.step.audit.finished in
    let counted = c.positions.invariant.counted in
    let few = open_few wave row.history (c.args.first + c.positions.position) in
    let all = c.circuit-circuit.ensures.wave.fits.fits_job.few_places in
    omega (arith, test, wide, ends, finished, counted, few, all)

pub positions-preserved : goal.positions-preserved
positions-preserved c =
    let wave = c.args.wave.now in
    let row = c.args.row.now in
    let number = c.args.first + c.positions.position in
    let test = c.positions-test.true in
    let wide = c.width_of-position-end.ensures ∙ ap (λ (j : Job). j.width) c.circuit-circuit.ensures.job in
    let net = c.net-net.result in
    let place : Place = record { step = c.step-step.result; net = net } in
    let stands = stands_at wave c.circuit-circuit.ensures.wave _ c.circuit-circuit.ensures.job row
    c.args.first c.positions.position net place c.written-written.result c.requires.step (omega (arith, test, wide))
    c.net-net.ensures (ap (λ (s : ℕ). record { step = s; net = net }) c.step-step.ensures) c.written-written.ensures in
    let next : number + 1 ≡ c.args.first + (c.positions.position + 1) = omega arith in
    let seen = c.see_place.new.seen in
    subst (λ (n : ℕ). AreSeen wave row.history n seen.listed.items seen.unsure) next
    (seen_more wave row.history number place c.positions.seen.listed.items seen.listed.items c.positions.seen.unsure
    seen.unsure stands.0 c.positions.invariant c.in_ok-see_place.ensures.listed c.in_ok-see_place.ensures.unsure)

pub returns : goal.returns
returns c =
    let seen = c.positions.seen in
    let test = c.positions-test.false in
    let up = c.positions.auto.position-end in
    let wide = c.width_of-position-end.ensures ∙ ap (λ (j : Job). j.width) c.circuit-circuit.ensures.job in
    let all : c.positions.position ≡ c.width_of-position-end.result = omega (arith, test, up) in
    subst (λ (n : ℕ). AreSeen c.args.wave.now c.args.row.now.history (c.args.first + n) seen.listed.items seen.unsure)
    (all ∙ wide) c.positions.invariant
