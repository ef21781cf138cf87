-- What the replay reads for a place, by its driver.
use Rattle.std.proofs.Common.{◌≡◌, ◌||◌, Bool, true, false, List, refl, sym, ap, ◌∙◌, subst, ◌<◌}
use Rattle.std.specs.List.{AllByRecursion, list_any}
use Rattle.design_circuit.specs.declared.design.Driver.{Driver}
use Rattle.design_circuit.specs.declared.design.Driver.TheVariants.{Input, Undriven, Constant, Copy, Cell, Register}
use Rattle.design_circuit.specs.declared.design.Pin.{Pin}
use Rattle.design_circuit.specs.declared.place.Place.{Place}
use Rattle.design_circuit.specs.Job.{Job}
use Rattle.design_circuit.specs.Order.{arguments_of_driver, net_pins}
use Rattle.wave_proved.specs.Contents.{job}
use Rattle.report_audit.specs.Listed.{is_suspect, places_in, replay_arguments_of}
use Rattle.report_audit.proofs.Drivers.{driver_read, nets_within, register_nets}
use Rattle.report_audit.proofs.suspects.reads_suspect.Goals as goal

last : (b : Bool) → b ≡ (b || false)
last true = refl
last false = refl

none_read : (j : Job) (test : Place → Bool) (place : Place) (driver : Driver) → ((argument : _) → driver ≡ Copy argument → ⊥)
    → ((table : _) (pins : _) → driver ≡ Cell table pins → ⊥) → ((latching : _) → driver ≡ Register latching → ⊥)
    → false ≡ list_any test (replay_arguments_of j place driver)
none_read j test place Input a b c = refl
none_read j test place Undriven a b c = refl
none_read j test place (Constant bit) a b c = refl
none_read j test place (Copy argument) a b c = absurd (a argument refl)
none_read j test place (Cell table pins) a b c = absurd (b table pins refl)
none_read j test place (Register latching) a b c = absurd (c latching refl)

pub is_suspect-requires-clause-net : goal.is_suspect-requires-clause-net
is_suspect-requires-clause-net c =
    let j = job c.args.wave.now in
    let driver = driver_read j c.circuit-circuit.result.design.now c.circuit-circuit.result.order.now c.circuit-circuit.result.stim.now c.circuit-circuit.ensures.job c.args.place.net c.index-as_slice-place.result c.as_slice.result.now c.as_slice.ensures c.requires.net in
    (subst (λ (d : Driver). AllByRecursion (λ n. n < j.width) (arguments_of_driver d)) (driver ∙ c.in-Copy.is)
    (nets_within j c.circuit-circuit.ensures.wave.fits.fits_job c.args.place (record { step = c.requires.step; net = c.requires.net }))).0

pub any_suspect-requires-clause-pins : goal.any_suspect-requires-clause-pins
any_suspect-requires-clause-pins c =
    let j = job c.args.wave.now in
    let driver = driver_read j c.circuit-circuit.result.design.now c.circuit-circuit.result.order.now c.circuit-circuit.result.stim.now c.circuit-circuit.ensures.job c.args.place.net c.index-as_slice-place.result c.as_slice.result.now c.as_slice.ensures c.requires.net in
    subst (λ (ps : List Pin). AllByRecursion (λ n. n < j.width) (net_pins ps)) (sym c.as_slice-in-Cell.ensures)
    (subst (λ (d : Driver). AllByRecursion (λ n. n < j.width) (arguments_of_driver d)) (driver ∙ c.in-Cell.is)
    (nets_within j c.circuit-circuit.ensures.wave.fits.fits_job c.args.place (record { step = c.requires.step; net = c.requires.net })))

pub register_reads_suspect-requires-clause-pins : goal.register_reads_suspect-requires-clause-pins
register_reads_suspect-requires-clause-pins c =
    let j = job c.args.wave.now in
    let driver = driver_read j c.circuit-circuit.result.design.now c.circuit-circuit.result.order.now c.circuit-circuit.result.stim.now c.circuit-circuit.ensures.job c.args.place.net c.index-as_slice-place.result c.as_slice.result.now c.as_slice.ensures c.requires.net in
    register_nets j c.circuit-circuit.ensures.wave.fits.fits_job c.args.place.net c.in-Register.latching c.requires.net (driver ∙ c.in-Register.is)

pub returns-in-Copy : goal.returns-in-Copy
returns-in-Copy c =
    let j = job c.args.wave.now in
    let test = is_suspect c.args.wave.now c.args.replayed.now in
    let driver = driver_read j c.circuit-circuit.result.design.now c.circuit-circuit.result.order.now c.circuit-circuit.result.stim.now c.circuit-circuit.ensures.job c.args.place.net c.index-as_slice-place.result c.as_slice.result.now c.as_slice.ensures c.requires.net in
    c.is_suspect.ensures ∙ last _ ∙ sym (ap (λ (d : Driver). list_any test (replay_arguments_of j c.args.place d)) (driver ∙ c.in-Copy.is))

pub returns-in-Cell : goal.returns-in-Cell
returns-in-Cell c =
    let j = job c.args.wave.now in
    let test = is_suspect c.args.wave.now c.args.replayed.now in
    let driver = driver_read j c.circuit-circuit.result.design.now c.circuit-circuit.result.order.now c.circuit-circuit.result.stim.now c.circuit-circuit.ensures.job c.args.place.net c.index-as_slice-place.result c.as_slice.result.now c.as_slice.ensures c.requires.net in
    c.any_suspect.ensures ∙ ap (λ (ps : List Pin). list_any test (places_in c.args.place.step ps)) c.as_slice-in-Cell.ensures
    ∙ sym (ap (λ (d : Driver). list_any test (replay_arguments_of j c.args.place d)) (driver ∙ c.in-Cell.is))

pub returns-in-Register : goal.returns-in-Register
returns-in-Register c =
    let j = job c.args.wave.now in
    let test = is_suspect c.args.wave.now c.args.replayed.now in
    let driver = driver_read j c.circuit-circuit.result.design.now c.circuit-circuit.result.order.now c.circuit-circuit.result.stim.now c.circuit-circuit.ensures.job c.args.place.net c.index-as_slice-place.result c.as_slice.result.now c.as_slice.ensures c.requires.net in
    c.register_reads_suspect.ensures ∙ sym (ap (λ (d : Driver). list_any test (replay_arguments_of j c.args.place d)) (driver ∙ c.in-Register.is))

pub returns-in_default : goal.returns-in_default
returns-in_default c =
    let j = job c.args.wave.now in
    let test = is_suspect c.args.wave.now c.args.replayed.now in
    let driver = driver_read j c.circuit-circuit.result.design.now c.circuit-circuit.result.order.now c.circuit-circuit.result.stim.now c.circuit-circuit.ensures.job c.args.place.net c.index-as_slice-place.result c.as_slice.result.now c.as_slice.ensures c.requires.net in
    none_read j test c.args.place _ c.in_default.not-Copy c.in_default.not-Cell c.in_default.not-Register
    ∙ sym (ap (λ (d : Driver). list_any test (replay_arguments_of j c.args.place d)) driver)
