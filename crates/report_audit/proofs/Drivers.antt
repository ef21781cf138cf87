-- The driver of a net as it is read, and its nets.
use Rattle.std.proofs.Common.{◌≡◌, ℕ, ◌<◌, List, length, get_or, sym, ap, ◌∙◌, subst}
use Rattle.std.proofs.lemmas.List.{get_or-map}
use Rattle.std.specs.List.{AllByRecursion}
use Rattle.design_circuit.specs.declared.design.Design.{Design}
use Rattle.design_circuit.specs.declared.design.Driver.{Driver}
use Rattle.design_circuit.specs.declared.design.Driver.TheVariants.{Undriven, Register}
use Rattle.design_circuit.specs.declared.design.Latching.{Latching}
use Rattle.design_circuit.specs.declared.design.Net.{Net}
use Rattle.design_circuit.specs.declared.place.Place.{Place}
use Rattle.design_circuit.specs.declared.stim.Stim.{Stim}
use Rattle.design_circuit.specs.Filling.{IsPlace}
use Rattle.design_circuit.specs.Fits.{Fits, FitsDriver, StandsBefore}
use Rattle.design_circuit.specs.Job.{Job, job_of, net_of, number_of}
use Rattle.design_circuit.specs.Order.{arguments_of_driver, net_pins}
use Rattle.design_circuit.proofs.Handed.{number_within}
use Rattle.design_circuit.proofs.Rules.{spot}
use Rattle.law_model.proofs.CarryLaw.{net_at, nets_along}

pub driver_read : (j : Job) (design : Design) (order : List ℕ) (stim : Stim) → job_of design order stim ≡ j
    → (net : ℕ) (n : Net) (nets : List Net) → nets ≡ design.nets → net < j.width
    → j.driver net ≡ (get_or nets net n).driver
driver_read j design order stim same net n nets are less =
    let within : net < length design.nets = subst (λ (w : ℕ). net < w) (sym (ap (λ (i : Job). i.width) same)) less in
    sym (ap (λ (i : Job). i.driver net) same)
    ∙ get_or-map (λ (m : Net). m.driver) design.nets net n Undriven within
    ∙ ap (λ (m : Net). m.driver) (sym (ap (λ (ns : List Net). get_or ns net n) are))

pub nets_within : (j : Job) → Fits j → (place : Place) → IsPlace j place
    → AllByRecursion (λ n. n < j.width) (arguments_of_driver (j.driver place.net))
nets_within j fits place is =
    let n = number_of j place in
    let at : net_of j n ≡ place.net = net_at j fits place.step place.net is.net in
    subst (λ (net : ℕ). AllByRecursion (λ n. n < j.width) (arguments_of_driver (j.driver net))) at
    (nets_along (StandsBefore j _) (λ n. n < j.width) (arguments_of_driver (j.driver (net_of j n)))
    (λ k stands. stands.within) (spot j fits n (number_within j fits place is)).before)

pub register_nets : (j : Job) → Fits j → (net : ℕ) (latching : Latching) → net < j.width
    → j.driver net ≡ Register latching → AllByRecursion (λ n. n < j.width) (net_pins latching.pins)
register_nets j fits net latching less is =
    (subst (λ (d : Driver). FitsDriver j.udps j.width d) is (fits.pins net less)).nets
