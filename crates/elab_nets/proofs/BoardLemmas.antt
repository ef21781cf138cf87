-- Nets as they are kept: one more, one with its driver, and all of them at the end.
use Rattle.std.proofs.Common.{◌≡◌, ℕ, ◌<◌, ◌≤◌, ◌^◌, zero, suc, Bool, true, false, Option, Some, None, List, [], ◌∷◌, ◌++◌, length, map, refl, ap, arith, is_some, unwrap_or, slice_index_or, slice_set, length-append, length-set}
use Rattle.std.proofs.lemmas.List.{set_past}
use Rattle.std.proofs.Math.Seq.{map-set_same}
use Rattle.std.specs.List.{zip}
use Rattle.design_circuit.specs.declared.name.Name.{Name}
use Rattle.design_circuit.specs.declared.design.Net.{Net}
use Rattle.design_circuit.specs.declared.design.Driver.{Driver}
use Rattle.design_circuit.specs.declared.design.Driver.TheVariants.{Undriven}
use Rattle.elab_nets.specs.State.{net_of, with_driver}
use Rattle.elab_nets.specs.Board.{driver_of, names_of, drivers_of, state_of, AreNets, IsBoard}

-- ---- as many as there are nets

pub driven_count : (nets : List Net) (driven : List Bool) → AreNets nets driven → length driven ≡ length nets
driven_count [] [] are = refl
driven_count (net ∷ nets) (d ∷ driven) are = ap (λ (n : ℕ). suc n) (driven_count nets driven are.1)
driven_count [] (_ ∷ _) are = absurd are
driven_count (_ ∷ _) [] are = absurd are

pub as_many : (nets : List Net) (driven : List Bool) → IsBoard nets driven → length driven ≡ length nets
as_many nets driven board = driven_count nets driven board.each

-- ---- whether a net has a driver

driven_in : (nets : List Net) (driven : List Bool) (k : ℕ) → AreNets nets driven → is_some (slice_index_or (drivers_of nets driven) k (Some Undriven)) ≡ slice_index_or driven k true
driven_in [] [] k are = refl
driven_in (net ∷ nets) (true ∷ driven) zero are = refl
driven_in (net ∷ nets) (false ∷ driven) zero are = refl
driven_in (net ∷ nets) (d ∷ driven) (suc k) are = driven_in nets driven k are.1
driven_in [] (_ ∷ _) k are = absurd are
driven_in (_ ∷ _) [] k are = absurd are

pub driven_at : (nets : List Net) (driven : List Bool) (k : ℕ) → IsBoard nets driven → is_some (slice_index_or (drivers_of nets driven) k (Some Undriven)) ≡ slice_index_or driven k true
driven_at nets driven k board = driven_in nets driven k board.each

-- ---- a net more

driver_again : (path : Name) (driver : Option Driver) → driver_of (record { path = path; driver = unwrap_or driver Undriven }) (is_some driver) ≡ driver
driver_again path (Some d) = refl
driver_again path None = refl

drivers_more : (nets : List Net) (driven : List Bool) (net : Net) (d : Bool) → AreNets nets driven → drivers_of (nets ++ net ∷ []) (driven ++ d ∷ []) ≡ drivers_of nets driven ++ driver_of net d ∷ []
drivers_more [] [] net d are = refl
drivers_more (n ∷ nets) (e ∷ driven) net d are = ap (λ (ds : List (Option Driver)). driver_of n e ∷ ds) (drivers_more nets driven net d are.1)
drivers_more [] (_ ∷ _) net d are = absurd are
drivers_more (_ ∷ _) [] net d are = absurd are

nets_more : (nets : List Net) (driven : List Bool) (net : Net) (d : Bool) → AreNets nets driven → net_of (net.path, driver_of net d) ≡ net → AreNets (nets ++ net ∷ []) (driven ++ d ∷ [])
nets_more [] [] net d are is = (is, tt)
nets_more (n ∷ nets) (e ∷ driven) net d are is = (are.0, nets_more nets driven net d are.1 is)
nets_more [] (_ ∷ _) net d are is = absurd are
nets_more (_ ∷ _) [] net d are is = absurd are

module _ (nets more : List Net) (driven now : List Bool) (path : Name) (driver : Option Driver) (board : IsBoard nets driven)
    (a_net : more ≡ nets ++ record { path = path; driver = unwrap_or driver Undriven } ∷ []) (a_driver : now ≡ driven ++ is_some driver ∷ []) where
  pub driver_pushed : drivers_of more now ≡ drivers_of nets driven ++ driver ∷ []
  driver_pushed =
      rw (a_net, a_driver, drivers_more nets driven (record { path = path; driver = unwrap_or driver Undriven }) (is_some driver) board.each, driver_again path driver) refl

  pub board_pushed : length nets < 2 ^ 20 → IsBoard more now
  board_pushed few = record {
    few = rw a_net (simp (length-append) (omega arith));
    each = rw (a_net, a_driver) (nets_more nets driven _ _ board.each (ap (λ (o : Option Driver). net_of (path, o)) (driver_again path driver)));
  }

-- ---- a net with its driver

drivers_set : (nets : List Net) (driven : List Bool) (k : ℕ) (net : Net) → AreNets nets driven → drivers_of (slice_set nets k net) (slice_set driven k true) ≡ slice_set (drivers_of nets driven) k (Some net.driver)
drivers_set [] [] k net are = refl
drivers_set (n ∷ nets) (d ∷ driven) zero net are = refl
drivers_set (n ∷ nets) (d ∷ driven) (suc k) net are = ap (λ (ds : List (Option Driver)). driver_of n d ∷ ds) (drivers_set nets driven k net are.1)
drivers_set [] (_ ∷ _) k net are = absurd are
drivers_set (_ ∷ _) [] k net are = absurd are

nets_set : (nets : List Net) (driven : List Bool) (k : ℕ) (net : Net) → AreNets nets driven → AreNets (slice_set nets k net) (slice_set driven k true)
nets_set [] [] k net are = tt
nets_set (n ∷ nets) (d ∷ driven) zero net are = (refl, are.1)
nets_set (n ∷ nets) (d ∷ driven) (suc k) net are = (are.0, nets_set nets driven k net are.1)
nets_set [] (_ ∷ _) k net are = absurd are
nets_set (_ ∷ _) [] k net are = absurd are

drivers_count : (nets : List Net) (driven : List Bool) → AreNets nets driven → length (drivers_of nets driven) ≡ length nets
drivers_count [] [] are = refl
drivers_count (net ∷ nets) (d ∷ driven) are = ap (λ (n : ℕ). suc n) (drivers_count nets driven are.1)
drivers_count [] (_ ∷ _) are = absurd are
drivers_count (_ ∷ _) [] are = absurd are

module _ (nets : List Net) (driven : List Bool) (k : ℕ) (driver : Driver) (board : IsBoard nets driven) where
  pub driver_given : (net : Net) → state_of (slice_set nets k (record { path = (slice_index_or nets k net).path; driver = driver })) (slice_set driven k true) ≡ with_driver k driver (state_of nets driven)
  driver_given net =
      rw (map-set_same (λ (n : Net). n.path) nets k (record { path = (slice_index_or nets k net).path; driver = driver }) net refl, drivers_set nets driven k (record { path = (slice_index_or nets k net).path; driver = driver }) board.each) refl

  pub board_given : (net : Net) → IsBoard (slice_set nets k net) (slice_set driven k true)
  board_given net = record {
    few = rw (length-set) board.few;
    each = nets_set nets driven k net board.each;
  }

  pub none_given : length nets ≤ k → state_of nets driven ≡ with_driver k driver (state_of nets driven)
  none_given past =
      let out : length (drivers_of nets driven) ≤ k = rw (drivers_count nets driven board.each) past in
      rw (set_past (drivers_of nets driven) k (Some driver) out) refl

-- ---- all nets at the end

finished_nets : (nets : List Net) (driven : List Bool) → AreNets nets driven → map net_of (zip (names_of nets) (drivers_of nets driven)) ≡ nets
finished_nets [] [] are = refl
finished_nets (n ∷ nets) (d ∷ driven) are = rw (are.0, finished_nets nets driven are.1) refl
finished_nets [] (_ ∷ _) are = absurd are
finished_nets (_ ∷ _) [] are = absurd are

pub nets_at_end : (nets : List Net) (driven : List Bool) → IsBoard nets driven → map net_of (zip (names_of nets) (drivers_of nets driven)) ≡ nets
nets_at_end nets driven board = finished_nets nets driven board.each
