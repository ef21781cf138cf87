-- When the nets of a design can't be ordered, and which loop of them is told.
use Rattle.std.specs.Prelude.{◌≡◌, ℕ, ◌+◌, ◌-◌, ◌<◌, ◌==◌, Option, Some, List, length, take, drop, find, not}
use Rattle.std.specs.Prelude.{slice_index, Contains}
use Rattle.std.specs.List.{list_any}
pub use Rattle.design_circuit.specs.Order.{IsLoop}
use Rattle.design_circuit.specs.Order.{arguments_of_driver, IsNext}
use Rattle.design_circuit.specs.Job.{driver_in}
use Rattle.design_circuit.specs.declared.design.Driver.{Driver}
use Rattle.design_circuit.specs.declared.design.Design.{Design}
use Rattle.design_order.specs.declared.refusal.OrderErr.{OrderErr}
use Rattle.design_order.specs.declared.refusal.OrderErr.TheVariants.{Loop, Memory}

-- Each net of the list is the least of those that can come next behind the ones before it.
abbrev pub IsListing : (ℕ → Driver) → ℕ → List ℕ → Type 0
IsListing driver width listed = (p : ℕ) → p < length listed → IsNext driver width (take p listed) (slice_index listed p)

-- the first argument of a net, in pin order, that isn't listed
abbrev pub first_unlisted : (ℕ → Driver) → List ℕ → ℕ → Option ℕ
first_unlisted driver listed net =
    find (λ argument. not (list_any (λ other. other == argument) listed)) (arguments_of_driver (driver net))

-- The net is the least that isn't listed.
pub record IsLeastUnlisted (width : ℕ) (listed : List ℕ) (net : ℕ) : Type 0 where
  pub within : net < width
  pub unlisted : Contains listed net → ⊥
  pub least : (other : ℕ) → other < net → Contains listed other

-- A walk goes from the least unlisted net to its first unlisted argument, and so on, and comes to no net twice.
pub record IsWalk (driver : ℕ → Driver) (width : ℕ) (listed walk : List ℕ) : Type 0 where
  pub some : 0 < length walk
  pub start : IsLeastUnlisted width listed (slice_index walk 0)
  pub step : (p : ℕ) → p + 1 < length walk → first_unlisted driver listed (slice_index walk p)
      ≡ Some (slice_index walk (p + 1))
  pub once : (p q : ℕ) → p < q → q < length walk → slice_index walk p ≡ slice_index walk q → ⊥

-- The loop that is told: list the nets as long as one can come next; walk until a net comes again; the loop is the walk
-- from where it came first.
pub record IsToldLoop (driver : ℕ → Driver) (width : ℕ) (nets : List ℕ) : Type 0 where
  pub listed : List ℕ
  pub listing : IsListing driver width listed
  pub stuck : (net : ℕ) → IsNext driver width listed net → ⊥
  pub walk : List ℕ
  pub walked : IsWalk driver width listed walk
  pub from : ℕ
  pub inside : from < length walk
  pub again : first_unlisted driver listed (slice_index walk (length walk - 1)) ≡ Some (slice_index walk from)
  pub nets_ : nets ≡ drop from walk

-- No list of the design's nets is a loop.
abbrev pub HasNoLoop : Design → Type 0
HasNoLoop design = (nets : List ℕ) → IsLoop (driver_in design) (length design.nets) nets → ⊥

-- A design is refused for the loop that is told.
abbrev pub IsRefusal : Design → OrderErr → Type 0
IsRefusal design (Loop nets) =
    IsToldLoop (driver_in design) (length design.nets) nets × IsLoop (driver_in design) (length design.nets) nets
IsRefusal design Memory = Unit {0}
