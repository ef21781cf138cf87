-- What the listing's progress, as code holds it, says of a design. No contract of a public call names it.
use Rattle.std.specs.Prelude.{◌≡◌, ℕ, ◌<◌, ◌++◌, Bool, false, Option, List, [], ◌∷◌, length, MatchOption}
use Rattle.std.specs.BTreeSet.{contains}
use Rattle.std.specs.Ordering.{nat_cmp}
use Rattle.design_circuit.specs.Job.{driver_in}
use Rattle.design_circuit.specs.declared.design.Design.{Design}
use Rattle.design_order.specs.declared.progress.Progress.{Progress}
use Rattle.design_order.specs.declared.readers.Readers.{Readers}
use Rattle.design_order.specs.Pending.{Pending}
use Rattle.design_order.specs.Progress.{can_come, IsListed, IsSound, IsComplete, IsProgress, Offers}

-- the set of nets that can come next
abbrev pub is_ready : Progress → ℕ → Bool
is_ready p = contains nat_cmp p.ready

abbrev pub AreListed : Design → Progress → Type 0
AreListed design p = IsListed (driver_in design) (length design.nets) p.listed.items p.flags.items

abbrev pub InProgress : Design → Progress → Type 0
InProgress design p = IsProgress (driver_in design) (length design.nets) p.listed.items p.flags.items (is_ready p)

-- by these flags its set has nets alone that can come next, or all of them
abbrev pub HasOnly : Design → List Bool → Progress → Type 0
HasOnly design flags p = IsSound (driver_in design) (length design.nets) flags (is_ready p)

abbrev pub HasAll : Design → List Bool → Progress → Type 0
HasAll design flags p = IsComplete (driver_in design) (length design.nets) flags (is_ready p)

-- all but readers that stand in the chain from a link on
abbrev pub HasAllBut : Design → Readers → Option ℕ → Progress → Type 0
HasAllBut design readers at p = Pending (driver_in design) (length design.nets) p.flags.items readers at (is_ready p)

-- A net has joined its set where it can come.
abbrev pub OffersNet : Design → Progress → Progress → ℕ → Type 0
OffersNet design old new net = Offers (can_come (driver_in design) old.flags.items) (is_ready old) (is_ready new) net

-- This net is listed behind the others, or none.
abbrev pub Lists : Progress → Progress → Option ℕ → Type 0
Lists old new next =
    MatchOption next (new.listed.items ≡ old.listed.items) (λ net. new.listed.items ≡ old.listed.items ++ net ∷ [])

-- No net can come.
abbrev pub IsStuck : Design → Progress → Type 0
IsStuck design p = (net : ℕ) → net < length design.nets → can_come (driver_in design) p.flags.items net ≡ false
