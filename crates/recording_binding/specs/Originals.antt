-- The nets that nets copy.
use Rattle.std.specs.Prelude.{◌≡◌, ◌⊎◌, ◌<◌, ℕ, zero, suc, List, length, map, slice_index}
use Rattle.design_circuit.specs.Job.{driver_in}
use Rattle.design_circuit.specs.declared.design.Design.{Design}
use Rattle.design_circuit.specs.declared.design.Driver.{Driver}
use Rattle.design_circuit.specs.declared.design.Driver.TheVariants.{Input, Undriven, Constant, Copy, Cell, Register}
use Rattle.recording_binding.specs.declared.binding.Bound.{Bound}

-- A net copies another over so many nets between.
abbrev pub CopiesOver : Design → ℕ → ℕ → ℕ → Type 0
CopiesOver design zero net other = driver_in design net ≡ Copy other
CopiesOver design (suc between) net other =
    (next : ℕ) × (driver_in design net ≡ Copy next) × CopiesOver design between next other

-- A net copies another where it is a Copy of it, or of a net that copies it.
abbrev pub Copies : Design → ℕ → ℕ → Type 0
Copies design net other = (between : ℕ) × CopiesOver design between net other

-- the net that a net is a Copy of; itself where it is none
abbrev pub copied_by : ℕ → Driver → ℕ
copied_by net Input = net
copied_by net Undriven = net
copied_by net (Constant bit) = net
copied_by net (Copy argument) = argument
copied_by net (Cell table pins) = net
copied_by net (Register latching) = net

abbrev pub copied_of : Design → ℕ → ℕ
copied_of design net = copied_by net (driver_in design net)

-- so many Copies back
abbrev pub copied_after : Design → ℕ → ℕ → ℕ
copied_after design zero net = net
copied_after design (suc more) net = copied_after design more (copied_of design net)

-- The original of a net is the one that it copies in the end, and itself where it copies none. In a design with an
-- order it is reached after as many Copies as there are nets.
abbrev pub original_of : Design → ℕ → ℕ
original_of design net = copied_after design (length design.nets) net

-- the originals of the nets
pub record AreOriginals (design : Design) (originals : List ℕ) : Type 0 where
  pub as_many : length originals ≡ length design.nets
  pub each : (net : ℕ) → net < length design.nets → slice_index originals net ≡ original_of design net

-- that of a net, by those of the nets that stand before it in the order
abbrev pub listed_original : List ℕ → ℕ → Driver → ℕ
listed_original originals net Input = net
listed_original originals net Undriven = net
listed_original originals net (Constant bit) = net
listed_original originals net (Copy argument) = slice_index originals argument
listed_original originals net (Cell table pins) = net
listed_original originals net (Register latching) = net

-- A bound variable with the originals of its bits.
abbrev pub with_originals : Design → Bound → Bound
with_originals design b =
    record { variable = b.variable; bits = map (original_of design) b.bits; path = b.path; range = b.range }

-- a net, or one that copies it
abbrev pub IsOrCopies : Design → ℕ → ℕ → Type 0
IsOrCopies design own net = (own ≡ net) ⊎ Copies design own net
