-- What holds a net through copies, one variable or one bit more.
use Rattle.std.proofs.Common.{◌≡◌, ◌∙◌, ℕ, zero, suc, ◌+◌, ◌<◌, List, [], ◌∷◌, ◌++◌, length, get_or, map, take, refl, sym, ap, ap₂, arith, All, slice_index}
use Rattle.std.specs.List.{AllByRecursion}
use Rattle.std.proofs.lemmas.List.{get_or_default, length-map, map-append, take_more}
use Rattle.design_circuit.specs.Design.{FitsDesign}
use Rattle.design_circuit.specs.Job.{driver_in}
use Rattle.design_circuit.specs.Order.{arguments_of_driver}
use Rattle.design_circuit.specs.declared.design.Design.{Design}
use Rattle.design_circuit.specs.declared.design.Driver.{Driver}
use Rattle.design_circuit.specs.declared.design.Driver.TheVariants.{Input, Undriven, Constant, Copy, Cell, Register}
use Rattle.recording_binding.specs.Holding.{given_at, holder_in, or_next}
use Rattle.recording_binding.specs.Originals.{AreOriginals, copied_after, copied_by, copied_of, original_of, with_originals}
use Rattle.recording_binding.specs.declared.binding.Bound.{Bound}
use Rattle.recording_binding.specs.declared.inputs.Holder.{Holder}
use Rattle.recording_binding.proofs.HoldLemmas.{bits_more}

-- ---- originals are nets of the design

by_driver : (width net : ℕ) (d : Driver) → net < width → AllByRecursion (λ a. a < width) (arguments_of_driver d) → copied_by net d < width
by_driver width net Input within all = within
by_driver width net Undriven within all = within
by_driver width net (Constant bit) within all = within
by_driver width net (Copy argument) within all = all.0
by_driver width net (Cell table pins) within all = within
by_driver width net (Register latching) within all = within

module _ (design : Design) (fits : FitsDesign design) where
  pub copied_within : (net : ℕ) → net < length design.nets → copied_of design net < length design.nets
  copied_within net within = by_driver (length design.nets) net (driver_in design net) within (fits.arguments net within)

  after_within : (n net : ℕ) → net < length design.nets → copied_after design n net < length design.nets
  after_within zero net within = within
  after_within (suc n) net within = after_within n (copied_of design net) (copied_within net within)

  pub originals_within : (originals : List ℕ) → AreOriginals design originals → All (λ (net : ℕ). net < length design.nets) originals
  originals_within originals are = λ k x within.
      (let many = are.as_many in
      let inside : k < length design.nets = omega (arith, within, many) in
      let here : get_or originals k x ≡ original_of design k = get_or_default originals k x 0 within ∙ are.each k inside in
      let low = after_within (length design.nets) k inside in
      omega (arith, here, low))

-- ---- lists of them

pub map_at : (f : ℕ → ℕ) (xs : List ℕ) (i : ℕ) → i < length xs → get_or (map f xs) i 0 ≡ f (get_or xs i 0)
map_at f [] i within = absurd (omega arith)
map_at f (x ∷ xs) zero within = refl
map_at f (x ∷ xs) (suc i) within = map_at f xs i (omega arith)

map_same : (f g : ℕ → ℕ) (n : ℕ) (xs : List ℕ) → ((x : ℕ) → x < n → f x ≡ g x) → All (λ (x : ℕ). x < n) xs → map f xs ≡ map g xs
map_same f g n [] same all = refl
map_same f g n (x ∷ xs) same all =
    ap₂ (λ (y : ℕ) (ys : List ℕ). y ∷ ys) (same x (all 0 x (omega arith))) (map_same f g n xs same (λ k y within. all (suc k) y (omega arith)))

pub originals_listed : (design : Design) (originals bits : List ℕ) → AreOriginals design originals → All (λ (net : ℕ). net < length design.nets) bits
    → map (slice_index originals) bits ≡ map (original_of design) bits
originals_listed design originals bits are within = map_same (slice_index originals) (original_of design) (length design.nets) bits are.each within

-- one bit more
pub mapped_more : (f : ℕ → ℕ) (variable net : ℕ) (bits : List ℕ) (i : ℕ) → i < length bits
    → holder_in variable (take (i + 1) (map f bits)) net ≡ or_next (holder_in variable (take i (map f bits)) net) (given_at (f (get_or bits i 0)) (record { variable = variable; bit = i }) net)
mapped_more f variable net bits i within =
    let long = length-map bits f in
    let inside : i < length (map f bits) = omega (arith, long, within) in
    let h : Holder = record { variable = variable; bit = i } in
    bits_more variable net (map f bits) i inside
    ∙ ap (λ (own : ℕ). or_next (holder_in variable (take i (map f bits)) net) (given_at own h net)) (map_at f bits i within)

-- one variable more
pub variables_more : (design : Design) (bound : List Bound) (i : ℕ) (b : Bound) → i < length bound → b ≡ get_or bound i b
    → map (with_originals design) (take (i + 1) bound) ≡ map (with_originals design) (take i bound) ++ with_originals design b ∷ []
variables_more design bound i b within is =
    ap (map (with_originals design)) (take_more bound i b within ∙ ap (λ (x : Bound). take i bound ++ x ∷ []) (sym is))
    ∙ map-append (with_originals design) (take i bound) (b ∷ [])
