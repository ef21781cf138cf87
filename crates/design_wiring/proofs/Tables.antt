-- Wires in flat tables, as they grow.
use Rattle.std.proofs.Common.{◌≡◌, ℕ, zero, suc, ◌+◌, ◌-◌, ◌<◌, ◌≤◌, List, [], ◌∷◌, ◌++◌, length, map, take, drop, get_or, refl, sym, ap, ◌∙◌, arith, length-append, length-drop}
use Rattle.std.specs.List.{AllByRecursion, between}
use Rattle.std.proofs.lemmas.List.{drop-append-le, drop_at, map-append, map_more, take-append-le, take_all}
use Rattle.design_circuit.specs.declared.design.Design.{Design}
use Rattle.design_circuit.specs.declared.design.Pin.{Pin}
use Rattle.design_wiring.specs.declared.wiring.Head.{Head}
use Rattle.design_wiring.specs.Flat.{AreHeadsWithin, IsHeadWithin, wire_in, wires_in}
use Rattle.design_wiring.specs.Wired.{IsWirable, Wire}

-- What holds of all nets of an order holds of the one at a position.
pub wirable_at : (design : Design) (order : List ℕ) (p : ℕ) → p < length order
    → AllByRecursion (IsWirable design order) order → IsWirable design order (get_or order p 0)
wirable_at design order p less all = each order p less all
  where
    each : (nets : List ℕ) (q : ℕ) → q < length nets → AllByRecursion (IsWirable design order) nets
        → IsWirable design order (get_or nets q 0)
    each [] q less all = absurd (omega (arith, less))
    each (net ∷ nets) zero less all = all.0
    each (net ∷ nets) (suc q) less all = each nets q (omega (arith, less)) all.1

-- A part of a table stays where more is appended.
between_more : (pins more : List Pin) (start end : ℕ) → start ≤ end → end ≤ length pins
    → between start end (pins ++ more) ≡ between start end pins
between_more pins more start end some within =
    let rest = length-drop start pins in
    ap (take (end - start)) (drop-append-le start pins more (omega (arith, some, within)))
    ∙ take-append-le (end - start) (drop start pins) more (omega (arith, rest, some, within))

pub wires_more : (pins more : List Pin) (heads : List Head) → AreHeadsWithin pins heads
    → wires_in (pins ++ more) heads ≡ wires_in pins heads
wires_more pins more [] within = refl
wires_more pins more (head ∷ heads) within =
    let first : wire_in (pins ++ more) head ≡ wire_in pins head =
    ap (λ (ps : List Pin). let w : Wire = record { kind = head.kind; pins = ps } in w)
    (between_more pins more head.start head.end within.0.some within.0.within) in
    rw (first, wires_more pins more heads within.1) refl

-- What is appended is the part behind what was.
appended : (pins more : List Pin) (start end : ℕ) → start ≡ length pins → end ≡ length (pins ++ more)
    → between start end (pins ++ more) ≡ more
appended pins more start end start_is end_is =
    let long = length-append pins more in
    let count : end - start ≡ length more = omega (arith, start_is, end_is, long) in
    ap (take (end - start)) (drop_at pins more start (sym start_is))
    ∙ take_all (end - start) more (omega (arith, count))

within_more : (pins more : List Pin) (heads : List Head) → AreHeadsWithin pins heads → AreHeadsWithin (pins ++ more) heads
within_more pins more [] within = tt
within_more pins more (head ∷ heads) within =
    let long = length-append pins more in
    let end = within.0.within in (
      record { some = within.0.some; within = omega (arith, long, end) },
      within_more pins more heads within.1,
    )

within_added : (pins : List Pin) (heads : List Head) (head : Head) → AreHeadsWithin pins heads → IsHeadWithin pins head
    → AreHeadsWithin pins (heads ++ head ∷ [])
within_added pins [] head within last = (last, tt)
within_added pins (first ∷ heads) head within last = (within.0, within_added pins heads head within.1 last)

-- A head more.
pub all_within : (pins more : List Pin) (heads : List Head) (head : Head) → AreHeadsWithin pins heads
    → head.start ≡ length pins → head.end ≡ length (pins ++ more) → AreHeadsWithin (pins ++ more) (heads ++ head ∷ [])
all_within pins more heads head within start_is end_is =
    let long = length-append pins more in
    within_added (pins ++ more) heads head (within_more pins more heads within)
    (record { some = omega (arith, start_is, end_is, long); within = omega (arith, end_is) })

pub wire_added : (wire : ℕ → Wire) (order : List ℕ) (pins more : List Pin) (heads : List Head) (head : Head) (p : ℕ)
    → AreHeadsWithin pins heads → head.start ≡ length pins → head.end ≡ length (pins ++ more) → p < length order
    → wires_in pins heads ≡ map wire (take p order)
    → wire (get_or order p 0) ≡ record { kind = head.kind; pins = more }
    → wires_in (pins ++ more) (heads ++ head ∷ []) ≡ map wire (take (p + 1) order)
wire_added wire order pins more heads head p within start_is end_is less so_far is =
    map-append (wire_in (pins ++ more)) heads (head ∷ [])
    ∙ ap (λ (ws : List Wire). ws ++ wire_in (pins ++ more) head ∷ []) (wires_more pins more heads within ∙ so_far)
    ∙ ap (λ (w : Wire). map wire (take p order) ++ w ∷ [])
    (ap (λ (ps : List Pin). let w : Wire = record { kind = head.kind; pins = ps } in w)
    (appended pins more head.start head.end start_is end_is) ∙ sym is)
    ∙ sym (map_more wire order p 0 less)
