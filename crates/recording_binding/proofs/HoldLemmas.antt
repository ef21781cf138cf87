-- What holds a net, one variable or one bit more.
use Rattle.std.proofs.Common.{◌≡◌, ◌≢◌, ℕ, ◌+◌, ◌<◌, ◌==◌, Bool, true, false, cond, List, [], ◌∷◌, ◌++◌, Option, None, Some, length, get_or, set, take, refl, sym, ap, ◌∙◌, arith, if◌then◌else◌, option_map}
use Rattle.std.specs.List.{position_from}
use Rattle.std.proofs.lemmas.List.{get_or-set_same, get_or-set_other, take_more, length-take}
use Rattle.std.proofs.lemmas.Bool.Decides.{Decides-eqb}
use Rattle.recording_binding.specs.Holding.{given_at, holder_in, holder_of, or_next}
use Rattle.recording_binding.specs.declared.binding.Bound.{Bound}
use Rattle.recording_binding.specs.declared.inputs.Holder.{Holder}

pub next_none : (a : Option Holder) → or_next a None ≡ a
next_none None = refl
next_none (Some h) = refl

pub next_assoc : (a b c : Option Holder) → or_next (or_next a b) c ≡ or_next a (or_next b c)
next_assoc None b c = refl
next_assoc (Some h) b c = refl

pub holder_more : (bs : List Bound) (b : Bound) (net : ℕ) → holder_of (bs ++ b ∷ []) net ≡ or_next (holder_of bs net) (holder_in b.variable b.bits net)
holder_more [] b net = next_none (holder_in b.variable b.bits net)
holder_more (a ∷ bs) b net = ap (or_next (holder_in a.variable a.bits net)) (holder_more bs b net) ∙ sym (next_assoc (holder_in a.variable a.bits net) (holder_of bs net) (holder_in b.variable b.bits net))

abbrev holder : ℕ → ℕ → Holder
holder variable bit = record { variable = variable; bit = bit }

abbrev held : ℕ → ℕ → ℕ → List ℕ → Option Holder
held variable net i bits = option_map (λ bit. record { variable = variable; bit = bit }) (position_from (λ own. own == net) i bits)

step : (b : Bool) (variable i : ℕ) (r s : Option ℕ) (h : Option Holder) → option_map (λ bit. holder variable bit) r ≡ or_next (option_map (λ bit. holder variable bit) s) h
    → option_map (λ bit. holder variable bit) (cond b (Some i) r) ≡ or_next (option_map (λ bit. holder variable bit) (cond b (Some i) s)) h
step true variable i r s h rest = refl
step false variable i r s h rest = rest

last : (b : Bool) (variable i : ℕ) → option_map (λ bit. holder variable bit) (cond b (Some i) None) ≡ (if b then Some (holder variable (i + 0)) else None)
last true variable i = (let e : i ≡ i + 0 = omega arith in ap (λ (k : ℕ). Some (holder variable k)) e)
last false variable i = refl

position_more : (variable net i : ℕ) (bits : List ℕ) (own : ℕ) → held variable net i (bits ++ own ∷ []) ≡ or_next (held variable net i bits) (given_at own (holder variable (i + length bits)) net)
position_more variable net i [] own = last (own == net) variable i
position_more variable net i (bit ∷ bits) own =
    let e : (i + 1) + length bits ≡ i + length (bit ∷ bits) = omega arith in
    let rest = position_more variable net (i + 1) bits own ∙ ap (λ (k : ℕ). or_next (held variable net (i + 1) bits) (given_at own (holder variable k) net)) e in
    step (bit == net) variable i _ _ _ rest

pub bits_more : (variable net : ℕ) (bits : List ℕ) (i : ℕ) → i < length bits → holder_in variable (take (i + 1) bits) net ≡ or_next (holder_in variable (take i bits) net) (given_at (get_or bits i 0) (record { variable = variable; bit = i }) net)
bits_more variable net bits i within =
    let more = take_more bits i 0 within in
    let long : 0 + length (take i bits) ≡ i = omega (arith, length-take i bits) in
    let all : held variable net 0 (take (i + 1) bits) ≡ or_next (held variable net 0 (take i bits)) (given_at (get_or bits i 0) (holder variable i) net) =
    ap (λ (l : List ℕ). held variable net 0 l) more ∙ position_more variable net 0 (take i bits) (get_or bits i 0) ∙ ap (λ (k : ℕ). or_next (held variable net 0 (take i bits)) (given_at (get_or bits i 0) (holder variable k) net)) long in
    all

-- a net that nothing holds is given to a bit
pub given : (holders : List (Option Holder)) (own : ℕ) (h : Holder) (net : ℕ) → own < length holders → get_or holders own None ≡ None → get_or (set holders own (Some h)) net None ≡ or_next (get_or holders net None) (given_at own h net)
given holders own h net within free = by (own == net) refl
  where
    by : (b : Bool) → (own == net) ≡ b → get_or (set holders own (Some h)) net None ≡ or_next (get_or holders net None) (if b then Some h else None)
    by true is = (let e : own ≡ net = (Decides-eqb own net).0 is in
        let there : get_or (set holders own (Some h)) own None ≡ Some h = get_or-set_same holders own (Some h) None within in
        ap (λ (k : ℕ). get_or (set holders own (Some h)) k None) (sym e) ∙ there ∙ ap (λ (o : Option Holder). or_next o (Some h)) (sym free ∙ ap (λ (k : ℕ). get_or holders k None) e))
    by false is = (let ne : net ≢ own = (λ e. (let t : (own == net) ≡ true = (Decides-eqb own net).1 (sym e) in absurd cc)) in
        get_or-set_other holders own net (Some h) None ne ∙ sym (next_none (get_or holders net None)))

-- a net that a variable holds stays with it
pub stays : (holders : List (Option Holder)) (own : ℕ) (h : Holder) (net : ℕ) (old : Holder) → get_or holders own None ≡ Some old → get_or holders net None ≡ or_next (get_or holders net None) (given_at own h net)
stays holders own h net old is = by (own == net) refl
  where
    by : (b : Bool) → (own == net) ≡ b → get_or holders net None ≡ or_next (get_or holders net None) (if b then Some h else None)
    by true same = (let e : own ≡ net = (Decides-eqb own net).0 same in
        let there : get_or holders net None ≡ Some old = ap (λ (k : ℕ). get_or holders k None) (sym e) ∙ is in
        rw there refl)
    by false other = sym (next_none (get_or holders net None))
