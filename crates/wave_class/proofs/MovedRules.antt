-- Places whose arguments have the certain values of a step before: over all assignments their rule gives what it gave.
use Rattle.std.proofs.Common.{◌≡◌, ℕ, suc, ◌+◌, ◌-◌, ◌*◌, ◌<◌, ◌==◌, ◌||◌, not, Bool, true, false, List, [], ◌∷◌, refl}
use Rattle.std.proofs.Common.{sym, ap, ◌∙◌, arith, subst, if◌then◌else◌, ⊎_elim}
use Rattle.std.specs.List.{AllByRecursion}
use Rattle.std.proofs.lemmas.Bool.{and_parts, or_cases, eqb-true, ne_eqb}
use Rattle.design_cell.specs.declared.value.Value.{Value}
use Rattle.design_cell.specs.declared.value.Value.TheVariants.{Zero, One, X, Z}
use Rattle.design_cell.specs.Value.{bit_value, is_unknown}
use Rattle.design_cell.specs.Hold.{hold}
use Rattle.design_cell.specs.Next.{next}
use Rattle.design_circuit.specs.declared.design.Driver.{Driver}
use Rattle.design_circuit.specs.declared.design.Driver.TheVariants.{Cell, Register}
use Rattle.design_circuit.specs.declared.design.Latching.{Latching}
use Rattle.design_circuit.specs.declared.design.Pin.{Pin}
use Rattle.design_circuit.specs.declared.design.Pin.TheVariants.{Net, Bit, Dead}
use Rattle.design_circuit.specs.declared.design.Table.{Table}
use Rattle.design_circuit.specs.Circuit.{Reach}
use Rattle.design_circuit.specs.Job.{Job, at, net_of, primitive_of, step_of}
use Rattle.design_circuit.specs.Order.{net_pins, position_of}
use Rattle.design_circuit.specs.Register.{has_unknown_clock, pins_at}
use Rattle.design_circuit.specs.Replay.{table_of}
use Rattle.design_circuit.specs.Rule.{as_values, held_or, register_rule, rule, rule_of}
use Rattle.design_circuit.proofs.Rules.{rule_reads}
use Rattle.law_model.specs.Assignment.{assigned, for_every}
use Rattle.law_model.specs.Class.{are_equal, is_carried_on, class_of, is_bit, is_free, is_local, is_never_unknown}
use Rattle.law_model.specs.Yields.{flipped_value}
use Rattle.law_model.specs.declared.class.ClassByNumber.{ClassByNumber}
use Rattle.law_model.specs.declared.class.ClassByNumber.TheVariants.{Local, Free, Carried, Line}
use Rattle.law_model.proofs.Assignments.{every_passes, passes_every}
use Rattle.wave_class.specs.Facts.{AgreeBefore, AgreesWith}
use Rattle.wave_class.specs.Keeps.{nets_keep, net_keeps}

-- A net that keeps has the certain value that it had.
pub same_value : (x y : Value) → are_equal x y ≡ true → x ≡ y
same_value Zero Zero equal = refl
same_value One One equal = refl
same_value Zero One equal = cc
same_value Zero X equal = cc
same_value Zero Z equal = cc
same_value One Zero equal = cc
same_value One X equal = cc
same_value One Z equal = cc
same_value X y equal = cc
same_value Z y equal = cc

pub as_it_is : (v : Value) → flipped_value false v ≡ v
as_it_is Zero = refl
as_it_is One = refl
as_it_is X = refl
as_it_is Z = refl

pub agrees_on : (c : ℕ → Value) (class : ClassByNumber) (back : ℕ) (v : Value) → is_carried_on class back ≡ true
    → AgreesWith c class v → v ≡ c back
agrees_on c (Local bit) back v on agrees = cc
agrees_on c Free back v on agrees = cc
agrees_on c (Carried from false) back v on agrees =
    agrees ∙ as_it_is (c from) ∙ ap c (eqb-true from back (and_parts (from == back) true on).0)
agrees_on c (Carried from true) back v on agrees = let none = (and_parts (from == back) false on).1 in cc
agrees_on c Line back v on agrees = cc

pub kept_value : (j : Job) (c : ℕ → Value) (place step net : ℕ) → AgreeBefore j c place → at j step net < place
    → net_keeps j c step net ≡ true → c (at j step net) ≡ c (at j (step - 1) net)
kept_value j c place step net agree less kept =
    let here : ℕ = at j step net in
    let back : ℕ = at j (step - 1) net in
    let equal : Bool = are_equal (c here) (c back) in
    let on : Bool = is_carried_on (class_of j c here) back in
    ⊎_elim (λ (h : equal ≡ true). same_value (c here) (c back) h)
    (λ (h : on ≡ true). agrees_on c (class_of j c here) back (c here) h (agree here less))
    (or_cases equal on (and_parts (not (step == 0)) (equal || on) kept).1)

-- The nets of pins have at one step the certain values that they have at another.
abbrev pub SameAt : Job → (ℕ → Value) → ℕ → ℕ → List ℕ → Type 0
SameAt j c s t nets = AllByRecursion (λ net. c (at j s net) ≡ c (at j t net)) nets

pub kept_values : (j : Job) (c : ℕ → Value) (place s t : ℕ) (nets : List ℕ) → s ≡ suc t → AgreeBefore j c place
    → AllByRecursion (Reach j (λ k. k < place) s) nets → nets_keep j c s nets ≡ true → SameAt j c s t nets
kept_values j c place s t [] next agree reach kept = tt
kept_values j c place s t (net ∷ nets) next agree reach kept =
    let parts = and_parts (net_keeps j c s net) (nets_keep j c s nets) kept in
    let back : s - 1 ≡ t = omega (arith, next) in (
      subst (λ k. c (at j s net) ≡ c (at j k net)) back (kept_value j c place s net agree reach.0.has_it parts.0),
      kept_values j c place s t nets next agree reach.1 parts.1,
    )

-- Bits of places, and the same bits of the places of their nets a step later.
abbrev pub Moved : Job → (ℕ → Bool) → (ℕ → Bool) → Type 0
Moved j early late = (s t net : ℕ) → s ≡ suc t → late (at j s net) ≡ early (at j t net)

less_one : (w s t p : ℕ) → s ≡ suc t → s * w + p - w ≡ t * w + p
less_one w s t p next = rw next (omega arith)

more_one : (w s t p : ℕ) → s ≡ suc t → s * w + p ≡ t * w + p + w
more_one w s t p next = rw next (omega arith)

moved_on : (j : Job) (bits : ℕ → Bool) → Moved j bits (λ k. bits (k - j.width))
moved_on j bits s t net next = ap bits (less_one j.width s t (position_of j.order net) next)

moved_back : (j : Job) (bits : ℕ → Bool) → Moved j (λ k. bits (k + j.width)) bits
moved_back j bits s t net next = ap bits (more_one j.width s t (position_of j.order net) next)

-- So pins have the values that they had.
pub pins_moved : (j : Job) (c : ℕ → Value) (early late : ℕ → Bool) (s t : ℕ) (pins : List Pin) → s ≡ suc t
    → Moved j early late → SameAt j c s t (net_pins pins)
    → pins_at j (as_values (assigned c late)) s pins ≡ pins_at j (as_values (assigned c early)) t pins
pins_moved j c early late s t [] next moved same = refl
pins_moved j c early late s t (Net net ∷ pins) next moved same =
    rw (same.0, moved s t net next, pins_moved j c early late s t pins next moved same.1) refl
pins_moved j c early late s t (Bit bit ∷ pins) next moved same =
    rw (pins_moved j c early late s t pins next moved same) refl
pins_moved j c early late s t (Dead ∷ pins) next moved same =
    rw (pins_moved j c early late s t pins next moved same) refl

pub values_moved : (j : Job) (c : ℕ → Value) (s t : ℕ) (pins : List Pin) → SameAt j c s t (net_pins pins)
    → pins_at j c s pins ≡ pins_at j c t pins
values_moved j c s t [] same = refl
values_moved j c s t (Net net ∷ pins) same = rw (same.0, values_moved j c s t pins same.1) refl
values_moved j c s t (Bit bit ∷ pins) same = rw (values_moved j c s t pins same) refl
values_moved j c s t (Dead ∷ pins) same = rw (values_moved j c s t pins same) refl

-- The rule of a place gives for bits what that of another gives for them a step before.
abbrev pub RulesMove : Job → (ℕ → Value) → ℕ → ℕ → Type 0
RulesMove j c place back = (early late : ℕ → Bool) → Moved j early late
    → rule j c (assigned c late) place ≡ rule j c (assigned c early) back

-- What is asked of all values of the rule holds of both places or of neither.
pub record SameKinds (j : Job) (c : ℕ → Value) (place back : ℕ) : Type 0 where
  pub local : (bit : Bool) → is_local j c place bit ≡ is_local j c back bit
  pub free : is_free j c place ≡ is_free j c back
  pub never : is_never_unknown j c place ≡ is_never_unknown j c back

both_or_none : (a b : Bool) → (a ≡ true → b ≡ true) → (b ≡ true → a ≡ true) → a ≡ b
both_or_none true b there back = sym (there refl)
both_or_none false true there back = back refl
both_or_none false false there back = refl

every_moved : (j : Job) (c : ℕ → Value) (place back : ℕ) (test : Value → Bool) → RulesMove j c place back
    → for_every j c place (λ bits. test (rule j c bits place)) ≡ for_every j c back (λ bits. test (rule j c bits back))
every_moved j c place back test moves = both_or_none _ _ earlier later
  where
    earlier : for_every j c place (λ bits. test (rule j c bits place)) ≡ true
        → for_every j c back (λ bits. test (rule j c bits back)) ≡ true
    earlier all = passes_every j c back (λ bits. test (rule j c bits back))
        (λ bits. ap test (sym (moves bits (λ k. bits (k - j.width)) (moved_on j bits)))
        ∙ every_passes j c place (λ b. test (rule j c b place)) (λ f g agree. ap test (rule_reads j c f g place agree))
        all (λ k. bits (k - j.width)))

    later : for_every j c back (λ bits. test (rule j c bits back)) ≡ true
        → for_every j c place (λ bits. test (rule j c bits place)) ≡ true
    later all = passes_every j c place (λ bits. test (rule j c bits place))
        (λ bits. ap test (moves (λ k. bits (k + j.width)) bits (moved_back j bits))
        ∙ every_passes j c back (λ b. test (rule j c b back)) (λ f g agree. ap test (rule_reads j c f g back agree))
        all (λ k. bits (k + j.width)))

pub kinds_moved : (j : Job) (c : ℕ → Value) (place back : ℕ) → RulesMove j c place back → SameKinds j c place back
kinds_moved j c place back moves = record {
  local = λ bit. every_moved j c place back (λ v. is_bit v bit) moves;
  free = every_moved j c place back is_unknown moves;
  never = every_moved j c place back (λ v. not (is_unknown v)) moves;
}

pub rule_here : (j : Job) (c : ℕ → Value) (bits : ℕ → Bool) (place step net : ℕ) (driver : Driver)
    → step_of j place ≡ step
    → net_of j place ≡ net → j.driver net ≡ driver → rule j c bits place ≡ rule_of j c bits step net driver
unfolding rule
rule_here j c bits place step net driver step_is net_is is =
    ap (λ s. rule_of j c bits s (net_of j place) (j.driver (net_of j place))) step_is
    ∙ ap (λ n. rule_of j c bits step n (j.driver n)) net_is ∙ ap (rule_of j c bits step net) is

-- A place of a net at a step, and its place at the step before.
pub record OneBack (j : Job) (place back s t net : ℕ) : Type 0 where
  pub next : s ≡ suc t
  pub here_step : step_of j place ≡ s
  pub here_net : net_of j place ≡ net
  pub back_step : step_of j back ≡ t
  pub back_net : net_of j back ≡ net

-- A cell whose net pins have the certain values of the step before.
pub cell_moves : (j : Job) (c : ℕ → Value) (place back s t net : ℕ) (table : Table) (pins : List Pin)
    → OneBack j place back s t net → j.driver net ≡ Cell table pins → SameAt j c s t (net_pins pins)
    → RulesMove j c place back
cell_moves j c place back s t net table pins one driver same early late moved =
    rule_here j c (assigned c late) place s net (Cell table pins) one.here_step one.here_net driver
    ∙ ap (table_of j.udps table) (pins_moved j c early late s t pins one.next moved same)
    ∙ sym (rule_here j c (assigned c early) back t net (Cell table pins) one.back_step one.back_net driver)

-- What a register makes of values at its pins, and of its own.
abbrev made : Job → Latching → List Value → List Value → Value → Value
made j latching old new kept =
    held_or j.levels (hold (primitive_of j.udps latching.udp) new)
    (next (primitive_of j.udps latching.udp) latching.clocks old new kept)

-- What a register gives, by the certain values of where it looks back, and by the bits there.
abbrev looked : Job → Latching → List Value → List Value → Value → List Value → List Value → Value → Value
looked j latching old new kept old_bits new_bits kept_bit =
    if has_unknown_clock latching.clocks old || has_unknown_clock latching.clocks new
    then made j latching old new kept
    else made j latching old_bits new_bits kept_bit

looked_at : (j : Job) (c : ℕ → Value) (bits : ℕ → Bool) (s new old net : ℕ) (latching : Latching) → (s == 0) ≡ false
    → (s == 1) ≡ false → s - 1 ≡ new → s - 2 ≡ old
    → register_rule j c bits s net latching
    ≡ looked j latching (pins_at j c old latching.pins) (pins_at j c new latching.pins) (c (at j new net))
    (pins_at j (as_values bits) old latching.pins) (pins_at j (as_values bits) new latching.pins)
    (bit_value (bits (at j new net)))
looked_at j c bits s new old net latching zero_is one_is new_is old_is = rw (zero_is, one_is, new_is, old_is) refl

looked_same : (j : Job) (latching : Latching) (a b d e : List Value) (v w : Value) (p q r s : List Value) (x y : Value)
    → a ≡ b → d ≡ e → v ≡ w → p ≡ q → r ≡ s → x ≡ y
    → looked j latching a d v p r x ≡ looked j latching b e w q s y
looked_same j latching a b d e v w p q r s x y ab de vw pq rs xy = rw (ab, de, vw, pq, rs, xy) refl

not_numeral : (s t : ℕ) → s ≡ suc (suc t) → ((s == 0) ≡ false) × ((s == 1) ≡ false)
not_numeral s t is = (ne_eqb s 0 (λ e. omega (arith, is, e)), ne_eqb s 1 (λ e. omega (arith, is, e)))

-- A register that looks back at the certain values that it looked back at a step before.
pub register_moves : (j : Job) (c : ℕ → Value) (place back s t u v net : ℕ) (latching : Latching)
    → OneBack j place back s t net → t ≡ suc u → u ≡ suc v → j.driver net ≡ Register latching
    → c (at j t net) ≡ c (at j u net) → SameAt j c t u (net_pins latching.pins)
    → SameAt j c u v (net_pins latching.pins)
    → RulesMove j c place back
register_moves j c place back s t u v net latching one t_is u_is driver own new old early late moved =
    let s_is = one.next in
    let here = not_numeral s u (omega (arith, s_is, t_is)) in
    let there = not_numeral t v (omega (arith, t_is, u_is)) in
    rule_here j c (assigned c late) place s net (Register latching) one.here_step one.here_net driver
    ∙ looked_at j c (assigned c late) s t u net latching here.0 here.1 (omega (arith, s_is)) (omega (arith, s_is, t_is))
    ∙ looked_same j latching _ _ _ _ _ _ _ _ _ _ _ _ (values_moved j c u v latching.pins old)
    (values_moved j c t u latching.pins new) own (pins_moved j c early late u v latching.pins u_is moved old)
    (pins_moved j c early late t u latching.pins t_is moved new) kept
    ∙ sym (looked_at j c (assigned c early) t u v net latching there.0 there.1 (omega (arith, t_is))
    (omega (arith, t_is, u_is)))
    ∙ sym (rule_here j c (assigned c early) back t net (Register latching) one.back_step one.back_net driver)
  where
    kept : bit_value (assigned c late (at j t net)) ≡ bit_value (assigned c early (at j u net))
    kept = rw (own, moved t u net t_is) refl
