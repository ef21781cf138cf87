-- A copy has what its argument has.
use Rattle.std.proofs.Common.{◌≡◌, ℕ, zero, suc, ◌+◌, ◌-◌, ◌<◌, ◌==◌, ◌&&◌, ◌||◌, not, Bool, true, false}
use Rattle.std.proofs.Common.{List, length, Option, None, Some, refl, sym, ap, ◌∙◌, arith, subst, ⊎_elim, inl, inr}
use Rattle.std.proofs.Common.{◌⊎◌, if◌then◌else◌}
use Rattle.std.proofs.Common.{slice_index_or}
use Rattle.std.proofs.lemmas.Bool.{and_parts, eqb-true, ne_eqb, eq-eqb}
use Rattle.design_cell.specs.declared.value.Value.{Value}
use Rattle.design_cell.specs.declared.value.Value.TheVariants.{Zero, One, X, Z}
use Rattle.design_cell.specs.Value.{bit_value}
use Rattle.design_circuit.specs.declared.design.Driver.TheVariants.{Copy}
use Rattle.design_circuit.specs.declared.waveform.Mark.{Mark}
use Rattle.design_circuit.specs.declared.waveform.Mark.TheVariants.{Certain, Unknown, Undecided}
use Rattle.design_circuit.specs.declared.waveform.Written.{Written}
use Rattle.design_circuit.specs.Fits.{Fits}
use Rattle.design_circuit.specs.Handed.{IsBlank, IsReplay, shown_of}
use Rattle.design_circuit.specs.History.{HistoryView}
use Rattle.design_circuit.specs.Job.{Job, at, net_of, places_of, step_of}
use Rattle.design_circuit.specs.Replay.{Held, blank, driven, replay, shown_at}
use Rattle.design_circuit.specs.Waveform.{certain, certain_by, written_at}
use Rattle.design_circuit.proofs.Replays.{replay_prefix, replay_rule}
use Rattle.design_circuit.proofs.Rules.{spot}
use Rattle.law_model.specs.Class.{are_equal, before, class_of, is_carried_on}
use Rattle.law_model.specs.Growth.{Holds}
use Rattle.law_model.specs.Stated.{body_at}
use Rattle.law_model.specs.Yields.{carried_of, certain_bit, line_of, uncertain, written_by}
use Rattle.law_model.specs.declared.class.ClassByNumber.{ClassByNumber}
use Rattle.law_model.specs.declared.class.ClassByNumber.TheVariants.{Local, Free, Carried, Line}
use Rattle.law_model.specs.declared.line.Body.{Body}
use Rattle.law_model.specs.declared.line.Body.TheVariants.{Enumerated, Refuted, Pair, Undecided as Budget}
use Rattle.law_model.specs.declared.line.Line.{Line as ALine}
use Rattle.law_model.specs.declared.limits.Limits.{Limits}
use Rattle.law_model.proofs.CarryLaw.{net_at, step_at}
use Rattle.law_model.proofs.ClassFromClasses.{class_is}
use Rattle.wave_class.specs.Facts.{AgreeBefore, AgreesWith, facts_of, keeps_by}
use Rattle.wave_class.specs.Wires.{CopiesFrom}
use Rattle.wave_class.proofs.MovedRules.{agrees_on, as_it_is}
use Rattle.wave_class.proofs.QuickClasses.{copied_is, copied_of}
use Rattle.wave_class.proofs.StepBefore.{keeps_at}
use Rattle.law_quiet.specs.Copies.{CopiesLaw, CopiesShow, CopyLaw, HandedCopiesLaw, place_keeps}
use Rattle.law_quiet.proofs.QuietAlong.{back_in_row}
use Rattle.law_quiet.proofs.QuietClasses.{at_itself}

-- The argument's place stands in the same step.
from_step : (j : Job) → Fits j → (place from : ℕ) → CopiesFrom j place from → step_of j from ≡ step_of j place
from_step j fits place from copies =
    ap (step_of j) copies.from_is ∙ step_at j fits (step_of j place) copies.net copies.within

from_net : (j : Job) → Fits j → (place from : ℕ) → (copies : CopiesFrom j place from) → net_of j from ≡ copies.net
from_net j fits place from copies =
    ap (net_of j) copies.from_is ∙ net_at j fits (step_of j place) copies.net copies.within

from_before : (j : Job) → Fits j → (place from : ℕ) → (copies : CopiesFrom j place from)
    → before j from ≡ at j (step_of j place - 1) copies.net
from_before j fits place from copies =
    ap (λ s. at j (s - 1) (net_of j from)) (from_step j fits place from copies)
    ∙ ap (at j (step_of j place - 1)) (from_net j fits place from copies)

-- A step before stand a copy and its argument too.
pub copies_before : (j : Job) → Fits j → (place from : ℕ) → place < places_of j → CopiesFrom j place from
    → CopiesFrom j (before j place) (before j from)
copies_before j fits place from within copies =
    let s = spot j fits place within in
    let step = step_of j place in
    let itself = at_itself j fits place within in
    let is = copies.from_is in
    let earlier = copies.earlier in
    let back = from_before j fits place from copies in
    record {
      net = copies.net;
      within = copies.within;
      driver = ap j.driver (net_at j fits (step - 1) (net_of j place) s.net) ∙ copies.driver;
      from_is = back ∙ ap (λ t. at j t copies.net) (sym (step_at j fits (step - 1) (net_of j place) s.net));
      earlier = omega (arith, itself, is, earlier, back);
    }

-- Whether the net of a place keeps there, by what is told of it.
pub keeps_told : (j : Job) → Fits j → (c : ℕ → Value) (place : ℕ) → place < places_of j
    → place_keeps j c place ≡ (facts_of j c place).keeps
keeps_told j fits c place within =
    sym (keeps_at j fits c (step_of j place) (net_of j place) (spot j fits place within).net)
    ∙ ap (λ k. (facts_of j c k).keeps) (at_itself j fits place within)

-- What a copy has, by what its argument has, which keeps or doesn't.
record Has (step : ℕ) (here back there there_back : Value) (copy_on on : Bool) : Type 0 where
  value : here ≡ there
  keeps : keeps_by step here back copy_on ≡ keeps_by step there there_back on

either_false : (b on : Bool) → (on ≡ true → b ≡ true) → b || false ≡ b || on
either_false true on more = refl
either_false false true more = more refl
either_false false false more = refl

known_keeps : (v u here back : Value) (on : Bool) → here ≡ v → back ≡ u → (on ≡ true → are_equal v u ≡ true)
    → are_equal here back || false ≡ are_equal v u || on
known_keeps v u here back on here_is back_is more =
    ap (λ h. are_equal h back || false) here_is ∙ ap (λ b. are_equal v b || false) back_is
    ∙ either_false (are_equal v u) on more

guard_same : (first a b : Bool) → (first ≡ false → a ≡ b) → not first && a ≡ not first && b
guard_same true a b same = refl
guard_same false a b same = same refl

-- Its class, where its argument isn't certain.
abbrev pub open_class : Bool → ℕ → ℕ → ClassByNumber
open_class keeps back from = if keeps then Carried back false else Carried from false

open_copy : (c : ℕ → Value) (place from back from_back : ℕ) (v : Value) (first on : Bool) → c from ≡ v
    → (on ≡ true → v ≡ c from_back) → (first ≡ false → c back ≡ c from_back) → (first ≡ false → (from == back) ≡ false)
    → AgreesWith c (open_class (not first && on) back from) (c place)
    → (c place ≡ v) × (not first && is_carried_on (open_class (not first && on) back from) back ≡ not first && on)
open_copy c place from back from_back v true on is on_is same apart agrees = (agrees ∙ as_it_is (c from) ∙ is, refl)
open_copy c place from back from_back v false true is on_is same apart agrees = (
  agrees ∙ as_it_is (c back) ∙ same refl ∙ sym (on_is refl),
  rw (eq-eqb back back refl) refl,
)
open_copy c place from back from_back v false false is on_is same apart agrees = (
  agrees ∙ as_it_is (c from) ∙ is,
  rw (apart refl) refl,
)

copy_has : (c : ℕ → Value) (step place from back from_back : ℕ) (class : ClassByNumber) (v : Value) → c from ≡ v
    → AgreesWith c class v → ((step == 0) ≡ false → c back ≡ c from_back)
    → ((step == 0) ≡ false → (from == back) ≡ false)
    → AgreesWith c (copied_of v (keeps_by step v (c from_back) (is_carried_on class from_back)) back from) (c place)
    → Has step (c place) (c back) v (c from_back)
    (is_carried_on (copied_of v (keeps_by step v (c from_back) (is_carried_on class from_back)) back from) back)
    (is_carried_on class from_back)
copy_has c step place from back from_back class Zero is argument same apart agrees = record {
  value = agrees;
  keeps = guard_same (step == 0) _ _ (λ later. known_keeps Zero (c from_back) (c place) (c back)
      (is_carried_on class from_back) agrees (same later)
      (λ on. subst (λ u. are_equal Zero u ≡ true) (agrees_on c class from_back Zero on argument) refl));
}
copy_has c step place from back from_back class One is argument same apart agrees = record {
  value = agrees;
  keeps = guard_same (step == 0) _ _ (λ later. known_keeps One (c from_back) (c place) (c back)
      (is_carried_on class from_back) agrees (same later)
      (λ on. subst (λ u. are_equal One u ≡ true) (agrees_on c class from_back One on argument) refl));
}
copy_has c step place from back from_back class X is argument same apart agrees =
    let found = open_copy c place from back from_back X (step == 0) (is_carried_on class from_back) is
    (λ on. agrees_on c class from_back X on argument) same apart agrees in
    record {
      value = found.0;
      keeps = ap (λ here. keeps_by step here (c back) (is_carried_on
          (open_class (not (step == 0) && is_carried_on class from_back) back from) back)) found.0 ∙ found.1;
    }
copy_has c step place from back from_back class Z is argument same apart agrees =
    let found = open_copy c place from back from_back Z (step == 0) (is_carried_on class from_back) is
    (λ on. agrees_on c class from_back Z on argument) same apart agrees in
    record {
      value = found.0;
      keeps = ap (λ here. keeps_by step here (c back) (is_carried_on
          (open_class (not (step == 0) && is_carried_on class from_back) back from) back)) found.0 ∙ found.1;
    }

-- The class of a copy.
pub copy_class : (j : Job) → Fits j → (c : ℕ → Value) (place from : ℕ) → place < places_of j → CopiesFrom j place from
    → class_of j c place ≡ copied_of (c from) (facts_of j c from).keeps (before j place) from
copy_class j fits c place from within copies =
    let step = step_of j place in
    let is = copies.from_is in
    class_is j fits c place within
    ∙ copied_is j c place copies.net (c (at j step copies.net)) copies.driver refl
    ∙ ap (λ k. copied_of (c (at j step copies.net)) k (before j place) (at j step copies.net))
    (sym (keeps_at j fits c step copies.net copies.within))
    ∙ ap (λ k. copied_of (c k) (facts_of j c k).keeps (before j place) k) (sym is)

-- So it carries on from a step before where its argument isn't certain and keeps.
pub copied_of_open : (v : Value) (keeps : Bool) (back from : ℕ) → v ≡ X → keeps ≡ true
    → copied_of v keeps back from ≡ Carried back false
copied_of_open v keeps back from unknown kept = rw (unknown, kept) refl

-- Its argument doesn't stand in the step before.
from_apart : (j : Job) → Fits j → (place from : ℕ) → place < places_of j → CopiesFrom j place from
    → (step_of j place == 0) ≡ false → (from == before j place) ≡ false
from_apart j fits place from within copies later =
    let back = back_in_row j fits place within later in
    let is = copies.from_is in
    ne_eqb from (before j place) (λ same. omega (arith, back, is, same))

copied_to : (j : Job) → Fits j → (c : ℕ → Value) (n place from : ℕ) → place < n → place < places_of j
    → AgreeBefore j c (place + 1) → CopiesFrom j place from
    → Has (step_of j place) (c place) (c (before j place)) (c from) (c (before j from))
    (is_carried_on (class_of j c place) (before j place)) (is_carried_on (class_of j c from) (before j from))
copied_to j fits c zero place from less within agree copies = absurd (omega (arith, less))
copied_to j fits c (suc n) place from less within agree copies =
    let step = step_of j place in
    let earlier = copies.earlier in
    let class_is = copy_class j fits c place from within copies in
    let keeps_is : (facts_of j c from).keeps
    ≡ keeps_by step (c from) (c (before j from)) (is_carried_on (class_of j c from) (before j from)) =
    ap (λ s. keeps_by s (c from) (c (before j from)) (is_carried_on (class_of j c from) (before j from)))
    (from_step j fits place from copies) in
    let class_by = class_is ∙ ap (λ k. copied_of (c from) k (before j place) from) keeps_is in
    rw class_by
    (copy_has c step place from (before j place) (before j from) (class_of j c from) (c from) refl
    (agree from (omega (arith, earlier)))
    (λ later. (
    let back = back_in_row j fits place within later in
    let whole = (spot j fits place within).whole in
    (copied_to j fits c n (before j place) (before j from) (omega (arith, back, whole, less))
    (omega (arith, back, whole, within))
    (λ k low. agree k (omega (arith, low, back, whole)))
    (copies_before j fits place from within copies)).value))
    (λ later. from_apart j fits place from within copies later)
    (subst (λ class. AgreesWith c class (c place)) class_by (agree place (omega arith))))

pub copy_law : CopyLaw
copy_law j c place from fits within agree copies =
    let earlier = copies.earlier in
    let has = copied_to j fits c (place + 1) place from (omega arith) within agree copies in
    record {
      value = has.value;
      keeps = keeps_told j fits c place within ∙ has.keeps
          ∙ ap (λ s. keeps_by s (c from) (c (before j from)) (is_carried_on (class_of j c from) (before j from)))
          (sym (from_step j fits place from copies))
          ∙ sym (keeps_told j fits c from (omega (arith, earlier, within)));
    }

-- What is handed in as a history shows at a copy what it shows at its argument.
replay_shows : (j : Job) → (history : HistoryView) → IsReplay j history → (place : ℕ) → place < places_of j
    → shown_of j history place ≡ shown_at j place
replay_shows j history is place within =
    ap (λ (held : Held). held.shown) (is.held place within) ∙ replay_prefix j (places_of j) place within

copied_shown : (j : Job) (place net : ℕ) → j.driver (net_of j place) ≡ Copy net → at j (step_of j place) net < place
    → shown_at j place ≡ shown_at j (at j (step_of j place) net)
copied_shown j place net driver less =
    replay_rule j place
    ∙ ap (driven j (λ k. slice_index_or (replay j place) k blank) (step_of j place) (net_of j place)) driver
    ∙ replay_prefix j place (at j (step_of j place) net) less

pub handed_law : HandedCopiesLaw
handed_law j history fits handed place from within copies =
    let is = copies.from_is in
    let earlier = copies.earlier in
    ⊎_elim (λ (replayed : IsReplay j history).
    replay_shows j history replayed place within
    ∙ copied_shown j place copies.net copies.driver (omega (arith, is, earlier))
    ∙ ap (shown_at j) (sym is)
    ∙ sym (replay_shows j history replayed from (omega (arith, earlier, within))))
    (λ (none : IsBlank j history).
    ap (λ (held : Held). held.shown) (none.held place within)
    ∙ sym (ap (λ (held : Held). held.shown) (none.held from (omega (arith, earlier, within))))) handed

-- A place that is certain with a bit.
certain_is : (mark : Mark) (value : Value) (bit : Bool) → certain_by mark value ≡ bit_value bit
    → certain_bit bit ≡ record { value = value; mark = mark }
certain_is Certain value bit is = ap (λ v. with_value v) (sym is)
  where
    with_value : Value → Written
    with_value v = record { value = v; mark = Certain }
certain_is Unknown value false is = cc
certain_is Unknown value true is = cc
certain_is Undecided value false is = cc
certain_is Undecided value true is = cc

-- A place that isn't certain shows what the history shows.
abbrev ShowsIfOpen : Mark → Value → Value → Type 0
ShowsIfOpen Certain value shown = Unit {0}
ShowsIfOpen Unknown value shown = value ≡ shown
ShowsIfOpen Undecided value shown = value ≡ shown

abbrev shows_if_open : Written → Value → Type 0
shows_if_open written shown = ShowsIfOpen written.mark written.value shown

carried_shows : (inverted : Bool) (mark : Mark) (value shown : Value)
    → shows_if_open (carried_of inverted mark value shown) shown
carried_shows inverted Certain value shown = tt
carried_shows inverted Unknown value shown = refl
carried_shows inverted Undecided value shown = refl

line_shows : (body : Option Body) (shown : Value) → shows_if_open (line_of body shown) shown
line_shows None shown = refl
line_shows (Some (Enumerated bit)) shown = tt
line_shows (Some (Refuted bit log)) shown = tt
line_shows (Some (Pair first second)) shown = refl
line_shows (Some (Budget log)) shown = refl

written_shows : (earlier : ℕ → Written) (class : ClassByNumber) (body : Option Body) (shown : Value)
    → shows_if_open (written_by earlier class body shown) shown
written_shows earlier (Local bit) body shown = tt
written_shows earlier Free body shown = refl
written_shows earlier (Carried from inverted) body shown =
    carried_shows inverted (earlier from).mark (earlier from).value shown
written_shows earlier Line body shown = line_shows body shown

-- So what is carried from it is it.
carried_is : (mark : Mark) (value shown : Value) → ShowsIfOpen mark value shown
    → carried_of false mark value shown ≡ record { value = value; mark = mark }
carried_is Certain value shown shows = ap (λ v. with_value v) (as_it_is value)
  where
    with_value : Value → Written
    with_value v = record { value = v; mark = Certain }
carried_is Unknown value shown shows = ap (λ v. uncertain Unknown v) (sym shows)
carried_is Undecided value shown shows = ap (λ v. uncertain Undecided v) (sym shows)

-- What the argument isn't certain of is carried from it, or from a step before, as the argument is.
open_written : (earlier : ℕ → Written) (class : ClassByNumber) (body body_from : Option Body) (back from from_back : ℕ)
    (keeps : Bool) (shown : Value)
    → earlier from ≡ written_by earlier class body_from shown
    → (keeps ≡ true → class ≡ Carried from_back false) → (keeps ≡ true → earlier back ≡ earlier from_back)
    → written_by earlier (open_class keeps back from) body shown ≡ earlier from
open_written earlier class body body_from back from from_back true shown is carries same =
    ap (λ (w : Written). carried_of false w.mark w.value shown) (same refl)
    ∙ sym (ap (λ k. written_by earlier k body_from shown) (carries refl)) ∙ sym is
open_written earlier class body body_from back from from_back false shown is carries same =
    carried_is (earlier from).mark (earlier from).value shown
    (subst (λ w. shows_if_open w shown) (sym is) (written_shows earlier class body_from shown))

-- A class that carries on from a place.
carries_from : (class : ClassByNumber) (back : ℕ) → is_carried_on class back ≡ true → class ≡ Carried back false
carries_from (Local bit) back on = cc
carries_from Free back on = cc
carries_from (Carried from false) back on =
    ap (λ k. Carried k false) (eqb-true from back (and_parts (from == back) true on).0)
carries_from (Carried from true) back on = let none = (and_parts (from == back) false on).1 in cc
carries_from Line back on = cc

keeps_carried : (step : ℕ) (back : Value) (on : Bool) → keeps_by step X back on ≡ true → on ≡ true
keeps_carried step back on kept = (and_parts (not (step == 0)) on kept).1

keeps_carried_z : (step : ℕ) (back : Value) (on : Bool) → keeps_by step Z back on ≡ true → on ≡ true
keeps_carried_z step back on kept = (and_parts (not (step == 0)) on kept).1

copy_written : (earlier : ℕ → Written) (class : ClassByNumber) (body body_from : Option Body) (back from from_back : ℕ)
    (v : Value) (keeps : Bool) (shown : Value) → certain_by (earlier from).mark (earlier from).value ≡ v
    → earlier from ≡ written_by earlier class body_from shown
    → (keeps ≡ true → v ≡ X ⊎ v ≡ Z → class ≡ Carried from_back false)
    → (keeps ≡ true → earlier back ≡ earlier from_back)
    → written_by earlier (copied_of v keeps back from) body shown ≡ earlier from
copy_written earlier class body body_from back from from_back Zero keeps shown certain is carries same =
    certain_is (earlier from).mark (earlier from).value false certain
copy_written earlier class body body_from back from from_back One keeps shown certain is carries same =
    certain_is (earlier from).mark (earlier from).value true certain
copy_written earlier class body body_from back from from_back X keeps shown certain is carries same =
    open_written earlier class body body_from back from from_back keeps shown is (λ k. carries k (inl refl)) same
copy_written earlier class body body_from back from from_back Z keeps shown certain is carries same =
    open_written earlier class body body_from back from from_back keeps shown is (λ k. carries k (inr refl)) same

-- An argument that keeps and isn't certain carries on.
kept_carries : (step : ℕ) (v back : Value) (class : ClassByNumber) (from_back : ℕ)
    → keeps_by step v back (is_carried_on class from_back) ≡ true → v ≡ X ⊎ v ≡ Z → class ≡ Carried from_back false
kept_carries step v back class from_back kept which =
    carries_from class from_back
    (⊎_elim (λ (x : v ≡ X). keeps_carried step back (is_carried_on class from_back)
    (subst (λ u. keeps_by step u back (is_carried_on class from_back) ≡ true) x kept))
    (λ (z : v ≡ Z). keeps_carried_z step back (is_carried_on class from_back)
    (subst (λ u. keeps_by step u back (is_carried_on class from_back) ≡ true) z kept)) which)

keeps_later : (step : ℕ) (v back : Value) (on : Bool) → keeps_by step v back on ≡ true → (step == 0) ≡ false
keeps_later step v back on kept = not_first (step == 0) (and_parts (not (step == 0)) (are_equal v back || on) kept).0
  where
    not_first : (b : Bool) → not b ≡ true → b ≡ false
    not_first false h = refl
    not_first true h = cc

written_to : (j : Job) (limits : Limits) (shown : ℕ → Value) (waveform : List Written) (lines : List ALine) → Fits j
    → Holds j limits shown waveform lines → CopiesShow j shown → (n place from : ℕ) → place < n
    → place < length waveform → CopiesFrom j place from → written_at waveform place ≡ written_at waveform from
unfolding certain
written_to j limits shown waveform lines fits holds shows zero place from less there copies =
    absurd (omega (arith, less))
written_to j limits shown waveform lines fits holds shows (suc n) place from less there copies =
    let c : ℕ → Value = certain waveform in
    let all = holds.yields.within in
    let within : place < places_of j = omega (arith, there, all) in
    let earlier = copies.earlier in
    let step = step_of j from in
    let class : ClassByNumber = class_of j c from in
    holds.yields.written place there
    ∙ ap (λ k. written_by (written_at waveform) k (body_at j lines place) (shown place))
    (copy_class j fits c place from within copies)
    ∙ copy_written (written_at waveform) class (body_at j lines place) (body_at j lines from) (before j place) from
    (before j from) (c from) (facts_of j c from).keeps (shown place) refl
    (holds.yields.written from (omega (arith, earlier, there))
    ∙ ap (written_by (written_at waveform) class (body_at j lines from)) (sym (shows place from within copies)))
    (λ kept which. kept_carries step (c from) (c (before j from)) class (before j from) kept which)
    (λ kept. (
    let later = ap (λ s. s == 0) (sym (from_step j fits place from copies))
    ∙ keeps_later step (c from) (c (before j from)) (is_carried_on class (before j from)) kept in
    let back = back_in_row j fits place within later in
    let whole = (spot j fits place within).whole in
    written_to j limits shown waveform lines fits holds shows n (before j place) (before j from)
    (omega (arith, back, whole, less)) (omega (arith, back, whole, there))
    (copies_before j fits place from within copies)))

pub copies_law : CopiesLaw
copies_law j limits shown waveform lines fits holds shows place from there copies =
    written_to j limits shown waveform lines fits holds shows (place + 1) place from (omega arith) there copies
