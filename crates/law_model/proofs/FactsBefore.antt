-- What holds at a place over one waveform holds over each that agrees with it before the place.
use Rattle.std.proofs.Common.{◌≡◌, ℕ, ◌<◌, ◌≤◌, Bool, true, false, List, [], ◌∷◌, ◌++◌, length, refl, sym, ap, ◌∙◌, arith, subst, Some}
use Rattle.std.specs.Prelude.{ℤ}
use Rattle.std.proofs.Math.ListN.{get_or-append}
use Rattle.std.proofs.Math.Seq.{get_or-append_seam}
use Rattle.design_cell.specs.declared.value.Value.{Value}
use Rattle.design_cell.specs.declared.value.Value.TheVariants.{Zero, One, X, Z}
use Rattle.design_circuit.specs.declared.place.Place.{Place}
use Rattle.design_circuit.specs.declared.waveform.Written.{Written}
use Rattle.design_circuit.specs.declared.waveform.Mark.{Mark}
use Rattle.design_circuit.specs.declared.waveform.Mark.TheVariants.{Certain, Unknown, Undecided}
use Rattle.design_circuit.specs.Job.{Job, places_of}
use Rattle.design_circuit.specs.Fits.{Fits}
use Rattle.design_circuit.specs.Filling.{bit_of}
use Rattle.design_circuit.specs.Waveform.{unwritten, written_at, certain, certain_by}
use Rattle.design_circuit.specs.World.{world_bit}
use Rattle.design_circuit.proofs.Rules.{AgreeBelow}
use Rattle.design_circuit.proofs.Worlds.{world_bit_local}
use Rattle.design_circuit.proofs.Exact.{settles_local}
use Rattle.law_model.specs.Places.{among}
use Rattle.law_model.specs.Class.{class_of}
use Rattle.law_model.specs.Root.{Root, root_of}
use Rattle.law_model.specs.Stated.{Stated, swapped, stated_by, stated, body_at}
use Rattle.law_model.specs.Line.{GivesBoth, IsEnumerated, IsRefuted, IsLicence, BodyHolds}
use Rattle.law_model.specs.Sound.{HasLicence, SoundBy}
use Rattle.law_model.specs.declared.line.Line.{Line as ALine}
use Rattle.law_model.specs.declared.line.Body.{Body}
use Rattle.law_model.specs.declared.line.Body.TheVariants.{Enumerated, Refuted, Pair, Undecided as Budget}
use Rattle.law_model.proofs.ConesBefore.{sources_local, query_moved, denied_moved}
use Rattle.law_model.proofs.ClassesBefore.{class_local}
use Rattle.law_model.proofs.Roots.{root_local, root_within}
use Rattle.law_model.specs.declared.limits.Limits.{Limits}

-- A waveform that has grown by a place.
pub written_grown : (waveform : List Written) (x : Written) (place : ℕ) → place < length waveform
    → written_at (waveform ++ x ∷ []) place ≡ written_at waveform place
written_grown waveform x place less = get_or-append waveform (x ∷ []) unwritten place less

pub written_last : (waveform : List Written) (x : Written) → written_at (waveform ++ x ∷ []) (length waveform) ≡ x
written_last waveform x = get_or-append_seam waveform x [] unwritten

pub certain_grown : (waveform : List Written) (x : Written)
    → AgreeBelow (certain waveform) (certain (waveform ++ x ∷ [])) (length waveform)
unfolding certain
certain_grown waveform x place less = ap (λ (w : Written). certain_by w.mark w.value)
    (sym (written_grown waveform x place less))

pub both_moved : (j : Job) → Fits j → (v w : List Written) (place : ℕ) (stated : Stated) → place < places_of j
    → AgreeBelow (certain v) (certain w) place → GivesBoth j v place stated → GivesBoth j w place stated
both_moved j fits v w place stated within agree both = record {
  zero_filling = both.zero_filling;
  one_filling = both.one_filling;
  gives_zero = same stated.zero ∙ both.gives_zero;
  gives_one = same stated.one ∙ both.gives_one;
}
  where
    same : (filling : List Place) → world_bit j (certain w) (bit_of j filling) place ≡ world_bit j (certain v)
        (bit_of j filling) place
    same filling = world_bit_local j fits (certain w) (certain v) (bit_of j filling) (bit_of j filling) place within
        (λ k less. sym (agree k less)) (λ k less. refl)

enumerated_moved : (j : Job) (limits : Limits) → Fits j → (v w : List Written) (place : ℕ) (bit : Bool) → place < places_of j
    → AgreeBelow (certain v) (certain w) place → IsEnumerated j limits v place bit
    → IsEnumerated j limits w place bit
enumerated_moved j limits fits v w place bit within agree holds =
    let same = sources_local j fits (certain v) (certain w) place within agree in
    record {
      few = subst (λ places. length places ≤ limits.enumerated) same holds.few;
      each = λ filling filled alone. world_bit_local j fits (certain w) (certain v) (bit_of j filling)
          (bit_of j filling) place within (λ k less. sym (agree k less)) (λ k less. refl)
          ∙ holds.each filling filled (λ k listed. subst (λ places. among places k ≡ true) (sym same) (alone k listed));
    }

refuted_moved : (j : Job) → Fits j → (v w : List Written) (place : ℕ) (bit : Bool) (log : List (List ℤ))
    → place < places_of j → AgreeBelow (certain v) (certain w) place → IsRefuted j v place bit log
    → IsRefuted j w place bit log
refuted_moved j fits v w place bit log within agree holds = record {
  denied = denied_moved j fits (certain v) (certain w) place bit within agree holds.denied;
  query = holds.query;
  is_query = query_moved j fits (certain v) (certain w) place holds.query within agree holds.is_query;
  literals = holds.literals;
  refutes = holds.refutes;
}

budget_moved : (j : Job) (limits : Limits) → Fits j → (v w : List Written) (place : ℕ) (log : List (List ℤ))
    → place < places_of j → AgreeBelow (certain v) (certain w) place → IsLicence j limits v place log
    → IsLicence j limits w place log
budget_moved j limits fits v w place log within agree holds = record {
  many = subst (λ places. limits.enumerated < length places) (sources_local j fits (certain v) (certain w) place within agree)
      holds.many;
  query = holds.query;
  is_query = query_moved j fits (certain v) (certain w) place holds.query within agree holds.is_query;
  fresh = holds.fresh;
  long = holds.long;
}

pub body_moved : (j : Job) (limits : Limits) → Fits j → (v w : List Written) (place : ℕ) (body : Body) → place < places_of j
    → AgreeBelow (certain v) (certain w) place → BodyHolds j limits v place body → BodyHolds j limits w place body
body_moved j limits fits v w place (Enumerated bit) within agree holds = enumerated_moved j limits fits v w place bit
    within agree holds
body_moved j limits fits v w place (Refuted bit log) within agree holds = refuted_moved j fits v w place bit log within
    agree holds
body_moved j limits fits v w place (Budget log) within agree holds = budget_moved j limits fits v w place log within agree
    holds
body_moved j limits fits v w place (Pair first second) within agree holds = both_moved j fits v w place
    (record { zero = first; one = second }) within agree holds

-- The fillings that are stated for a place.
pub stated_moved : (j : Job) → Fits j → (c d : ℕ → Value) (lines more : List ALine) (place : ℕ) → place < places_of j
    → AgreeBelow c d place → ((k : ℕ) → k ≤ place → body_at j lines k ≡ body_at j more k)
    → stated j c lines place ≡ stated j d more place
stated_moved j fits c d lines more place within agree bodies =
    let at : Root → (ℕ → Value) → List ALine → Stated = λ r e ls. swapped r.inverted
    (stated_by j (class_of j e r.place) (body_at j ls r.place) r.place) in
    let low = root_within j fits d place within in
    let r = root_of j d place in
    ap (λ r. at r c lines) (root_local j fits c d place within agree)
    ∙ ap (λ class. swapped r.inverted (stated_by j class (body_at j lines r.place) r.place))
    (class_local j fits c d r.place (omega (arith, low, within)) (λ k less. agree k (omega (arith, low, less))))
    ∙ ap (λ body. swapped r.inverted (stated_by j (class_of j d r.place) body r.place)) (bodies r.place low)

-- The licence of a place, by that of its root.
licence_moved : (j : Job) (limits : Limits) → Fits j → (v w : List Written) (lines more : List ALine) (place : ℕ)
    → place < places_of j → AgreeBelow (certain v) (certain w) place
    → ((k : ℕ) → k ≤ place → body_at j lines k ≡ body_at j more k) → HasLicence j limits v lines place
    → HasLicence j limits w more place
licence_moved j limits fits v w lines more place within agree bodies licence =
    let root = ap (λ (r : Root). r.place) (root_local j fits (certain v) (certain w) place within agree) in
    let low = root_within j fits (certain v) place within in
    let here = (root_of j (certain v) place).place in
    record {
      log = licence.log;
      line = subst (λ k. body_at j more k ≡ Some (Budget licence.log)) root (sym (bodies here low) ∙ licence.line);
      holds = subst (λ k. IsLicence j limits w k licence.log) root
          (body_moved j limits fits v w here (Budget licence.log) (omega (arith, low, within))
          (λ k less. agree k (omega (arith, low, less))) licence.holds);
    }

pub sound_moved : (j : Job) (limits : Limits) → Fits j
    → (v w : List Written) (lines more : List ALine) (place : ℕ) (mark : Mark) (value : Value) → place < places_of j
    → AgreeBelow (certain v) (certain w) place → ((k : ℕ) → k ≤ place → body_at j lines k ≡ body_at j more k)
    → SoundBy j limits v lines place mark value → SoundBy j limits w more place mark value
sound_moved j limits fits v w lines more place Certain Zero within agree bodies sound = settles_local j fits v w place
    false within agree sound
sound_moved j limits fits v w lines more place Certain One within agree bodies sound = settles_local j fits v w place
    true within agree sound
sound_moved j limits fits v w lines more place Certain X within agree bodies sound = sound
sound_moved j limits fits v w lines more place Certain Z within agree bodies sound = sound
sound_moved j limits fits v w lines more place Unknown value within agree bodies sound = both_moved j fits v w place
    (stated j (certain w) more place) within agree
    (subst (GivesBoth j v place) (stated_moved j fits (certain v) (certain w) lines more place within agree bodies)
    sound)
sound_moved j limits fits v w lines more place Undecided value within agree bodies sound = licence_moved j limits fits v w
    lines more place within agree bodies sound
