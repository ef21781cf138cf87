-- Runs of quiet places are written one by one.
use Rattle.std.proofs.Common.{◌≡◌, ◌⊎◌, ℕ, zero, suc, ◌+◌, ◌*◌, ◌%◌, ◌<◌, ◌≤◌, true, Contains, List, [], ◌∷◌, ◌++◌}
use Rattle.std.proofs.Common.{length, length-append, refl, sym, ap, ◌∙◌, arith, subst, inl, inr, ⊎_elim}
use Rattle.std.proofs.lemmas.Bool.{cases_eq, cases_lt}
use Rattle.std.proofs.Math.Nat.{mul-le-mul_right}
use Rattle.std.proofs.lemmas.List.{append-nil}
use Rattle.design_cell.specs.declared.value.Value.{Value}
use Rattle.design_circuit.specs.declared.waveform.Written.{Written}
use Rattle.std.specs.List.{AllByRecursion}
use Rattle.design_circuit.specs.Fits.{Fits, StandsBefore}
use Rattle.design_circuit.specs.Order.{arguments_of_driver}
use Rattle.design_circuit.specs.Job.{Job, at, net_of, places_of, step_of}
use Rattle.design_circuit.specs.Waveform.{certain}
use Rattle.design_circuit.proofs.Rules.{AgreeBelow, spot}
use Rattle.law_model.specs.Class.{before, class_of, keeps}
use Rattle.law_model.specs.Growth.{Holds, NextHolds}
use Rattle.law_model.specs.declared.line.Line.{Line as ALine}
use Rattle.law_model.proofs.Classes.{behind, in_front}
use Rattle.law_model.proofs.CarryLaw.{net_at, step_at}
use Rattle.law_model.proofs.FactsBefore.{certain_grown}
use Rattle.law_model.proofs.WaveInvariant.{grown}
use Rattle.law_model.specs.declared.limits.Limits.{Limits}
use Rattle.law_quiet.specs.Laws.{IsSteady, Rests, SaysTheSame}
use Rattle.law_quiet.specs.Ahead.{KeepBetween, is_calm}
use Rattle.law_quiet.specs.Runs.{IsRun, NextLaw, RunLaw, and_next, before_next, repeated}
use Rattle.law_quiet.proofs.QuietAhead.{along_law, here_law, rests_local}
use Rattle.law_quiet.proofs.QuietAlong.{back_up, keeps_local}
use Rattle.law_quiet.proofs.QuietClasses.{at_itself, keeps_law, quiet_law}
use Rattle.law_quiet.proofs.QuietStays.{calm_law}
use Rattle.law_quiet.proofs.RepeatedPlaces.{repeat_law}
use Rattle.law_quiet.proofs.SoundQuiet.{agrees_before, sound_agrees}

-- How far a run has come.
record Done (j : Job) (limits : Limits) (shown : ℕ → Value) (waveform now : List Written) (lines : List ALine)
    (done : ℕ) : Type 0 where
  long : length now ≡ length waveform + done
  agree : AgreeBelow (certain waveform) (certain now) (length waveform)
  holds : Holds j limits shown now lines
  steady : (place : ℕ) → length waveform ≤ place → place < length waveform + done → IsSteady j (certain now) place
  rests : (place : ℕ) → length waveform ≤ place → place < length waveform + done → Rests j (certain now) place

-- The step of a place of the run begins no later than the run.
row_start : (w s t position p first place : ℕ) → s * w + position ≡ first → t * w + p ≡ place → p < w → position < w
    → place < (s + 1) * w → t * w ≤ first
row_start w s t position p first place here there low less up =
    ⊎_elim (λ (h : s < t). above h) (λ (h : t ≤ s). below h) (cases_lt s t)
  where
    below : t ≤ s → t * w ≤ first
    below h = let m = mul-le-mul_right w h in omega (arith, m, here)

    above : s < t → t * w ≤ first
    above h = let more : s + 1 ≤ t = omega arith in let m = mul-le-mul_right w more in omega (arith, m, there, up)

-- Over what is written so far the nets that kept still do.
pub steady_keeps : (j : Job) → Fits j → (c : ℕ → Value) (step net : ℕ) → net < j.width → IsSteady j c (at j step net)
    → keeps j c (class_of j c) step net ≡ true
steady_keeps j fits c step net low steady =
    ap (λ n. keeps j c (class_of j c) step n) (sym (net_at j fits step net low))
    ∙ ap (λ s. keeps j c (class_of j c) s (net_of j (at j step net))) (sym (step_at j fits step net low))
    ∙ steady.keeps

steady_between : (j : Job) → Fits j → (c : ℕ → Value) (first next step position : ℕ) (nets : List ℕ)
    → ((place : ℕ) → first ≤ place → place < next → IsSteady j c place) → AllByRecursion (StandsBefore j position) nets
    → AllByRecursion (λ net. first ≤ at j step net → at j step net < next → keeps j c (class_of j c) step net ≡ true)
    nets
steady_between j fits c first next step position [] steady stands = tt
steady_between j fits c first next step position (net ∷ nets) steady stands = (
  λ from less. steady_keeps j fits c step net stands.0.within (steady (at j step net) from less),
  steady_between j fits c first next step position nets steady stands.1,
)

keeps_between : (j : Job) → Fits j → (c : ℕ → Value) (first next place : ℕ) → place < places_of j
    → ((k : ℕ) → first ≤ k → k < next → IsSteady j c k) → KeepBetween j c first next place
keeps_between j fits c first next place within steady =
    steady_between j fits c first next (step_of j place) (place % j.width)
    (arguments_of_driver (j.driver (net_of j place))) steady (spot j fits place within).before

rests_next : (j : Job) → Fits j → (limits : Limits) (shown : ℕ → Value) (waveform now : List Written) (lines : List ALine)
    (many done : ℕ) → done < many → IsRun j shown waveform many → Done j limits shown waveform now lines done
    → Rests j (certain now) (length waveform + done)
rests_next j fits limits shown waveform now lines many done less run so_far =
    let n = length waveform in
    let room = run.within in
    let one = run.one_step in
    let within : n + done < places_of j = omega arith in
    let first = spot j fits n (omega (arith, room, less)) in
    let here = spot j fits (n + done) within in
    let row = row_start j.width (step_of j n) (step_of j (n + done)) (n % j.width) ((n + done) % j.width) n (n + done)
    first.whole here.whole here.position first.position (omega (arith, one, less)) in
    here_law j (certain now) (n + done) fits within
    (along_law j (certain waveform) (certain now) n (n + done) (n + done) fits
    (record { within = within; behind = omega arith; in_step = row }) (omega arith) (omega arith) so_far.agree
    (keeps_between j fits (certain now) n (n + done) (n + done) within so_far.steady)
    (run.rests (n + done) (omega arith) (omega arith)))

-- One more place.
next_holds : (j : Job) → Fits j → (limits : Limits) (shown : ℕ → Value) (waveform now : List Written) (lines : List ALine)
    (many done : ℕ) → done < many → IsRun j shown waveform many → Done j limits shown waveform now lines done
    → NextHolds j limits shown now (before_next j now) []
next_holds j fits limits shown waveform now lines many done less run so_far =
    let n = length waveform in
    let room = run.within in
    let long = so_far.long in
    repeat_law j limits shown now lines fits so_far.holds.sound (omega (arith, long, room, less))
    (subst (λ k. Rests j (certain now) k) (sym long)
    (rests_next j fits limits shown waveform now lines many done less run so_far))
    (subst (λ k. shown k ≡ shown (before j k)) (sym long) (run.shows (n + done) (omega arith) (omega arith)))

steady_moved : (j : Job) → Fits j → (c d : ℕ → Value) (place first : ℕ) → place < first → first ≤ places_of j
    → AgreeBelow c d first → IsSteady j c place → IsSteady j d place
steady_moved j fits c d place first less within agree steady =
    let here = spot j fits place (omega arith) in
    let itself : at j (step_of j place) (net_of j place) ≡ place = at_itself j fits place (omega arith) in
    let low : at j (step_of j place) (net_of j place) < first = omega (arith, itself, less) in
    let back : before j place ≤ place = back_up j fits place (omega arith) in
    record {
      value = sym (agree place less) ∙ steady.value ∙ agree (before j place) (omega (arith, back, less));
      keeps = sym (keeps_local j fits c d first (step_of j place) (net_of j place) within agree low) ∙ steady.keeps;
    }

one_more : (j : Job) → Fits j → (limits : Limits) (shown : ℕ → Value) (waveform now : List Written) (lines : List ALine)
    (many done : ℕ) → done < many → IsRun j shown waveform many → Done j limits shown waveform now lines done
    → Done j limits shown waveform (now ++ before_next j now ∷ []) lines (suc done)
one_more j fits limits shown waveform now lines many done less run so_far =
    let n = length waveform in
    let room = run.within in
    let x = before_next j now in
    let was = so_far.long in
    let after = now ++ x ∷ [] in
    let within : n + done < places_of j = omega (arith, room, less) in
    let further : AgreeBelow (certain now) (certain after) (length now) = certain_grown now x in
    let more : AgreeBelow (certain now) (certain after) (n + done) = λ k low. further k (omega (arith, low, was)) in
    let holds : Holds j limits shown after lines = subst (λ l. Holds j limits shown after l) (append-nil lines)
    (grown j limits fits shown now lines x [] so_far.holds
    (next_holds j fits limits shown waveform now lines many done less run so_far)) in
    let long : length after ≡ n + suc done = (let grows = length-append now (x ∷ []) in omega (arith, grows, was)) in
    let rests : Rests j (certain after) (n + done) = rests_local j fits (certain now) (certain after) (n + done) within
    more
    (rests_next j fits limits shown waveform now lines many done less run so_far) in
    let newest : IsSteady j (certain after) (n + done) = keeps_law j (certain after) (n + done) fits within
    (agrees_before j limits shown after lines holds.sound (n + done) (omega (arith, long)))
    rests
    (sound_agrees j limits shown after lines holds.sound (n + done) (omega (arith, long))) in
    record {
      long = long;
      agree = λ k low. so_far.agree k low ∙ more k (omega arith);
      holds = holds;
      rests = λ place up low. ⊎_elim (λ (same : place ≡ n + done). subst (Rests j (certain after)) (sym same) rests)
          (λ (other : place ≡ n + done → ⊥). rests_local j fits (certain now) (certain after) place
          (omega (arith, other, low, within)) (λ k less. more k (omega (arith, less, low)))
          (so_far.rests place up (omega (arith, other, low)))) (cases_eq place (n + done));
      steady = λ place up low. ⊎_elim (λ (same : place ≡ n + done). subst (IsSteady j (certain after)) (sym same)
          newest)
          (λ (other : place ≡ n + done → ⊥). steady_moved j fits (certain now) (certain after) place (n + done)
          (omega (arith, other, low)) (omega (arith, within)) more (so_far.steady place up (omega (arith, other, low))))
          (cases_eq place (n + done));
    }

done_so_far : (j : Job) → Fits j → (limits : Limits) (shown : ℕ → Value) (waveform : List Written) (lines : List ALine)
    (many done : ℕ) → done ≤ many → Holds j limits shown waveform lines → IsRun j shown waveform many
    → Done j limits shown waveform (repeated j waveform done) lines done
unfolding repeated
done_so_far j fits limits shown waveform lines many zero up holds run = record {
  long = omega arith;
  agree = λ k low. refl;
  holds = holds;
  steady = λ place from low. absurd (omega arith);
  rests = λ place from low. absurd (omega arith);
}
done_so_far j fits limits shown waveform lines many (suc done) up holds run =
    one_more j fits limits shown waveform (repeated j waveform done) lines many done (omega arith) run
    (done_so_far j fits limits shown waveform lines many done (omega arith) holds run)

-- A quiet place of a sound waveform is calm.
calm_there : (j : Job) → Fits j → (limits : Limits) (shown : ℕ → Value) (waveform : List Written) (lines : List ALine)
    (place : ℕ)
    → Holds j limits shown waveform lines → place < places_of j → place < length waveform
    → Rests j (certain waveform) place
    → is_calm j (certain waveform) place ≡ true
calm_there j fits limits shown waveform lines place holds within less rests =
    calm_law j (certain waveform) place fits within
    (agrees_before j limits shown waveform lines holds.sound place (omega arith)) rests
    (sound_agrees j limits shown waveform lines holds.sound place less)

-- Its class says that it has what its net's place a step before has.
says_there : (j : Job) → Fits j → (limits : Limits) (shown : ℕ → Value) (waveform : List Written) (lines : List ALine)
    (place : ℕ)
    → Holds j limits shown waveform lines → place < places_of j → place < length waveform
    → Rests j (certain waveform) place
    → SaysTheSame j (certain waveform) place (class_of j (certain waveform) place)
says_there j fits limits shown waveform lines place holds within less rests =
    quiet_law j (certain waveform) place fits within
    (agrees_before j limits shown waveform lines holds.sound place (omega arith)) rests

pub run_law : RunLaw
run_law j limits shown waveform lines many fits holds run =
    let whole = done_so_far j fits limits shown waveform lines many many (omega arith) holds run in
    let long = whole.long in
    let room = run.within in
    let after = repeated j waveform many in
    record {
      each = λ done less. next_holds j fits limits shown waveform (repeated j waveform done) lines many done less run
          (done_so_far j fits limits shown waveform lines many done (omega arith) holds run);
      holds = whole.holds;
      steady = whole.steady;
      says = λ place up low. says_there j fits limits shown after lines place whole.holds (omega (arith, low, room))
          (omega (arith, low, long)) (whole.rests place up low);
      calm = λ place up low. calm_there j fits limits shown after lines place whole.holds (omega (arith, low, room))
          (omega (arith, low, long)) (whole.rests place up low);
      ahead = λ place there more. along_law j (certain waveform) (certain after) (length waveform)
          (length waveform + many)
          place fits there (omega arith) more whole.agree
          (keeps_between j fits (certain after) (length waveform) (length waveform + many) place there.within
          whole.steady);
    }

-- Where one place is written.
same_place : (j : Job) → Fits j → (place step net : ℕ) → net < j.width → at j step net ≡ place
    → (step_of j place ≡ step) × (net_of j place ≡ net)
same_place j fits place step net low is =
    (ap (step_of j) (sym is) ∙ step_at j fits step net low, ap (net_of j) (sym is) ∙ net_at j fits step net low)

next_between : (j : Job) → Fits j → (c : ℕ → Value) (first step position : ℕ) (nets : List ℕ)
    → keeps j c (class_of j c) (step_of j first) (net_of j first) ≡ true ⊎ (Contains nets (net_of j first) → ⊥)
    → AllByRecursion (StandsBefore j position) nets
    → AllByRecursion (λ net. first ≤ at j step net → at j step net < first + 1 → keeps j c (class_of j c) step net
    ≡ true)
    nets
next_between j fits c first step position [] either stands = tt
next_between j fits c first step position (net ∷ nets) either stands = (
  λ up less. (let there = same_place j fits first step net stands.0.within (omega arith) in
      ⊎_elim (λ (kept : keeps j c (class_of j c) (step_of j first) (net_of j first) ≡ true).
      ap (λ n. keeps j c (class_of j c) step n) (sym there.1)
      ∙ ap (λ s. keeps j c (class_of j c) s (net_of j first)) (sym there.0) ∙ kept)
      (λ (none : Contains (net ∷ nets) (net_of j first) → ⊥).
      absurd (none (subst (Contains (net ∷ nets)) (sym there.1) (in_front net nets)))) either),
  next_between j fits c first step position nets
      (⊎_elim (λ kept. inl kept) (λ none. inr (λ at. none (behind net (net_of j first) nets at))) either) stands.1,
)

pub next_law : NextLaw
next_law j waveform written place fits there less either rests =
    let n = length waveform in
    let s = spot j fits place there.within in
    along_law j (certain waveform) (certain (and_next waveform written)) n (n + 1) place fits there (omega arith)
    (omega arith) (certain_grown waveform written)
    (next_between j fits (certain (and_next waveform written)) n (step_of j place) (place % j.width)
    (arguments_of_driver (j.driver (net_of j place))) either s.before) rests
