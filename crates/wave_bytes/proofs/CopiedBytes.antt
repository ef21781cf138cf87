-- Positions that copy others: what stands at their places, and what their bytes say.
use Rattle.std.proofs.Common.{◌≡◌, ℕ, zero, suc, ◌+◌, ◌-◌, ◌*◌, ◌%◌, ◌<◌, ◌≤◌, ◌&&◌, Bool, true, false, List, []}
use Rattle.std.proofs.Common.{◌∷◌, ◌++◌, drop, length, map, slice_index, slice_index_or, take, refl, sym, ap, ◌∙◌, arith}
use Rattle.std.proofs.Common.{subst, length-append, ⊎_elim}
use Rattle.std.specs.List.{AllByRecursion}
use Rattle.std.proofs.Math.ListN.{get_or-append}
use Rattle.std.proofs.Math.Seq.{get_or-append_right, get_or-append_seam}
use Rattle.std.proofs.lemmas.Bool.{and_parts, cases_lt, eq-eqb}
use Rattle.std.proofs.lemmas.List.{get_or-drop, get_or-map, get_or-take, length-map, map-append}
use Rattle.design_cell.specs.declared.value.Value.{Value}
use Rattle.design_cell.specs.declared.value.Value.TheVariants.{X}
use Rattle.design_circuit.specs.declared.design.Driver.{Driver}
use Rattle.design_circuit.specs.declared.design.Driver.TheVariants.{Copy}
use Rattle.design_circuit.specs.declared.waveform.Mark.{Mark}
use Rattle.design_circuit.specs.declared.waveform.Mark.TheVariants.{Certain, Unknown, Undecided}
use Rattle.design_circuit.specs.declared.waveform.Written.{Written}
use Rattle.design_circuit.specs.Fits.{Fits, StandsBefore}
use Rattle.design_circuit.specs.Job.{Job, at, net_of, places_of, step_of}
use Rattle.design_circuit.specs.Order.{arguments_of_driver, position_of}
use Rattle.design_circuit.specs.Waveform.{certain, certain_by, unwritten, written_at}
use Rattle.design_circuit.proofs.Rules.{AgreeBelow, spot}
use Rattle.law_model.specs.Class.{before, class_of, is_carried_on}
use Rattle.law_model.proofs.FactsBefore.{written_last}
use Rattle.law_quiet.specs.Copies.{CopiesAgree, IsCopied, place_keeps}
use Rattle.law_quiet.specs.OfClass.{AgreeBefore, AreTold, CopiesFrom, facts, facts_of}
use Rattle.law_quiet.specs.Runs.{repeated}
use Rattle.law_quiet.specs.Sweep.{spot_at}
use Rattle.law_quiet.proofs.CopiedPlaces.{copy_class, copy_law, copied_of_open, keeps_told}
use Rattle.law_quiet.proofs.QuietAlong.{keeps_local}
use Rattle.law_quiet.proofs.QuietClasses.{at_itself}
use Rattle.law_quiet.proofs.StretchedRuns.{stretch_law}
use Rattle.law_quiet.proofs.Sweeps.{net_is, repeated_long, step_on}
use Rattle.wave_bytes.specs.Byte.{copied_byte, facts_in, facts_of_byte, is_uncertain, written_of_byte}
use Rattle.wave_bytes.specs.Kept.{AreRowsOf, BytesTell, IsWrittenBehind, ValuesAgree}
use Rattle.wave_bytes.specs.Roots.{HasRoot, IsRootBehind}
use Rattle.wave_bytes.specs.Repeat.{AreSteadyFrom, IsStretch}
use Rattle.wave_bytes.specs.Rows.{AreCopiedAgain, IsCopiedAgain, RowsView, nth_root, root_place}
use Rattle.wave_bytes.proofs.ByteDigits.{copied_again, copied_says, copied_written}
use Rattle.wave_bytes.proofs.KeptBytes.{agrees_pushed, same_pushed, told_front}
use Rattle.wave_bytes.proofs.RowPlaces.{later_step}

-- The place of a copy at a step, and that of its argument.
copies_there : (j : Job) → Fits j → (step p net : ℕ) → p < j.width → spot_at j step p < places_of j
    → j.driver (slice_index j.order p) ≡ Copy net → CopiesFrom j (spot_at j step p) (at j step net)
copies_there j fits step p net low within is =
    let place : ℕ = spot_at j step p in
    let s = spot j fits place within in
    let driver : j.driver (net_of j place) ≡ Copy net = ap j.driver (net_is j step p low) ∙ is in
    let stands : AllStand (place % j.width) (Copy net) =
    subst (AllStand (place % j.width)) driver s.before in
    let whole = s.whole in
    let here = step_on j step p low in
    let before = stands.0.before in
    record {
      net = net;
      within = stands.0.within;
      driver = driver;
      from_is = ap (λ t. at j t net) (sym here);
      earlier = (let same : step_of j place * j.width ≡ step * j.width = ap (λ t. t * j.width) here in
          omega (arith, before, whole, same));
    }
  where
    AllStand : ℕ → Driver → Type 0
    AllStand position driver = AllByRecursion (StandsBefore j position) (arguments_of_driver driver)

-- What a position copies stands at its steps with what stands at the position.
module _ (j : Job) (fits : Fits j) (roots : List ℕ) (each : (p : ℕ) → p < j.width → HasRoot j roots p) where
  rooted_to : (c : ℕ → Value) (step n p : ℕ) → p < n → p < j.width → spot_at j step p < places_of j
      → AgreeBefore j c (spot_at j step p + 1)
      → IsCopied j c (spot_at j step p) (spot_at j step (nth_root roots p))
  rooted_to c step zero p less low within agree = absurd (omega (arith, less))
  rooted_to c step (suc n) p less low within agree =
      by (each p low) (λ q less low within agree. rooted_to c step n q less low within agree)
    where
      by : HasRoot j roots p
          → ((q : ℕ) → q < n → q < j.width → spot_at j step q < places_of j → AgreeBefore j c (spot_at j step q + 1)
          → IsCopied j c (spot_at j step q) (spot_at j step (nth_root roots q)))
          → IsCopied j c (spot_at j step p) (spot_at j step (nth_root roots p))
      by (IsRootBehind.itself is) earlier =
          subst (λ r. IsCopied j c (spot_at j step p) (spot_at j step r)) (sym is)
          (record { value = refl; keeps = refl })
      by (IsRootBehind.copied net driver before is) earlier =
          let there = copy_law j c (spot_at j step p) (at j step net) fits within agree
          (copies_there j fits step p net low within driver) in
          let further = earlier (position_of j.order net) (omega (arith, before, less))
          (omega (arith, before, low)) (omega (arith, before, within))
          (λ k up. agree k (omega (arith, up, before))) in
          subst (λ r. IsCopied j c (spot_at j step p) (spot_at j step r)) (sym is)
          (record { value = there.value ∙ further.value; keeps = there.keeps ∙ further.keeps })

  pub rooted : (c : ℕ → Value) (step p : ℕ) → p < j.width → spot_at j step p < places_of j
      → AgreeBefore j c (spot_at j step p + 1)
      → IsCopied j c (spot_at j step p) (spot_at j step (nth_root roots p))
  rooted c step p low within agree = rooted_to c step (p + 1) p (omega arith) low within agree

  agree_to : (waveform : List Written) (step n p : ℕ) → p < n → p < j.width → length waveform ≤ places_of j
      → spot_at j step p < length waveform → CopiesAgree j waveform
      → written_at waveform (spot_at j step p) ≡ written_at waveform (spot_at j step (nth_root roots p))
  agree_to waveform step zero p less low within there copies = absurd (omega (arith, less))
  agree_to waveform step (suc n) p less low within there copies =
      by (each p low) (λ q less low there. agree_to waveform step n q less low within there copies)
    where
      by : HasRoot j roots p
          → ((q : ℕ) → q < n → q < j.width → spot_at j step q < length waveform
          → written_at waveform (spot_at j step q) ≡ written_at waveform (spot_at j step (nth_root roots q)))
          → written_at waveform (spot_at j step p) ≡ written_at waveform (spot_at j step (nth_root roots p))
      by (IsRootBehind.itself is) earlier = ap (λ r. written_at waveform (spot_at j step r)) (sym is)
      by (IsRootBehind.copied net driver before is) earlier =
          copies (spot_at j step p) (at j step net) there
          (copies_there j fits step p net low (omega (arith, there, within)) driver)
          ∙ earlier (position_of j.order net) (omega (arith, before, less))
          (omega (arith, before, low)) (omega (arith, before, there))
          ∙ ap (λ r. written_at waveform (spot_at j step r)) (sym is)

  pub rooted_agree : (waveform : List Written) (step p : ℕ) → p < j.width → length waveform ≤ places_of j
      → spot_at j step p < length waveform → CopiesAgree j waveform
      → written_at waveform (spot_at j step p) ≡ written_at waveform (spot_at j step (nth_root roots p))
  rooted_agree waveform step p low within there copies =
      agree_to waveform step (p + 1) p (omega arith) low within there copies

  -- The class of a copy that keeps and isn't certain carries on.
  pub rooted_carries : (c : ℕ → Value) (step p : ℕ) → p < j.width → spot_at j step p < places_of j
      → AgreeBefore j c (spot_at j step p + 1) → (nth_root roots p ≡ p → ⊥)
      → place_keeps j c (spot_at j step p) ≡ true → c (spot_at j step p) ≡ X
      → is_carried_on (class_of j c (spot_at j step p)) (before j (spot_at j step p)) ≡ true
  rooted_carries c step p low within agree other kept unknown = by (each p low)
    where
      place : ℕ
      place = spot_at j step p

      by : HasRoot j roots p → is_carried_on (class_of j c place) (before j place) ≡ true
      by (IsRootBehind.itself is) = absurd (other is)
      by (IsRootBehind.copied net driver low_net is) =
          let copies = copies_there j fits step p net low within driver in
          let earlier = copies.earlier in
          let from : ℕ = at j step net in
          let there = copy_law j c place from fits within agree copies in
          ap (λ class. is_carried_on class (before j place))
          (copy_class j fits c place from within copies
          ∙ copied_of_open (c from) (facts_of j c from).keeps (before j place) from (sym there.value ∙ unknown)
          (sym (keeps_told j fits c from (omega (arith, earlier, within))) ∙ sym there.keeps ∙ kept))
          ∙ ap (λ b. b && true) (eq-eqb (before j place) (before j place) refl)

-- The byte of a copy says the facts of the place behind those that are written.
last_written : (bytes : List ℕ) (byte : ℕ)
    → written_at (map written_of_byte (bytes ++ byte ∷ [])) (length bytes) ≡ written_of_byte byte
last_written bytes byte =
    get_or-map written_of_byte (bytes ++ byte ∷ []) (length bytes) 0 unwritten
    (let long = length-append bytes (byte ∷ []) in omega (arith, long))
    ∙ ap written_of_byte (get_or-append_seam bytes byte [] 0)

certain_is : (waveform : List Written) (k : ℕ) (x : Written) → written_at waveform k ≡ x
    → certain waveform k ≡ certain_by x.mark x.value
unfolding certain
certain_is waveform k x is = ap (λ (w : Written). certain_by w.mark w.value) is

certain_same : (one other : List Written) (k : ℕ) → written_at one k ≡ written_at other k
    → certain one k ≡ certain other k
unfolding certain
certain_same one other k is = ap (λ (w : Written). certain_by w.mark w.value) is

unknown_value : (written : Written) → is_uncertain written.mark ≡ true → certain_by written.mark written.value ≡ X
unknown_value written is = by written.mark is
  where
    by : (mark : Mark) → is_uncertain mark ≡ true → certain_by mark written.value ≡ X
    by Certain is = cc
    by Unknown is = refl
    by Undecided is = refl

module _ (j : Job) (fits : Fits j) (rows : RowsView) (are : AreRowsOf j rows) where
  root_is : (k : ℕ) → root_place rows.width rows.roots k ≡ spot_at j (step_of j k) (nth_root rows.roots (k % j.width))
  root_is k = ap (λ w. root_place w rows.roots k) are.width

  -- A place more, of a copy.
  pub told_copied : (byte : ℕ) (old : List ℕ) → length old < places_of j → BytesTell j old
      → ValuesAgree j (map written_of_byte (old ++ copied_byte byte ∷ []))
      → root_place rows.width rows.roots (length old) < length old
      → byte ≡ slice_index_or old (root_place rows.width rows.roots (length old)) 0
      → BytesTell j (old ++ copied_byte byte ∷ [])
  told_copied byte old within told agrees earlier byte_is k less = ⊎_elim
      (λ (low : k < length old). told_front j fits old (copied_byte byte ∷ []) k (omega (arith, within)) told low)
      (λ (up : length old ≤ k). subst (λ n. AreTold (facts_in new n) (facts_of j d n))
      (let long = length-append old (copied_byte byte ∷ []) in omega (arith, up, less, long)) last)
      (cases_lt k (length old))
    where
      n : ℕ
      n = length old

      new : List ℕ
      new = old ++ copied_byte byte ∷ []

      d : ℕ → Value
      d = certain (map written_of_byte new)

      from : ℕ
      from = root_place rows.width rows.roots n

      step : ℕ
      step = step_of j n

      position : ℕ
      position = n % j.width

      here : spot_at j step position ≡ n
      here = (spot j fits n within).whole

      low : position < j.width
      low = (spot j fits n within).position

      long : length (map written_of_byte new) ≡ n + 1
      long = length-map new written_of_byte ∙ length-append old (copied_byte byte ∷ [])

      agree : AgreeBefore j d (spot_at j step position + 1)
      agree k less = agrees k (omega (arith, less, here, long))

      copied : IsCopied j d n from
      copied = subst (λ r. IsCopied j d n r) (sym (root_is n))
          (subst (λ p. IsCopied j d p (spot_at j step (nth_root rows.roots position))) here
          (rooted j fits rows.roots are.roots d step position low (omega (arith, here, within)) agree))

      keeps : Bool
      keeps = (facts_of_byte byte).keeps

      told_root : keeps ≡ (facts_of j d from).keeps
      told_root = ap (λ b. (facts_of_byte b).keeps) byte_is
          ∙ ap (λ b. (facts_of_byte b).keeps) (sym (get_or-append old (copied_byte byte ∷ []) 0 from earlier))
          ∙ (told_front j fits old (copied_byte byte ∷ []) from (omega (arith, within)) told earlier).keeps

      kept : keeps ≡ (facts_of j d n).keeps
      kept = told_root ∙ sym (keeps_told j fits d from (omega (arith, earlier, within))) ∙ sym copied.keeps
          ∙ keeps_told j fits d n within

      says : facts_in new n ≡ facts (keeps && is_uncertain (written_of_byte byte).mark) false false keeps
      says = ap facts_of_byte (get_or-append_seam old (copied_byte byte) [] 0) ∙ copied_says byte

      carries : keeps && is_uncertain (written_of_byte byte).mark ≡ true → (facts_of j d n).carries ≡ true
      carries is =
          let both = and_parts keeps (is_uncertain (written_of_byte byte).mark) is in
          subst (λ p. is_carried_on (class_of j d p) (before j p) ≡ true) here
          (rooted_carries j fits rows.roots are.roots d step position low (omega (arith, here, within)) agree
          (λ own. (let is : from ≡ n = root_is n ∙ ap (spot_at j step) own ∙ here in omega (arith, is, earlier)))
          (ap (place_keeps j d) here ∙ keeps_told j fits d n within ∙ sym kept ∙ both.0)
          (ap d here ∙ value_there ∙ unknown_value (written_of_byte byte) both.1))
        where
          value_there : d n ≡ certain_by (written_of_byte byte).mark (written_of_byte byte).value
          value_there = certain_is (map written_of_byte new) n (written_of_byte byte)
              (last_written old (copied_byte byte) ∙ copied_written byte)

      last : AreTold (facts_in new n) (facts_of j d n)
      last = subst (λ f. AreTold f (facts_of j d n)) (sym says) (record {
        carries = carries;
        plain = λ told. cc;
        line = λ told. cc;
        keeps = kept;
      })

  -- So all is said that has to be.
  pub copied_behind : (written : Written) (old all : List ℕ) (byte : ℕ) → length old < places_of j → BytesTell j old
      → ValuesAgree j (map written_of_byte old ++ written ∷ [])
      → CopiesAgree j (map written_of_byte old ++ written ∷ [])
      → root_place rows.width rows.roots (length old) < length old
      → byte ≡ slice_index_or old (root_place rows.width rows.roots (length old)) 0
      → all ≡ old ++ copied_byte byte ∷ [] → IsWrittenBehind j old all written
  copied_behind written old all byte within told agrees copies earlier byte_is all_is = record {
    says = says_all;
    told = subst (BytesTell j) (sym all_is) (told_copied byte old within told
        (subst (ValuesAgree j) (sym (ap (map written_of_byte) (sym all_is) ∙ says_all)) agrees) earlier byte_is);
    agrees = agrees_pushed j old (copied_byte byte) written agrees written_is all all_is;
    more = ap length all_is ∙ length-append old (copied_byte byte ∷ []);
    same = same_pushed old (copied_byte byte) all all_is;
  }
    where
      n : ℕ
      n = length old

      w : List Written
      w = map written_of_byte old ++ written ∷ []

      long : length (map written_of_byte old) ≡ n
      long = length-map old written_of_byte

      all_long : length w ≡ n + 1
      all_long = (let grows = length-append (map written_of_byte old) (written ∷ []) in omega (arith, grows, long))

      here : spot_at j (step_of j n) (n % j.width) ≡ n
      here = (spot j fits n within).whole

      from : ℕ
      from = root_place rows.width rows.roots n

      written_is : written_of_byte (copied_byte byte) ≡ written
      written_is =
          copied_written byte ∙ ap written_of_byte byte_is
          ∙ sym (get_or-map written_of_byte old from 0 unwritten earlier)
          ∙ sym (get_or-append (map written_of_byte old) (written ∷ []) unwritten from (omega (arith, long, earlier)))
          ∙ ap (written_at w) (root_is n)
          ∙ sym (rooted_agree j fits rows.roots are.roots w (step_of j n) (n % j.width) (spot j fits n within).position
          (omega (arith, all_long, within)) (omega (arith, here, all_long)) copies)
          ∙ ap (written_at w) here ∙ ap (written_at w) (sym long) ∙ written_last (map written_of_byte old) written

      says_all : map written_of_byte all ≡ w
      says_all = ap (map written_of_byte) all_is ∙ map-append written_of_byte old (copied_byte byte ∷ [])
          ∙ ap (λ (x : Written). map written_of_byte old ++ x ∷ []) written_is

  -- Places more, each as a step before: what is copied has what it had, and keeps.
  pub are_again : (many : ℕ) → IsStretch j (length rows.bytes) many
      → BytesTell j rows.bytes → ValuesAgree j (repeated j (map written_of_byte rows.bytes) many)
      → AreSteadyFrom j (repeated j (map written_of_byte rows.bytes) many) (length (map written_of_byte rows.bytes))
      → CopiesAgree j (repeated j (map written_of_byte rows.bytes) many) → AreCopiedAgain rows many
  are_again many stretch told agrees steady copies place up less early =
      subst (IsCopiedAgain rows.bytes rows.width) (sym (root_is place))
      (copied_again (slice_index_or rows.bytes from 0) (slice_index_or rows.bytes (from - rows.width) 0) same kept)
    where
      w : List Written
      w = map written_of_byte rows.bytes

      all : List Written
      all = repeated j w many

      c : ℕ → Value
      c = certain w

      d : ℕ → Value
      d = certain all

      n : ℕ
      n = length rows.bytes

      long : length w ≡ n
      long = length-map rows.bytes written_of_byte

      step : ℕ
      step = step_of j place

      position : ℕ
      position = place % j.width

      from : ℕ
      from = spot_at j step (nth_root rows.roots position)

      within : place < places_of j
      within = (let room = stretch.within in omega (arith, room, less))

      here : spot_at j step position ≡ place
      here = (spot j fits place within).whole

      low : position < j.width
      low = (spot j fits place within).position

      early_from : from < n
      early_from = subst (λ k. k < n) (root_is place) early

      some : 0 < step
      some = later_step j.width step position place here low (let later = stretch.later in omega (arith, later, up))

      split : step ≡ step - 1 + 1
      split = omega (arith, some)

      back : (p : ℕ) → spot_at j step p - j.width ≡ spot_at j (step - 1) p
      back p = subst (λ t. spot_at j t p - j.width ≡ spot_at j (step - 1) p) (sym split) (one (step - 1) p)
        where
          one : (t p : ℕ) → spot_at j (t + 1) p - j.width ≡ spot_at j t p
          one t p = omega arith

      stretched_is : all ≡ w ++ take many (drop (length w - j.width) w)
      stretched_is = stretch_law j w many fits (let later = stretch.later in omega (arith, later, long))
          (let room = stretch.within in omega (arith, room, long))
          (subst (λ k. k + many ≤ (step_of j k + 1) * j.width) (sym long) stretch.one_step)

      all_long : length all ≡ n + many
      all_long = repeated_long j w many ∙ ap (λ k. k + many) long

      first : (k : ℕ) → k < n → written_at all k ≡ written_at w k
      first k less = ap (λ (ws : List Written). written_at ws k) stretched_is
          ∙ get_or-append w (take many (drop (length w - j.width) w)) unwritten k (omega (arith, less, long))

      behind : written_at all place ≡ written_at w (place - j.width)
      behind =
          let later = stretch.later in
          let k_is : length w - j.width + (place - length w) ≡ place - j.width = omega (arith, later, up, long) in
          ap (λ (ws : List Written). written_at ws place) stretched_is
          ∙ get_or-append_right w (take many (drop (length w - j.width) w)) place unwritten (omega (arith, up, long))
          ∙ get_or-take many (drop (length w - j.width) w) (place - length w) unwritten (omega (arith, up, less, long))
          ∙ get_or-drop (length w - j.width) w (place - length w) unwritten
          ∙ ap (written_at w) k_is

      from_back : from - rows.width ≡ spot_at j (step - 1) (nth_root rows.roots position)
      from_back = ap (λ k. from - k) are.width ∙ back (nth_root rows.roots position)

      place_back : place - j.width ≡ spot_at j (step - 1) position
      place_back = ap (λ k. k - j.width) (sym here) ∙ back position

      back_low : place - j.width < n
      back_low =
          let later = stretch.later in
          let s = spot j fits n (omega (arith, within, up)) in
          row_low j.width (step_of j n) (n % j.width) n many place s.whole later less stretch.one_step
        where
          row_low : (v s p m some k : ℕ) → s * v + p ≡ m → v ≤ m → k < m + some → m + some ≤ (s + 1) * v → k - v < m
          row_low v s p m some k whole later less one = omega (arith, whole, later, less, one)

      same : written_of_byte (slice_index_or rows.bytes from 0)
          ≡ written_of_byte (slice_index_or rows.bytes (from - rows.width) 0)
      same =
          let room = stretch.within in
          sym (get_or-map written_of_byte rows.bytes from 0 unwritten early_from) ∙ sym (first from early_from)
          ∙ sym (rooted_agree j fits rows.roots are.roots all step position low (omega (arith, all_long, room))
          (omega (arith, here, less, all_long)) copies)
          ∙ ap (written_at all) here ∙ behind ∙ sym (first (place - j.width) back_low)
          ∙ ap (written_at all) place_back
          ∙ rooted_agree j fits rows.roots are.roots all (step - 1) position low (omega (arith, all_long, room))
          (omega (arith, place_back, back_low, all_long)) copies
          ∙ ap (written_at all) (sym from_back)
          ∙ first (from - rows.width) (omega (arith, early_from))
          ∙ get_or-map written_of_byte rows.bytes (from - rows.width) 0 unwritten (omega (arith, early_from))

      copied : IsCopied j d place from
      copied = subst (λ p. IsCopied j d p from) here
          (rooted j fits rows.roots are.roots d step position low (omega (arith, here, within))
          (λ k up. agrees k (omega (arith, up, here, less, all_long))))

      values : AgreeBelow c d n
      values k less = sym (certain_same all w k (first k less))

      itself : at j (step_of j from) (net_of j from) ≡ from
      itself = at_itself j fits from (omega (arith, early_from, within, up))

      kept : (facts_of_byte (slice_index_or rows.bytes from 0)).keeps ≡ true
      kept =
          (told from early_from).keeps ∙ sym (keeps_told j fits c from (omega (arith, early_from, within, up)))
          ∙ keeps_local j fits c d n (step_of j from) (net_of j from) (omega (arith, within, up)) values
          (omega (arith, itself, early_from))
          ∙ sym copied.keeps ∙ (steady.steady place (omega (arith, up, long)) (omega (arith, less, all_long))).keeps
