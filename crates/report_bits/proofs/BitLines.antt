-- The lines of bits by their nets, of which a bit has none where it is recorded known.
use Rattle.std.proofs.Common.{◌≡◌, ℕ, zero, suc, ◌+◌, ◌-◌, ◌<◌, ◌≤◌, ◌*◌, Bool, true, false, List, [], ◌∷◌, ◌++◌, length, drop, slice_index, refl, sym, ap, ◌∙◌, arith, subst, add-one, append_assoc, drop-cons, ⊎_elim}
use Rattle.std.specs.Prelude.{Contains, if◌then◌else◌}
use Rattle.std.specs.List.{flat_map}
use Rattle.std.proofs.lemmas.Bool.{cases_lt}
use Rattle.std.proofs.lemmas.Grind.{flat_map-append}
use Rattle.std.proofs.lemmas.List.{append-nil, drop_all}
use Rattle.design_cell.specs.Value.{is_unknown}
use Rattle.design_circuit.specs.History.{HasPlace, net_place}
use Rattle.design_circuit.specs.Replay.{Held}
use Rattle.design_circuit.specs.Row.{AreWritten}
use Rattle.design_circuit.specs.Settled.{last_step}
use Rattle.design_circuit.proofs.Handed.{handed_places, has_place}
use Rattle.replay_fans.specs.Marks.{OnlyMore}
use Rattle.replay_fans.proofs.Marking.{clear_before}
use Rattle.base_ledger.specs.Change.{change_position, nth_change}
use Rattle.base_ledger.specs.declared.change.Change.{Change}
use Rattle.recording_binding.specs.BoundBits.{bits_from, moment_bits, moments_bits, variable_bits}
use Rattle.recording_binding.specs.declared.binding.Bound.{Bound}
use Rattle.replay_history.specs.Watched.{AreDueTo}
use Rattle.replay_due.specs.Due.{NoneBetween, is_due}
use Rattle.replay_due.specs.Readers.{readers_of}
use Rattle.report_bits.specs.Bits.{bound_line, is_told, told_bit}
use Rattle.report_bits.specs.Finished.{IsStillAt}
use Rattle.report_bits.specs.Marked.{AreBitNets, KnownUnlessDue, KnownUnlessDueTo, QuietUnlessDue, ShownUnlessDue, bit_nets, bit_of, is_unknown_at, moment_lines, moments_lines, net_line}
use Rattle.report_bits.specs.declared.lines.ReportLines.{ReportLines}
use Rattle.report_bits.specs.declared.lines.ReportLines.TheVariants as named
use Rattle.report_bits.specs.declared.nets.BitNets.{BitNets}
use Rattle.wave_proved.specs.Contents.{Contents, IsWave, job}

-- What is left of a text after a piece of it is put.
moved : (text piece rest all grown : List ℕ) → text ++ (piece ++ rest) ≡ all → grown ≡ text ++ piece
    → grown ++ rest ≡ all
moved text piece rest all grown before step =
    ap (λ (l : List ℕ). l ++ rest) step ∙ append_assoc text piece rest ∙ before

rest_is : (nets : List ℕ) (number : ℕ) → number < length nets
    → drop number nets ≡ slice_index nets number ∷ drop (number + 1) nets
rest_is nets number within = rw (add-one, drop-cons nets number 0 within) refl

-- ---- by nets

module _ (c : Contents) (lines : ReportLines) where
  -- A line is made from its moment and its net.
  line_of : (l : ReportLines) (moment variable bit net : ℕ)
      → bound_line c l (record { moment = moment; variable = variable; bit = bit; net = net }) ≡ net_line c l moment net
  line_of named.All moment variable bit net = refl
  line_of named.Changes moment variable bit net = refl

  bits_lines : (moment variable bit : ℕ) (nets : List ℕ)
      → flat_map (bound_line c lines) (bits_from moment variable bit nets) ≡ moment_lines c lines moment nets
  bits_lines moment variable bit [] = refl
  bits_lines moment variable bit (net ∷ nets) =
      ap (λ (l : List ℕ). l ++ flat_map (bound_line c lines) (bits_from moment variable (bit + 1) nets))
      (line_of lines moment variable bit net)
      ∙ ap (λ (l : List ℕ). net_line c lines moment net ++ l) (bits_lines moment variable (bit + 1) nets)

  variables_lines : (moment : ℕ) (bound : List Bound)
      → flat_map (bound_line c lines) (moment_bits moment bound) ≡ moment_lines c lines moment (bit_nets bound)
  variables_lines moment [] = refl
  variables_lines moment (b ∷ bound) =
      flat_map-append (bound_line c lines) (variable_bits moment b) (moment_bits moment bound)
      ∙ ap (λ (l : List ℕ). l ++ flat_map (bound_line c lines) (moment_bits moment bound))
      (bits_lines moment b.variable 0 b.bits)
      ∙ ap (λ (l : List ℕ). moment_lines c lines moment b.bits ++ l) (variables_lines moment bound)
      ∙ sym (flat_map-append (net_line c lines moment) b.bits (bit_nets bound))

  -- The lines of bound bits are those of their nets.
  pub bound_lines : (bound : List Bound) (moment more : ℕ)
      → flat_map (bound_line c lines) (moments_bits bound moment more)
      ≡ moments_lines c lines (bit_nets bound) moment more
  bound_lines bound moment zero = refl
  bound_lines bound moment (suc more) =
      flat_map-append (bound_line c lines) (moment_bits moment bound) (moments_bits bound (moment + 1) more)
      ∙ ap (λ (l : List ℕ). l ++ flat_map (bound_line c lines) (moments_bits bound (moment + 1) more))
      (variables_lines moment bound)
      ∙ ap (λ (l : List ℕ). moment_lines c lines moment (bit_nets bound) ++ l) (bound_lines bound (moment + 1) more)

  moments_more : (nets : List ℕ) (moment more : ℕ) → 0 < more → moments_lines c lines nets moment more
      ≡ moment_lines c lines moment nets ++ moments_lines c lines nets (moment + 1) (more - 1)
  moments_more nets moment zero some = absurd (omega arith)
  moments_more nets moment (suc more) some =
      let e : suc more - 1 ≡ more = omega arith in
      rw e refl

  -- One moment more is put.
  pub moment_put : (nets : List ℕ) (moment count : ℕ) (text all grown : List ℕ) → moment < count
      → text ++ moments_lines c lines nets moment (count - moment) ≡ all
      → grown ≡ text ++ moment_lines c lines moment nets
      → grown ++ moments_lines c lines nets (moment + 1) (count - (moment + 1)) ≡ all
  moment_put nets moment count text all grown less before put =
      let fewer : count - moment - 1 ≡ count - (moment + 1) = omega arith in
      let rest = moments_more nets moment (count - moment) (omega (arith, less))
      ∙ ap (λ (n : ℕ). moment_lines c lines moment nets ++ moments_lines c lines nets (moment + 1) n) fewer in
      moved text (moment_lines c lines moment nets) (moments_lines c lines nets (moment + 1) (count - (moment + 1)))
      all grown (ap (λ (l : List ℕ). text ++ l) (sym rest) ∙ before) put

  -- All are put.
  pub moments_put : (nets : List ℕ) (moment count : ℕ) (text all : List ℕ) → count ≤ moment
      → text ++ moments_lines c lines nets moment (count - moment) ≡ all → text ≡ all
  moments_put nets moment count text all past before =
      let none : count - moment ≡ 0 = omega (arith, past) in
      sym (ap (λ (n : ℕ). text ++ moments_lines c lines nets moment n) none ∙ append-nil text) ∙ before

-- ---- what isn't due

empty_if : (b : Bool) (l : List ℕ) → l ≡ [] → (if b then l else []) ≡ []
empty_if true l none = none
empty_if false l none = refl

no_line : (c : Contents) (lines : ReportLines) (moment net : ℕ)
    → is_unknown_at c (last_step (job c) moment) net ≡ false → net_line c lines moment net ≡ []
no_line c lines moment net known =
    empty_if (is_told c lines (bit_of moment net)) (told_bit c (bit_of moment net)) (rw known refl)

-- Where 0 or 1 is recorded of each bit that isn't due, none of these has a line.
pub quiet_known : (c : Contents) (lines : ReportLines) (moment : ℕ) (nets due : List ℕ)
    → KnownUnlessDue c nets (last_step (job c) moment) due → QuietUnlessDue c lines moment nets due
quiet_known c lines moment nets due known number within clear =
    no_line c lines moment (slice_index nets number) (known number within clear)

module _ (c : Contents) (lines : ReportLines) (moment : ℕ) (nets : List ℕ) (due : List ℕ)
    (none_of : QuietUnlessDue c lines moment nets due) where
  abbrev lines_from : ℕ → List ℕ
  lines_from number = moment_lines c lines moment (drop number nets)

  pub lines_past : (number : ℕ) → length nets ≤ number → lines_from number ≡ []
  lines_past number past =
      let none : drop number nets ≡ [] = drop_all number nets past in
      rw none refl

  quiet : (number : ℕ) → is_due due number ≡ false → number < length nets → lines_from number ≡ lines_from (number + 1)
  quiet number clear within =
      ap (moment_lines c lines moment) (rest_is nets number within)
      ∙ ap (λ (l : List ℕ). l ++ lines_from (number + 1)) (none_of number within clear)

  pass : (number : ℕ) → is_due due number ≡ false → lines_from number ≡ lines_from (number + 1)
  pass number clear =
      ⊎_elim (λ within. quiet number clear within)
      (λ past. lines_past number past ∙ sym (lines_past (number + 1) (omega (arith, past))))
      (cases_lt number (length nets))

  skip : (count from : ℕ) → NoneBetween due from (count + from) → lines_from from ≡ lines_from (count + from)
  skip zero from none =
      let e : from ≡ 0 + from = omega arith in
      ap lines_from e
  skip (suc count) from none =
      let next : count + (from + 1) ≡ suc count + from = omega arith in
      pass from (none from (omega arith) (omega arith))
      ∙ skip count (from + 1) (λ n low high. none n (omega (arith, low)) (omega (arith, high))) ∙ ap lines_from next

  -- Up to the next one that is due there is no line.
  pub to_next : (from to : ℕ) → from ≤ to → NoneBetween due from to → lines_from from ≡ lines_from to
  to_next from to forward none =
      let whole : to - from + from ≡ to = omega (arith, forward) in
      skip (to - from) from (λ n low high. none n low (omega (arith, high, forward))) ∙ ap lines_from whole

  -- A bit that is due is put.
  pub bit_put : (number next : ℕ) (text all grown : List ℕ) (net : ℕ) → number < length nets
      → net ≡ slice_index nets number → number + 1 ≤ next → NoneBetween due (number + 1) next
      → text ++ lines_from number ≡ all → grown ≡ text ++ net_line c lines moment net → grown ++ lines_from next ≡ all
  bit_put number next text all grown net within is forward none before put =
      let rest = ap (moment_lines c lines moment) (rest_is nets number within)
      ∙ ap (λ (n : ℕ). net_line c lines moment n ++ lines_from (number + 1)) (sym is) in
      ap (λ (l : List ℕ). grown ++ l) (sym (to_next (number + 1) next forward none))
      ∙ moved text (net_line c lines moment net) (lines_from (number + 1)) all grown
      (ap (λ (l : List ℕ). text ++ l) (sym rest) ∙ before) put

-- The bits of which x or z is recorded, of those so far.
module _ (c : Contents) (nets : List ℕ) (step : ℕ) where
  pub unknown_next : (due set : List ℕ) (from to : ℕ) → KnownUnlessDue c nets step due → NoneBetween due from to
      → KnownUnlessDueTo c nets step from set → KnownUnlessDueTo c nets step to set
  unknown_next due set from to known none so_far number less within clear =
      ⊎_elim (λ early. so_far number early within clear) (λ late. known number within (none number late less))
      (cases_lt number from)

  pub unknown_all : (set : List ℕ) (to : ℕ) → length nets ≤ to → KnownUnlessDueTo c nets step to set
      → KnownUnlessDue c nets step set
  unknown_all set to past so_far number within clear = so_far number (omega (arith, within, past)) within clear

-- ---- what becomes due

-- The places of a step of a wave are there in its history.
history_there : (c : Contents) → IsWave c → (step net : ℕ) → step < length c.stim.times * c.stim.rounds
    → net < length c.design.nets → HasPlace c.history (net_place step net)
history_there c wave step net less low =
    has_place (job c) c.history (net_place step net) (handed_places (job c) c.history wave.handed)
    (record { step = less; net = low })

-- A bit that isn't due and whose net isn't written shows what it showed;
pub shown_kept : (c : Contents) (bits : BitNets) (step : ℕ) (changes : List Change) (due : List ℕ) → IsWave c
    → AreBitNets (length c.design.nets) bits → step < length c.stim.times * c.stim.rounds
    → AreWritten c.history step changes → AreDueTo bits.readers changes (length changes) due
    → ShownUnlessDue c bits.nets.items step due
shown_kept c bits step changes due wave are less written marked number within clear =
    ap (λ (held : Held). held.shown)
    (written.others net (history_there c wave step net less (are.low number 0 within)) unwritten)
  where
    net : ℕ
    net = slice_index bits.nets.items number

    unwritten : (i : ℕ) → i < length changes → change_position (nth_change changes i) ≡ net → ⊥
    unwritten i low same =
        let some : is_due due number ≡ true = marked i low number
        (subst (λ (n : ℕ). Contains (readers_of bits.readers n) number) (sym same) (are.has number within)) in
        let no : true ≡ false = sym some ∙ clear in cc

-- so it is where the history is still;
pub shown_still : (c : Contents) (bits : BitNets) (step : ℕ) (due : List ℕ) → IsWave c
    → AreBitNets (length c.design.nets) bits → step < length c.stim.times * c.stim.rounds → IsStillAt c.history step
    → ShownUnlessDue c bits.nets.items step due
shown_still c bits step due wave are less still number within clear =
    let net = slice_index bits.nets.items number in
    ap (λ (held : Held). held.shown) (still net (history_there c wave step net less (are.low number 0 within)))

-- and where it was known it is.
pub known_kept : (c : Contents) (nets : List ℕ) (step : ℕ) (old new : List ℕ) → OnlyMore old new
    → ShownUnlessDue c nets step new → KnownUnlessDue c nets (step - 1) old → KnownUnlessDue c nets step new
known_kept c nets step old new more shown known number within clear =
    ap is_unknown (shown number within clear) ∙ known number within (clear_before old new number more clear)
