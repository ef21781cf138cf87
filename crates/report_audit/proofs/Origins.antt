-- Every origin is driven by a primitive: any other driver gives in each world what it gives in the replay, where the
-- places that it reads there are certain with the values that the replay knows.
use Rattle.std.proofs.Common.{◌≡◌, ℕ, ◌+◌, ◌*◌, ◌%◌, ◌<◌, Bool, true, false, List, [], ◌∷◌, map, length, refl, sym, ap, ◌∙◌, subst, arith, slice_index_or}
use Rattle.std.proofs.lemmas.Bool.{or_parts}
use Rattle.std.specs.List.{AllByRecursion, list_any}
use Rattle.design_cell.specs.declared.value.Value.{Value}
use Rattle.design_cell.specs.declared.value.Value.TheVariants.{Zero, One, X, Z}
use Rattle.design_cell.specs.Value.{bit_value}
use Rattle.design_circuit.specs.declared.design.Driver.{Driver}
use Rattle.design_circuit.specs.declared.design.Driver.TheVariants.{Input, Undriven, Constant, Copy, Cell, Register}
use Rattle.design_circuit.specs.declared.design.Pin.{Pin}
use Rattle.design_circuit.specs.declared.design.Pin.TheVariants.{Net, Bit, Dead}
use Rattle.design_circuit.specs.declared.design.Table.TheVariants.{Gate, Udp}
use Rattle.design_circuit.specs.declared.place.Place.{Place}
use Rattle.design_circuit.specs.declared.waveform.Mark.{Mark}
use Rattle.design_circuit.specs.declared.waveform.Mark.TheVariants.{Certain, Unknown, Undecided}
use Rattle.design_circuit.specs.declared.waveform.Written.{Written}
use Rattle.design_circuit.specs.Filling.{IsFilling, IsPlace, bit_of}
use Rattle.design_circuit.specs.Fits.{Fits, IsPlain, StandsBefore}
use Rattle.design_circuit.specs.Job.{Job, at, net_of, number_of, step_of}
use Rattle.design_circuit.specs.History.{HistoryView}
use Rattle.design_circuit.specs.Order.{arguments_of_driver, net_pins}
use Rattle.design_circuit.specs.Register.{pins_at}
use Rattle.design_circuit.specs.Replay.{Held, blank, driven, replay, shown_at}
use Rattle.design_circuit.specs.Rule.{as_values, rule, rule_of}
use Rattle.design_circuit.specs.Waveform.{certain}
use Rattle.design_circuit.specs.World.{bit_at, decided, world, world_bit}
use Rattle.design_circuit.proofs.Exact.{empty_filling}
use Rattle.design_circuit.proofs.Follows.{Follow, FollowsAt, driver_follows, gate_follows}
use Rattle.design_circuit.proofs.Handed.{number_within}
use Rattle.design_circuit.proofs.Replays.{replay_prefix, replay_rule}
use Rattle.design_circuit.proofs.Rules.{spot}
use Rattle.design_circuit.proofs.Worlds.{world_prefix, world_rule}
use Rattle.law_model.specs.Sound.{SoundBy}
use Rattle.law_model.specs.declared.line.Line.{Line as ALine}
use Rattle.law_model.proofs.CarryLaw.{net_at, step_at}
use Rattle.law_model.specs.declared.limits.Limits.{Limits}
use Rattle.wave_proved.specs.Contents.{Contents, IsWave, job, written_of}
use Rattle.report_audit.specs.Listed.{IsAudit, is_listed, is_open, is_suspect, leaves_open, lists, place_in, replay_arguments, replay_arguments_of, replayed_at}
use Rattle.report_audit.proofs.Audited.{replay_shows}

-- A place that is neither listed nor open has, in each world, what the replay knows there.
kept_so : (j : Job) (limits : Limits) (waveform : List Written) (lines : List ALine) (n : ℕ) (mark : Mark) (value shown : Value)
    → lists mark value shown ≡ false → leaves_open mark shown ≡ false → SoundBy j limits waveform lines n mark value
    → (filling : List Place) → IsFilling j filling
    → FollowsAt shown (bit_value (world_bit j (certain waveform) (bit_of j filling) n))
kept_so j limits waveform lines n mark value X told open_ sound filling is = λ known. absurd known
kept_so j limits waveform lines n mark value Z told open_ sound filling is = λ known. absurd known
kept_so j limits waveform lines n Certain Zero Zero told open_ sound filling is = λ known. ap bit_value (sound filling is)
kept_so j limits waveform lines n Certain One One told open_ sound filling is = λ known. ap bit_value (sound filling is)
kept_so j limits waveform lines n Certain One Zero told open_ sound filling is = cc
kept_so j limits waveform lines n Certain Zero One told open_ sound filling is = cc
kept_so j limits waveform lines n Certain X Zero told open_ sound filling is = absurd sound
kept_so j limits waveform lines n Certain X One told open_ sound filling is = absurd sound
kept_so j limits waveform lines n Certain Z Zero told open_ sound filling is = absurd sound
kept_so j limits waveform lines n Certain Z One told open_ sound filling is = absurd sound
kept_so j limits waveform lines n Unknown value Zero told open_ sound filling is = cc
kept_so j limits waveform lines n Unknown value One told open_ sound filling is = cc
kept_so j limits waveform lines n Undecided value Zero told open_ sound filling is = cc
kept_so j limits waveform lines n Undecided value One told open_ sound filling is = cc

-- A place that has in each world what the replay knows there isn't listed.
not_so : (j : Job) (limits : Limits) (waveform : List Written) (lines : List ALine) (n : ℕ) (mark : Mark) (value shown : Value)
    → lists mark value shown ≡ true → SoundBy j limits waveform lines n mark value
    → ((filling : List Place) → IsFilling j filling
    → FollowsAt shown (bit_value (world_bit j (certain waveform) (bit_of j filling) n))) → ⊥
not_so j limits waveform lines n Certain Zero Zero told sound follows = cc
not_so j limits waveform lines n Certain One One told sound follows = cc
not_so j limits waveform lines n Certain Zero One told sound follows =
    let here = follows [] (empty_filling j) tt in let other = sound [] (empty_filling j) in cc
not_so j limits waveform lines n Certain One Zero told sound follows =
    let here = follows [] (empty_filling j) tt in let other = sound [] (empty_filling j) in cc
not_so j limits waveform lines n Certain X Zero told sound follows = absurd sound
not_so j limits waveform lines n Certain X One told sound follows = absurd sound
not_so j limits waveform lines n Certain Z Zero told sound follows = absurd sound
not_so j limits waveform lines n Certain Z One told sound follows = absurd sound
not_so j limits waveform lines n Certain value X told sound follows = cc
not_so j limits waveform lines n Certain value Z told sound follows = cc
not_so j limits waveform lines n Unknown value Zero told sound follows =
    let here = follows _ sound.one_filling tt in let other = sound.gives_one in cc
not_so j limits waveform lines n Unknown value One told sound follows =
    let here = follows _ sound.zero_filling tt in let other = sound.gives_zero in cc
not_so j limits waveform lines n Unknown value X told sound follows = cc
not_so j limits waveform lines n Unknown value Z told sound follows = cc
not_so j limits waveform lines n Undecided value shown told sound follows = cc

-- Pins follow where their nets do.
pins_follow : (j : Job) (shown : ℕ → Value) (b : ℕ → Bool) (step : ℕ) (pins : List Pin)
    → AllByRecursion (λ net. FollowsAt (shown (at j step net)) (bit_value (b (at j step net)))) (net_pins pins)
    → Follow (pins_at j shown step pins) (pins_at j (as_values b) step pins)
pins_follow j shown b step [] all = tt
pins_follow j shown b step (Net net ∷ pins) all = (all.0, pins_follow j shown b step pins all.1)
pins_follow j shown b step (Bit bit ∷ pins) all = (λ known. refl, pins_follow j shown b step pins all)
pins_follow j shown b step (Dead ∷ pins) all = (λ known. absurd known, pins_follow j shown b step pins all)

-- What a driver that is no primitive gives in the replay, its rule gives on bits that follow the replay where it reads.
plain_follows : (j : Job) (c : ℕ → Value) (earlier : ℕ → Held) (b : ℕ → Bool) (step net : ℕ) (driver : Driver) → IsPlain driver
    → AllByRecursion (λ k. FollowsAt (earlier (at j step k)).shown (bit_value (b (at j step k)))) (arguments_of_driver driver)
    → FollowsAt (driven j earlier step net driver) (rule_of j c b step net driver)
plain_follows j c earlier b step net Input plain all =
    driver_follows j c (λ k. blank) b (step * j.width + 0) step 0 net Input plain tt refl (λ k less known. absurd known)
plain_follows j c earlier b step net Undriven plain all = λ known. absurd known
plain_follows j c earlier b step net (Constant bit) plain all = λ known. refl
plain_follows j c earlier b step net (Copy argument) plain all = all.0
plain_follows j c earlier b step net (Cell (Gate gate) pins) plain all =
    gate_follows gate (pins_at j (λ place. (earlier place).shown) step pins) (pins_at j (as_values b) step pins)
    (pins_follow j (λ place. (earlier place).shown) b step pins all)
plain_follows j c earlier b step net (Cell (Udp number) pins) plain all = absurd plain
plain_follows j c earlier b step net (Register latching) plain all = absurd plain

-- The nets that it reads.
nets_read : (test : Place → Bool) (j : Job) (step net : ℕ) (driver : Driver) → IsPlain driver
    → list_any test (replay_arguments_of j (place_in step net) driver) ≡ false
    → AllByRecursion (λ k. test (place_in step k) ≡ false) (arguments_of_driver driver)
nets_read test j step net Input plain none = tt
nets_read test j step net Undriven plain none = tt
nets_read test j step net (Constant bit) plain none = tt
nets_read test j step net (Copy argument) plain none = ((or_parts (test (place_in step argument)) false none).0, tt)
nets_read test j step net (Cell table pins) plain none = each (net_pins pins) none
  where
    each : (nets : List ℕ) → list_any test (map (place_in step) nets) ≡ false
        → AllByRecursion (λ k. test (place_in step k) ≡ false) nets
    each [] none = tt
    each (n ∷ nets) none =
        let parts = or_parts (test (place_in step n)) (list_any test (map (place_in step) nets)) none in
        (parts.0, each nets parts.1)
nets_read test j step net (Register latching) plain none = absurd plain

module _ (c : Contents) (replayed : HistoryView) (wave : IsWave c) (audit : IsAudit c replayed) where
  abbrev j : Job
  j = job c

  fits : Fits j
  fits = wave.fits.fits_job

  numbered : (place : Place) → IsPlace j place → number_of j place < length c.written
  numbered place is =
      let low = number_within j fits place is in
      let all = audit.finished in
      omega (arith, low, all)

  -- A place that the replay reads has in each world what the replay knows there.
  read_follows : (place : Place) → IsPlace j place → is_suspect c replayed place ≡ false → (filling : List Place)
      → IsFilling j filling
      → FollowsAt (shown_at j (number_of j place)) (bit_value (world_bit j (certain c.written) (bit_of j filling) (number_of j place)))
  read_follows place is clear filling fills =
      let n = number_of j place in
      let parts = or_parts (is_listed c replayed place) (is_open c replayed place) clear in
      let sound = wave.holds.sound.exact n (numbered place is) in
      subst (λ (v : Value). FollowsAt v (bit_value (world_bit j (certain c.written) (bit_of j filling) n)))
      (replay_shows c replayed wave audit place is)
      (kept_so j c.limits c.written c.lines n (written_of c place).mark (written_of c place).value (replayed_at replayed place)
      parts.0 parts.1 sound filling fills)

  nets_follow : (step : ℕ) (n : ℕ) (p : ℕ) → step < j.moments * j.rounds → step * j.width + p ≡ n → (nets : List ℕ)
      → AllByRecursion (StandsBefore j p) nets
      → AllByRecursion (λ k. is_suspect c replayed (place_in step k) ≡ false) nets → (filling : List Place)
      → IsFilling j filling
      → AllByRecursion (λ k. FollowsAt (slice_index_or (replay j n) (at j step k) blank).shown
      (bit_value (bit_at (world j (certain c.written) (bit_of j filling) n) (at j step k)))) nets
  nets_follow step n p within whole [] before clear filling fills = tt
  nets_follow step n p within whole (k ∷ nets) before clear filling fills =
      let low = before.0.before in
      let less : at j step k < n = omega (arith, low, whole) in
      let here = read_follows (place_in step k) (record { step = within; net = before.0.within }) clear.0 filling fills in (
        rw (replay_prefix j n (at j step k) less, world_prefix j (certain c.written) (bit_of j filling) n (at j step k) less) here,
        nets_follow step n p within whole nets before.1 clear.1 filling fills,
      )

  decided_follows : (v w : Value) (bit : Bool) → FollowsAt v w → FollowsAt v (bit_value (decided w bit))
  decided_follows Zero w bit same = λ known. rw (same tt) refl
  decided_follows One w bit same = λ known. rw (same tt) refl
  decided_follows X w bit same = λ known. absurd known
  decided_follows Z w bit same = λ known. absurd known

  -- So has a place behind them, if no primitive drives it.
  place_follows : (place : Place) → IsPlace j place → IsPlain (j.driver place.net)
      → list_any (is_suspect c replayed) (replay_arguments j place) ≡ false → (filling : List Place) → IsFilling j filling
      → FollowsAt (shown_at j (number_of j place)) (bit_value (world_bit j (certain c.written) (bit_of j filling) (number_of j place)))
  unfolding rule
  place_follows place is plain clear filling fills =
      let n = number_of j place in
      let s = spot j fits n (number_within j fits place is) in
      let step : step_of j n ≡ place.step = step_at j fits place.step place.net is.net in
      let net : net_of j n ≡ place.net = net_at j fits place.step place.net is.net in
      let c' = certain c.written in
      let f = bit_of j filling in
      let earlier : ℕ → Held = λ k. slice_index_or (replay j n) k blank in
      let b : ℕ → Bool = bit_at (world j c' f n) in
      let driver = j.driver (net_of j n) in
      let whole : place.step * j.width + n % j.width ≡ n = subst (λ (t : ℕ). t * j.width + n % j.width ≡ n) step s.whole in
      let plain' : IsPlain driver = subst (λ (k : ℕ). IsPlain (j.driver k)) (sym net) plain in
      let clear' : list_any (is_suspect c replayed) (replay_arguments_of j (place_in place.step place.net) driver) ≡ false =
      subst (λ (k : ℕ). list_any (is_suspect c replayed) (replay_arguments_of j (place_in place.step place.net) (j.driver k)) ≡ false) (sym net) clear in
      let nets = nets_follow place.step n (n % j.width) is.step whole (arguments_of_driver driver) s.before
      (nets_read (is_suspect c replayed) j place.step place.net driver plain' clear') filling fills in
      let follows = plain_follows j c' earlier b place.step place.net driver plain' nets in
      let shown : shown_at j n ≡ driven j earlier place.step place.net driver =
      replay_rule j n ∙ ap (λ (t : ℕ). driven j earlier t (net_of j n) driver) step
      ∙ ap (λ (k : ℕ). driven j earlier place.step k driver) net in
      let gives : rule j c' b n ≡ rule_of j c' b place.step place.net driver =
      ap (λ (t : ℕ). rule_of j c' b t (net_of j n) driver) step ∙ ap (λ (k : ℕ). rule_of j c' b place.step k driver) net in
      rw (shown, world_rule j c' f n, gives) (decided_follows (driven j earlier place.step place.net driver)
      (rule_of j c' b place.step place.net driver) (f n) follows)

  -- A listed place that reads none that is listed or open is driven by a primitive.
  pub origin_driven : (place : Place) → IsPlace j place → is_listed c replayed place ≡ true
      → list_any (is_suspect c replayed) (replay_arguments j place) ≡ false → IsPlain (j.driver place.net) → ⊥
  origin_driven place is told clear plain =
      let n = number_of j place in
      not_so j c.limits c.written c.lines n (written_of c place).mark (written_of c place).value (replayed_at replayed place)
      told (wave.holds.sound.exact n (numbered place is))
      (λ filling fills. subst (λ (v : Value). FollowsAt v (bit_value (world_bit j (certain c.written) (bit_of j filling) n)))
      (sym (replay_shows c replayed wave audit place is)) (place_follows place is plain clear filling fills))
