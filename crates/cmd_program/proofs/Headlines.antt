-- The headline, from a finished wave of a job whose recording agrees with the replay.
use Rattle.std.proofs.Common.{◌≡◌, ◌∙◌, ◌++◌, ℕ, ◌<◌, Bool, true, false, List, length, refl, sym, ap, subst, arith}
use Rattle.std.specs.Prelude.{slice_index}
use Rattle.design_cell.specs.Value.{IsKnown, bit_value, is_unknown}
use Rattle.design_cell.specs.declared.value.Value.{Value}
use Rattle.design_cell.specs.declared.value.Value.TheVariants.{Zero, One, X, Z}
use Rattle.design_circuit.specs.Fits.{Fits, place_at}
use Rattle.design_circuit.specs.Force.{forced_by}
use Rattle.design_circuit.specs.Handed.{IsReplay, shown_of}
use Rattle.design_circuit.specs.History.{HistoryView}
use Rattle.design_circuit.specs.Job.{Job, places_of}
use Rattle.design_circuit.specs.Replay.{Held, shown_at}
use Rattle.design_circuit.specs.Waveform.{Settles, certain, written_at}
use Rattle.design_circuit.proofs.Exact.{one_exact}
use Rattle.design_circuit.specs.declared.design.Design.{Design}
use Rattle.design_circuit.specs.declared.stim.Stim.{Stim}
use Rattle.design_circuit.specs.declared.waveform.Mark.{Mark}
use Rattle.design_circuit.specs.declared.waveform.Mark.TheVariants.{Certain, Unknown, Undecided}
use Rattle.design_circuit.specs.declared.waveform.Written.{Written}
use Rattle.recording_binding.specs.Binding.{FitsBound}
use Rattle.recording_binding.specs.declared.binding.Bound.{Bound}
use Rattle.law_model.proofs.Uniqueness.{sound_exact, yields_one}
use Rattle.law_model.specs.Line.{GivesBoth}
use Rattle.law_model.specs.Sound.{HasLicence, IsDecided, Sound, SoundBy}
use Rattle.law_model.specs.Stated.{stated}
use Rattle.law_model.specs.declared.line.Line.{Line as ALine}
use Rattle.law_model.specs.declared.limits.Limits.{Limits}
use Rattle.replay_history.specs.Fault.{BitAgrees, IsFaultless}
use Rattle.recording_reader.specs.Recording.{value_at}
use Rattle.wave_proved.specs.Contents.{Contents, IsFinished, IsWave}
use Rattle.wave_proved.specs.Shown.{ShowsWave}
use Rattle.recording_writer.specs.Text.{vcd_text}
use Rattle.report_bits.specs.Report.{report_text}
use Rattle.std.specs.List.{AllByRecursion}
use Rattle.law_along.specs.Along.{GoesAlong}
use Rattle.cmd_phases.specs.OfCert.{IsAccepted, AreConditionsFor, cert_in}
use Rattle.cmd_phases.proofs.LawsOfCert.{own_accepted, own_text_stands}
use Rattle.cmd_phases.specs.OfCond.{ConditionView}
use Rattle.cert_writer.specs.Text.{cert_text}
use Rattle.cert_writer.specs.Wrong.{IsTextOf}
use Rattle.cert_writer.specs.declared.cert.Cert.{Cert}
use Rattle.replay_code.specs.Written.{code_text}
use Rattle.design_circuit.specs.Parts.{PartsFit}
use Rattle.design_circuit.specs.declared.force.Event.{Event}
use Rattle.replay_forces.specs.ForcesOf.{AreForcesOf, forces_of}
use Rattle.replay_forces.specs.Waves.{values_of}
use Rattle.replay_forces.proofs.Showing.{forces_exist, forces_show}
use Rattle.replay_forces.proofs.TextLaws.{text_shown}
use Rattle.cmd_job.specs.Compared.{job_for}
use Rattle.cmd_job.specs.declared.netlist.Netlist.{Netlist as ANetlist}
use Rattle.cmd_job.specs.declared.recorded.Recorded.{Recorded}
use Rattle.base_line.specs.Line.{IsScopeName}
use Rattle.cmd_program.specs.Repair.{RepairValues, forces_in, whole_report}
use Rattle.cmd_program.specs.Conditions.{cert_by}
use Rattle.cmd_program.specs.Headline.{Certifies, Headline, IsBit, IsForceCode, RepairedJob, ShowsWaveform, place_of_bit, value_in}
use Rattle.cmd_phases.specs.Certificate.{form_of}
use Rattle.cmd_phases.specs.Phases.{scope_of}
use Rattle.cmd_phases.specs.Repair.{FitsJob, Found, IsFoundRepair, beginning}
use Rattle.cmd_phases.specs.Texts.{IsJob}
use Rattle.cmd_program.proofs.Conditioned.{conditions_of, have_conditions, same_cert, same_printed}
use Rattle.cmd_program.proofs.Needing.{each_needs}
use Rattle.cmd_program.proofs.OwnForces.{own_forces_said}
use Rattle.cmd_phases.proofs.ReplaysExist.{replays_exist}
use Rattle.cmd_phases.proofs.Jobs.{circuit_fits, fits_job, last_place, number_back, place_there, replay_shown}

-- ---- what is known of a place by its mark

known_settles : (j : Job) (limits : Limits) (waveform : List Written) (lines : List ALine) (place : ℕ) (mark : Mark)
    (value shown : Value) (bit : Bool) → SoundBy j limits waveform lines place mark value
    → ((mark ≡ Certain → ⊥) → value ≡ shown) → (mark ≡ Unknown → IsKnown shown → ⊥) → value ≡ bit_value bit
    → (mark ≡ Undecided → ⊥) → Settles j waveform place bit
known_settles j limits waveform lines place Certain Zero shown false exact shows open_ is ended = exact
known_settles j limits waveform lines place Certain Zero shown true exact shows open_ is ended = cc
known_settles j limits waveform lines place Certain One shown false exact shows open_ is ended = cc
known_settles j limits waveform lines place Certain One shown true exact shows open_ is ended = exact
known_settles j limits waveform lines place Certain X shown bit exact shows open_ is ended = absurd exact
known_settles j limits waveform lines place Certain Z shown bit exact shows open_ is ended = absurd exact
known_settles j limits waveform lines place Unknown value shown bit exact shows open_ is ended =
    absurd (open_ refl (subst IsKnown (sym is ∙ shows (λ e. cc)) (bit_known bit)))
  where
    bit_known : (bit : Bool) → IsKnown (bit_value bit)
    bit_known false = tt
    bit_known true = tt
known_settles j limits waveform lines place Undecided value shown bit exact shows open_ is ended = absurd (ended refl)

unknown_both : (j : Job) (limits : Limits) (waveform : List Written) (lines : List ALine) (place : ℕ) (mark : Mark) (value : Value)
    → SoundBy j limits waveform lines place mark value → is_unknown value ≡ true → (mark ≡ Undecided → ⊥)
    → GivesBoth j waveform place (stated j (certain waveform) lines place)
unknown_both j limits waveform lines place Certain Zero exact is ended = cc
unknown_both j limits waveform lines place Certain One exact is ended = cc
unknown_both j limits waveform lines place Certain X exact is ended = absurd exact
unknown_both j limits waveform lines place Certain Z exact is ended = absurd exact
unknown_both j limits waveform lines place Unknown value exact is ended = exact
unknown_both j limits waveform lines place Undecided value exact is ended = absurd (ended refl)

undecided_licence : (j : Job) (limits : Limits) (waveform : List Written) (lines : List ALine) (place : ℕ) (mark : Mark) (value : Value)
    → SoundBy j limits waveform lines place mark value → mark ≡ Undecided → HasLicence j limits waveform lines place
undecided_licence j limits waveform lines place Certain value exact is = absurd cc
undecided_licence j limits waveform lines place Unknown value exact is = absurd cc
undecided_licence j limits waveform lines place Undecided value exact is = exact

-- ---- a wave of a job

abbrev pub wave_with : Design → List ℕ → Stim → HistoryView → Limits → List Written → List ALine → Contents
wave_with design order stim history limits written lines = record {
  design = design;
  order = order;
  stim = stim;
  history = history;
  limits = limits;
  written = written;
  lines = lines;
}

pub wave_is : (c : Contents) (design : Design) (order : List ℕ) (stim : Stim) (history : HistoryView) (limits : Limits)
    → c.design ≡ design → c.order ≡ order → c.stim ≡ stim → c.history ≡ history → c.limits ≡ limits
    → c ≡ wave_with design order stim history limits c.written c.lines
wave_is c design order stim history limits a b d e f = rw (← a, ← b, ← d, ← e, ← f) refl

module _ (n : ANetlist) (r : Recorded) (history : HistoryView) (limits : Limits) (written : List Written) (lines : List ALine) where
  abbrev Whole : Contents
  Whole = wave_with n.design n.order r.stim history limits written lines

  -- The history that it shows has what it has.
  shown_there : (shown : HistoryView) → Fits (job_for n r) → IsFinished Whole → ShowsWave Whole shown
      → ShowsWaveform (job_for n r) written shown
  shown_there shown fits finished shows place within =
      let j = job_for n r in
      let back = number_back j fits place within in
      let there = shows.held (place_at j place)
      record { within = place_there j fits place within; written = rw back (omega (arith, finished, within)) } in
      ap (λ (h : Held). h.shown) there ∙ ap (λ (k : ℕ). (written_at written k).value) back

-- ---- the bits

module _ (n : ANetlist) (r : Recorded) (fits : FitsJob n r) (moment : ℕ) (b : Bound) (bit : ℕ) (is : IsBit n r moment b bit) where
  bit_within : place_of_bit n r moment b bit < places_of (job_for n r)
  bit_within =
      let has = is.variable in
      let bound : FitsBound n.design b = subst (FitsBound n.design) has.2 (fits.recorded.binding.each has.0 b has.1) in
      last_place (job_for n r) (fits_job n r fits) moment (slice_index b.bits bit) is.moment_is (bound.nets bit 0 is.within)

  -- The recording has there what the replay shows.
  bit_agrees : IsFaultless (job_for n r) r.recording r.binding
      → value_at r.recording b.variable bit moment ≡ shown_at (job_for n r) (place_of_bit n r moment b bit)
  bit_agrees faultless =
      let has = is.variable in
      let all = (faultless moment is.moment_is).agrees has.0 b has.1 in
      subst (λ (x : Bound). (k : ℕ) → k < length x.bits → BitAgrees (job_for n r) r.recording moment x k) has.2 all bit is.within

-- ---- the headline

-- What the phases of a repair found.
pub record Made (w : RepairValues) (netlist recording : List ℕ) : Type 0 where
  pub n : ANetlist
  pub r : Recorded
  pub job : IsJob w.job netlist recording n r
  pub faultless : IsFaultless (job_for n r) r.recording r.binding
  pub found : Found
  pub is : IsFoundRepair w.limits n r found

module _ (w : RepairValues) (netlist recording : List ℕ) (is : Made w netlist recording) where
  abbrev pub TheWave : Contents
  TheWave = wave_with is.n.design is.n.order is.r.stim is.found.history w.limits is.found.wave.written is.found.wave.lines

  pub same : is.found.wave ≡ TheWave
  same =
      let of_job = is.is.repaired.of_job in
      wave_is is.found.wave is.n.design is.n.order is.r.stim is.found.history w.limits
      of_job.design of_job.order of_job.stim of_job.history of_job.limits

  fits : Fits (job_for is.n is.r)
  fits = fits_job is.n is.r is.is.fits

  pub wave : IsWave TheWave
  wave = subst IsWave same is.is.repaired.sound

  pub finished : length is.found.wave.written ≡ places_of (job_for is.n is.r)
  finished = subst IsFinished same is.is.repaired.finished

  -- The job is repaired.
  abbrev pub repaired_job : RepairedJob w.job w.limits netlist recording
  repaired_job = record {
    n = is.n;
    r = is.r;
    is = is.job;
    replay = is.found.history;
    agrees = record { replay = is.is.replay; faultless = is.faultless };
    waveform = is.found.wave.written;
    lines = is.found.wave.lines;
    whole = finished;
    holds = wave.holds;
  }

  sound : Sound (job_for is.n is.r) w.limits (shown_of (job_for is.n is.r) is.found.history) is.found.wave.written is.found.wave.lines
  sound = wave.holds.sound

  replay : IsReplay (job_for is.n is.r) is.found.history
  replay = is.is.replay

  exact_at : (place : ℕ) → place < places_of (job_for is.n is.r)
      → SoundBy (job_for is.n is.r) w.limits is.found.wave.written is.found.wave.lines place
      (written_at is.found.wave.written place).mark (written_at is.found.wave.written place).value
  exact_at place within = sound.exact place (omega (arith, finished, within))

  within_at : (moment : ℕ) (b : Bound) (bit : ℕ) → IsBit is.n is.r moment b bit
      → place_of_bit is.n is.r moment b bit < places_of (job_for is.n is.r)
  within_at moment b bit there = bit_within is.n is.r is.is.fits moment b bit there

  stands : (moment : ℕ) (b : Bound) (bit : ℕ) → IsBit is.n is.r moment b bit
      → IsKnown (value_at is.r.recording b.variable bit moment)
      → (written_at is.found.wave.written (place_of_bit is.n is.r moment b bit)).value ≡ value_at is.r.recording b.variable bit moment
  stands moment b bit there known =
      let place = place_of_bit is.n is.r moment b bit in
      let within = within_at moment b bit there in
      let agrees = bit_agrees is.n is.r is.is.fits moment b bit there is.faultless in
      let shown : value_at is.r.recording b.variable bit moment ≡ shown_of (job_for is.n is.r) is.found.history place =
      agrees ∙ sym (replay_shown (job_for is.n is.r) is.found.history place replay within) in
      sound.shows.known place (omega (arith, finished, within)) (subst IsKnown shown known) ∙ sym shown

  abbrev pub j : Job
  j = job_for is.n is.r

  abbrev pub written : List Written
  written = is.found.wave.written

  abbrev lines : List ALine
  lines = is.found.wave.lines

  abbrev pub shown_at_place : ℕ → Value
  shown_at_place = shown_of j is.found.history

  abbrev V : HistoryView
  V = is.found.shown

  v_shows : ShowsWaveform j written V
  v_shows = shown_there is.n is.r is.found.history w.limits written lines V fits finished
      (subst (λ (c : Contents). ShowsWave c V) same is.is.shows)

  known_so : (place : ℕ) → place < places_of j → (bit : Bool) → shown_of j V place ≡ bit_value bit
      → ((written_at written place).mark ≡ Undecided → ⊥) → Settles j written place bit
  known_so place within bit shown ended =
      let less : place < length written = omega (arith, finished, within) in
      known_settles j w.limits written lines place (written_at written place).mark (written_at written place).value
      (shown_at_place place) bit (exact_at place within) (sound.shows.uncertain place less) (sound.shows.open_ place less)
      (sym (v_shows place within) ∙ shown) ended

  unknown_so : (place : ℕ) → place < places_of j → is_unknown (shown_of j V place) ≡ true
      → ((written_at written place).mark ≡ Undecided → ⊥)
      → GivesBoth j written place (stated j (certain written) lines place)
  unknown_so place within shown ended =
      unknown_both j w.limits written lines place (written_at written place).mark (written_at written place).value
      (exact_at place within) (ap is_unknown (sym (v_shows place within)) ∙ shown) ended

  pub only_so : IsDecided written → (limits : Limits) (other : List Written) (more : List ALine) → length other ≡ places_of j
      → Sound j limits shown_at_place other more → IsDecided other → other ≡ written
  only_so decided limits other more long others_sound others_decided =
      one_exact j shown_at_place other written fits (long ∙ sym finished) others_sound.within
      (sound_exact j limits shown_at_place other more others_decided others_sound)
      (sound_exact j w.limits shown_at_place written lines decided sound) others_sound.shows sound.shows

  parts_fit : PartsFit is.n.design is.n.order is.r.stim
  parts_fit = circuit_fits is.n is.r is.is.fits

  abbrev pub events : List Event
  events = forces_of j (values_of TheWave)

  pub are_forces : AreForcesOf j (value_in written) events
  are_forces = forces_exist j (value_in written) fits

  forces_so : AllByRecursion IsScopeName (scope_of w.job) → IsForceCode w is.n is.r written (vcd_text is.n.design is.r.binding is.r.stim V)
      (code_text is.n.design is.r.stim (scope_of w.job) events)
  forces_so named = record {
    events = events;
    are = are_forces;
    text_is = refl;
    says = own_forces_said is.n is.r (scope_of w.job) (value_in written) is.is.fits named;
    there = replays_exist j fits (forced_by j events);
    shown = λ history forced. forces_show j (value_in written) events history are_forces forced;
    replayed = λ history forced.
        text_shown is.n.design is.n.order is.r.stim is.r.binding (value_in written) events history V parts_fit is.is.fits.recorded.binding
        are_forces forced v_shows;
  }

  along_there : GoesAlong (beginning w.limits is.n is.r is.found.history) TheWave
  along_there = subst (GoesAlong (beginning w.limits is.n is.r is.found.history)) same is.is.repaired.along

  -- Of conditions that the form of the words asks for.
  module _ (conditions : List ConditionView) (are : AreConditionsFor (form_of w.form) TheWave conditions) where
    accepted_so : IsAccepted (beginning w.limits is.n is.r is.found.history) (cert_by (form_of w.form) TheWave (conditions_of conditions)) written
    accepted_so = subst (λ (cert : Cert). IsAccepted (beginning w.limits is.n is.r is.found.history) cert written) (same_cert (form_of w.form) TheWave conditions)
        (own_accepted (form_of w.form) (beginning w.limits is.n is.r is.found.history) TheWave conditions refl refl along_there wave finished are)

    pub certifies_so : Certifies w is.n is.r is.found.history written lines (conditions_of conditions) (cert_text (cert_in (form_of w.form) TheWave conditions))
    certifies_so = record {
      stands = subst (IsTextOf (cert_text (cert_in (form_of w.form) TheWave conditions))) (same_cert (form_of w.form) TheWave conditions)
          (own_text_stands (form_of w.form) (beginning w.limits is.n is.r is.found.history) TheWave conditions refl along_there wave are);
      accepted = accepted_so;
      one = λ other long yields. yields_one j w.limits fits shown_at_place other written lines (long ∙ sym finished)
          (omega (arith, long)) yields wave.holds.yields;
    }

    headline_there : AllByRecursion IsScopeName (scope_of w.job) → Headline w netlist recording (vcd_text is.n.design is.r.binding is.r.stim is.found.shown)
        (code_text is.n.design is.r.stim (scope_of w.job) (forces_in TheWave)) (cert_text (cert_in (form_of w.form) TheWave conditions))
        (whole_report TheWave is.r.binding w.lines conditions)
    unfolding forces_so
    headline_there named = record {
      job = repaired_job;
      fits = is.is.fits;
      shown = V;
      shows = v_shows;
      vcd_is = refl;
      forces = forces_so named;
      conditions = conditions_of conditions;
      conditions_are = have_conditions (form_of w.form) TheWave conditions are;
      certifies = certifies_so;
      report_is = ap (λ (text : List ℕ). report_text TheWave is.r.binding w.lines events ++ text) (same_printed TheWave conditions);
      needs = each_needs (form_of w.form) TheWave conditions are;
      known = λ moment b bit there. known_so (place_of_bit is.n is.r moment b bit) (within_at moment b bit there);
      unknown = λ moment b bit there. unknown_so (place_of_bit is.n is.r moment b bit) (within_at moment b bit there);
      undecided = λ moment b bit there.
          undecided_licence j w.limits written lines (place_of_bit is.n is.r moment b bit)
          (written_at written (place_of_bit is.n is.r moment b bit)).mark (written_at written (place_of_bit is.n is.r moment b bit)).value
          (exact_at (place_of_bit is.n is.r moment b bit) (within_at moment b bit there));
      stand = λ moment b bit there recorded. v_shows (place_of_bit is.n is.r moment b bit) (within_at moment b bit there)
          ∙ stands moment b bit there recorded;
      only = only_so;
    }

  pub headline : AllByRecursion IsScopeName (scope_of w.job) → (conditions : List ConditionView) → AreConditionsFor (form_of w.form) is.found.wave conditions
      → Headline w netlist recording (vcd_text is.n.design is.r.binding is.r.stim is.found.shown)
      (code_text is.n.design is.r.stim (scope_of w.job) (forces_in is.found.wave)) (cert_text (cert_in (form_of w.form) is.found.wave conditions))
      (whole_report is.found.wave is.r.binding w.lines conditions)
  headline named conditions are = subst (λ (c : Contents). Headline w netlist recording (vcd_text is.n.design is.r.binding is.r.stim is.found.shown)
      (code_text is.n.design is.r.stim (scope_of w.job) (forces_in c)) (cert_text (cert_in (form_of w.form) c conditions)) (whole_report c is.r.binding w.lines conditions))
      (sym same) (headline_there conditions (subst (λ (c : Contents). AreConditionsFor (form_of w.form) c conditions) same are) named)
