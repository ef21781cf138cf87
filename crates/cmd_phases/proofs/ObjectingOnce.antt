-- What is found otherwise in a job is one.
use Rattle.std.proofs.Common.{◌≡◌, ◌∙◌, ℕ, ◌+◌, ◌/◌, ◌%◌, ◌<◌, List, [], ◌∷◌, length, Result, Ok, refl, sym, ap, subst, arith, cond}
use Rattle.std.specs.Prelude.{slice_index, count_by}
use Rattle.std.proofs.lemmas.List.Sums.{sum_by-cons}
use Rattle.design_cell.specs.declared.value.Value.{Value}
use Rattle.design_cell.specs.Value.{IsKnown}
use Rattle.design_circuit.specs.declared.design.Design.{Design}
use Rattle.design_circuit.specs.declared.stim.Stim.{Stim}
use Rattle.design_circuit.specs.declared.waveform.Written.{Written}
use Rattle.design_circuit.specs.Fits.{place_at}
use Rattle.design_circuit.specs.Handed.{IsReplay, shown_of}
use Rattle.design_circuit.specs.History.{HistoryView}
use Rattle.design_circuit.specs.Job.{Job, job_of, places_of}
use Rattle.design_circuit.specs.Replay.{shown_at}
use Rattle.design_circuit.specs.Waveform.{certain_by, certain, written_at}
use Rattle.law_model.specs.Sound.{IsOptimistic, Sound}
use Rattle.law_model.specs.Stated.{body_at}
use Rattle.law_model.specs.Class.{class_of}
use Rattle.law_model.specs.Yields.{written_by}
use Rattle.law_model.specs.declared.line.Body.{Body}
use Rattle.law_model.specs.declared.line.Body.TheVariants.{Enumerated, Refuted, Pair, Undecided}
use Rattle.law_model.specs.declared.line.Line.{Line as ALine}
use Rattle.law_model.specs.declared.limits.Limits.{Limits}
use Rattle.law_waveforms.specs.Objection.{AllDecide, Decides, Objects}
use Rattle.law_waveforms.proofs.Objections.{one_objection}
use Rattle.wave_proved.specs.Contents.{Contents, nothing_written}
use Rattle.wave_proved.specs.declared.advance.Optimistic.{Optimistic as FoundOtherwise}
use Rattle.report_fix.specs.Started.{IsStarted, Piece}
use Rattle.report_fix.specs.declared.refusal.StartFault.{StartFault}
use Rattle.recording_binding.specs.declared.binding.Binding.{Binding}
use Rattle.decide_repair.specs.Repaired.{IsObjection}
use Rattle.decide_repair.specs.Objections.{AreTheSame}
use Rattle.decide_repair.proofs.AgreeingObjections.{fits_start, objections_object, place_reported, replayed_reported}
use Rattle.cmd_job.specs.Names.{net_name}
use Rattle.cmd_job.specs.Recorded.{RecordingComes, job_netlist}
use Rattle.cmd_job.specs.declared.netlist.Netlist.{Netlist as ANetlist}
use Rattle.cmd_job.specs.declared.netlist_refusal.NetlistRefusal.{NetlistRefusal}
use Rattle.cmd_job.specs.declared.recorded.Recorded.{Recorded}
use Rattle.cmd_job.proofs.OneNetlist.{one_outcome}
use Rattle.cmd_words.specs.Words.{JobValues}
use Rattle.cmd_phases.specs.Phases.{parts, scope_of}
use Rattle.cmd_phases.specs.Repair.{IsObjectionIn, is_undecided_body, is_undecided_line, rules_of, undriven_rule_of}
use Rattle.cmd_phases.specs.Texts.{AreRefused, FixFails, HasJob, IfOptimistic, IsFoundUnderSet, IsJob, IsObjected, IsObjectedSet, IsOneCause, IsOneObjection, IsOneOfWalks}
use Rattle.cmd_phases.specs.declared.cause.Objection.{Objection}
use Rattle.cmd_phases.specs.declared.cause.Refused.{Refused}
use Rattle.cmd_phases.specs.declared.cause.Refused.TheVariants.{Certificate, Code, Compare, LongCertificate, LongCnf, LongCode, LongLog, LongNetlist, LongRecording, Netlist, Optimistic, Proof, Recording, Start}
use Rattle.cmd_phases.proofs.Jobs.{replay_shown}
use Rattle.cmd_phases.proofs.OneStart.{one_started}
use Rattle.cmd_phases.proofs.OneStimulus.{one_binding, one_stim}

-- ---- lines without an undecided body

none_here : (body : Body) (n : ℕ) → cond (is_undecided_body body) 1 0 + n ≡ 0 → Decides body
none_here (Enumerated bit) n none = tt
none_here (Refuted bit log) n none = tt
none_here (Pair first second) n none = tt
none_here (Undecided log) n none = omega (arith, none)

none_later : (c n : ℕ) → c + n ≡ 0 → n ≡ 0
none_later c n none = omega (arith, none)

none_decide : (lines : List ALine) → count_by is_undecided_line lines ≡ 0 → AllDecide lines
none_decide [] none = tt
none_decide (line ∷ lines) none =
    let parts : cond (is_undecided_body line.body) 1 0 + count_by is_undecided_line lines ≡ 0 =
    sym (sum_by-cons (λ (x : ALine). cond (is_undecided_line x) 1 0) line lines) ∙ none in (
      none_here line.body (count_by is_undecided_line lines) parts,
      none_decide lines
          (none_later (cond (is_undecided_body line.body) 1 0) (count_by is_undecided_line lines) parts),
    )

-- ---- objections for histories that show the same

module _ (j : Job) (limits : Limits) (shown other : ℕ → Value) (v : List Written) (lines : List ALine) (found : Written)
    (same : (k : ℕ) → k < places_of j → shown k ≡ other k) where
  sound_for : Sound j limits shown v lines → Sound j limits other v lines
  sound_for sound = record {
    within = sound.within;
    classes = sound.classes;
    exact = sound.exact;
    shows = record {
      known = λ k less known. sound.shows.known k less (subst IsKnown (sym (here k less)) known) ∙ here k less;
      uncertain = λ k less open_. sound.shows.uncertain k less open_ ∙ here k less;
      open_ = λ k less mark known. sound.shows.open_ k less mark (subst IsKnown (sym (here k less)) known);
    };
  }
    where
      here : (k : ℕ) → k < length v → shown k ≡ other k
      here k less = same k (let all = sound.within in omega (arith, less, all))

  objects_for : Objects j limits shown v lines found → Objects j limits other v lines found
  objects_for objects =
      let n = length v in
      let here : shown n ≡ other n = same n objects.said.within in
      record {
        sound = sound_for objects.sound;
        new = objects.new;
        said = record {
          within = objects.said.within;
          lines = objects.said.lines;
          as_said = objects.said.as_said
              ∙ ap (written_by (written_at v) (class_of j (certain v) n) (body_at j objects.new n)) here;
        };
        optimistic = subst (IsOptimistic found.mark found.value) here objects.optimistic;
      }

-- ---- two objections of one job

module _ (design : Design) (order : List ℕ) (stim : Stim) where
  abbrev TheJob : Job
  TheJob = job_of design order stim

  abbrev start : HistoryView → Limits → Contents
  start history limits = nothing_written design order stim history limits

  of_replay : (history : HistoryView) (limits : Limits) (otherwise : FoundOtherwise) → IsReplay TheJob history
      → (o : IsObjection (start history limits) otherwise)
      → Objects TheJob limits (shown_at TheJob) o.before.written otherwise.lines.items o.written
  of_replay history limits otherwise replay o =
      objects_for TheJob limits (shown_of TheJob history) (shown_at TheJob) o.before.written otherwise.lines.items o.written
      (λ k less. replay_shown TheJob history k replay less) (objections_object (start history limits) otherwise o)

  found_same : (h i : HistoryView) (c d : Limits) (one other : FoundOtherwise) → IsReplay TheJob h → IsReplay TheJob i
      → IsObjection (start h c) one → IsObjection (start i d) other → AllDecide one.lines.items → AllDecide other.lines.items
      → AreTheSame one other
  found_same h i c d one other replay_h replay_i o p decide_o decide_p =
      let first = of_replay h c one replay_h o in
      let second = of_replay i d other replay_i p in
      let same = one_objection TheJob c d (shown_at TheJob) o.before.written p.before.written one.lines.items
      other.lines.items o.written p.written (fits_start (start h c) one o) first second decide_o decide_p in
      record {
        place = place_reported (start h c) one o ∙ ap (place_at TheJob) same.0 ∙ sym (place_reported (start i d) other p);
        replayed = replayed_reported (start h c) one o ∙ replay_shown TheJob h (length o.before.written) replay_h first.said.within
            ∙ ap (shown_at TheJob) same.0
            ∙ sym (replay_shown TheJob i (length p.before.written) replay_i second.said.within)
            ∙ sym (replayed_reported (start i d) other p);
        found = o.reports.found_is ∙ ap (λ (w : Written). certain_by w.mark w.value) same.1 ∙ sym p.reports.found_is;
      }

-- What is said of the same is the same.
abbrev objection_for : ANetlist → Stim → FoundOtherwise → Objection
objection_for n stim otherwise = record {
  time = slice_index stim.times (otherwise.place.step / stim.rounds);
  round = otherwise.place.step % stim.rounds;
  name = net_name n.design otherwise.place.net;
  replayed = otherwise.replayed;
  found = otherwise.found;
  undecided = count_by is_undecided_line otherwise.lines.items;
}

same_line : (n : ANetlist) (stim : Stim) (one other : FoundOtherwise) → AreTheSame one other
    → count_by is_undecided_line one.lines.items ≡ count_by is_undecided_line other.lines.items
    → objection_for n stim one ≡ objection_for n stim other
same_line n stim one other same counts = rw (same.place, same.replayed, same.found, counts) refl

stims_same : (a b : Stim) → ◌≡◌ {A = Result Stim StartFault} (Ok a) (Ok b) → a ≡ b
stims_same a b same = cc

netlists_same : (a b : ANetlist) → ◌≡◌ {A = Result ANetlist NetlistRefusal} (Ok a) (Ok b) → a ≡ b
netlists_same a b same = cc

-- Two objections of one design under one stimulus are the same.
module _ (n : ANetlist) (stim : Stim) (c d : Limits) (a b : Objection) (first : IsObjectionIn c n stim a)
    (second : IsObjectionIn d n stim b) (none_a : a.undecided ≡ 0) (none_b : b.undecided ≡ 0) where
  abbrev one : FoundOtherwise
  one = first.objects.otherwise

  abbrev other : FoundOtherwise
  other = second.objects.otherwise

  undecided_a : count_by is_undecided_line one.lines.items ≡ 0
  undecided_a = sym (ap (λ (o : Objection). o.undecided) first.objects.is) ∙ none_a

  undecided_b : count_by is_undecided_line other.lines.items ≡ 0
  undecided_b = sym (ap (λ (o : Objection). o.undecided) second.objects.is) ∙ none_b

  same : AreTheSame one other
  same = found_same n.design n.order stim first.history second.history c d one other first.replay second.replay
      first.objects.objects second.objects.objects (none_decide one.lines.items undecided_a)
      (none_decide other.lines.items undecided_b)

  once_in : b ≡ a
  once_in = second.objects.is ∙ sym (same_line n stim one other same (undecided_a ∙ sym undecided_b))
      ∙ sym first.objects.is

-- ---- two jobs of the same texts

module _ (w : JobValues) (netlist recording : List ℕ) (n m : ANetlist) (r s : Recorded)
    (first : IsJob w netlist recording n r) (second : IsJob w netlist recording m s) where
  elaborated : first.elaborated ≡ second.elaborated
  elaborated = netlists_same first.elaborated second.elaborated
      (one_outcome netlist w.top (Ok first.elaborated) (Ok second.elaborated) first.netlist_is.is second.netlist_is.is)

  comes : RecordingComes recording first.elaborated.design (scope_of w) w.rounds w.places (rules_of w) (Ok s)
  comes = subst (λ (x : ANetlist). RecordingComes recording x.design (scope_of w) w.rounds w.places (rules_of w) (Ok s))
      (sym elaborated) second.is

  bounds : r.binding ≡ s.binding
  bounds = one_binding recording first.elaborated.design (scope_of w) w.rounds w.places (rules_of w) r s first.is comes

  nets : n ≡ m
  nets = first.job_is
      ∙ ap (λ (x : ANetlist). job_netlist (undriven_rule_of w.undriven) x r.binding.bound) elaborated
      ∙ ap (λ (b : Binding). job_netlist (undriven_rule_of w.undriven) second.elaborated b.bound) bounds
      ∙ sym second.job_is

  stims : r.stim ≡ s.stim
  stims = one_stim recording first.elaborated.design (scope_of w) w.rounds w.places (rules_of w) r s first.is comes

  -- What holds of the second design and stimulus holds of the first.
  back : (Holds : ANetlist → Stim → Type 0) → Holds m s.stim → Holds n r.stim
  back Holds there = subst (Holds n) (sym stims) (subst (λ (x : ANetlist). Holds x s.stim) (sym nets) there)

module _ (w : JobValues) (netlist recording : List ℕ) (c d : Limits) (a b : Objection) (none_a : a.undecided ≡ 0)
    (none_b : b.undecided ≡ 0) where
  once : HasJob w netlist recording (IsObjected c a) → HasJob w netlist recording (IsObjected d b) → b ≡ a
  once first second =
      once_in first.n first.r.stim c d a b first.holds.objects
      (back w netlist recording first.n second.n first.r second.r first.job second.job
      (λ (n : ANetlist) (stim : Stim). IsObjectionIn d n stim b) second.holds.objects) none_a none_b

  once_set : (pieces : List Piece) → HasJob w netlist recording (λ n r. IsObjectedSet c pieces a (parts n r))
      → HasJob w netlist recording (IsFoundUnderSet pieces d b) → b ≡ a
  once_set pieces first second =
      let set_a = first.holds.found in
      let set_b = second.holds in
      let started : IsStarted first.n.design first.r.stim pieces set_b.stim =
      back w netlist recording first.n second.n first.r second.r first.job second.job
      (λ (n : ANetlist) (stim : Stim). IsStarted n.design stim pieces set_b.stim) set_b.started in
      let sets = stims_same set_a.stim set_b.stim
      (one_started first.n first.r.stim pieces (Ok set_a.stim) (Ok set_b.stim) set_a.started started) in
      let objects : IsObjectionIn d first.n set_b.stim b =
      back w netlist recording first.n second.n first.r second.r first.job second.job
      (λ (n : ANetlist) (stim : Stim). IsObjectionIn d n set_b.stim b) set_b.objects in
      once_in first.n set_a.stim c d a b set_a.objects
      (subst (λ (stim : Stim). IsObjectionIn d first.n stim b) (sym sets) objects) none_a none_b

-- ---- what texts are refused for

if_optimistic : (Holds : Objection → Type 0) (cause : Refused) → ((o : Objection) → cause ≡ Optimistic o → Holds o)
    → IfOptimistic Holds cause
if_optimistic Holds LongNetlist has = tt
if_optimistic Holds (Netlist e) has = tt
if_optimistic Holds LongRecording has = tt
if_optimistic Holds (Recording e) has = tt
if_optimistic Holds (Compare e) has = tt
if_optimistic Holds LongCode has = tt
if_optimistic Holds (Code fault) has = tt
if_optimistic Holds LongCertificate has = tt
if_optimistic Holds (Certificate cause) has = tt
if_optimistic Holds LongCnf has = tt
if_optimistic Holds LongLog has = tt
if_optimistic Holds (Proof fault) has = tt
if_optimistic Holds (Start fault) has = tt
if_optimistic Holds (Optimistic o) has = has o refl

pub one_cause : (w : JobValues) (netlist recording : List ℕ) (limits : Limits) (cause : Refused)
    → ((o : Objection) → cause ≡ Optimistic o → HasJob w netlist recording (IsObjected limits o))
    → IsOneCause w netlist recording cause
one_cause w netlist recording limits cause has = if_optimistic (IsOneObjection w netlist recording) cause
    (λ o is none limit other again none_other. once w netlist recording limits limit o other none none_other (has o is) again)

-- What `fix` finds otherwise.
module _ (limits : Limits) (pieces : List Piece) (w : JobValues) (netlist recording : List ℕ) where
  by_walk : (o : Objection) (n : ANetlist) (r : Recorded) → IsJob w netlist recording n r
      → FixFails limits pieces (parts n r) (Optimistic o) → IsOneOfWalks limits pieces w netlist recording o
  by_walk o n r job (FixFails.objected stim started is) =
      let has : HasJob w netlist recording (IsObjected limits o) = record { n = n; r = r; job = job; holds = is } in
      IsOneOfWalks.of_recorded has
      (λ none limit other again none_other. once w netlist recording limits limit o other none none_other has again)
  by_walk o n r job (FixFails.objected_set is) =
      let has : HasJob w netlist recording (λ n r. IsObjectedSet limits pieces o (parts n r)) =
      record { n = n; r = r; job = job; holds = is } in
      IsOneOfWalks.of_set has
      (λ none limit other again none_other.
      once_set w netlist recording limits limit o other none none_other pieces has again)

  of_walks : (o : Objection) → AreRefused w netlist recording (FixFails limits pieces) (Optimistic o)
      → IsOneOfWalks limits pieces w netlist recording o
  of_walks o (AreRefused.job_fails has) = by_walk o has.n has.r has.job has.holds

  pub one_fix_cause : (cause : Refused) → AreRefused w netlist recording (FixFails limits pieces) cause
      → IfOptimistic (IsOneOfWalks limits pieces w netlist recording) cause
  one_fix_cause cause refused = if_optimistic (IsOneOfWalks limits pieces w netlist recording) cause
      (λ o is. of_walks o (subst (AreRefused w netlist recording (FixFails limits pieces)) is refused))
