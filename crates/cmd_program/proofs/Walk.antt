-- What a walk comes to, as phases.
use Rattle.std.proofs.Common.{◌≡◌, ℕ, List, Result, Ok, refl}
use Rattle.cmd_phases.specs.OfCert.{AreConditionsFor}
use Rattle.cert_writer.specs.declared.cert.Cert.{Cert}
use Rattle.cert_writer.specs.declared.cert.Form.TheVariants.{Turns}
use Rattle.cmd_phases.specs.OfCond.{ConditionView}
use Rattle.design_circuit.specs.History.{HistoryView}
use Rattle.design_circuit.specs.declared.force.Event.{Event}
use Rattle.replay_forces.specs.ForcesOf.{AreForcesOf}
use Rattle.replay_forces.specs.Waves.{values_of}
use Rattle.replay_forces.proofs.Showing.{forces_are_one}
use Rattle.wave_proved.specs.Contents.{Contents, job}
use Rattle.base_run.specs.Phases.{Answer, Phases, searches, ◌>>=◌}
use Rattle.base_run.specs.Prepared.{PreparedAlone, answer_of}
use Rattle.base_run.specs.declared.ready.Ready.{Ready}
use Rattle.base_run.proofs.Then.{found_prepared, judged_then, prepared_then, searched_prepared, searched_then}
use Rattle.cmd_job.specs.declared.netlist.Netlist.{Netlist as ANetlist}
use Rattle.cmd_job.specs.declared.recorded.Recorded.{Recorded}
use Rattle.sat_prove.specs.Proof.{ProofComes}
use Rattle.cmd_program.specs.Check.{CheckValues, check_answer, checked_phases}
use Rattle.cmd_program.specs.Make.{MakeValues, made_limits, make_answer, walk_made}
use Rattle.cmd_program.specs.Repair.{RepairValues, forces_in, repair_answer, texts_phases, walk_phases}
use Rattle.cmd_program.specs.Replay.{ReplayValues, forced_phases, replay_answer}
use Rattle.cmd_program.specs.Upgrade.{UpgradeValues, checked_upgrade, turned_phases, upgrade_answer}
use Rattle.cmd_phases.specs.Certificate.{CheckComes, CheckShows, ConditionsCome, IsCertified, check_shows, form_of}
use Rattle.cmd_phases.specs.Code.{ForcedComes, IsForced}
use Rattle.cmd_program.specs.Prove.{proof_phases, prove_answer}
use Rattle.cmd_phases.specs.Phases.{itself, no_cause, parts, proof_cause, walk_cause}
use Rattle.cmd_phases.specs.Repair.{Found, IsFoundRepair, WalkComes}
use Rattle.cmd_phases.specs.declared.parts.Parts.{Parts}
use Rattle.law_model.specs.declared.limits.Limits.{Limits}

-- A wave that is found, with its texts.
pub walk_found : (w : RepairValues) (n : ANetlist) (r : Recorded) (found : Found) (conditions : List ConditionView) (ready : Ready)
    → IsFoundRepair w.limits n r found → AreConditionsFor (form_of w.form) found.wave conditions → answer_of ready ≡ repair_answer w n r found conditions
    → PreparedAlone (walk_phases w (parts n r)) answer_of (Ok ready)
walk_found w n r found conditions ready is are same =
    searched_then (WalkComes w.limits n r) walk_cause (texts_phases w n r) itself answer_of found (Ok ready) record { found = is; refused = tt }
    (searched_then (ConditionsCome (form_of w.form) found.wave) no_cause (λ (x : List ConditionView). Phases.Finds (repair_answer w n r found x)) itself answer_of
    conditions (Ok ready) record { found = are; refused = tt } (λ told v. found_prepared told answer_of (repair_answer w n r found conditions) v ready same))

-- A wave of a made job that is found, with what is printed of it.
pub made_found : (w : MakeValues) (recording : List ℕ) (n : ANetlist) (r : Recorded) (found : Found) (ready : Ready) → IsFoundRepair made_limits n r found
    → answer_of ready ≡ make_answer w recording found.wave → PreparedAlone (walk_made w recording n r) answer_of (Ok ready)
made_found w recording n r found ready is same =
    searched_then (WalkComes made_limits n r) walk_cause (λ (x : Found). Phases.Finds (make_answer w recording x.wave)) itself answer_of
    found (Ok ready) record { found = is; refused = tt } (λ told v. found_prepared told answer_of (make_answer w recording found.wave) v ready same)

-- A replay that is found, with its texts.
pub replay_found : (w : ReplayValues) (job : Parts) (forces : List Event) (history : HistoryView) (ready : Ready) → IsForced job forces history
    → answer_of ready ≡ replay_answer w job history → PreparedAlone (forced_phases w job forces) answer_of (Ok ready)
replay_found w job forces history ready is same = λ told v.
    prepared_then told (Phases.Searches (ForcedComes job forces) no_cause (λ (x : HistoryView). Phases.Finds x)) (λ (x : HistoryView). Phases.Finds (replay_answer w job x)) itself answer_of v v v
    history (Ok ready) (searched_prepared told (ForcedComes job forces) no_cause itself v (Ok history) record { found = is; refused = tt })
    (found_prepared told answer_of (replay_answer w job history) v ready same)

-- What a check shows of a certified wave and its conditions.
shown : (limits : Limits) (job : Parts) (cert : Cert) (wave : Contents) (conditions : List ConditionView) → IsCertified limits job cert wave conditions
    → CheckComes limits job cert (Ok (check_shows wave conditions))
shown limits job cert wave conditions is = record { conditions = conditions; certified = is; listing_is = refl }

-- A certified wave, with its report.
pub check_found : (w : CheckValues) (job : Parts) (cert : Cert) (wave : Contents) (conditions : List ConditionView) (ready : Ready)
    → IsCertified w.limits job cert wave conditions → answer_of ready ≡ check_answer w job (check_shows wave conditions)
    → PreparedAlone (checked_phases w job cert) answer_of (Ok ready)
check_found w job cert wave conditions ready is same =
    judged_then (CheckComes w.limits job cert) itself (λ (x : CheckShows). Phases.Finds (check_answer w job x)) itself answer_of
    (check_shows wave conditions) (Ok ready) record { found = shown w.limits job cert wave conditions is; refused = tt }
    (λ told v. found_prepared told answer_of (check_answer w job (check_shows wave conditions)) v ready same)

-- A certified wave, with the certificate of form 2 of it and of conditions, and its report.
pub upgrade_found : (w : UpgradeValues) (job : Parts) (cert : Cert) (wave : Contents) (conditions found : List ConditionView) (ready : Ready)
    → IsCertified w.limits job cert wave conditions → AreConditionsFor Turns wave found → answer_of ready ≡ upgrade_answer w job wave found
    → PreparedAlone (checked_upgrade w job cert) answer_of (Ok ready)
upgrade_found w job cert wave conditions found ready is are same =
    judged_then (CheckComes w.limits job cert) itself (λ (x : CheckShows). turned_phases w job x.wave) itself answer_of
    (check_shows wave conditions) (Ok ready) record { found = shown w.limits job cert wave conditions is; refused = tt }
    (searched_then (ConditionsCome Turns wave) no_cause (λ (x : List ConditionView). Phases.Finds (upgrade_answer w job wave x)) itself answer_of
    found (Ok ready) record { found = are; refused = tt } (λ told v. found_prepared told answer_of (upgrade_answer w job wave found) v ready same))

-- A wave that is found, with what is then found of it.
pub listed_found : (limits : Limits) (n : ANetlist) (r : Recorded) (Comes : Contents → Result Answer ⊥ → Type 0) (found : Found) (ready : Ready) → IsFoundRepair limits n r found
    → Comes found.wave (Ok (answer_of ready)) → PreparedAlone (searches (WalkComes limits n r) walk_cause >>= (λ (x : Found). searches (Comes x.wave) no_cause)) answer_of (Ok ready)
listed_found limits n r Comes found ready is lists =
    searched_then (WalkComes limits n r) walk_cause (λ (x : Found). searches (Comes x.wave) no_cause) itself answer_of
    found (Ok ready) record { found = is; refused = tt }
    (λ told v. searched_prepared told (Comes found.wave) no_cause answer_of v (Ok ready) record { found = lists; refused = tt })

-- A proof, with what is printed of it.
pub proof_found : (cnf log : List ℕ) (count : ℕ) (ready : Ready) → ProofComes cnf log (Ok count) → answer_of ready ≡ prove_answer count
    → PreparedAlone (proof_phases cnf log) answer_of (Ok ready)
proof_found cnf log count ready is same =
    judged_then (ProofComes cnf log) proof_cause (λ (x : ℕ). Phases.Finds (prove_answer x)) itself answer_of
    count (Ok ready) record { found = is; refused = tt } (λ told v. found_prepared told answer_of (prove_answer count) v ready same)

-- The forces of a wave of a job are those of what it shows.
pub forces_are : (wave : Contents) (forces : List Event) → AreForcesOf (job wave) (values_of wave) forces → forces ≡ forces_in wave
forces_are wave forces are = forces_are_one (job wave) (values_of wave) forces are
