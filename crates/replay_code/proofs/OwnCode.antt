-- The text that is written of forces says them.
use Rattle.std.proofs.Common.{◌≡◌, ℕ, suc, ◌*◌, ◌/◌, ◌<◌, ◌≤◌, true, Result, Some, List, [], ◌∷◌, ◌++◌, codes, length, refl, sym, ◌∙◌, subst, arith, append_assoc, append-nil}
use Rattle.std.specs.List.Sorted.{IsStrictlyIncreasing}
use Rattle.std.proofs.lemmas.Nat.{div-add-mod'}
use Rattle.std.proofs.Math.Nat.{div-lt_iff_lt-mul}
use Rattle.design_circuit.specs.Parts.{PartsFit}
use Rattle.design_circuit.specs.Design.{FitsDesign}
use Rattle.design_circuit.specs.Force.{AreEvents, forced_by}
use Rattle.design_circuit.specs.Job.{job_of, places_of}
use Rattle.design_circuit.specs.declared.force.Event.{Event}
use Rattle.design_circuit.specs.declared.stim.Stim.{Stim}
use Rattle.replay_forces.specs.Changes.{changes_by}
use Rattle.replay_forces.proofs.Forced.{are_events}
use Rattle.replay_history.specs.Forced.{AreOrdered, event_at}
use Rattle.replay_history.proofs.Forces.{in_order}
use Rattle.replay_code.specs.Clock.{clock_at, start, moment_at}
use Rattle.replay_code.specs.Code.{Code, code, job}
use Rattle.replay_code.specs.Laws.{OwnCodeIsRead, OwnIsRead}
use Rattle.replay_code.specs.Machine.{Progress, begun}
use Rattle.replay_code.specs.Names.{are_writable, code_name}
use Rattle.replay_code.specs.Says.{CodeSays, IsRead}
use Rattle.replay_code.specs.Steps.{HasEvents}
use Rattle.replay_code.specs.Written.{code_text, event_line, event_lines, wait_lines}
use Rattle.replay_code.specs.declared.clock.Clock.{Clock}
use Rattle.replay_code.specs.declared.refusal.CodeErr.{CodeErr}
use Rattle.replay_code.specs.declared.state.State.TheVariants.{Module, Title, Semicolon, Initial, Begin, Body, Tail, Done}
use Rattle.replay_code.proofs.Canonical.{AllReleaseForced, changes_release_forced}
use Rattle.replay_code.proofs.Forcing.{event_leads, told}
use Rattle.replay_code.proofs.GrammarRead.{code_says}
use Rattle.replay_code.proofs.Leading.{Leads, ends, white}
use Rattle.replay_code.proofs.Stepping.{after_mark, after_word, body_ends, moved}
use Rattle.replay_code.proofs.Waiting.{IsBefore, before_step, moment_there, waits_lead}
use Rattle.replay_code.proofs.Writing.{can_be_written}

-- The code can be written: its scope and its design fit, and its times ascend.
record CanBeRead (c : Code) : Type 0 where
  writable : are_writable c.scope ≡ true
  fits : FitsDesign c.design
  up : IsStrictlyIncreasing c.stim.times

-- The steps of events never fall, from this one on.
abbrev NeverFall : ℕ → List Event → Type 0
NeverFall from [] = Unit {0}
NeverFall from (event ∷ events) = (from ≤ event.step) × NeverFall event.step events

never_fall : (from : ℕ) (events : List Event) → ((i : ℕ) → i < length events → from ≤ (event_at events i).step) → ((i k : ℕ) → i < k → k < length events → (event_at events i).step ≤ (event_at events k).step) → NeverFall from events
never_fall from [] first steps = tt
never_fall from (event ∷ events) first steps =
    (first 0 (omega arith), never_fall event.step events (λ i less. steps 0 (suc i) (omega arith) (omega (arith, less))) (λ i k before within. steps (suc i) (suc k) (omega (arith, before)) (omega (arith, within))))

-- A clock leads to each step from this one on.
abbrev ComesBefore : Code → Clock → ℕ → Type 0
ComesBefore c now from = (step : ℕ) → from ≤ step → step / c.stim.rounds < length c.stim.times → IsBefore now (clock_at c.stim step)

moment_within : (stim : Stim) (step : ℕ) → step < length stim.times * stim.rounds → step / stim.rounds < length stim.times
moment_within stim step within = (div-lt_iff_lt-mul stim.some_round).1 within

-- The lines of events lead on by these, whatever was read last.
lines_lead : (p : Progress) (now : Clock) (from : ℕ) (left : List Event) (tail : List ℕ) (events : List Event) → CanBeRead p.code → HasEvents p.code.design p.code.stim left → NeverFall from left → AllReleaseForced p.events left → ComesBefore p.code now from → p.time ≡ now.time → p.moment ≡ moment_at p.code.stim now.time → p.round ≡ now.round → ((q : Progress) → q.events ≡ p.events ++ left → Leads p.code.text Body (record q { code = p.code }) tail events) → Leads p.code.text Body p (event_lines p.code.design p.code.stim p.code.scope now left ++ tail) events
lines_lead p now from [] tail events can has rises forced comes time moment round leads = leads p (sym (append-nil p.events))
lines_lead p now from (event ∷ left) tail events can has rises forced comes time moment round leads =
    subst (λ (l : List ℕ). Leads p.code.text Body p l events) (sym shape)
    (waits_lead p now event.step (event_line name event.value ++ rest) events can.up within (p.code.stim.small_times (event.step / p.code.stim.rounds) 0 within) (comes event.step rises.0 within) time moment round
    (event_leads here (event.step / p.code.stim.rounds) event rest events can.writable can.fits has.0.net refl (div-add-mod' event.step p.code.stim.rounds) forced.0 (λ forces at texts index.
    lines_lead (told here forces at texts index (p.events ++ event ∷ [])) then_at event.step left tail events can has.1 rises.1 forced.1
    (λ step later below. before_step p.code.stim event.step step can.up later below) refl (sym (moment_there p.code.stim event.step can.up within)) refl
    (λ q is. leads q (is ∙ append_assoc p.events (event ∷ []) left)))))
  where
    then_at : Clock
    then_at = clock_at p.code.stim event.step

    name : List ℕ
    name = code_name p.code.design p.code.scope event.net

    rest : List ℕ
    rest = event_lines p.code.design p.code.stim p.code.scope then_at left ++ tail

    here : Progress
    here = moved p then_at.time (Some (event.step / p.code.stim.rounds)) then_at.round

    within : event.step / p.code.stim.rounds < length p.code.stim.times
    within = moment_within p.code.stim event.step has.0.step

    shape : ((wait_lines now then_at ++ event_line name event.value) ++ event_lines p.code.design p.code.stim p.code.scope then_at left) ++ tail ≡ wait_lines now then_at ++ (event_line name event.value ++ rest)
    shape = append_assoc (wait_lines now then_at ++ event_line name event.value) (event_lines p.code.design p.code.stim p.code.scope then_at left) tail ∙ append_assoc (wait_lines now then_at) (event_line name event.value) rest

-- Behind the events the text ends.
tail_leads : (p : Progress) → Leads p.code.text Body p (codes "  end\nendmodule\n") p.events
tail_leads p =
    white p.code.text Body p 32 (codes " end\nendmodule\n") p.events refl
    (white p.code.text Body p 32 (codes "end\nendmodule\n") p.events refl
    (body_ends p (codes "\nendmodule\n") p.events refl
    (white p.code.text Tail p 10 (codes "endmodule\n") p.events refl
    (after_word Tail Done p (codes "endmodule") (10 ∷ []) p.events refl (omega arith) refl (λ t. refl)
    (white p.code.text Done p 10 [] p.events refl (ends p))))))

-- Before them the module and its block begin.
head_leads : (p : Progress) (rest : List ℕ) (events : List Event) → Leads p.code.text Body p rest events → Leads p.code.text Module p (codes "module xrepair_code;\n  initial begin\n" ++ rest) events
head_leads p rest events leads =
    after_word Module Title p (codes "module") (codes " xrepair_code;\n  initial begin\n" ++ rest) events refl (omega arith) refl (λ t. refl)
    (white p.code.text Title p 32 (codes "xrepair_code;\n  initial begin\n" ++ rest) events refl
    (after_word Title Semicolon p (codes "xrepair_code") (codes ";\n  initial begin\n" ++ rest) events refl (omega arith) refl (λ t. refl)
    (after_mark Semicolon Initial p 59 (codes "\n  initial begin\n" ++ rest) events refl (λ t. refl)
    (white p.code.text Initial p 10 (codes "  initial begin\n" ++ rest) events refl
    (white p.code.text Initial p 32 (codes " initial begin\n" ++ rest) events refl
    (white p.code.text Initial p 32 (codes "initial begin\n" ++ rest) events refl
    (after_word Initial Begin p (codes "initial") (codes " begin\n" ++ rest) events refl (omega arith) refl (λ t. refl)
    (white p.code.text Begin p 32 (codes "begin\n" ++ rest) events refl
    (after_word Begin Body p (codes "begin") (10 ∷ rest) events refl (omega arith) refl (λ t. refl)
    (white p.code.text Body p 10 rest events refl leads))))))))))

-- The text that is written of forces leads to these.
text_leads : (c : Code) (forces : List Event) → CanBeRead c → HasEvents c.design c.stim forces → NeverFall 0 forces → AllReleaseForced [] forces → Leads c.text Module (begun c) (code_text c.design c.stim c.scope forces) forces
text_leads c forces can has rises forced =
    subst (λ (l : List ℕ). Leads c.text Module (begun c) l forces) (sym shape)
    (head_leads (begun c) (lines ++ codes "  end\nendmodule\n") forces
    (lines_lead (begun c) start 0 forces (codes "  end\nendmodule\n") forces can has rises forced before refl refl refl
    (λ q is. subst (λ (events : List Event). Leads c.text Body (record q { code = c }) (codes "  end\nendmodule\n") events) is (tail_leads (record q { code = c })))))
  where
    lines : List ℕ
    lines = event_lines c.design c.stim c.scope start forces

    shape : code_text c.design c.stim c.scope forces ≡ codes "module xrepair_code;\n  initial begin\n" ++ (lines ++ codes "  end\nendmodule\n")
    shape = append_assoc (codes "module xrepair_code;\n  initial begin\n" ++ lines) (codes "  end\n") (codes "endmodule\n") ∙ append_assoc (codes "module xrepair_code;\n  initial begin\n") lines (codes "  end\nendmodule\n")

    before : ComesBefore c start 0
    before step later within = record { time = omega arith; round = λ same. omega arith }

pub own_says : OwnCodeIsRead
own_says design order stim scope forces parts fits writable own =
    let j = job_of design order stim in
    let are : AreEvents j forces = subst (AreEvents j) (sym own) (are_events j parts.fits_job (forced_by j forces)) in
    let released : AllReleaseForced [] forces = subst (AllReleaseForced []) (sym own) (changes_release_forced j parts.fits_job (forced_by j forces) (places_of j) (omega arith)) in
    let ordered : AreOrdered j.width forces = in_order j parts.fits_job forces are in
    let c = code (code_text design stim scope forces) design order stim scope in
    let from = text_leads c forces record { writable = writable; fits = fits; up = parts.fits_stim.times } (can_be_written design order stim forces are) (never_fall 0 forces (λ i within. omega arith) ordered.steps) released 0 refl in
    code_says c forces fits record { left = from.left; tokens = from.tokens; statements = forces; read = from.run; are = own }

-- So a text that is what is written of forces says them.
pub own_text_says : (c : Code) (forces : List Event) → PartsFit c.design c.order c.stim → FitsDesign c.design → are_writable c.scope ≡ true → forces ≡ changes_by (job c) forces → c.text ≡ code_text c.design c.stim c.scope forces → CodeSays c forces
own_text_says c forces parts fits writable own is =
    subst (λ (text : List ℕ). CodeSays (code text c.design c.order c.stim c.scope) forces) (sym is) (own_says c.design c.order c.stim c.scope forces parts fits writable own)

-- What a text says is read, so its own forces are.
pub own_is_read : (c : Code) (result : Result (List Event) CodeErr) → PartsFit c.design c.order c.stim → FitsDesign c.design → IsRead c result → OwnIsRead c result
own_is_read c result parts fits read forces writable own is = read forces (own_text_says c forces parts fits writable own is)
