-- A made job: its phases come to one thing each, and what they find says what is promised.
use Rattle.std.proofs.Common.{◌≡◌, ℕ, List, [], Bool, Result, Ok, Err, inl, inr, refl, ap, subst, arith}
use Rattle.netlist_grammar.specs.declared.tree.Source.{Source}
use Rattle.netlist_grammar.specs.Whole.{IsWhole}
use Rattle.netlist_grammar.proofs.WholeTrees.{tree_is_whole}
use Rattle.elab_nets.specs.Outcome.{Outcome}
use Rattle.elab_tree.specs.Text.{Elaborates}
use Rattle.elab_tree.proofs.Fitting.{fits_of}
use Rattle.design_circuit.specs.Design.{FitsDesign}
use Rattle.design_circuit.specs.declared.design.Design.{Design}
use Rattle.cmd_job.specs.Netlist.{NetlistComes}
use Rattle.cmd_job.specs.declared.netlist.Netlist.{Netlist as ANetlist}
use Rattle.cmd_job.specs.declared.netlist_refusal.NetlistRefusal.{NetlistRefusal}
use Rattle.cmd_job.proofs.OneNetlist.{one_outcome}
use Rattle.cmd_make.proofs.OneRecording.{one_recording}
use Rattle.report_bits.specs.Report.{head_text}
use Rattle.report_bits.specs.declared.lines.ReportLines.TheVariants as report
use Rattle.base_run.specs.Phases.{Answer, ComesTo, IsOne, Phases, ◌>>=◌}
use Rattle.base_run.specs.Prepared.{PreparedAlone}
use Rattle.base_run.specs.declared.refusal.Refusal.{Refusal}
use Rattle.base_run.proofs.Then.{prepared_refused, prepared_then}
use Rattle.base_shelf.specs.Shelf.{Files}
use Rattle.wave_proved.specs.Contents.{Contents}
use Rattle.cmd_program.specs.Make.{MakeValues, SaysMake, IsRecordingOf, MadeComes, made_limits, made_job, made_netlist, Makes, make_answer, make_phases, IsMadeOf}
use Rattle.cmd_program.specs.Repair.{RepairValues, forces_in}
use Rattle.cmd_words.specs.declared.words.Form.TheVariants.{Lines}
use Rattle.cmd_phases.specs.Repair.{LengthComes}
use Rattle.cmd_phases.specs.declared.cause.Refused.{Refused}
use Rattle.cmd_phases.specs.declared.cause.Refused.TheVariants.{Compare, LongNetlist, LongRecording, Netlist, Optimistic, Recording}
use Rattle.cmd_program.proofs.Headlines as headlines

-- ---- each phase comes to one thing

pub one_length : (limit : ℕ) (text : List ℕ) → IsOne (LengthComes limit text)
one_length limit text (Ok a) (Ok b) first second = refl
one_length limit text (Ok a) (Err f) first second = absurd (omega (arith, first, second))
one_length limit text (Err e) (Ok b) first second = absurd (omega (arith, first, second))
one_length limit text (Err e) (Err f) first second = refl

-- The design of a netlist's text fits.
fits_by : (source : Source) (top : List ℕ) (outcome : Outcome Design) (design : Design) → IsWhole source
    → Elaborates source top outcome → outcome ≡ Ok design → FitsDesign design
fits_by source top outcome design whole (Elaborates.twice _) is = absurd cc
fits_by source top outcome design whole (Elaborates.refused _ _) is = absurd cc
fits_by source top outcome design whole (Elaborates.built tables _ all) is = fits_of source tables top design whole all is

netlist_fits : (text top : List ℕ) (n : ANetlist) → NetlistComes text top (Ok n) → FitsDesign n.design
netlist_fits text top n has = fits_by has.is.tree top (Ok n.design) n.design (tree_is_whole text has.is.tree has.is.parsed) has.is.is refl

made_once : (w : MakeValues) (n : ANetlist) (text : List ℕ) → NetlistComes text made_job.top (Ok n)
    → (a b : List ℕ) → IsRecordingOf w n a → IsRecordingOf w n b → a ≡ b
made_once w n text has a b first second = one_recording n.design n.order w.number w.gates a b (netlist_fits text made_job.top n has) has.ordered first second

pub one_made : (w : MakeValues) (n : ANetlist) (text : List ℕ) → NetlistComes text made_job.top (Ok n) → IsOne (MadeComes w n)
one_made w n text has (Ok a) (Ok b) first second = ap Ok (made_once w n text has a b first second)
one_made w n text has (Ok a) (Err f) first second = absurd second
one_made w n text has (Err e) second first other = absurd first

-- The recording of the made netlist's design is one.
netlists_same : (a b : ANetlist) → ◌≡◌ {A = Result ANetlist NetlistRefusal} (Ok a) (Ok b) → a ≡ b
netlists_same a b same = cc

pub made_is_one : (w : MakeValues) (a b : List ℕ) → IsMadeOf w a → IsMadeOf w b → a ≡ b
made_is_one w a b first second =
    let nets = netlists_same second.n first.n (one_outcome (made_netlist w) made_job.top (Ok second.n) (Ok first.n) second.netlist_is.is first.netlist_is.is) in
    made_once w first.n (made_netlist w) first.netlist_is.is a b first.made (subst (λ (n : ANetlist). IsRecordingOf w n b) nets second.made)

-- ---- what is found

abbrev made_repair : RepairValues
made_repair = record { job = made_job; vcd = []; code = []; cert = []; form = Lines; limits = made_limits; lines = report.All }

makes : (w : MakeValues) (recording : List ℕ) (is : headlines.Made made_repair (made_netlist w) recording) → IsRecordingOf w is.n recording
    → Makes w (made_netlist w) recording (head_text is.found.wave (forces_in is.found.wave))
makes w recording is made =
    let netlist = made_netlist w in
    record {
      job = headlines.repaired_job made_repair netlist recording is;
      netlist_is = refl;
      made = made;
      events = headlines.events made_repair netlist recording is;
      are = headlines.are_forces made_repair netlist recording is;
      printed_is = ap (λ (c : Contents). head_text c (forces_in c)) (headlines.same made_repair netlist recording is);
      only = headlines.only_so made_repair netlist recording is;
    }

answers_one : (a b : Answer) → ◌≡◌ {A = Result Answer Refused} (Ok a) (Ok b) → a ≡ b
answers_one a b same = cc

no_answer : (a : Answer) (c : Refused) → ◌≡◌ {A = Result Answer Refused} (Ok a) (Err c) → ⊥
no_answer a c same = cc

module _ (told : Bool) (files : Files) (w : MakeValues) (answer : Answer) where
  pub make_says : ComesTo told files (make_phases w) (Ok answer) → SaysMake w answer
  make_says (inl (long, is, same)) = absurd (no_answer answer LongNetlist same)
  make_says (inr (short, fits, inl (e, refused, same))) = absurd (no_answer answer (Netlist e) same)
  make_says (inr (short, fits, inr (n, has, inl (none, never, same)))) = absurd never
  make_says (inr (short, fits, inr (n, has, inr (text, made, inl (long, is, same))))) = absurd (no_answer answer LongRecording same)
  make_says (inr (short, fits, inr (n, has, inr (text, made, inr (few, within, inl (e, refused, same)))))) = absurd (no_answer answer (Recording e) same)
  make_says (inr (short, fits, inr (n, has, inr (text, made, inr (few, within, inr (r, held, inl (e, refused, same))))))) =
      absurd (no_answer answer (Compare e) same)
  make_says (inr (short, fits, inr (n, has, inr (text, made, inr (few, within, inr (r, held, inr (agreed, faultless, inl (o, refused, same)))))))) =
      absurd (no_answer answer (Optimistic o) same)
  make_says (inr (short, fits, inr (n, has, inr (text, made, inr (few, within, inr (r, held, inr (agreed, faultless, inr (there, is, same)))))))) =
      let all : headlines.Made made_repair (made_netlist w) text = record {
        n = n;
        r = r;
        job = record { elaborated = n; netlist_is = record { fits = fits; is = has }; fits = within; is = held; job_is = refl };
        faultless = faultless;
        found = there;
        is = is;
      } in
      record {
        netlist = made_netlist w;
        recording = text;
        printed = head_text there.wave (forces_in there.wave);
        answer_is = answers_one answer (make_answer w text there.wave) same;
        makes = makes w text all made;
      }

-- ---- the ways of functions that make no call on the shelf

module _ {A B C X Y : Type 0} (p : Phases A C) (then : A → Phases B C) (seen : X → A) (seen_then : Y → B) where
  -- What is prepared, and then more.
  pub alone_then : (x : X) (result : Result Y (Refusal C)) → PreparedAlone p seen (Ok x) → PreparedAlone (then (seen x)) seen_then result
      → PreparedAlone (p >>= then) seen_then result
  alone_then x result first more = λ told v. prepared_then told p then seen seen_then v v v x result (first told v) (more told v)

  -- Or it is refused, and so is all.
  pub alone_out : (e : Refusal C) → PreparedAlone p seen (Err e) → PreparedAlone (p >>= then) seen_then (Err e)
  alone_out e first = λ told v. prepared_refused told p then seen seen_then v v v e (first told v)
