-- What the check of a certificate comes to.
use Rattle.std.specs.Prelude.{◌≡◌, ℕ, ◌<◌, Some, List, length}
use Rattle.design_circuit.specs.declared.design.Design.{Design}
use Rattle.design_circuit.specs.declared.stim.Stim.{Stim}
use Rattle.design_circuit.specs.declared.waveform.Written.{Written}
use Rattle.design_circuit.specs.Job.{places_of}
use Rattle.law_model.specs.Sound.{IsHonest}
use Rattle.law_model.specs.Stated.{body_at}
use Rattle.law_model.specs.Yields.{Yields}
use Rattle.law_model.specs.declared.line.Body.{Body}
use Rattle.wave_proved.specs.Contents.{Contents, IsFinished, IsWave, job, shown_in}
use Rattle.cert_turns.specs.View.{ConditionView}
use Rattle.cert_writer.specs.declared.cert.Cert.{Cert}
use Rattle.cert_writer.specs.declared.cert.Head.{Head}
use Rattle.law_along.specs.Along.{BodyFitsAt, GoesAlong}
use Rattle.law_waveforms.specs.Alike.{IsOneFor, IsOneForHistories}
use Rattle.cert_writer.specs.Wrong.{IsFirstWrong}
use Rattle.cert_check.specs.Entries.{AreConditionsFor, AreTurned, AreTurnedIn, entries_of, lines_in}
use Rattle.cert_check.specs.Walk.{IsFirstCertFault}
use Rattle.cert_check.specs.declared.refusal.CertFault.TheVariants.{BadEnum, BadLog, BadPair, BadTurn, Header, Missing}
use Rattle.cert_check.specs.declared.refusal.CertFault.TheVariants.{Stray, Syntax}
use Rattle.cert_check.specs.declared.refusal.CertErr.{CertErr}
use Rattle.cert_check.specs.declared.refusal.CertErr.TheVariants.{Refused as Unread, Memory}
use Rattle.cert_check.specs.declared.refusal.CertFault.{CertFault}
use Rattle.cert_check.specs.declared.refusal.CheckErr.{CheckErr}
use Rattle.cert_check.specs.declared.refusal.CheckErr.TheVariants.{Refused}

-- A text isn't read for its first wrong line alone.
abbrev pub IsSyntax : List ℕ → CertFault → Type 0
IsSyntax text (Syntax line) = IsFirstWrong text line
IsSyntax text (Header line) = ⊥
IsSyntax text (Missing place) = ⊥
IsSyntax text (Stray line) = ⊥
IsSyntax text (BadLog line) = ⊥
IsSyntax text (BadPair line) = ⊥
IsSyntax text (BadEnum line) = ⊥
IsSyntax text (BadTurn line) = ⊥

abbrev pub IsReadRefusal : List ℕ → CertErr → Type 0
IsReadRefusal text (Unread fault) = IsSyntax text fault
IsReadRefusal text Memory = Unit {0}

-- The numbers of the second line are those of the run.
pub record AreNumbers (design : Design) (stim : Stim) (conflicts : ℕ) (head : Head) : Type 0 where
  pub rounds : head.rounds ≡ stim.rounds
  pub log_length : head.conflicts ≡ conflicts
  pub moments : head.moments ≡ length stim.times
  pub nets : head.nets ≡ length design.nets

abbrev pub HasNumbers : Contents → Head → Type 0
HasNumbers start head = AreNumbers start.design start.stim start.limits.conflicts head

-- A certificate is checked: its numbers are those of the run, a finished wave went on by its lines of Line places,
-- which are the wave's, behind each of these stand its turns, which the conditions keep, and these are those of its
-- form. Where no place is undecided, every sound waveform of the job without undecided places is this one, and for
-- another history it has the same marks and certain values.
pub record IsChecked (start : Contents) (cert : Cert) (c : Contents) (conditions : List ConditionView) : Type 0 where
  pub numbers : HasNumbers start cert.head
  pub goes : GoesAlong start c
  pub lines : c.lines ≡ lines_in cert.entries
  pub turned : AreTurnedIn cert.form c cert.entries
  pub stated : cert.entries ≡ entries_of c.lines conditions
  pub conditions_are : AreConditionsFor cert.form c conditions
  pub finished : IsFinished c
  pub wave : IsWave c
  pub one : IsOneFor (job c) (shown_in c) c.written
  pub alike : IsOneForHistories (job c) c.written

-- It is refused: for a number of the second line, or at the first fault of its lines.
pub data IsRefusalOf (start : Contents) (cert : Cert) : CheckErr → Type 0 where
  number : (HasNumbers start cert.head → ⊥) → IsRefusalOf start cert (Refused (Header 2))
  line : {e : CheckErr} → HasNumbers start cert.head → IsFirstCertFault cert.form start cert.entries e
      → IsRefusalOf start cert e

-- A certificate is accepted: its numbers are those of the run, its lines of Line places yield a waveform of all places,
-- none of which is optimistic, its logs name variables of their queries, and behind each line stand its turns.
pub record IsAccepted (start : Contents) (cert : Cert) (waveform : List Written) : Type 0 where
  pub numbers : HasNumbers start cert.head
  pub long : length waveform ≡ places_of (job start)
  pub yields : Yields (job start) start.limits (shown_in start) waveform (lines_in cert.entries)
  pub honest : IsHonest (shown_in start) waveform
  pub logs : (place : ℕ) (body : Body) → place < length waveform
      → body_at (job start) (lines_in cert.entries) place ≡ Some body → BodyFitsAt start waveform place body
  pub turned : AreTurned cert.form (job start) start.limits.conflicts waveform cert.entries
