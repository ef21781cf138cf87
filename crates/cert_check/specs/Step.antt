-- One line of the walk.
use Rattle.std.specs.Prelude.{◌≡◌, ℕ, List, [], ◌∷◌, length}
use Rattle.design_circuit.specs.Fits.{place_at}
use Rattle.law_model.specs.declared.line.Body.{Body}
use Rattle.law_model.specs.declared.line.Body.TheVariants as body
use Rattle.law_model.specs.declared.line.Line.{Line as ALine}
use Rattle.wave_proved.specs.Contents.{Contents, job, next_number}
use Rattle.wave_proved.specs.Token.{HoldsNext, LineAgrees, with_line}
use Rattle.cert_turns.specs.View.{ConditionView}
use Rattle.law_along.specs.Accepted.{AcceptsLine, IsLater, NamesNext}
use Rattle.cert_writer.specs.declared.cert.Cert.{Cert}
use Rattle.cert_writer.specs.declared.cert.Entry.{Entry}
use Rattle.cert_writer.specs.declared.cert.Entry.TheVariants.{Line}
use Rattle.cert_writer.specs.declared.cert.Form.{Form}
use Rattle.cert_writer.specs.declared.cert.Form.TheVariants.{Lines}
use Rattle.cert_check.specs.Entries.{entries_of}
use Rattle.cert_check.specs.Walk.{IsCertFault}
use Rattle.cert_check.specs.declared.due.Due.{Due}
use Rattle.cert_check.specs.declared.due.Due.TheVariants.{Here, Later, Astray}
use Rattle.cert_check.specs.declared.refusal.CheckErr.{CheckErr}
use Rattle.cert_check.specs.declared.refusal.CheckErr.TheVariants.{Memory}

-- The certificate of a form of a wave: the numbers of its run, its lines, and the turns of conditions behind these.
abbrev pub cert_in : Form → Contents → List ConditionView → Cert
cert_in form c conditions = record {
  form = form;
  head = record {
    rounds = c.stim.rounds;
    conflicts = c.limits.conflicts;
    moments = length c.stim.times;
    nets = length c.design.nets;
  };
  entries = entries_of c.lines conditions;
}

-- That of form 1.
abbrev pub cert_of : Contents → Cert
cert_of c = cert_in Lines c []

-- Whether a line is of the next place, of a later one, or of neither.
abbrev pub IsDue : Contents → ALine → Due → Type 0
IsDue c line Here = NamesNext c line
IsDue c line Later = IsLater c line
IsDue c line Astray = (NamesNext c line → ⊥) × (IsLater c line → ⊥)

-- A line is spent: it is accepted at the next place, which is written by it.
pub record IsSpent (c : Contents) (line : ALine) (after : Contents) : Type 0 where
  pub accepts : AcceptsLine c line
  pub agrees : LineAgrees c line
  pub is : after ≡ with_line c line

-- The wave can't go on by a line of this number, whatever stands after it, or there is no memory.
pub data Stops (c : Contents) (number : ℕ) (line : ALine) : CheckErr → Type 0 where
  faults : {e : CheckErr} → ((rest : List Entry) → IsCertFault c number (Line line ∷ rest) e) → Stops c number line e
  no_memory : Stops c number line Memory

-- The line of the next place with a body.
abbrev pub next_line : Contents → Body → ALine
next_line c body = record { place = place_at (job c) (next_number c); body = body }

-- A body isn't accepted at the next place.
abbrev pub RefusesBody : Contents → Body → Type 0
RefusesBody c body = AcceptsLine c (next_line c body) → ⊥

-- A verdict is of the next place, with a body that is accepted there.
pub record IsVerdictOf (c : Contents) (body : Body) (line : ALine) : Type 0 where
  pub is : line ≡ next_line c body
  pub accepts : AcceptsLine c line
