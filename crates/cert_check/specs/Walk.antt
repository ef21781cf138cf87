-- How a wave goes on along lines, and where it can't.
use Rattle.std.specs.Prelude.{◌≡◌, ℕ, true, ◌+◌, ◌<◌, List, [], ◌∷◌, ◌++◌, length, map}
use Rattle.design_circuit.specs.Fits.{place_at}
use Rattle.law_model.specs.declared.class.Class.TheVariants as seen
use Rattle.law_model.specs.declared.line.Body.{Body}
use Rattle.law_model.specs.declared.line.Body.TheVariants.{Enumerated, Refuted, Pair, Undecided}
use Rattle.law_model.specs.declared.line.Line.{Line as ALine}
use Rattle.wave_proved.specs.Advance.{Contradicts, IsPlain, Reports, plain_written}
use Rattle.wave_proved.specs.Contents.{Contents, IsWave, job, next_number, next_seen}
use Rattle.wave_proved.specs.Token.{IsLineNext, LineAgrees, LineContradicts, with_line, written_by_line}
use Rattle.wave_proved.specs.declared.advance.Optimistic.{Optimistic}
use Rattle.law_model.specs.declared.turn.TurnLine.{TurnLine}
use Rattle.cert_turns.specs.Conditions.{gives_bit}
use Rattle.cert_turns.specs.TurnLines.{AreTurnLinesIn, turn_places}
use Rattle.law_along.specs.Along.{GoesAlong}
use Rattle.cert_writer.specs.declared.cert.Entry.{Entry}
use Rattle.cert_writer.specs.declared.cert.Entry.TheVariants.{Line, Turn}
use Rattle.cert_writer.specs.declared.cert.Form.{Form}
use Rattle.cert_writer.specs.declared.cert.Form.TheVariants.{Turns}
use Rattle.cert_check.specs.Entries.{AreTurnedIn, lines_in}
use Rattle.law_along.specs.Accepted.{AcceptsLine, IsLater, NamesNext}
use Rattle.cert_check.specs.declared.refusal.CertFault.{CertFault}
use Rattle.cert_check.specs.declared.refusal.CertFault.TheVariants.{Missing, Stray, BadLog, BadPair, BadEnum, BadTurn}
use Rattle.cert_check.specs.declared.refusal.CheckErr.{CheckErr}
use Rattle.cert_check.specs.declared.refusal.CheckErr.TheVariants.{Refused, Optimistic as Objects, Memory}

-- The number of the text's line that is due after some lines between.
abbrev pub due_line : List Entry → ℕ
due_line done = length done + 3

-- What is wrong where a body isn't accepted.
abbrev pub body_fault : ℕ → Body → CertFault
body_fault line (Enumerated bit) = BadEnum line
body_fault line (Refuted bit log) = BadLog line
body_fault line (Pair zero one) = BadPair line
body_fault line (Undecided log) = BadLog line

-- Why a wave can't go on by the lines that are left, where no turn is due: the next place is found otherwise than the
-- history knows it, by its class; it is a Line place and no line is left, or the next one is of a later place, or of no
-- place that is due; a turn, or a line where there is no place; the line isn't accepted; what it says contradicts the
-- history. `number` is that of the text's next line.
pub data IsCertFault (c : Contents) (number : ℕ) : List Entry → CheckErr → Type 0 where
  class_objects : (rest : List Entry) (objection : Optimistic) → IsPlain (next_seen c) → Contradicts c (plain_written c)
      → Reports c (plain_written c) objection → IsCertFault c number rest (Objects objection)
  no_line : IsLineNext c → IsCertFault c number [] (Refused (Missing (place_at (job c) (next_number c))))
  later : (line : ALine) (rest : List Entry) → IsLineNext c → IsLater c line
      → IsCertFault c number (Line line ∷ rest) (Refused (Missing (place_at (job c) (next_number c))))
  astray : (line : ALine) (rest : List Entry) → IsLineNext c → (NamesNext c line → ⊥) → (IsLater c line → ⊥)
      → IsCertFault c number (Line line ∷ rest) (Refused (Stray number))
  beyond : (line : ALine) (rest : List Entry) → next_seen c ≡ seen.Done
      → IsCertFault c number (Line line ∷ rest) (Refused (Stray number))
  turn_astray : (turn : TurnLine) (rest : List Entry) → (IsPlain (next_seen c) → ⊥)
      → IsCertFault c number (Turn turn ∷ rest) (Refused (Stray number))
  refused : (line : ALine) (rest : List Entry) → IsLineNext c → NamesNext c line → (AcceptsLine c line → ⊥)
      → IsCertFault c number (Line line ∷ rest) (Refused (body_fault number line.body))
  line_objects : (line : ALine) (rest : List Entry) (objection : Optimistic) → IsLineNext c → AcceptsLine c line
      → LineContradicts c line → Reports c (written_by_line c line) objection
      → IsCertFault c number (Line line ∷ rest) (Objects objection)

-- A wave has come along lines, and behind each of these stand its turns.
pub record IsUpTo (form : Form) (start : Contents) (done : List Entry) (c : Contents) : Type 0 where
  pub goes : GoesAlong start c
  pub wave : IsWave c
  pub lines : c.lines ≡ start.lines ++ lines_in done
  pub turned : AreTurnedIn form c done

-- A turn of the last place is due behind those that are stated, and the next line doesn't state it: it is of a Line
-- place, or of another boundary place, or doesn't hold; or no line is left.
pub record LacksTurn (c : Contents) (root : ℕ) (stated : List TurnLine) (rest : List Entry) : Type 0 where
  pub so_far : AreTurnLinesIn c root stated
  pub due : length stated < length (turn_places (job c) c.written root)
  pub stops : (line : TurnLine) (more : List Entry) → rest ≡ Turn line ∷ more
      → AreTurnLinesIn c root (stated ++ line ∷ []) → ⊥

-- A line that gives a bit, and the first turns of its place.
abbrev pub with_turns : ALine → List TurnLine → List Entry
with_turns line stated = Line line ∷ map (λ turn. Turn turn) stated

-- The first fault of a certificate's lines: a wave goes on by the first of them, and can't by the others, or lacks a
-- turn there; or there is no memory.
pub data IsFirstCertFault (form : Form) (start : Contents) (entries : List Entry) : CheckErr → Type 0 where
  line : (c : Contents) (done rest : List Entry) (e : CheckErr) → entries ≡ done ++ rest → IsUpTo form start done c
      → IsCertFault c (due_line done) rest e → IsFirstCertFault form start entries e
  turn : (c : Contents) (done : List Entry) (line : ALine) (stated : List TurnLine) (rest : List Entry) → form ≡ Turns
      → entries ≡ (done ++ with_turns line stated) ++ rest → IsUpTo form start done c → IsLineNext c
      → AcceptsLine c line → LineAgrees c line → gives_bit line.body ≡ true
      → LacksTurn (with_line c line) (next_number c) stated rest
      → IsFirstCertFault form start entries (Refused (BadTurn (due_line (done ++ with_turns line stated))))
  no_memory : IsFirstCertFault form start entries Memory
