-- Which certificates have a text: numbers of places and of the second line are below 2^32, variables below 2^31, a log
-- has at least one clause, a model at least one value, and in form 1 there are no turns.
use Rattle.std.specs.Prelude.{◌≢◌, ℤ, pos, ◌<◌, ◌^◌, List, length, nat_abs}
use Rattle.std.specs.List.{AllByRecursion}
use Rattle.design_circuit.specs.declared.place.Place.{Place}
use Rattle.law_model.specs.declared.line.Body.{Body}
use Rattle.law_model.specs.declared.line.Body.TheVariants.{Enumerated, Refuted, Pair, Undecided}
use Rattle.law_model.specs.declared.line.Line.{Line}
use Rattle.law_model.specs.declared.turn.Turn.{Turn}
use Rattle.law_model.specs.declared.turn.Turn.TheVariants.{Dropped, Needed, Tried}
use Rattle.law_model.specs.declared.turn.TurnLine.{TurnLine}
use Rattle.cert_writer.specs.declared.cert.Cert.{Cert}
use Rattle.cert_writer.specs.declared.cert.Entry.{Entry}
use Rattle.cert_writer.specs.declared.cert.Form.{Form}
use Rattle.cert_writer.specs.declared.cert.Form.TheVariants.{Lines, Turns}
use Rattle.cert_writer.specs.declared.cert.Head.{Head}

pub record FitsPlace (place : Place) : Type 0 where
  pub step : place.step < 2 ^ 32
  pub net : place.net < 2 ^ 32

abbrev pub FitsFilling : List Place → Type 0
FitsFilling filling = AllByRecursion FitsPlace filling

pub record FitsLiteral (literal : ℤ) : Type 0 where
  pub some : literal ≢ pos 0
  pub small : nat_abs literal < 2 ^ 31

pub record FitsLog (log : List (List ℤ)) : Type 0 where
  pub some : 0 < length log
  pub literals : AllByRecursion (λ clause. AllByRecursion FitsLiteral clause) log

abbrev pub FitsBody : Body → Type 0
FitsBody (Enumerated bit) = Unit {0}
FitsBody (Refuted bit log) = FitsLog log
FitsBody (Pair zero one) = FitsFilling zero × FitsFilling one
FitsBody (Undecided log) = FitsLog log

pub record FitsLine (line : Line) : Type 0 where
  pub place : FitsPlace line.place
  pub body : FitsBody line.body

abbrev pub FitsTurn : Turn → Type 0
FitsTurn (Dropped log) = FitsLog log
FitsTurn (Needed model) = 0 < length model
FitsTurn (Tried log) = FitsLog log

pub record FitsTurnLine (line : TurnLine) : Type 0 where
  pub place : FitsPlace line.place
  pub turn : FitsTurn line.turn

abbrev pub FitsEntry : Form → Entry → Type 0
FitsEntry form (Entry.Line line) = FitsLine line
FitsEntry Lines (Entry.Turn line) = ⊥
FitsEntry Turns (Entry.Turn line) = FitsTurnLine line

pub record FitsHead (head : Head) : Type 0 where
  pub rounds : head.rounds < 2 ^ 32
  pub conflicts : head.conflicts < 2 ^ 32
  pub moments : head.moments < 2 ^ 32
  pub nets : head.nets < 2 ^ 32

pub record FitsCert (cert : Cert) : Type 0 where
  pub head : FitsHead cert.head
  pub entries : AllByRecursion (FitsEntry cert.form) cert.entries
  pub count : length cert.entries < 2 ^ 64
