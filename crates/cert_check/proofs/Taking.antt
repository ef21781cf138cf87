-- One line of a Line place: what comes of it, and why the walk stops at it.
use Rattle.std.proofs.Common.{◌≡◌, ℕ, ◌≤◌, Bool, true, false, None, List, [], ◌∷◌, ◌++◌, append_assoc, length, sym, subst, ap, arith, ⊎_elim}
use Rattle.std.proofs.lemmas.Bool.{cases_Bool}
use Rattle.design_circuit.specs.Fits.{place_at}
use Rattle.design_circuit.specs.Job.{Job, places_of}
use Rattle.law_model.specs.declared.line.Line.{Line as ALine}
use Rattle.law_model.specs.declared.turn.TurnLine.{TurnLine}
use Rattle.wave_proved.specs.Advance.{IsPlain}
use Rattle.wave_proved.specs.Contents.{Contents, IsWave, job, next_number, next_seen}
use Rattle.wave_proved.specs.Token.{IsLineNext}
use Rattle.law_along.specs.Accepted.{IsLater, NamesNext}
use Rattle.cert_turns.specs.View.{ConditionView}
use Rattle.cert_turns.specs.Conditions.{IsCertainLine, gives_bit}
use Rattle.cert_writer.specs.declared.cert.Entry.{Entry}
use Rattle.cert_writer.specs.declared.cert.Entry.TheVariants.{Line, Turn}
use Rattle.cert_writer.specs.declared.cert.Form.{Form}
use Rattle.cert_writer.specs.declared.cert.Form.TheVariants.{Turns}
use Rattle.cert_check.specs.Standing.{ComesBehind, ComesFrom, EndsBehind, EndsFrom, IsBehind, IsBetween, Stands, StopsAt, Takes}
use Rattle.cert_check.specs.Step.{IsSpent, Stops, faults, no_memory}
use Rattle.cert_check.specs.Walk.{IsCertFault, IsFirstCertFault, astray, beyond, later, turn_astray}
use Rattle.cert_check.specs.Walk as walk
use Rattle.cert_check.specs.declared.refusal.CertFault.TheVariants.{Missing, Stray}
use Rattle.cert_check.specs.declared.refusal.CheckErr.{CheckErr}
use Rattle.cert_check.specs.declared.refusal.CheckErr.TheVariants.{Refused}
use Rattle.cert_check.specs.declared.walked.Walked.{Walked}
use Rattle.cert_check.proofs.Going.{done_next}
use Rattle.cert_check.proofs.Standing.{fault_between, line_behind, line_between, settled_line}

-- The walk stops at a line.
pub stopped_line : (form : Form) (number : ℕ) (c : Contents) (views : List ConditionView) (line : ALine) (e : CheckErr)
    → Stops c number line e → StopsAt form number c views None (Line line) e
stopped_line form number c views line e (faults fault) start done rest stands is =
    fault_between form start done (Line line ∷ rest) c views number e is (fault rest) stands
stopped_line form number c views line e no_memory start done rest stands is = walk.no_memory

-- There is no place,
pub beyond_stops : (c : Contents) (line : ALine) (number count all : ℕ) (j : Job) → count ≡ length c.written
    → all ≡ places_of j → j ≡ job c → all ≤ count → Stops c number line (Refused (Stray number))
beyond_stops c line number count all j count_is all_is j_is many =
    let same : places_of j ≡ places_of (job c) = ap places_of j_is in
    let past : places_of (job c) ≤ length c.written = omega (arith, many, count_is, all_is, same) in
    faults (λ rest. beyond line rest (done_next c past))

-- it is of a later place,
pub later_stops : (c : Contents) (line : ALine) (number : ℕ) (e : CheckErr) → IsLineNext c → IsLater c line
    → e ≡ Refused (Missing (place_at (job c) (next_number c))) → Stops c number line e
later_stops c line number e next is_later is =
    faults (λ rest. subst (IsCertFault c number (Line line ∷ rest)) (sym is) (later line rest next is_later))

-- or of any other.
pub astray_stops : (c : Contents) (line : ALine) (number : ℕ) → IsLineNext c
    → (NamesNext c line → ⊥) × (IsLater c line → ⊥) → Stops c number line (Refused (Stray number))
astray_stops c line number next neither = faults (λ rest. astray line rest next neither.0 neither.1)

-- A line that is spent has turns, or none.
pub settled_spent : (c after : Contents) (line : ALine) → IsWave after → gives_bit line.body ≡ true
    → IsSpent c line after
    → IsCertainLine after line.place
settled_spent c after line wave gives spent =
    subst (λ (d : Contents). IsCertainLine d line.place) (sym spent.is)
    (settled_line c line (subst IsWave spent.is wave) gives)

pub unturned : (form : Form) (gives tested : Bool) → ((form ≡ Turns) × (gives ≡ true) → tested ≡ true) → tested ≡ false
    → form ≡ Turns → gives ≡ false
unturned form gives tested both fails is =
    ⊎_elim (λ (yes : gives ≡ true). absurd (apart tested (both (is, yes)) fails)) (λ (no : gives ≡ false). no)
    (cases_Bool gives)
  where
    apart : (b : Bool) → b ≡ true → b ≡ false → ⊥
    apart b holds not = absurd cc

behind_spent : (form : Form) (start : Contents) (done : List Entry) (c after : Contents)
    (views : List ConditionView) (line : ALine) → form ≡ Turns → gives_bit line.body ≡ true → IsLineNext c
    → IsSpent c line after
    → IsBetween form start done c views → IsBehind start (done ++ Line line ∷ []) after views line.place []
behind_spent form start done c after views line is gives next spent stands =
    subst (λ (d : Contents). IsBehind start (done ++ Line line ∷ []) d views line.place []) (sym spent.is)
    (line_behind start done c line views next spent.accepts spent.agrees gives
    (subst (λ f. IsBetween f start done c views) is stands))

pub comes_behind : (form : Form) (c after : Contents) (views : List ConditionView) (line : ALine) (next : Walked)
    → form ≡ Turns
    → gives_bit line.body ≡ true → IsLineNext c → IsSpent c line after → ComesBehind after views line.place next
    → Takes form c views None (Line line) next
comes_behind form c after views line next is gives class spent comes start done stands =
    subst (λ f. Stands f start (done ++ Line line ∷ []) next) (sym is)
    (comes start (done ++ Line line ∷ []) (behind_spent form start done c after views line is gives class spent stands))

pub ends_behind : (form : Form) (number : ℕ) (c after : Contents) (views : List ConditionView) (line : ALine)
    (e : CheckErr)
    → form ≡ Turns → gives_bit line.body ≡ true → IsLineNext c → IsSpent c line after
    → EndsBehind after views line.place e
    → StopsAt form number c views None (Line line) e
ends_behind form number c after views line e is gives class spent ends start done rest stands number_is =
    subst (λ f. IsFirstCertFault f start (done ++ Line line ∷ rest) e) (sym is)
    (subst (λ es. IsFirstCertFault Turns start es e) (append_assoc done (Line line ∷ []) rest)
    (ends start (done ++ Line line ∷ []) rest (behind_spent form start done c after views line is gives class spent
    stands)))

between_spent : (form : Form) (start : Contents) (done : List Entry) (c after : Contents)
    (views : List ConditionView) (line : ALine) → (form ≡ Turns → gives_bit line.body ≡ false) → IsWave after
    → IsLineNext c
    → IsSpent c line after → IsBetween form start done c views
    → IsBetween form start (done ++ Line line ∷ []) after views
between_spent form start done c after views line none wave next spent stands =
    subst (λ (d : Contents). IsBetween form start (done ++ Line line ∷ []) d views) (sym spent.is)
    (line_between form start done c line views (subst IsWave spent.is wave) next spent.accepts spent.agrees none stands)

pub comes_unturned : (form : Form) (c after : Contents) (views : List ConditionView) (line : ALine) (next : Walked)
    → (form ≡ Turns → gives_bit line.body ≡ false) → IsWave after → IsLineNext c → IsSpent c line after
    → ComesFrom after views next → Takes form c views None (Line line) next
comes_unturned form c after views line next none wave class spent comes start done stands =
    comes form start (done ++ Line line ∷ []) (between_spent form start done c after views line none wave class spent
    stands)

pub ends_unturned : (form : Form) (number : ℕ) (c after : Contents) (views : List ConditionView) (line : ALine)
    (e : CheckErr)
    → (form ≡ Turns → gives_bit line.body ≡ false) → IsWave after → IsLineNext c → IsSpent c line after
    → EndsFrom after views e → StopsAt form number c views None (Line line) e
ends_unturned form number c after views line e none wave class spent ends start done rest stands number_is =
    subst (λ es. IsFirstCertFault form start es e) (append_assoc done (Line line ∷ []) rest)
    (ends form start (done ++ Line line ∷ []) rest (between_spent form start done c after views line none wave class
    spent stands))

-- A turn where a line is due.
pub turn_stops : (form : Form) (number : ℕ) (c : Contents) (views : List ConditionView) (turn : TurnLine)
    (entry : Entry)
    → (IsPlain (next_seen c) → ⊥) → entry ≡ Turn turn → StopsAt form number c views None entry (Refused (Stray number))
turn_stops form number c views turn entry stops is start done rest stands number_is =
    fault_between form start done (entry ∷ rest) c views number (Refused (Stray number)) number_is
    (subst (λ x. IsCertFault c number (x ∷ rest) (Refused (Stray number))) (sym is)
    (turn_astray turn rest stops)) stands
