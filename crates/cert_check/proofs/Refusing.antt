-- Why a body isn't accepted at the next place.
use Rattle.std.proofs.Common.{◌≡◌, ◌≢◌, ℕ, ◌<◌, ◌≤◌, Bool, true, false, List, ◌∷◌, length, sym, subst, ap, ◌∙◌, arith}
use Rattle.std.specs.Prelude.{ℤ, Err, IfErr, IfOk, Result}
use Rattle.std.specs.List.{All}
use Rattle.std.proofs.lemmas.List.{length-map}
use Rattle.design_circuit.specs.declared.place.Place.{Place}
use Rattle.design_circuit.specs.Filling.{IsFilling}
use Rattle.design_circuit.specs.Fits.{place_at}
use Rattle.design_circuit.specs.Waveform.{certain}
use Rattle.law_model.specs.Cone.{sources}
use Rattle.law_model.specs.declared.line.Body.{Body}
use Rattle.law_model.specs.declared.line.Body.TheVariants.{Enumerated, Refuted, Pair, Undecided}
use Rattle.sat_proof.specs.Assignment.{HasNoZero}
use Rattle.sat_proof.specs.Log.{AreFresh, Fit, Refutes}
use Rattle.sat_proof.specs.declared.clause.Cnf.{Cnf}
use Rattle.decide_nodes.proofs.ConeLaws.{base_law, sources_law}
use Rattle.decide_nodes.specs.declared.node.Node.{Node}
use Rattle.decide_nodes.specs.Nodes.{nothing, root_bit, sources_of}
use Rattle.decide_nodes.specs.Traced.{sources_in}
use Rattle.decide_nodes.specs.Traced.{IsNextCone}
use Rattle.decide_cnf.specs.Query.{IsQueryOfNodes}
use Rattle.decide_pair.specs.Pairs.{next_bit}
use Rattle.wave_proved.specs.Contents.{Contents, job, next_number}
use Rattle.law_model.specs.declared.line.Line.{Line as ALine}
use Rattle.wave_proved.specs.Advance.{IfObjects, Objects, Reports}
use Rattle.wave_proved.specs.Token.{HoldsBare, IsLineNext, LineContradicts, LineHolds, written_by_line}
use Rattle.wave_proved.specs.declared.advance.AdvanceErr.{AdvanceErr}
use Rattle.wave_proved.specs.declared.advance.AdvanceErr.TheVariants as stopped
use Rattle.law_along.specs.Accepted.{AcceptsLine, BodyFits, LogFits, NamesNext, variables_next}
use Rattle.cert_writer.specs.declared.cert.Entry.TheVariants.{Line}
use Rattle.cert_check.specs.Step.{IsSpent, IsVerdictOf, RefusesBody, Stops, faults, next_line, no_memory}
use Rattle.cert_check.specs.Walk.{IsCertFault, body_fault, line_objects, refused}
use Rattle.cert_check.specs.Words.{stopped_by}
use Rattle.cert_check.specs.declared.refusal.CertFault.{CertFault}
use Rattle.cert_check.specs.declared.refusal.CheckErr.{CheckErr}
use Rattle.cert_check.specs.declared.refusal.CheckErr.TheVariants.{Refused}
use Rattle.cert_turns.proofs.SameQueries.{fresh_same, refutes_more, same_clauses}

abbrev line : Place → Body → ALine
line place body = record { place = place; body = body }

-- The sources of the nodes are those of the place.
pub sources_long : (c : Contents) (nodes : List Node) → IsNextCone c nodes
    → length (sources_of nodes) ≡ length (sources (job c) (certain c.written) (next_number c))
sources_long c nodes cone =
    ap length (sources_law c (next_number c) nodes cone) ∙ length-map (sources_in c (next_number c)) (place_at (job c))

-- More sources than the limit aren't enumerated,
pub many_refuse : (c : Contents) (nodes : List Node) (bit : Bool) → IsNextCone c nodes
    → c.limits.enumerated < length (sources_of nodes)
    → AcceptsLine c (next_line c (Enumerated bit)) → ⊥
many_refuse c nodes bit cone many accepts =
    let few = accepts.line_holds.holds.few in
    let long = sources_long c nodes cone in
    absurd (omega (arith, few, long, many))

-- and no more don't leave a place undecided.
pub few_refuse : (c : Contents) (nodes : List Node) (log : List (List ℤ)) → IsNextCone c nodes
    → length (sources_of nodes) ≤ c.limits.enumerated
    → AcceptsLine c (next_line c (Undecided log)) → ⊥
few_refuse c nodes log cone few accepts =
    let many = accepts.line_holds.holds.many in
    let long = sources_long c nodes cone in
    absurd (omega (arith, few, long, many))

-- The bit isn't the one that the query denies,
pub base_refuses : (c : Contents) (nodes : List Node) (bit : Bool) (log : List (List ℤ)) → IsNextCone c nodes
    → root_bit nothing nodes ≢ bit → AcceptsLine c (next_line c (Refuted bit log)) → ⊥
base_refuses c nodes bit log cone differ accepts =
    differ (base_law c (next_number c) nodes cone ∙ accepts.line_holds.holds.denied)

-- a log names another variable,
vars_next : (c : Contents) (nodes : List Node) (cnf : Cnf) → IsNextCone c nodes → IsQueryOfNodes nodes cnf
    → cnf.vars ≡ variables_next c
vars_next c nodes cnf cone query = (query c (next_number c) cone).vars

pub log_fits : (c : Contents) (nodes : List Node) (cnf : Cnf) (log : List (List ℤ)) → IsNextCone c nodes
    → IsQueryOfNodes nodes cnf → Fit cnf.vars log → All HasNoZero log → LogFits c log
log_fits c nodes cnf log cone query fit no_zero =
    record { fit = subst (λ v. Fit v log) (vars_next c nodes cnf cone query) fit; no_zero = no_zero }

log_misfits : (c : Contents) (nodes : List Node) (cnf : Cnf) (log : List (List ℤ)) → IsNextCone c nodes
    → IsQueryOfNodes nodes cnf → (Fit cnf.vars log → ⊥) → LogFits c log → ⊥
log_misfits c nodes cnf log cone query misfit fits = misfit (subst (λ v. Fit v log) (sym (vars_next c nodes cnf cone query)) fits.fit)

pub refuted_misfits : (c : Contents) (nodes : List Node) (cnf : Cnf) (bit : Bool) (log : List (List ℤ)) → IsNextCone c nodes
    → IsQueryOfNodes nodes cnf → (Fit cnf.vars log → ⊥) → AcceptsLine c (next_line c (Refuted bit log)) → ⊥
refuted_misfits c nodes cnf bit log cone query misfit accepts = log_misfits c nodes cnf log cone query misfit accepts.fits

pub undecided_misfits : (c : Contents) (nodes : List Node) (cnf : Cnf) (log : List (List ℤ)) → IsNextCone c nodes
    → IsQueryOfNodes nodes cnf → (Fit cnf.vars log → ⊥) → AcceptsLine c (next_line c (Undecided log)) → ⊥
undecided_misfits c nodes cnf log cone query misfit accepts = log_misfits c nodes cnf log cone query misfit accepts.fits

-- or it doesn't refute the query, whichever list that is.
pub log_refuses : (c : Contents) (nodes : List Node) (cnf : Cnf) (bit : Bool) (log : List (List ℤ)) → IsNextCone c nodes
    → IsQueryOfNodes nodes cnf → (Refutes cnf.clauses log → ⊥) → AcceptsLine c (next_line c (Refuted bit log)) → ⊥
log_refuses c nodes cnf bit log cone query not accepts =
    let holds = accepts.line_holds.holds in
    not (refutes_more holds.query.clauses cnf.clauses log
    (same_clauses (job c) (certain c.written) (next_number c) holds.query cnf holds.is_query (query c (next_number c) cone))
    holds.refutes)

-- Fillings that give 1, or 0 twice, are no pair.
pub one_refuses : (c : Contents) (zero one : List Place) → next_bit c zero ≡ true → AcceptsLine c (next_line c (Pair zero one)) → ⊥
one_refuses c zero one is accepts = let gives = accepts.line_holds.holds.gives_zero in absurd cc

pub zero_refuses : (c : Contents) (zero one : List Place) → next_bit c one ≡ false → AcceptsLine c (next_line c (Pair zero one)) → ⊥
zero_refuses c zero one is accepts = let gives = accepts.line_holds.holds.gives_one in absurd cc

pub zero_unfilled : (c : Contents) (zero one : List Place) → (IsFilling (job c) zero → ⊥)
    → AcceptsLine c (next_line c (Pair zero one)) → ⊥
zero_unfilled c zero one none accepts = none accepts.line_holds.holds.zero_filling

pub one_unfilled : (c : Contents) (zero one : List Place) → (IsFilling (job c) one → ⊥)
    → AcceptsLine c (next_line c (Pair zero one)) → ⊥
one_unfilled c zero one none accepts = none accepts.line_holds.holds.one_filling

-- A log that isn't fresh for the query isn't for any other list of its clauses.
pub stale_refuses : (c : Contents) (nodes : List Node) (cnf : Cnf) (log : List (List ℤ)) → IsNextCone c nodes
    → IsQueryOfNodes nodes cnf → (AreFresh cnf.clauses log × (length log ≡ c.limits.conflicts) → ⊥)
    → AcceptsLine c (next_line c (Undecided log)) → ⊥
stale_refuses c nodes cnf log cone query not accepts =
    let holds = accepts.line_holds.holds in
    let own = query c (next_number c) cone in
    let there = same_clauses (job c) (certain c.written) (next_number c) holds.query cnf holds.is_query own in
    let back = same_clauses (job c) (certain c.written) (next_number c) cnf holds.query own holds.is_query in
    not (fresh_same holds.query.clauses cnf.clauses log there back holds.fresh, holds.long)

-- Fillings that aren't both fillings are no pair.
pub unfilled : (c : Contents) (zero one : List Place) (tested : Bool) → (IsFilling (job c) zero × IsFilling (job c) one → tested ≡ true)
    → tested ≡ false → AcceptsLine c (next_line c (Pair zero one)) → ⊥
unfilled c zero one tested both fails accepts =
    let yes = both (accepts.line_holds.holds.zero_filling, accepts.line_holds.holds.one_filling) in absurd cc

-- What a verdict is worth whose body is this.
line_is : (p q : Place) (a b : Body) → p ≡ q → a ≡ b → line p a ≡ line q b
line_is p q a b places bodies = ap (λ x. line x a) places ∙ ap (λ x. line q x) bodies

pub verdict_made : (c : Contents) (made : ALine) (body : Body) → LineHolds c made → made.body ≡ body → BodyFits c body
    → IsVerdictOf c body made
verdict_made c made body holds is fits = record {
  is = line_is made.place (place_at (job c) (next_number c)) made.body body holds.place_is is;
  accepts = record { line_holds = holds; fits = subst (BodyFits c) (sym is) fits };
}

-- A body without a log that holds is accepted.
pub bare_fits : (c : Contents) (body : Body) → HoldsBare c body → BodyFits c body
bare_fits c (Enumerated bit) bare = tt
bare_fits c (Refuted bit log) bare = absurd bare.no_log
bare_fits c (Pair zero one) bare = tt
bare_fits c (Undecided log) bare = absurd bare.no_log

-- A place is found otherwise, or there is no memory.
pub write_stops : (c : Contents) (spent : ALine) (number : ℕ) (err : AdvanceErr) → IsLineNext c → AcceptsLine c spent
    → (Objects {A = Contents} (Err err) → LineContradicts c spent) → IfObjects (Reports c (written_by_line c spent)) err
    → Stops c number spent (stopped_by err)
write_stops c spent number (stopped.Optimistic objection) next accepts contradicts reports =
    faults (λ rest. line_objects spent rest objection next accepts (contradicts tt) reports)
write_stops c spent number stopped.Memory next accepts contradicts reports = no_memory

pub no_truth : false ≡ true → ⊥
no_truth is = absurd cc

-- What a verdict that is spent leaves, for a line that names the next place,
named_line : (c : Contents) (named : ALine) → NamesNext c named → next_line c named.body ≡ named
named_line c named names = ap (λ (p : Place). line p named.body) (sym names)

pub spent_named : (c : Contents) (named made : ALine) (result : Result Contents CheckErr) → NamesNext c named
    → IsVerdictOf c named.body made → IfOk result (IsSpent c made) → IfOk result (IsSpent c named)
spent_named c named made result names verdict done =
    subst (λ (l : ALine). IfOk result (IsSpent c l)) (verdict.is ∙ named_line c named names) done

pub stops_named : (c : Contents) (number : ℕ) (named made : ALine) (result : Result Contents CheckErr) → NamesNext c named
    → IsVerdictOf c named.body made → IfErr result (Stops c number made) → IfErr result (Stops c number named)
stops_named c number named made result names verdict stops =
    subst (λ (l : ALine). IfErr result (Stops c number l)) (verdict.is ∙ named_line c named names) stops

-- and a body that isn't accepted, with the fault of its kind.
pub refused_named : (c : Contents) (number : ℕ) (named : ALine) (fault : CertFault) → IsLineNext c → NamesNext c named
    → RefusesBody c named.body → fault ≡ body_fault number named.body → Stops c number named (Refused fault)
refused_named c number named fault next names refuses is = faults (λ rest.
    subst (λ (f : CertFault). IsCertFault c number (Line named ∷ rest) (Refused f)) (sym is)
    (refused named rest next names
    (λ accepts. refuses (subst (AcceptsLine c) (sym (named_line c named names)) accepts))))
