-- A certificate that is accepted has no fault but want of memory, and gives the waveform that its lines yield.
use Rattle.std.proofs.Common.{◌≡◌, ⊎_elim, ℕ, ◌+◌, ◌<◌, Some, None, List, [], ◌∷◌, ◌++◌, append-nil, append_assoc, length, length-append, refl, sym, subst, ap, ◌∙◌, arith}
use Rattle.std.specs.Prelude.{IfErr, IfOk, MatchResult, Result, Ok, Err}
use Rattle.std.proofs.lemmas.Bool.{cases_eq}
use Rattle.std.proofs.lemmas.List.{nil_from_length}
use Rattle.design_circuit.proofs.Numbers.{number_of_place_at}
use Rattle.design_circuit.proofs.Rules.{AgreeBelow}
use Rattle.design_circuit.specs.declared.place.Place.{Place}
use Rattle.design_circuit.specs.declared.waveform.Written.{Written}
use Rattle.design_circuit.specs.Fits.{place_at}
use Rattle.design_circuit.specs.Job.{number_of, places_of}
use Rattle.design_circuit.specs.Waveform.{certain, certain_by, written_at}
use Rattle.law_model.proofs.ConesBefore.{variables_local}
use Rattle.law_model.proofs.FactsBefore.{certain_grown, written_last}
use Rattle.law_model.proofs.Uniqueness.{yields_one}
use Rattle.law_model.specs.Query.{variables}
use Rattle.law_model.specs.Sound.{IsHonest, IsOptimistic}
use Rattle.law_model.specs.Stated.{body_at}
use Rattle.law_model.specs.Yields.{Yields, places_of_lines, written_by}
use Rattle.law_model.specs.declared.class.Class.TheVariants as seen
use Rattle.law_model.specs.declared.line.Body.{Body}
use Rattle.law_model.specs.declared.line.Body.TheVariants.{Enumerated, Refuted, Pair, Undecided}
use Rattle.law_model.specs.declared.line.Line.{Line as ALine}
use Rattle.wave_proved.specs.Advance.{Contradicts, IsPlain, plain_written}
use Rattle.wave_proved.specs.Contents.{Contents, IsWave, job, next_number, next_seen, shown_in}
use Rattle.wave_proved.specs.Token.{IsLineNext, LineContradicts, with_line, written_by_line}
use Rattle.cert_writer.specs.declared.cert.Cert.{Cert as ACert}
use Rattle.cert_writer.specs.declared.cert.Entry.{Entry}
use Rattle.cert_writer.specs.declared.cert.Entry.TheVariants.{Line}
use Rattle.cert_writer.specs.declared.cert.Form.{Form}
use Rattle.cert_writer.specs.declared.cert.Form.TheVariants.{Turns}
use Rattle.law_along.proofs.Fitted.{next_plain_is}
use Rattle.law_along.specs.Accepted.{AcceptsLine, BodyFits, IsLater, NamesNext, NamesVariables}
use Rattle.law_along.specs.Along.{BodyFitsAt, GoesAlong, by_class, by_line}
use Rattle.law_along.specs.Along as walk
use Rattle.cert_check.specs.Checked.{IsAccepted, IsChecked, IsRefusalOf, line as at_line, number}
use Rattle.cert_check.specs.Entries.{AreTurned, EachHasTurns, lines_in, turns_in_front}
use Rattle.cert_check.specs.Laws.{IsReason}
use Rattle.cert_check.specs.Walk.{IsCertFault, IsFirstCertFault, IsUpTo, astray, beyond, class_objects, later, line, line_objects, no_line, no_memory, refused, turn, turn_astray, with_turns}
use Rattle.cert_check.specs.declared.check.Checked.{Checked}
use Rattle.cert_check.specs.declared.refusal.CheckErr.{CheckErr}
use Rattle.cert_check.specs.declared.refusal.CheckErr.TheVariants.{Memory}
use Rattle.cert_check.proofs.Accepting.{agree_there, left_body, left_done, left_holds, left_line, next_is}
use Rattle.cert_check.proofs.Going.{all_done, next_line_is}
use Rattle.cert_check.proofs.OneFault.{not_behind}
use Rattle.cert_check.proofs.OwnEntries.{turned_lines}
use Rattle.cert_check.proofs.TurnCounts.{each_behind_all, each_long, lines_append, span_append, span_of, span_there}
use Rattle.cert_check.proofs.Ways.{lines_below, up_lines, up_long}

fits_next : (c : Contents) (v : List Written) (body : Body)
    → variables (job c) (certain v) (next_number c) ≡ variables (job c) (certain c.written) (next_number c)
    → BodyFitsAt c v (next_number c) body → BodyFits c body
fits_next c v (Enumerated bit) same fits = fits
fits_next c v (Refuted bit log) same fits = subst (λ (vs : List ℕ). NamesVariables (length vs) log) same fits
fits_next c v (Pair zero one) same fits = fits
fits_next c v (Undecided log) same fits = subst (λ (vs : List ℕ). NamesVariables (length vs) log) same fits

-- Lines that are left, with the waveform that they and those of the wave yield.
pub record IsYielded (c : Contents) (rest : List ALine) (v : List Written) : Type 0 where
  pub long : length v ≡ places_of (job c)
  pub yields : Yields (job c) c.limits (shown_in c) v (c.lines ++ rest)
  pub honest : IsHonest (shown_in c) v
  pub logs : (place : ℕ) (body : Body) → place < length v → body_at (job c) (c.lines ++ rest) place ≡ Some body
      → BodyFitsAt c v place body

no_more : (p : Place) (ps : List Place) → [] ≡ p ∷ ps → ⊥
no_more p ps is = absurd cc

first_place : (p q : Place) (ps qs : List Place) → p ∷ ps ≡ q ∷ qs → p ≡ q
first_place p q ps qs is = cc

names_first : (c : Contents) (l : ALine) (rest : List ALine) (v : List Written) → IsWave c → IsYielded c (l ∷ rest) v
    → IsLineNext c
    → NamesNext c l
names_first c l rest v wave y next =
    let is = next_line_is c next in
    let left = left_line c wave (l ∷ rest) v y.long y.yields is.0 is.1 in
    first_place l.place (place_at (job c) (next_number c)) (places_of_lines rest) left.0 left.1

-- Every fault but want of memory is absurd.
plain_faultless : (c : Contents) (rest : List ALine) (v : List Written) → IsWave c → IsYielded c rest v
    → IsPlain (next_seen c)
    → Contradicts c (plain_written c) → ⊥
plain_faultless c rest v wave y plain contradicts =
    let is = next_plain_is c plain in
    let same = next_is c wave rest v y.long y.yields is.0 None (λ line_is. absurd (is.1 line_is)) in
    let within = is.0 in
    y.honest (next_number c) (omega (arith, within, y.long))
    (subst (λ (w : Written). IsOptimistic w.mark w.value (shown_in c (next_number c))) same contradicts)

missing_faultless : (c : Contents) (v : List Written) → IsWave c → IsYielded c [] v → IsLineNext c → ⊥
missing_faultless c v wave y next =
    let is = next_line_is c next in
    let left = left_line c wave [] v y.long y.yields is.0 is.1 in
    no_more (place_at (job c) (next_number c)) left.0 left.1

later_faultless : (c : Contents) (l : ALine) (rest : List ALine) (v : List Written) → IsWave c
    → IsYielded c (l ∷ rest) v → IsLineNext c
    → IsLater c l → ⊥
later_faultless c l rest v wave y next is_later =
    let is = next_line_is c next in
    let fits = wave.fits.fits_job in
    let number_is = ap (number_of (job c)) (names_first c l rest v wave y next) ∙ number_of_place_at (job c)
    (next_number c) fits.ordering fits.all is.0 in
    let more = is_later.later in
    absurd (omega (arith, more, number_is))

beyond_faultless : (c : Contents) (l : ALine) (rest : List ALine) (v : List Written) → IsWave c
    → IsYielded c (l ∷ rest) v
    → next_seen c ≡ seen.Done → ⊥
beyond_faultless c l rest v wave y done =
    no_more l.place (places_of_lines rest) (sym (left_done c wave (l ∷ rest) v y.long y.yields (all_done c done)))

accepts_first : (c : Contents) (l : ALine) (rest : List ALine) (v : List Written) → IsWave c → IsYielded c (l ∷ rest) v
    → IsLineNext c
    → NamesNext c l → AcceptsLine c l
accepts_first c l rest v wave y next names =
    let is = next_line_is c next in
    let within = is.0 in
    let low : next_number c < length v = omega (arith, within, y.long) in
    let body = left_body c wave (l ∷ rest) v y.long y.yields l rest refl is.0 names in
    record {
      line_holds = record {
        within = is.0;
        place_is = names;
        holds = left_holds c wave (l ∷ rest) v y.long y.yields l.body is.0 (y.yields.bodies
            (next_number c) l.body low body);
      };
      fits = fits_next c v l.body
          (sym (variables_local (job c) wave.fits.fits_job (certain c.written) (certain v) (next_number c) is.0
          (agree_there c wave (l ∷ rest) v y.long y.yields)))
          (y.logs (next_number c) l.body low body);
    }

-- What its line writes at the next place is what stands there.
written_there : (c : Contents) (l : ALine) (rest : List ALine) (v : List Written) → IsWave c → IsYielded c (l ∷ rest) v
    → IsLineNext c → AcceptsLine c l → written_by_line c l ≡ written_at v (next_number c)
written_there c l rest v wave y next accepts =
    let is = next_line_is c next in
    let body = left_body c wave (l ∷ rest) v y.long y.yields l rest refl is.0 accepts.line_holds.place_is in
    sym (ap (λ class. written_by (written_at c.written) class (Some l.body) (shown_in c (next_number c))) is.1)
    ∙ next_is c wave (l ∷ rest) v y.long y.yields is.0 (Some l.body) (λ _. sym body)

line_faultless : (c : Contents) (l : ALine) (rest : List ALine) (v : List Written) → IsWave c → IsYielded c (l ∷ rest) v
    → IsLineNext c
    → AcceptsLine c l → LineContradicts c l → ⊥
line_faultless c l rest v wave y next accepts contradicts =
    let within = (next_line_is c next).0 in
    y.honest (next_number c) (omega (arith, within, y.long))
    (subst (λ (w : Written). IsOptimistic w.mark w.value (shown_in c (next_number c)))
    (written_there c l rest v wave y next accepts) contradicts)

faultless : (c : Contents) (v : List Written) → IsWave c → (n : ℕ) (rest : List Entry) (e : CheckErr)
    → IsCertFault c n rest e
    → turns_in_front rest ≡ [] → IsYielded c (lines_in rest) v → ⊥
faultless c v wave n rest e (class_objects same objection plain contradicts is) front y =
    plain_faultless c (lines_in rest) v wave y plain contradicts
faultless c v wave n rest e (no_line next) front y = missing_faultless c v wave y next
faultless c v wave n rest e (later l others next is) front y = later_faultless c l (lines_in others) v wave y next is
faultless c v wave n rest e (astray l others next not_named not_later) front y =
    not_named (names_first c l (lines_in others) v wave y next)
faultless c v wave n rest e (beyond l others done) front y = beyond_faultless c l (lines_in others) v wave y done
faultless c v wave n rest e (turn_astray t others stops) front y = absurd cc
faultless c v wave n rest e (refused l others next names refuses) front y =
    refuses (accepts_first c l (lines_in others) v wave y next names)
faultless c v wave n rest e (line_objects l others objection next accepts contradicts is) front y =
    line_faultless c l (lines_in others) v wave y next accepts contradicts

-- A wave that went along has the job of its start.
pub begun_same : {a b : Contents} → GoesAlong a b → record b { written = a.written; lines = a.lines } ≡ a
begun_same walk.stays = refl
begun_same (by_class goes plain agrees) = begun_same goes
begun_same (by_line goes l next accepts agrees) = begun_same goes

-- What an accepted certificate is from there.
record IsAcceptedFrom (c : Contents) (cert : ACert) (v : List Written) (rest : List ALine) : Type 0 where
  yielded : IsYielded c rest v
  turned : AreTurned cert.form (job c) c.limits.conflicts v cert.entries

accepted_there : (a b : Contents) (cert : ACert) (v : List Written) (rest : List ALine) → GoesAlong a b
    → IsAccepted a cert v
    → lines_in cert.entries ≡ b.lines ++ rest → IsAcceptedFrom b cert v rest
accepted_there a b cert v rest goes accepted are =
    let moved : IsAccepted (record b { written = a.written; lines = a.lines }) cert v =
    subst (λ (d : Contents). IsAccepted d cert v) (sym (begun_same goes)) accepted in
    record {
      yielded = record {
        long = moved.long;
        yields = subst (λ (ls : List ALine). Yields (job b) b.limits (shown_in b) v ls) are moved.yields;
        honest = moved.honest;
        logs = subst (λ (ls : List ALine). (place : ℕ) (body : Body) → place < length v
            → body_at (job b) ls place ≡ Some body
            → BodyFitsAt b v place body) are moved.logs;
      };
      turned = moved.turned;
    }

-- Lines of a text, from a wave that came along the first of them.
left_lines : (start : Contents) (form : Form) (entries : List Entry) (c : Contents) (done rest : List Entry)
    → start.lines ≡ []
    → entries ≡ done ++ rest → IsUpTo form start done c → lines_in entries ≡ c.lines ++ lines_in rest
left_lines start form entries c done rest none parted up =
    ap lines_in parted
    ∙ (lines_append done rest ∙ ap (λ ls. ls ++ lines_in rest) (sym (up_lines form start done c none up)))

-- No turn is in front of those that are left.
none_left : (start : Contents) (cert : ACert) (v : List Written) (c : Contents) (done rest : List Entry)
    → start.lines ≡ []
    → cert.entries ≡ done ++ rest → IsUpTo cert.form start done c → IsAcceptedFrom c cert v (lines_in rest)
    → turns_in_front rest ≡ []
none_left start cert v c done rest none parted up accepted =
    let j = job c in
    let y = accepted.yielded in
    let agree = agree_there c up.wave (lines_in rest) v y.long y.yields in
    let each = accepted.turned.each in
    let all = each_long cert.form j c.limits.conflicts v cert.entries each in
    let front = ap length accepted.turned.none_in_front in
    let lines = ap (span_of cert.form j v) (left_lines start cert.form cert.entries c done rest none parted up)
    ∙ span_append cert.form j v c.lines (lines_in rest) in
    let long_done = up_long cert.form start done c none up in
    let same = span_there j up.wave.fits.fits_job c.written v (length c.written) up.wave.holds.yields.within agree
    cert.form c.lines
    (lines_below c up.wave) in
    let long_rest = each_long cert.form j c.limits.conflicts v rest
    (each_behind_all cert.form j c.limits.conflicts v done rest (subst (EachHasTurns cert.form j c.limits.conflicts v) parted each)) in
    let long = ap length parted ∙ length-append done rest in
    nil_from_length (turns_in_front rest) (omega (arith, all, front, lines, long_done, same, long_rest, long))

-- A waveform agrees up to the next place where its line is accepted.
agree_line : (c : Contents) (l : ALine) (rest : List ALine) (v : List Written) → IsWave c → IsYielded c (l ∷ rest) v
    → IsLineNext c
    → AcceptsLine c l → AgreeBelow (certain (with_line c l).written) (certain v) (next_number c + 1)
unfolding certain
agree_line c l rest v wave y next accepts k less =
    let w = written_by_line c l in
    ⊎_elim
    (λ (same : k ≡ next_number c). subst (λ n. certain (c.written ++ w ∷ []) n ≡ certain v n) (sym same)
    (ap (λ (x : Written). certain_by x.mark x.value)
    (written_last c.written w ∙ written_there c l rest v wave y next accepts)))
    (λ differ. (let low : k < next_number c = omega (arith, less, differ) in
    sym (certain_grown c.written w k low) ∙ agree_there c wave (l ∷ rest) v y.long y.yields k low))
    (cases_eq k (next_number c))

-- So no fault comes but want of memory.
turned_faultless : (start : Contents) (cert : ACert) (v : List Written) (c : Contents) (done : List Entry) (l : ALine)
    (others : List Entry) → start.lines ≡ [] → IsAccepted start cert v → cert.entries ≡ done ++ Line l ∷ others
    → IsUpTo cert.form start done c → IsAcceptedFrom c cert v (l ∷ lines_in others)
turned_faultless start cert v c done l others none accepted parted up =
    accepted_there start c cert v (l ∷ lines_in others) up.goes accepted
    (left_lines start cert.form cert.entries c done (Line l ∷ others) none parted up)

first_memory : (start : Contents) (cert : ACert) (v : List Written) (e : CheckErr) → start.lines ≡ []
    → IsAccepted start cert v
    → IsFirstCertFault cert.form start cert.entries e → e ≡ Memory
first_memory start cert v e none accepted (line c done rest same parted up fault) =
    let from = accepted_there start c cert v (lines_in rest) up.goes accepted
    (left_lines start cert.form cert.entries c done rest none parted up) in
    absurd (faultless c v up.wave _ rest e fault (none_left start cert v c done rest none parted up from) from.yielded)
first_memory start cert v e none accepted (turn c done l stated rest is_form parted up next accepts agrees gives lacks)
    =
    let others : List Entry = turned_lines stated ++ rest in
    let parts : cert.entries ≡ done ++ Line l ∷ others = parted ∙ append_assoc done (with_turns l stated) rest in
    let from = turned_faultless start cert v c done l others none accepted parts up in
    let each : EachHasTurns Turns (job c) c.limits.conflicts v (Line l ∷ others) =
    subst (λ f. EachHasTurns f (job c) c.limits.conflicts v (Line l ∷ others)) is_form
    (each_behind_all cert.form (job c) c.limits.conflicts v done (Line l ∷ others)
    (subst (EachHasTurns cert.form (job c) c.limits.conflicts v) parts from.turned.each)) in
    absurd (not_behind c l stated rest others [] (job c) c.limits.conflicts v up.wave accepts gives lacks refl refl
    (agree_line c l (lines_in others) v up.wave from.yielded next accepts) each.0 (sym (append-nil others)))
first_memory start cert v e none accepted no_memory = refl

-- The answer to an accepted certificate is its waveform, or there is no memory.
refused_memory : (start : Contents) (cert : ACert) (v : List Written) (e : CheckErr) → start.lines ≡ []
    → IsAccepted start cert v
    → IsRefusalOf start cert e → e ≡ Memory
refused_memory start cert v e empty accepted (number other) = absurd (other accepted.numbers)
refused_memory start cert v e empty accepted (at_line numbers fault) = first_memory start cert v e empty accepted fault

pub accepted_unrefused : (start : Contents) (cert : ACert) (v : List Written) (e : CheckErr) → start.lines ≡ []
    → IsAccepted start cert v
    → IsRefusalOf start cert e → IsReason e → ⊥
accepted_unrefused start cert v e empty accepted refusal reason =
    reason (refused_memory start cert v e empty accepted refusal)

checked_waveform : (start : Contents) (cert : ACert) (v : List Written) (checked : Checked) → IsAccepted start cert v
    → IsChecked start cert checked.wave checked.conditions → checked.wave.written ≡ v
checked_waveform start cert v found accepted checked =
    let c = found.wave in
    let y = (accepted_there start c cert v [] checked.goes accepted (sym checked.lines
    ∙ sym (append-nil c.lines))).yielded in
    let all = checked.finished in
    yields_one (job c) c.limits checked.wave.fits.fits_job (shown_in c) c.written v c.lines (all
    ∙ sym y.long) (omega (arith, all))
    checked.wave.holds.yields (subst (λ (ls : List ALine). Yields (job c) c.limits (shown_in c) v ls)
    (append-nil c.lines) y.yields)

pub accepts_all : (start : Contents) (cert : ACert) (v : List Written) (result : Result Checked CheckErr)
    → start.lines ≡ []
    → IsAccepted start cert v → IfOk result (λ checked. IsChecked start cert checked.wave checked.conditions)
    → IfErr result (IsRefusalOf start cert) → MatchResult result (λ checked. checked.wave.written ≡ v) (λ e. e ≡ Memory)
accepts_all start cert v (Ok found) empty accepted checked refusal = checked_waveform start cert v found accepted
    checked
accepts_all start cert v (Err e) empty accepted checked refusal = refused_memory start cert v e empty accepted refusal
