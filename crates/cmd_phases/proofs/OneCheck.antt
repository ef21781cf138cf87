-- A certificate's text stands for one certificate or has one first wrong line, and a check comes to one thing.
use Rattle.std.proofs.Common.{◌≡◌, ◌∙◌, ℕ, ◌+◌, List, [], ◌∷◌, ◌++◌, length, Ok, Err, None, refl, sym, ap, subst, arith}
use Rattle.std.proofs.lemmas.List.{append_assoc}
use Rattle.cert_check.specs.Checked.{IsAccepted, IsChecked, IsRefusalOf}
use Rattle.cert_check.specs.declared.refusal.CertFault.{CertFault}
use Rattle.cert_check.specs.declared.refusal.CertFault.TheVariants.{Syntax}
use Rattle.cert_check.specs.declared.refusal.CheckErr.{CheckErr}
use Rattle.cert_check.specs.declared.refusal.CheckErr.TheVariants.{Memory, Optimistic as Objects, Refused as IsRefused}
use Rattle.cert_check.specs.Entries.{lines_in as line_places}
use Rattle.cert_check.specs.Laws.{IsReason, IsSameFault, IsSameObjection}
use Rattle.cert_check.proofs.Faultless.{accepted_unrefused, begun_same}
use Rattle.cert_check.proofs.Fitted.{checked_accepted}
use Rattle.cert_check.proofs.OneFault.{no_fault, one_fault}
use Rattle.cert_check.proofs.OneText.{one_text}
use Rattle.cert_reader.proofs.PlainLaws.{cert_lines_back}
use Rattle.cert_writer.specs.declared.cert.Cert.{Cert}
use Rattle.cert_writer.specs.declared.cert.Form.TheVariants.{Lines, Turns}
use Rattle.cert_writer.specs.Pieces.{lines_in}
use Rattle.cert_writer.specs.Text.{cert_lines}
use Rattle.cert_writer.specs.Wrong.{AreViable, IsFirstWrong, IsTextOf, IsWrongAfter}
use Rattle.cert_check.specs.View.{ConditionView}
use Rattle.design_circuit.specs.Fits.{Fits}
use Rattle.design_circuit.specs.Handed.{IsReplay}
use Rattle.design_circuit.specs.History.{HistoryView}
use Rattle.design_circuit.specs.declared.waveform.Written.{Written}
use Rattle.cmd_job.specs.Compared.{job_for}
use Rattle.report_listing.specs.Conditions.{conditions_text}
use Rattle.law_model.proofs.Uniqueness.{yields_one}
use Rattle.law_model.specs.declared.limits.Limits.{Limits}
use Rattle.wave_proved.specs.Contents.{Contents, job, shown_in}
use Rattle.base_run.specs.Phases.{IsOne}
use Rattle.cmd_phases.specs.Certificate.{CertificateComes, CheckComes, CheckShows, FormComes, IsCauseOf, IsUncertified, uncertified_by}
use Rattle.cmd_phases.specs.Repair.{beginning, objection_of}
use Rattle.cmd_phases.specs.declared.cause.Refused.{Refused}
use Rattle.cmd_phases.specs.declared.cause.Refused.TheVariants.{Certificate, Optimistic}
use Rattle.cmd_phases.specs.declared.cause.Uncertified.TheVariants.{Line}
use Rattle.cmd_phases.specs.declared.parts.Parts.{Parts}
use Rattle.cmd_phases.proofs.Jobs.{fits_job}
use Rattle.cmd_phases.proofs.ListedOnce.{listed_once}
use Rattle.cmd_phases.proofs.OneHistory.{one_history}

-- ---- one list split at two entries

-- The entries stand at one position; or the second one after the first; or before it.
data Splits {X : Type 0} (xs ys : List X) (p q : X) (r s : List X) : Type 0 where
  at_one : xs ≡ ys → p ≡ q → r ≡ s → Splits xs ys p q r s
  later : (more : List X) → ys ≡ xs ++ p ∷ more → r ≡ more ++ q ∷ s → Splits xs ys p q r s
  earlier : (more : List X) → xs ≡ ys ++ q ∷ more → s ≡ more ++ p ∷ r → Splits xs ys p q r s

head_same : {X : Type 0} (a b : X) (xs ys : List X) → a ∷ xs ≡ b ∷ ys → a ≡ b
head_same a b xs ys same = cc

tail_same : {X : Type 0} (a b : X) (xs ys : List X) → a ∷ xs ≡ b ∷ ys → xs ≡ ys
tail_same a b xs ys same = cc

cons_same : {X : Type 0} (a b : X) (xs ys : List X) → a ≡ b → xs ≡ ys → a ∷ xs ≡ b ∷ ys
cons_same a b xs ys head tail = λ t. head t ∷ tail t

more_split : {X : Type 0} (a b : X) (xs ys : List X) (p q : X) (r s : List X) → a ≡ b → Splits xs ys p q r s → Splits (a ∷ xs) (b ∷ ys) p q r s
more_split a b xs ys p q r s same (at_one here pq rs) = at_one (cons_same a b xs ys same here) pq rs
more_split a b xs ys p q r s same (later more is rest) = later more (cons_same b a ys (xs ++ p ∷ more) (sym same) is) rest
more_split a b xs ys p q r s same (earlier more is rest) = earlier more (cons_same a b xs (ys ++ q ∷ more) same is) rest

splits : {X : Type 0} (xs ys : List X) (p q : X) (r s : List X) → xs ++ p ∷ r ≡ ys ++ q ∷ s → Splits xs ys p q r s
splits [] [] p q r s same = at_one refl (head_same p q r s same) (tail_same p q r s same)
splits [] (y ∷ ys) p q r s same =
    later ys (ap (λ (x : _). x ∷ ys) (sym (head_same p y r (ys ++ q ∷ s) same))) (tail_same p y r (ys ++ q ∷ s) same)
splits (x ∷ xs) [] p q r s same =
    earlier xs (ap (λ (a : _). a ∷ xs) (head_same x q (xs ++ p ∷ r) s same)) (sym (tail_same x q (xs ++ p ∷ r) s same))
splits (x ∷ xs) (y ∷ ys) p q r s same =
    more_split x y xs ys p q r s (head_same x y (xs ++ p ∷ r) (ys ++ q ∷ s) same)
    (splits xs ys p q r s (tail_same x y (xs ++ p ∷ r) (ys ++ q ∷ s) same))

-- ---- the text of a certificate

-- Lines with which a certificate begins are so also in front of others.
front_viable : (front more : List (List ℕ)) (piece : List ℕ) → AreViable (front ++ piece ∷ more) → AreViable (front ++ piece ∷ [])
front_viable front more piece viable = record {
  cert = viable.cert;
  more = more ++ viable.more;
  fits = viable.fits;
  begins = viable.begins ∙ append_assoc front (piece ∷ more) viable.more ∙ sym (append_assoc front (piece ∷ []) (more ++ viable.more));
}

-- So the line after them isn't wrong, where a newline stands after it.
not_wrong : (text : List ℕ) (front more : List (List ℕ)) (piece : List ℕ) (rest before : List (List ℕ)) (last : List ℕ) (after : List (List ℕ))
    → AreViable (front ++ piece ∷ more) → rest ≡ before ++ last ∷ after → IsWrongAfter text front piece rest → ⊥
not_wrong text front more piece [] [] last after viable is wrong = absurd (let bad : [] ≡ last ∷ after = is in cc)
not_wrong text front more piece [] (b ∷ bs) last after viable is wrong = absurd (let bad : [] ≡ b ∷ (bs ++ last ∷ after) = is in cc)
not_wrong text front more piece (next ∷ rest) before last after viable is wrong = wrong (front_viable front more piece viable)

one_wrong : (text : List ℕ) (a b : ℕ) → IsFirstWrong text a → IsFirstWrong text b → a ≡ b
one_wrong text a b first second = go (splits first.front second.front first.piece second.piece first.rest second.rest (sym first.split ∙ second.split))
  where
    go : Splits first.front second.front first.piece second.piece first.rest second.rest → a ≡ b
    go (at_one here pq rs) = first.number ∙ ap (λ (f : List (List ℕ)). length f + 1) here ∙ sym second.number
    go (later more is rest) =
        absurd (not_wrong text first.front more first.piece first.rest more second.piece second.rest (subst AreViable is second.viable) rest first.wrong)
    go (earlier more is rest) =
        absurd (not_wrong text second.front more second.piece second.rest more first.piece first.rest (subst AreViable is first.viable) rest second.wrong)

nothing_after : {X : Type 0} (more : List X) (p : X) (r : List X) → [] ≡ more ++ p ∷ r → ⊥
nothing_after [] p r same = absurd cc
nothing_after (m ∷ more) p r same = absurd cc

pub stands_unwrong : (text : List ℕ) (cert : Cert) (line : ℕ) → IsTextOf text cert → IsFirstWrong text line → ⊥
stands_unwrong text cert line stands first =
    go (splits first.front (cert_lines cert) first.piece [] first.rest [] (sym first.split ∙ (ap lines_in stands.written ∙ cert_lines_back cert stands.fits)))
  where
    at_last : (rest : List (List ℕ)) → rest ≡ [] → IsWrongAfter text first.front first.piece rest → ⊥
    at_last [] is wrong = wrong cert stands
    at_last (next ∷ rest) is wrong = absurd (let bad : next ∷ rest ≡ [] = is in cc)

    go : Splits first.front (cert_lines cert) first.piece [] first.rest [] → ⊥
    go (at_one here pq rs) = at_last first.rest rs first.wrong
    go (later more is rest) =
        not_wrong text first.front more first.piece first.rest more [] []
        (record { cert = cert; more = []; fits = stands.fits; begins = is ∙ sym (append_nothing (first.front ++ first.piece ∷ more)) })
        rest first.wrong
      where
        append_nothing : {X : Type 0} (xs : List X) → xs ++ [] ≡ xs
        append_nothing [] = refl
        append_nothing (x ∷ xs) = ap (λ (l : List _). x ∷ l) (append_nothing xs)
    go (earlier more is rest) = nothing_after more first.piece first.rest rest

pub one_certificate : (text : List ℕ) → IsOne (CertificateComes text)
one_certificate text (Ok a) (Ok b) first second = ap Ok (one_text text a b first second)
one_certificate text (Ok a) (Err f) first second = absurd (stands_unwrong text a second.at first second.first)
one_certificate text (Err e) (Ok b) first second = absurd (stands_unwrong text b first.at second first.first)
one_certificate text (Err e) (Err f) first second =
    ap Err (first.is ∙ ap (λ (at : ℕ). Line (Syntax at)) (one_wrong text first.at second.at first.first second.first) ∙ sym second.is)

-- ---- the check of one

-- A wave that went along has all but its lines and what is written of its start.
along_is : (start c : Contents) (cert : Cert) (conditions : List ConditionView) → IsChecked start cert c conditions
    → c ≡ record start { written = c.written; lines = c.lines }
along_is start c cert conditions checked = ap (λ (d : Contents). record d { written = c.written; lines = c.lines }) (begun_same checked.goes)

module _ (start : Contents) (cert : Cert) (empty : start.written ≡ []) (none : start.lines ≡ []) (fits : Fits (job start)) where
  same_written : (v w : List Written) → IsAccepted start cert v → IsAccepted start cert w → v ≡ w
  same_written v w first second =
      yields_one (job start) start.limits fits (shown_in start) v w (line_places cert.entries) (first.long ∙ sym second.long) (let long = first.long in omega (arith, long))
      first.yields second.yields

  same_waves : (a b : Contents) (vs ws : List ConditionView) → IsChecked start cert a vs → IsChecked start cert b ws → a ≡ b
  same_waves a b vs ws first second =
      let written =
      same_written a.written b.written (checked_accepted start cert a vs empty none first) (checked_accepted start cert b ws empty none second) in
      let lines = first.lines ∙ sym second.lines in
      along_is start a cert vs first
      ∙ (λ t. record start { written = written t; lines = lines t })
      ∙ sym (along_is start b cert ws second)

  -- The conditions that are checked with a wave have one text.
  same_listing : (a : Contents) (vs ws : List ConditionView) → IsChecked start cert a vs → IsChecked start cert a ws → conditions_text a vs ≡ conditions_text a ws
  same_listing a vs ws first second =
      listed_once cert.form a vs ws first.conditions_are second.conditions_are (sym first.stated ∙ second.stated)

  unrefused : (a : Contents) (vs : List ConditionView) (e : CheckErr) → IsChecked start cert a vs → IsRefusalOf start cert e → IsReason e → ⊥
  unrefused a vs e checked (IsRefusalOf.number differ) reason = differ checked.numbers
  unrefused a vs e checked (IsRefusalOf.line numbers fault) reason = no_fault start cert a vs e none checked fault reason

-- Two refusals of one certificate have one cause.
module _ (job : Parts) (start : Contents) (cert : Cert) (none : start.lines ≡ []) where
  same_cause : (e f : CheckErr) (one other : Refused) → IsSameFault e f → IsCauseOf job e one → IsCauseOf job f other → one ≡ other
  same_cause (IsRefused e) (IsRefused f) one other same first second = first ∙ ap (λ (fault : CertFault). Certificate (uncertified_by job fault)) same ∙ sym second
  same_cause (IsRefused e) (Objects b) one other same first second = absurd same
  same_cause (IsRefused e) Memory one other same first second = absurd same
  same_cause (Objects a) (IsRefused f) one other same first second = absurd same
  same_cause (Objects a) (Objects b) one other same first second = first ∙ objections same ∙ sym second
    where
      objections : IsSameObjection a b → Optimistic (objection_of job.netlist job.recorded.stim a) ≡ Optimistic (objection_of job.netlist job.recorded.stim b)
      objections alike = rw (alike.place, alike.replayed, alike.found, alike.lines) refl
  same_cause (Objects a) Memory one other same first second = absurd same
  same_cause Memory f one other same first second = absurd same

  no_cause_of : (e : CheckErr) (cause : Refused) → IsCauseOf job e cause → e ≡ Memory → ⊥
  no_cause_of (IsRefused fault) cause is same = absurd cc
  no_cause_of (Objects found) cause is same = absurd cc
  no_cause_of Memory cause is same = absurd is

  causes_one : (e f : CheckErr) (one other : Refused) → IsRefusalOf start cert e → IsRefusalOf start cert f → IsCauseOf job e one → IsCauseOf job f other → one ≡ other
  causes_one e f one other (IsRefusalOf.number differ) (IsRefusalOf.number again) first second = first ∙ sym second
  causes_one e f one other (IsRefusalOf.number differ) (IsRefusalOf.line numbers fault) first second = absurd (differ numbers)
  causes_one e f one other (IsRefusalOf.line numbers fault) (IsRefusalOf.number differ) first second = absurd (differ numbers)
  causes_one e f one other (IsRefusalOf.line numbers fault) (IsRefusalOf.line again second_fault) first second =
      same_cause e f one other (one_fault cert.form start cert.entries e f none fault second_fault (no_cause_of e one first) (no_cause_of f other second)) first second

shows_same : (a b : CheckShows) → a.wave ≡ b.wave → a.listing ≡ b.listing → a ≡ b
shows_same a b wave listing = λ t. record { wave = wave t; listing = listing t }

pub one_check : (limits : Limits) (job : Parts) (cert : Cert) → IsOne (CheckComes limits job cert)
one_check limits job cert (Ok a) (Ok b) first second =
    let fits = fits_job job.netlist job.recorded first.certified.fits in
    let same = one_history (job_for job.netlist job.recorded) fits (λ place. None) a.wave.history b.wave.history first.certified.replay second.certified.replay in
    let start = beginning limits job.netlist job.recorded a.wave.history in
    let again : IsChecked start cert b.wave second.conditions =
    subst (λ (h : HistoryView). IsChecked (beginning limits job.netlist job.recorded h) cert b.wave second.conditions) (sym same) second.certified.checked in
    let waves = same_waves start cert refl refl fits a.wave b.wave first.conditions second.conditions first.certified.checked again in
    let there : IsChecked start cert a.wave second.conditions = subst (λ (c : Contents). IsChecked start cert c second.conditions) (sym waves) again in
    let texts = same_listing start cert refl refl fits a.wave first.conditions second.conditions first.certified.checked there in
    ap Ok (shows_same a b waves (first.listing_is ∙ texts ∙ ap (λ (c : Contents). conditions_text c second.conditions) waves ∙ sym second.listing_is))
one_check limits job cert (Ok a) (Err f) first second =
    let fits = fits_job job.netlist job.recorded first.certified.fits in
    let same = one_history (job_for job.netlist job.recorded) fits (λ place. None) a.wave.history second.history first.certified.replay second.replay in
    let start = beginning limits job.netlist job.recorded a.wave.history in
    absurd (unrefused start cert refl refl fits a.wave first.conditions second.refusal first.certified.checked
    (subst (λ (h : HistoryView). IsRefusalOf (beginning limits job.netlist job.recorded h) cert second.refusal) (sym same) second.refused)
    (no_cause_of job start cert refl second.refusal f second.is))
one_check limits job cert (Err e) (Ok b) first second =
    let fits = fits_job job.netlist job.recorded first.fits in
    let same = one_history (job_for job.netlist job.recorded) fits (λ place. None) b.wave.history first.history second.certified.replay first.replay in
    let start = beginning limits job.netlist job.recorded b.wave.history in
    absurd (unrefused start cert refl refl fits b.wave second.conditions first.refusal second.certified.checked
    (subst (λ (h : HistoryView). IsRefusalOf (beginning limits job.netlist job.recorded h) cert first.refusal) (sym same) first.refused)
    (no_cause_of job start cert refl first.refusal e first.is))
one_check limits job cert (Err e) (Err f) first second =
    let same = one_history (job_for job.netlist job.recorded) (fits_job job.netlist job.recorded first.fits) (λ place. None) first.history second.history first.replay second.replay in
    ap Err (causes_one job (beginning limits job.netlist job.recorded first.history) cert refl first.refusal second.refusal e f first.refused
    (subst (λ (h : HistoryView). IsRefusalOf (beginning limits job.netlist job.recorded h) cert second.refusal) (sym same) second.refused) first.is second.is)

-- One that is accepted over the job's replay isn't refused.
pub accepted_certified : (limits : Limits) (job : Parts) (cert : Cert) (history : HistoryView) (waveform : List Written) (cause : Refused)
    → IsReplay (job_for job.netlist job.recorded) history → IsAccepted (beginning limits job.netlist job.recorded history) cert waveform
    → IsUncertified limits job cert cause → ⊥
accepted_certified limits job cert history waveform cause replay accepted refused =
    let same = one_history (job_for job.netlist job.recorded) (fits_job job.netlist job.recorded refused.fits) (λ place. None) history refused.history replay refused.replay in
    let start = beginning limits job.netlist job.recorded refused.history in
    accepted_unrefused start cert waveform refused.refusal refl
    (subst (λ (h : HistoryView). IsAccepted (beginning limits job.netlist job.recorded h) cert waveform) same accepted) refused.refused
    (no_cause_of job start cert refl refused.refusal cause refused.is)

-- ---- its form

pub no_form : Lines ≡ Turns → ⊥
no_form same = absurd cc

pub one_form : (cert : Cert) → IsOne (FormComes cert)
one_form cert (Ok a) (Ok b) first second = refl
one_form cert (Ok a) (Err f) first second = absurd (no_form (sym first ∙ second.0))
one_form cert (Err e) (Ok b) first second = absurd (no_form (sym second ∙ first.0))
one_form cert (Err e) (Err f) first second = ap Err (first.1 ∙ sym second.1)
