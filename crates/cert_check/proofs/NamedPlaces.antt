-- Where a check names a place, that is one of the job.
use Rattle.std.proofs.Common.{◌≡◌, ℕ, List, refl, sym, subst, ap, ◌∙◌}
use Rattle.design_circuit.proofs.Numbers.{is_place_at}
use Rattle.design_circuit.specs.declared.place.Place.{Place}
use Rattle.design_circuit.specs.declared.waveform.Written.{Written}
use Rattle.design_circuit.specs.Filling.{IsPlace}
use Rattle.design_circuit.specs.Fits.{place_at}
use Rattle.law_model.specs.declared.line.Body.{Body}
use Rattle.law_model.specs.declared.line.Body.TheVariants.{Enumerated, Refuted, Pair, Undecided}
use Rattle.wave_proved.specs.Contents.{Contents, IsWave, job, next_number}
use Rattle.wave_proved.specs.Advance.{Reports, plain_written}
use Rattle.wave_proved.specs.Token.{HasNext, written_by_line}
use Rattle.wave_proved.specs.declared.advance.Optimistic.{Optimistic}
use Rattle.law_along.proofs.Fitted.{along_job, next_plain_is}
use Rattle.cert_writer.specs.declared.cert.Cert.{Cert as ACert}
use Rattle.cert_writer.specs.declared.cert.Entry.{Entry}
use Rattle.cert_writer.specs.declared.cert.Form.{Form}
use Rattle.cert_check.specs.Checked.{IsRefusalOf, line as at_line, number}
use Rattle.cert_check.specs.Laws.{MissingIsPlace, ObjectionIsPlace}
use Rattle.cert_check.specs.Walk.{IsCertFault, IsFirstCertFault, astray, beyond, body_fault, class_objects, later, line, line_objects, no_line, no_memory, refused, turn, turn_astray}
use Rattle.cert_check.specs.declared.refusal.CertFault.{CertFault}
use Rattle.cert_check.specs.declared.refusal.CertFault.TheVariants.{Missing}
use Rattle.cert_check.specs.declared.refusal.CheckErr.{CheckErr}
use Rattle.cert_check.specs.declared.refusal.CheckErr.TheVariants.{Refused, Optimistic as Objects}
use Rattle.cert_check.proofs.Going.{next_line_is}

next_there : (c : Contents) → IsWave c → HasNext c → IsPlace (job c) (place_at (job c) (next_number c))
next_there c wave next = is_place_at (job c) (next_number c) wave.fits.fits_job.ordering wave.fits.fits_job.all next

-- The place that lacks its line,
abbrev lacks : Place → CheckErr
lacks place = Refused (Missing place)

same_place : (p q : Place) → lacks p ≡ lacks q → p ≡ q
same_place p q is = cc

abbrev refusal : CertFault → CheckErr
refusal fault = Refused fault

same_fault : (f : CertFault) (place : Place) → refusal f ≡ lacks place → f ≡ Missing place
same_fault f place is = cc

no_body : (n : ℕ) (body : Body) (place : Place) → body_fault n body ≡ Missing place → ⊥
no_body n (Enumerated bit) place is = absurd cc
no_body n (Refuted bit log) place is = absurd cc
no_body n (Pair first second) place is = absurd cc
no_body n (Undecided log) place is = absurd cc

missing_next : (c : Contents) (m : ℕ) (rest : List Entry) (e : CheckErr) (place : Place) → IsWave c → e ≡ lacks place
    → IsCertFault c m rest e → IsPlace (job c) place
missing_next c m rest e place wave is (class_objects same objection plain contradicts reports) = absurd cc
missing_next c m rest e place wave is (no_line next) =
    subst (IsPlace (job c)) (same_place _ place is) (next_there c wave (next_line_is c next).0)
missing_next c m rest e place wave is (later l ls next behind) =
    subst (IsPlace (job c)) (same_place _ place is) (next_there c wave (next_line_is c next).0)
missing_next c m rest e place wave is (astray l ls next not_named not_later) = absurd cc
missing_next c m rest e place wave is (beyond l ls done) = absurd cc
missing_next c m rest e place wave is (refused l ls next names refuses) =
    absurd (no_body _ l.body place (same_fault _ place is))
missing_next c m rest e place wave is (line_objects l ls objection next accepts contradicts reports) = absurd cc
missing_next c m rest e place wave is (turn_astray t ls stops) = absurd cc

missing_first : (form : Form) (start : Contents) (entries : List Entry) (e : CheckErr) (place : Place) → e ≡ lacks place
    → IsFirstCertFault form start entries e → IsPlace (job start) place
missing_first form start entries e place is (line c done rest same parted up fault) =
    subst (λ j. IsPlace j place) (along_job up.goes) (missing_next c _ rest e place up.wave is fault)
missing_first form start entries e place is (turn c done l stated rest is_form parted up next accepts agrees gives lacked) = absurd cc
missing_first form start entries e place is no_memory = absurd cc

missing_named : (start : Contents) (cert : ACert) (e : CheckErr) (place : Place) → e ≡ lacks place → IsRefusalOf start cert e
    → IsPlace (job start) place
missing_named start cert e place is (number other) = absurd cc
missing_named start cert e place is (at_line numbers first) = missing_first cert.form start cert.entries e place is first

pub missing_is_place : MissingIsPlace
missing_is_place start cert place refusal = missing_named start cert (lacks place) place refl refusal

-- and the one that the history knows otherwise.
abbrev objects : Optimistic → CheckErr
objects objection = Objects objection

same_objection : (a b : Optimistic) → objects a ≡ objects b → a ≡ b
same_objection a b is = cc

objects_next : (c : Contents) (w : Written) (a b : Optimistic) → IsWave c → HasNext c → Reports c w a → objects a ≡ objects b
    → IsPlace (job c) b.place
objects_next c w a b wave next reports is =
    subst (IsPlace (job c)) (sym reports.place_is ∙ ap (λ (o : Optimistic). o.place) (same_objection a b is)) (next_there c wave next)

objecting : (c : Contents) (m : ℕ) (rest : List Entry) (e : CheckErr) (o : Optimistic) → IsWave c → e ≡ objects o → IsCertFault c m rest e
    → IsPlace (job c) o.place
objecting c m rest e o wave is (class_objects same objection plain contradicts reports) =
    objects_next c (plain_written c) objection o wave (next_plain_is c plain).0 reports is
objecting c m rest e o wave is (no_line next) = absurd cc
objecting c m rest e o wave is (later l ls next behind) = absurd cc
objecting c m rest e o wave is (astray l ls next not_named not_later) = absurd cc
objecting c m rest e o wave is (beyond l ls done) = absurd cc
objecting c m rest e o wave is (refused l ls next names refuses) = absurd cc
objecting c m rest e o wave is (line_objects l ls objection next accepts contradicts reports) =
    objects_next c (written_by_line c l) objection o wave (next_line_is c next).0 reports is
objecting c m rest e o wave is (turn_astray t ls stops) = absurd cc

objection_first : (form : Form) (start : Contents) (entries : List Entry) (e : CheckErr) (o : Optimistic) → e ≡ objects o
    → IsFirstCertFault form start entries e → IsPlace (job start) o.place
objection_first form start entries e o is (line c done rest same parted up fault) =
    subst (λ j. IsPlace j o.place) (along_job up.goes) (objecting c _ rest e o up.wave is fault)
objection_first form start entries e o is (turn c done l stated rest is_form parted up next accepts agrees gives lacked) = absurd cc
objection_first form start entries e o is no_memory = absurd cc

objection_named : (start : Contents) (cert : ACert) (e : CheckErr) (o : Optimistic) → e ≡ objects o → IsRefusalOf start cert e
    → IsPlace (job start) o.place
objection_named start cert e o is (number other) = absurd cc
objection_named start cert e o is (at_line numbers first) = objection_first cert.form start cert.entries e o is first

pub objection_is_place : ObjectionIsPlace
objection_is_place start cert o refusal = objection_named start cert (objects o) o refl refusal
