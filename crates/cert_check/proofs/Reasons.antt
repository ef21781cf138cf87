-- The faults where no turn is due, by what they say, and that there is one.
use Rattle.std.proofs.Common.{◌≡◌, ℕ, List, [], ◌∷◌, refl, sym, subst, ap, ◌∙◌, arith}
use Rattle.design_circuit.proofs.Numbers.{number_of_place_at}
use Rattle.design_circuit.specs.declared.waveform.Written.{Written}
use Rattle.design_circuit.specs.Fits.{place_at}
use Rattle.design_circuit.specs.Job.{number_of}
use Rattle.law_model.specs.declared.class.Class.TheVariants as seen
use Rattle.law_model.specs.declared.line.Line.{Line as ALine}
use Rattle.law_model.specs.declared.turn.TurnLine.{TurnLine}
use Rattle.wave_proved.specs.Advance.{Contradicts, IsPlain, Reports, plain_written}
use Rattle.wave_proved.specs.Contents.{Contents, IsFinished, IsWave, job, next_number, next_seen}
use Rattle.wave_proved.specs.Token.{IsLineNext, LineAgrees, LineContradicts, written_by_line}
use Rattle.wave_proved.specs.declared.advance.Optimistic.{Optimistic}
use Rattle.law_along.proofs.Fitted.{next_plain_is}
use Rattle.law_along.specs.Accepted.{AcceptsLine, IsLater, NamesNext}
use Rattle.cert_writer.specs.declared.cert.Entry.{Entry}
use Rattle.cert_writer.specs.declared.cert.Entry.TheVariants.{Line, Turn}
use Rattle.cert_check.specs.Laws.{IsSameFault, IsSameObjection}
use Rattle.cert_check.specs.Walk.{IsCertFault, astray, beyond, body_fault, class_objects, later, line_objects, no_line, refused, turn_astray}
use Rattle.cert_check.specs.declared.refusal.CertFault.{CertFault}
use Rattle.cert_check.specs.declared.refusal.CertFault.TheVariants.{Missing, Stray}
use Rattle.cert_check.specs.declared.refusal.CheckErr.{CheckErr}
use Rattle.cert_check.specs.declared.refusal.CheckErr.TheVariants.{Refused, Optimistic as Objects}
use Rattle.cert_check.proofs.Going.{next_line_is}
use Rattle.cert_check.proofs.Ways.{line_done, plain_done, plain_line}

pub data Reason (c : Contents) (n : ℕ) (rest : List Entry) (e : CheckErr) : Type 0 where
  r_class : (objection : Optimistic) → IsPlain (next_seen c) → Contradicts c (plain_written c)
      → Reports c (plain_written c) objection → e ≡ Objects objection → Reason c n rest e
  r_none : IsLineNext c → rest ≡ [] → e ≡ Refused (Missing (place_at (job c) (next_number c))) → Reason c n rest e
  r_later : (l : ALine) (es : List Entry) → IsLineNext c → rest ≡ Line l ∷ es → IsLater c l
      → e ≡ Refused (Missing (place_at (job c) (next_number c))) → Reason c n rest e
  r_astray : (l : ALine) (es : List Entry) → IsLineNext c → rest ≡ Line l ∷ es → (NamesNext c l → ⊥)
      → (IsLater c l → ⊥) → e ≡ Refused (Stray n) → Reason c n rest e
  r_beyond : (l : ALine) (es : List Entry) → next_seen c ≡ seen.Done → rest ≡ Line l ∷ es → e ≡ Refused (Stray n)
      → Reason c n rest e
  r_turn : (t : TurnLine) (es : List Entry) → (IsPlain (next_seen c) → ⊥) → rest ≡ Turn t ∷ es → e ≡ Refused (Stray n)
      → Reason c n rest e
  r_refused : (l : ALine) (es : List Entry) → IsLineNext c → rest ≡ Line l ∷ es → NamesNext c l
      → (AcceptsLine c l → ⊥) → e ≡ Refused (body_fault n l.body) → Reason c n rest e
  r_line : (l : ALine) (es : List Entry) (objection : Optimistic) → IsLineNext c → rest ≡ Line l ∷ es → AcceptsLine c l
      → LineContradicts c l → Reports c (written_by_line c l) objection → e ≡ Objects objection → Reason c n rest e

pub reason_of : (c : Contents) (n : ℕ) (rest : List Entry) (e : CheckErr) → IsCertFault c n rest e → Reason c n rest e
reason_of c n rest e (class_objects same objection plain contradicts is) = r_class objection plain contradicts is refl
reason_of c n rest e (no_line next) = r_none next refl refl
reason_of c n rest e (later l es next is) = r_later l es next refl is refl
reason_of c n rest e (astray l es next not_named not_later) = r_astray l es next refl not_named not_later refl
reason_of c n rest e (beyond l es done) = r_beyond l es done refl refl
reason_of c n rest e (turn_astray t es stops) = r_turn t es stops refl refl
reason_of c n rest e (refused l es next names refuses) = r_refused l es next refl names refuses refl
reason_of c n rest e (line_objects l es objection next accepts contradicts is) =
    r_line l es objection next refl accepts contradicts is refl

later_unnamed : (c : Contents) (l : ALine) → IsWave c → IsLineNext c → IsLater c l → NamesNext c l → ⊥
later_unnamed c l wave next is names =
    let fits = wave.fits.fits_job in
    let within = (next_line_is c next).0 in
    let number_is = ap (number_of (job c)) names ∙ number_of_place_at (job c) (next_number c) fits.ordering fits.all
    within in
    let more = is.later in
    absurd (omega (arith, more, number_is))

-- What is next is one.
same_line : (l k : ALine) (es fs : List Entry) → Line l ∷ es ≡ Line k ∷ fs → k ≡ l
same_line l k es fs is = cc

one_first : (rest : List Entry) (l k : ALine) (es fs : List Entry) → rest ≡ Line l ∷ es → rest ≡ Line k ∷ fs → k ≡ l
one_first rest l k es fs first second = same_line l k es fs (sym first ∙ second)

no_line_left : (rest : List Entry) (l : ALine) (es : List Entry) → rest ≡ [] → rest ≡ Line l ∷ es → ⊥
no_line_left rest l es none some_line = absurd cc

no_turn_left : (rest : List Entry) (t : TurnLine) (es : List Entry) → rest ≡ [] → rest ≡ Turn t ∷ es → ⊥
no_turn_left rest t es none some_turn = absurd cc

line_no_turn : (rest : List Entry) (l : ALine) (t : TurnLine) (es fs : List Entry) → rest ≡ Line l ∷ es
    → rest ≡ Turn t ∷ fs → ⊥
line_no_turn rest l t es fs some_line some_turn = absurd cc

-- No step is possible at a fault.
pub step_class_no : (c : Contents) (n : ℕ) (rest : List Entry) (e : CheckErr) → Reason c n rest e
    → IsPlain (next_seen c)
    → (Contradicts c (plain_written c) → ⊥) → ⊥
step_class_no c n rest e (r_class o p x i e1) plain agrees = agrees x
step_class_no c n rest e (r_none next z e1) plain agrees = plain_line c plain next
step_class_no c n rest e (r_later l es next r la e1) plain agrees = plain_line c plain next
step_class_no c n rest e (r_astray l es next r nn nl e1) plain agrees = plain_line c plain next
step_class_no c n rest e (r_beyond l es d r e1) plain agrees = plain_done c plain d
step_class_no c n rest e (r_turn t es p r e1) plain agrees = p plain
step_class_no c n rest e (r_refused l es next r na unheld e1) plain agrees = plain_line c plain next
step_class_no c n rest e (r_line l es o next r ac x i e1) plain agrees = plain_line c plain next

pub step_line_no : (c : Contents) (n : ℕ) (rest : List Entry) (e : CheckErr) (k : ALine) (fs : List Entry) → IsWave c
    → Reason c n rest e → rest ≡ Line k ∷ fs → IsLineNext c → AcceptsLine c k → LineAgrees c k → ⊥
step_line_no c n rest e k fs wave (r_class o p x i e1) taken there ok agrees = plain_line c p there
step_line_no c n rest e k fs wave (r_none next z e1) taken there ok agrees = no_line_left rest k fs z taken
step_line_no c n rest e k fs wave (r_later l es next r la e1) taken there ok agrees =
    later_unnamed c k wave next (subst (IsLater c) (sym (one_first rest l k es fs r taken)) la) ok.line_holds.place_is
step_line_no c n rest e k fs wave (r_astray l es next r nn nl e1) taken there ok agrees =
    nn (subst (NamesNext c) (one_first rest l k es fs r taken) ok.line_holds.place_is)
step_line_no c n rest e k fs wave (r_beyond l es d r e1) taken there ok agrees = line_done c there d
step_line_no c n rest e k fs wave (r_turn t es p r e1) taken there ok agrees = line_no_turn rest k t fs es taken r
step_line_no c n rest e k fs wave (r_refused l es next r na unheld e1) taken there ok agrees =
    unheld (subst (AcceptsLine c) (one_first rest l k es fs r taken) ok)
step_line_no c n rest e k fs wave (r_line l es o next r ac x i e1) taken there ok agrees =
    agrees (subst (LineContradicts c) (sym (one_first rest l k es fs r taken)) x)

-- Two faults of the same.
same_told : (c : Contents) (w x : Written) (a b : Optimistic) → w ≡ x → Reports c w a → Reports c x b
    → IsSameObjection a b
same_told c w x a b same first second =
    let moved : Reports c w b = subst (λ y. Reports c y b) (sym same) second in
    record {
      place = first.place_is ∙ sym moved.place_is;
      replayed = first.replayed_is ∙ sym moved.replayed_is;
      found = first.found_is ∙ sym moved.found_is;
      lines = first.lines_are ∙ sym moved.lines_are;
    }

both_objects : (e f : CheckErr) (a b : Optimistic) → e ≡ Objects a → f ≡ Objects b → IsSameObjection a b
    → IsSameFault e f
both_objects e f a b e_is f_is same =
    subst (λ x. IsSameFault x f) (sym e_is) (subst (IsSameFault (Objects a)) (sym f_is) same)

pub both_cert : (e f : CheckErr) (x y : CertFault) → e ≡ Refused x → f ≡ Refused y → x ≡ y → IsSameFault e f
both_cert e f x y e_is f_is same =
    subst (λ z. IsSameFault z f) (sym e_is) (subst (IsSameFault (Refused x)) (sym f_is) same)

pub one_reason : (c : Contents) (n : ℕ) (rest : List Entry) (e f : CheckErr) → IsWave c → Reason c n rest e
    → Reason c n rest f → IsSameFault e f
one_reason c n rest e f wave (r_class o1 p1 x1 i1 e1) (r_class o2 p2 x2 i2 e2) =
    both_objects e f o1 o2 e1 e2
    (same_told c (plain_written c) (plain_written c) o1 o2 refl i1 i2)
one_reason c n rest e f wave (r_class o1 p1 x1 i1 e1) (r_none n2 z2 e2) =
    absurd (plain_line c p1 n2)
one_reason c n rest e f wave (r_class o1 p1 x1 i1 e1) (r_later l2 s2 n2 r2 la2 e2) =
    absurd (plain_line c p1 n2)
one_reason c n rest e f wave (r_class o1 p1 x1 i1 e1) (r_astray l2 s2 n2 r2 nn2 nl2 e2) =
    absurd (plain_line c p1 n2)
one_reason c n rest e f wave (r_class o1 p1 x1 i1 e1) (r_beyond l2 s2 d2 r2 e2) =
    absurd (plain_done c p1 d2)
one_reason c n rest e f wave (r_class o1 p1 x1 i1 e1) (r_turn t2 s2 p2 r2 e2) =
    absurd (p2 p1)
one_reason c n rest e f wave (r_class o1 p1 x1 i1 e1) (r_refused l2 s2 n2 r2 na2 no2 e2) =
    absurd (plain_line c p1 n2)
one_reason c n rest e f wave (r_class o1 p1 x1 i1 e1) (r_line l2 s2 o2 n2 r2 ac2 x2 i2 e2) =
    absurd (plain_line c p1 n2)
one_reason c n rest e f wave (r_none n1 z1 e1) (r_class o2 p2 x2 i2 e2) =
    absurd (plain_line c p2 n1)
one_reason c n rest e f wave (r_none n1 z1 e1) (r_none n2 z2 e2) =
    both_cert e f _ _ e1 e2 refl
one_reason c n rest e f wave (r_none n1 z1 e1) (r_later l2 s2 n2 r2 la2 e2) =
    absurd (no_line_left rest l2 s2 z1 r2)
one_reason c n rest e f wave (r_none n1 z1 e1) (r_astray l2 s2 n2 r2 nn2 nl2 e2) =
    absurd (no_line_left rest l2 s2 z1 r2)
one_reason c n rest e f wave (r_none n1 z1 e1) (r_beyond l2 s2 d2 r2 e2) =
    absurd (no_line_left rest l2 s2 z1 r2)
one_reason c n rest e f wave (r_none n1 z1 e1) (r_turn t2 s2 p2 r2 e2) =
    absurd (no_turn_left rest t2 s2 z1 r2)
one_reason c n rest e f wave (r_none n1 z1 e1) (r_refused l2 s2 n2 r2 na2 no2 e2) =
    absurd (no_line_left rest l2 s2 z1 r2)
one_reason c n rest e f wave (r_none n1 z1 e1) (r_line l2 s2 o2 n2 r2 ac2 x2 i2 e2) =
    absurd (no_line_left rest l2 s2 z1 r2)
one_reason c n rest e f wave (r_later l1 s1 n1 r1 la1 e1) (r_class o2 p2 x2 i2 e2) =
    absurd (plain_line c p2 n1)
one_reason c n rest e f wave (r_later l1 s1 n1 r1 la1 e1) (r_none n2 z2 e2) =
    absurd (no_line_left rest l1 s1 z2 r1)
one_reason c n rest e f wave (r_later l1 s1 n1 r1 la1 e1) (r_later l2 s2 n2 r2 la2 e2) =
    both_cert e f _ _ e1 e2 refl
one_reason c n rest e f wave (r_later l1 s1 n1 r1 la1 e1) (r_astray l2 s2 n2 r2 nn2 nl2 e2) =
    absurd (nl2 (subst (IsLater c) (sym (one_first rest l1 l2 s1 s2 r1 r2)) la1))
one_reason c n rest e f wave (r_later l1 s1 n1 r1 la1 e1) (r_beyond l2 s2 d2 r2 e2) =
    absurd (line_done c n1 d2)
one_reason c n rest e f wave (r_later l1 s1 n1 r1 la1 e1) (r_turn t2 s2 p2 r2 e2) =
    absurd (line_no_turn rest l1 t2 s1 s2 r1 r2)
one_reason c n rest e f wave (r_later l1 s1 n1 r1 la1 e1) (r_refused l2 s2 n2 r2 na2 no2 e2) =
    absurd (later_unnamed c l1 wave n1 la1 (subst (NamesNext c) (one_first rest l1 l2 s1 s2 r1 r2) na2))
one_reason c n rest e f wave (r_later l1 s1 n1 r1 la1 e1) (r_line l2 s2 o2 n2 r2 ac2 x2 i2 e2) =
    absurd (later_unnamed c l1 wave n1 la1 (subst (NamesNext c) (one_first rest l1 l2 s1 s2 r1 r2)
    ac2.line_holds.place_is))
one_reason c n rest e f wave (r_astray l1 s1 n1 r1 nn1 nl1 e1) (r_class o2 p2 x2 i2 e2) =
    absurd (plain_line c p2 n1)
one_reason c n rest e f wave (r_astray l1 s1 n1 r1 nn1 nl1 e1) (r_none n2 z2 e2) =
    absurd (no_line_left rest l1 s1 z2 r1)
one_reason c n rest e f wave (r_astray l1 s1 n1 r1 nn1 nl1 e1) (r_later l2 s2 n2 r2 la2 e2) =
    absurd (nl1 (subst (IsLater c) (sym (one_first rest l2 l1 s2 s1 r2 r1)) la2))
one_reason c n rest e f wave (r_astray l1 s1 n1 r1 nn1 nl1 e1) (r_astray l2 s2 n2 r2 nn2 nl2 e2) =
    both_cert e f _ _ e1 e2 refl
one_reason c n rest e f wave (r_astray l1 s1 n1 r1 nn1 nl1 e1) (r_beyond l2 s2 d2 r2 e2) =
    absurd (line_done c n1 d2)
one_reason c n rest e f wave (r_astray l1 s1 n1 r1 nn1 nl1 e1) (r_turn t2 s2 p2 r2 e2) =
    absurd (line_no_turn rest l1 t2 s1 s2 r1 r2)
one_reason c n rest e f wave (r_astray l1 s1 n1 r1 nn1 nl1 e1) (r_refused l2 s2 n2 r2 na2 no2 e2) =
    absurd (nn1 (subst (NamesNext c) (one_first rest l1 l2 s1 s2 r1 r2) na2))
one_reason c n rest e f wave (r_astray l1 s1 n1 r1 nn1 nl1 e1) (r_line l2 s2 o2 n2 r2 ac2 x2 i2 e2) =
    absurd (nn1 (subst (NamesNext c) (one_first rest l1 l2 s1 s2 r1 r2) ac2.line_holds.place_is))
one_reason c n rest e f wave (r_beyond l1 s1 d1 r1 e1) (r_class o2 p2 x2 i2 e2) =
    absurd (plain_done c p2 d1)
one_reason c n rest e f wave (r_beyond l1 s1 d1 r1 e1) (r_none n2 z2 e2) =
    absurd (no_line_left rest l1 s1 z2 r1)
one_reason c n rest e f wave (r_beyond l1 s1 d1 r1 e1) (r_later l2 s2 n2 r2 la2 e2) =
    absurd (line_done c n2 d1)
one_reason c n rest e f wave (r_beyond l1 s1 d1 r1 e1) (r_astray l2 s2 n2 r2 nn2 nl2 e2) =
    absurd (line_done c n2 d1)
one_reason c n rest e f wave (r_beyond l1 s1 d1 r1 e1) (r_beyond l2 s2 d2 r2 e2) =
    both_cert e f _ _ e1 e2 refl
one_reason c n rest e f wave (r_beyond l1 s1 d1 r1 e1) (r_turn t2 s2 p2 r2 e2) =
    absurd (line_no_turn rest l1 t2 s1 s2 r1 r2)
one_reason c n rest e f wave (r_beyond l1 s1 d1 r1 e1) (r_refused l2 s2 n2 r2 na2 no2 e2) =
    absurd (line_done c n2 d1)
one_reason c n rest e f wave (r_beyond l1 s1 d1 r1 e1) (r_line l2 s2 o2 n2 r2 ac2 x2 i2 e2) =
    absurd (line_done c n2 d1)
one_reason c n rest e f wave (r_turn t1 s1 p1 r1 e1) (r_class o2 p2 x2 i2 e2) =
    absurd (p1 p2)
one_reason c n rest e f wave (r_turn t1 s1 p1 r1 e1) (r_none n2 z2 e2) =
    absurd (no_turn_left rest t1 s1 z2 r1)
one_reason c n rest e f wave (r_turn t1 s1 p1 r1 e1) (r_later l2 s2 n2 r2 la2 e2) =
    absurd (line_no_turn rest l2 t1 s2 s1 r2 r1)
one_reason c n rest e f wave (r_turn t1 s1 p1 r1 e1) (r_astray l2 s2 n2 r2 nn2 nl2 e2) =
    absurd (line_no_turn rest l2 t1 s2 s1 r2 r1)
one_reason c n rest e f wave (r_turn t1 s1 p1 r1 e1) (r_beyond l2 s2 d2 r2 e2) =
    absurd (line_no_turn rest l2 t1 s2 s1 r2 r1)
one_reason c n rest e f wave (r_turn t1 s1 p1 r1 e1) (r_turn t2 s2 p2 r2 e2) =
    both_cert e f _ _ e1 e2 refl
one_reason c n rest e f wave (r_turn t1 s1 p1 r1 e1) (r_refused l2 s2 n2 r2 na2 no2 e2) =
    absurd (line_no_turn rest l2 t1 s2 s1 r2 r1)
one_reason c n rest e f wave (r_turn t1 s1 p1 r1 e1) (r_line l2 s2 o2 n2 r2 ac2 x2 i2 e2) =
    absurd (line_no_turn rest l2 t1 s2 s1 r2 r1)
one_reason c n rest e f wave (r_refused l1 s1 n1 r1 na1 no1 e1) (r_class o2 p2 x2 i2 e2) =
    absurd (plain_line c p2 n1)
one_reason c n rest e f wave (r_refused l1 s1 n1 r1 na1 no1 e1) (r_none n2 z2 e2) =
    absurd (no_line_left rest l1 s1 z2 r1)
one_reason c n rest e f wave (r_refused l1 s1 n1 r1 na1 no1 e1) (r_later l2 s2 n2 r2 la2 e2) =
    absurd (later_unnamed c l2 wave n2 la2 (subst (NamesNext c) (one_first rest l2 l1 s2 s1 r2 r1) na1))
one_reason c n rest e f wave (r_refused l1 s1 n1 r1 na1 no1 e1) (r_astray l2 s2 n2 r2 nn2 nl2 e2) =
    absurd (nn2 (subst (NamesNext c) (one_first rest l2 l1 s2 s1 r2 r1) na1))
one_reason c n rest e f wave (r_refused l1 s1 n1 r1 na1 no1 e1) (r_beyond l2 s2 d2 r2 e2) =
    absurd (line_done c n1 d2)
one_reason c n rest e f wave (r_refused l1 s1 n1 r1 na1 no1 e1) (r_turn t2 s2 p2 r2 e2) =
    absurd (line_no_turn rest l1 t2 s1 s2 r1 r2)
one_reason c n rest e f wave (r_refused l1 s1 n1 r1 na1 no1 e1) (r_refused l2 s2 n2 r2 na2 no2 e2) =
    both_cert e f _ _ e1 e2
    (ap (λ (l : ALine). body_fault n l.body) (sym (one_first rest l1 l2 s1 s2 r1 r2)))
one_reason c n rest e f wave (r_refused l1 s1 n1 r1 na1 no1 e1) (r_line l2 s2 o2 n2 r2 ac2 x2 i2 e2) =
    absurd (no1 (subst (AcceptsLine c) (one_first rest l1 l2 s1 s2 r1 r2) ac2))
one_reason c n rest e f wave (r_line l1 s1 o1 n1 r1 ac1 x1 i1 e1) (r_class o2 p2 x2 i2 e2) =
    absurd (plain_line c p2 n1)
one_reason c n rest e f wave (r_line l1 s1 o1 n1 r1 ac1 x1 i1 e1) (r_none n2 z2 e2) =
    absurd (no_line_left rest l1 s1 z2 r1)
one_reason c n rest e f wave (r_line l1 s1 o1 n1 r1 ac1 x1 i1 e1) (r_later l2 s2 n2 r2 la2 e2) =
    absurd (later_unnamed c l2 wave n2 la2 (subst (NamesNext c) (one_first rest l2 l1 s2 s1 r2 r1)
    ac1.line_holds.place_is))
one_reason c n rest e f wave (r_line l1 s1 o1 n1 r1 ac1 x1 i1 e1) (r_astray l2 s2 n2 r2 nn2 nl2 e2) =
    absurd (nn2 (subst (NamesNext c) (one_first rest l2 l1 s2 s1 r2 r1) ac1.line_holds.place_is))
one_reason c n rest e f wave (r_line l1 s1 o1 n1 r1 ac1 x1 i1 e1) (r_beyond l2 s2 d2 r2 e2) =
    absurd (line_done c n1 d2)
one_reason c n rest e f wave (r_line l1 s1 o1 n1 r1 ac1 x1 i1 e1) (r_turn t2 s2 p2 r2 e2) =
    absurd (line_no_turn rest l1 t2 s1 s2 r1 r2)
one_reason c n rest e f wave (r_line l1 s1 o1 n1 r1 ac1 x1 i1 e1) (r_refused l2 s2 n2 r2 na2 no2 e2) =
    absurd (no2 (subst (AcceptsLine c) (one_first rest l2 l1 s2 s1 r2 r1) ac1))
one_reason c n rest e f wave (r_line l1 s1 o1 n1 r1 ac1 x1 i1 e1) (r_line l2 s2 o2 n2 r2 ac2 x2 i2 e2) =
    both_objects e f o1 o2 e1 e2
    (same_told c (written_by_line c l1) (written_by_line c l2) o1 o2
    (ap (written_by_line c) (sym (one_first rest l1 l2 s1 s2 r1 r2))) i1 i2)

-- Where all places are written and nothing is left there is none.
pub done_plain : (c : Contents) → IsFinished c → IsPlain (next_seen c) → ⊥
done_plain c finished plain = let next = (next_plain_is c plain).0 in absurd (omega (arith, finished, next))

pub done_line : (c : Contents) → IsFinished c → IsLineNext c → ⊥
done_line c finished is = let next = (next_line_is c is).0 in absurd (omega (arith, finished, next))

pub done_reason : (c : Contents) (n : ℕ) (rest : List Entry) (e : CheckErr) → IsFinished c → rest ≡ []
    → Reason c n rest e → ⊥
done_reason c n rest e finished none (r_class o p x i e1) = done_plain c finished p
done_reason c n rest e finished none (r_none next z e1) = done_line c finished next
done_reason c n rest e finished none (r_later l es next r la e1) = done_line c finished next
done_reason c n rest e finished none (r_astray l es next r nn nl e1) = done_line c finished next
done_reason c n rest e finished none (r_beyond l es d r e1) = no_line_left rest l es none r
done_reason c n rest e finished none (r_turn t es p r e1) = no_turn_left rest t es none r
done_reason c n rest e finished none (r_refused l es next r na unheld e1) = done_line c finished next
done_reason c n rest e finished none (r_line l es o next r ac x i e1) = done_line c finished next
