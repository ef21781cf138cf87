-- A recording's text comes to one outcome.
use Rattle.std.proofs.Common.{◌≡◌, inl, inr, ℕ, Bool, true, false, List, Option, Some, Result, Ok, Err, IfOk, IfErr, length, refl, sym, ap, subst, ◌∙◌, arith}
use Rattle.std.proofs.lemmas.Bool.{cases_lt}
use Rattle.recording_reader.specs.Recording.{Recording}
use Rattle.recording_reader.specs.RecordingFault.{fault_of}
use Rattle.recording_reader.specs.declared.fault.RecordingFault.{RecordingFault}
use Rattle.recording_reader.specs.declared.variable.Variable.{Variable}
use Rattle.design_circuit.specs.declared.design.Design.{Design}
use Rattle.recording_binding.specs.Bounds.{bounds_of, differs_at}
use Rattle.recording_binding.specs.Refusal.{IsBinding, IsFirst, IsLeast, IsRefusal, Matches, AllBound}
use Rattle.recording_binding.specs.Telling.{has_scope}
use Rattle.recording_binding.specs.declared.binding.Binding.{Binding}
use Rattle.recording_binding.specs.declared.binding.Bound.{Bound}
use Rattle.recording_binding.specs.declared.refusal.BindErr.{BindErr}
use Rattle.recording_binding.specs.declared.refusal.BindErr.TheVariants as cause
use Rattle.cmd_job.specs.Names.{IsVariableName, variable_name}
use Rattle.cmd_job.specs.Recorded.{IfRecordingRefused, IsFaulty, IsRecorded, IsRecordingAlone, IsRecordingAnswer}
use Rattle.cmd_job.specs.Recorded.{IsRefusedRecording, IsSame, IsUnbound, RecordingComes, Reports}
use Rattle.cmd_job.specs.declared.recorded.Recorded.{Recorded}
use Rattle.cmd_job.specs.declared.recording_refusal.RecordingErr.{RecordingErr}
use Rattle.cmd_job.specs.declared.rules.Rules.{Rules}
use Rattle.cmd_job.specs.declared.recording_refusal.RecordingErr.TheVariants.{Refused, Memory}
use Rattle.cmd_job.specs.declared.recording_refusal.RecordingRefusal.{RecordingRefusal}
use Rattle.cmd_job.specs.declared.recording_refusal.RecordingRefusal.TheVariants.{Grammar, NoScope, RangeDiffers, MissingInput, TooLarge}
use Rattle.cmd_job.proofs.OneText.{one_fault, one_said, said_without_fault}

both : (b : Bool) → b ≡ true → b ≡ false → ⊥
both b here there = let bad : true ≡ false = sym here ∙ there in cc

module _ (design : Design) (recording : Recording) (scope : List (List ℕ)) where
  one_first : (v w : ℕ) → IsFirst design scope recording v → IsFirst design scope recording w → v ≡ w
  one_first v w first second = elim (cases_lt v w) as (λ _. v ≡ w) [
    | inl less ↦ absurd (both (differs_at design scope recording v) first.differs (second.before v less))
    | inr other ↦ elim (cases_lt w v) as (λ _. v ≡ w) [
      | inl less ↦ absurd (both (differs_at design scope recording w) second.differs (first.before w less))
      | inr equal ↦ omega arith
    ]
  ]

  matches_or_first : (v : ℕ) → Matches design scope recording → IsFirst design scope recording v → ⊥
  matches_or_first v matches first = both (differs_at design scope recording v) first.differs (matches.none v first.known)

one_least : (design : Design) (bound : List Bound) (m n : ℕ) → IsLeast design bound m → IsLeast design bound n → m ≡ n
one_least design bound m n first second = elim (cases_lt m n) as (λ _. m ≡ n) [
  | inl less ↦ absurd (second.before m less first.unbound)
  | inr other ↦ elim (cases_lt n m) as (λ _. m ≡ n) [
    | inl less ↦ absurd (first.before n less second.unbound)
    | inr equal ↦ omega arith
  ]
]

all_or_least : (design : Design) (bound : List Bound) (net : ℕ) → AllBound design bound (length design.nets) → IsLeast design bound net → ⊥
all_or_least design bound net all least = all net (let known = least.unbound in known.known) least.unbound

binding_by : Option (List ℕ) → List Bound → Binding
binding_by scale bound = record { timescale = scale; bound = bound }

binding_is : (n : Binding) → binding_by n.timescale n.bound ≡ n
unfolding binding_by
binding_is n = refl

module _ (design : Design) (recording : Recording) (scope : List (List ℕ)) (rounds most : ℕ) where
  -- The first cause is one.
  one_cause : (a b : BindErr) → IsRefusal design recording scope rounds most a → IsRefusal design recording scope rounds most b → a ≡ b
  one_cause cause.NoScope cause.NoScope first second = refl
  one_cause cause.NoScope (cause.RangeDiffers w) first second = absurd (both (has_scope scope recording.scopes) second.there first)
  one_cause cause.NoScope (cause.MissingInput n) first second = absurd (both (has_scope scope recording.scopes) (let m = second.matches in m.there) first)
  one_cause cause.NoScope (cause.TooLarge p) first second = absurd (both (has_scope scope recording.scopes) (let m = second.matches in m.there) first)
  one_cause cause.NoScope cause.Memory first second = absurd second
  one_cause (cause.RangeDiffers v) cause.NoScope first second = absurd (both (has_scope scope recording.scopes) first.there second)
  one_cause (cause.RangeDiffers v) (cause.RangeDiffers w) first second = ap cause.RangeDiffers (one_first design recording scope v w first.first second.first)
  one_cause (cause.RangeDiffers v) (cause.MissingInput n) first second = absurd (matches_or_first design recording scope v second.matches first.first)
  one_cause (cause.RangeDiffers v) (cause.TooLarge p) first second = absurd (matches_or_first design recording scope v second.matches first.first)
  one_cause (cause.RangeDiffers v) cause.Memory first second = absurd second
  one_cause (cause.MissingInput m) cause.NoScope first second = absurd (both (has_scope scope recording.scopes) (let m = first.matches in m.there) second)
  one_cause (cause.MissingInput m) (cause.RangeDiffers w) first second = absurd (matches_or_first design recording scope w first.matches second.first)
  one_cause (cause.MissingInput m) (cause.MissingInput n) first second =
      ap cause.MissingInput (one_least design (bounds_of design scope recording) m n first.least second.least)
  one_cause (cause.MissingInput m) (cause.TooLarge p) first second = absurd (all_or_least design (bounds_of design scope recording) m second.inputs first.least)
  one_cause (cause.MissingInput m) cause.Memory first second = absurd second
  one_cause (cause.TooLarge p) cause.NoScope first second = absurd (both (has_scope scope recording.scopes) (let m = first.matches in m.there) second)
  one_cause (cause.TooLarge p) (cause.RangeDiffers w) first second = absurd (matches_or_first design recording scope w first.matches second.first)
  one_cause (cause.TooLarge p) (cause.MissingInput n) first second = absurd (all_or_least design (bounds_of design scope recording) n first.inputs second.least)
  one_cause (cause.TooLarge p) (cause.TooLarge q) first second = ap cause.TooLarge (let m = first.many in let n = second.many in m.count ∙ sym n.count)
  one_cause (cause.TooLarge p) cause.Memory first second = absurd second
  one_cause cause.Memory b first second = absurd first

  -- What is bound has no cause to be refused.
  bound_or_cause : (binding : Binding) (e : BindErr) → IsBinding design recording scope rounds most binding → IsRefusal design recording scope rounds most e → ⊥
  bound_or_cause binding cause.NoScope is refused = both (has_scope scope recording.scopes) (let m = is.matches in m.there) refused
  bound_or_cause binding (cause.RangeDiffers v) is refused = matches_or_first design recording scope v is.matches refused.first
  bound_or_cause binding (cause.MissingInput n) is refused = all_or_least design (bounds_of design scope recording) n is.inputs refused.least
  bound_or_cause binding (cause.TooLarge p) is refused = let m = refused.many in let few = is.places in let many = m.many in let count = m.count in omega arith
  bound_or_cause binding cause.Memory is refused = refused

  one_binding : (a b : Binding) → IsBinding design recording scope rounds most a → IsBinding design recording scope rounds most b → a ≡ b
  one_binding a b first second =
      let bound : a.bound ≡ b.bound = first.bound ∙ sym second.bound in
      let scale : a.timescale ≡ b.timescale = first.timescale ∙ sym second.timescale in
      let here = binding_is a in
      let there = binding_is b in cc

same_variable : (v w : Variable) → Some v ≡ Some w → v ≡ w
same_variable v w same = cc

one_name : (scope : List (List ℕ)) (recording : Recording) (number : ℕ) (a b : List ℕ)
    → IsVariableName scope recording number a → IsVariableName scope recording number b → a ≡ b
one_name scope recording number a b first second =
    first.named ∙ (ap (variable_name scope recording) (same_variable first.variable second.variable (sym first.is ∙ second.is)) ∙ sym second.named)

-- A cause is reported in one way.
one_report : (design : Design) (recording : Recording) (scope : List (List ℕ)) (c : BindErr) (e f : RecordingRefusal)
    → Reports design recording scope c e → Reports design recording scope c f → e ≡ f
one_report design recording scope cause.NoScope e f first second = first ∙ sym second
one_report design recording scope (cause.RangeDiffers v) e f first second =
    first.reports ∙ (ap RangeDiffers (one_name scope recording v first.name second.name first.is second.is) ∙ sym second.reports)
one_report design recording scope (cause.MissingInput n) e f first second = first ∙ sym second
one_report design recording scope (cause.TooLarge p) e f first second = first ∙ sym second
one_report design recording scope cause.Memory e f first second = absurd first

same_recording_fault : (a b : RecordingFault) → Some a ≡ Some b → a ≡ b
same_recording_fault a b same = cc

one_faulty : (text : List ℕ) (a b : RecordingFault) → IsFaulty text a → IsFaulty text b → a ≡ b
one_faulty text a b first second =
    same_recording_fault a b (sym first.says ∙ (ap fault_of (one_fault text first.cause second.cause first.first second.first) ∙ second.says))

-- A refusal is the first fault of the text, or that of a recording.
data RefusedAs (text : List ℕ) (design : Design) (scope : List (List ℕ)) (rounds most : ℕ) (e : RecordingRefusal) : Type 0 where
  faulty : (fault : RecordingFault) → e ≡ Grammar fault → IsFaulty text fault → RefusedAs text design scope rounds most e
  alone : IsRecordingAlone text design scope rounds most e → RefusedAs text design scope rounds most e

refused_as : (text : List ℕ) (design : Design) (scope : List (List ℕ)) (rounds most : ℕ) (e : RecordingRefusal)
    → IsRefusedRecording text design scope rounds most e → RefusedAs text design scope rounds most e
refused_as text design scope rounds most (Grammar fault) refused = faulty fault refl refused
refused_as text design scope rounds most (NoScope name) refused = alone refused
refused_as text design scope rounds most (RangeDiffers name) refused = alone refused
refused_as text design scope rounds most (MissingInput name) refused = alone refused
refused_as text design scope rounds most (TooLarge places) refused = alone refused

module _ (text : List ℕ) (design : Design) (scope : List (List ℕ)) (rounds most : ℕ) where
  one_alone : (e f : RecordingRefusal) → IsRecordingAlone text design scope rounds most e → IsRecordingAlone text design scope rounds most f → e ≡ f
  one_alone e f first second =
      let same = one_said text second.recording first.recording second.says first.says in
      let there : IsUnbound design first.recording scope rounds most f = subst (λ (r : Recording). IsUnbound design r scope rounds most f) same second.unbound in
      one_unbound first.recording first.unbound there
    where
      one_unbound : (recording : Recording) → IsUnbound design recording scope rounds most e → IsUnbound design recording scope rounds most f → e ≡ f
      one_unbound recording here there =
          let causes = one_cause design recording scope rounds most there.cause here.cause there.refused here.refused in
          one_report design recording scope here.cause e f here.reports
          (subst (λ (c : BindErr). Reports design recording scope c f) causes there.reports)

  one_refused : (e f : RecordingRefusal) → RefusedAs text design scope rounds most e → RefusedAs text design scope rounds most f → e ≡ f
  one_refused e f (faulty a is first) (faulty b other second) = is ∙ (ap (λ (x : RecordingFault). Grammar x) (one_faulty text a b first second) ∙ sym other)
  one_refused e f (faulty a is first) (alone second) = absurd (said_without_fault text second.recording first.cause second.says first.first)
  one_refused e f (alone first) (faulty b other second) = absurd (said_without_fault text first.recording second.cause first.says second.first)
  one_refused e f (alone first) (alone second) = one_alone e f first second

  recorded_or_refused : (rules : Rules) (r : Recorded) (e : RecordingRefusal)
      → IsRecorded text design scope rounds most rules r → RefusedAs text design scope rounds most e → ⊥
  recorded_or_refused rules r e is (faulty a same first) = said_without_fault text r.recording first.cause is.says first.first
  recorded_or_refused rules r e is (alone other) =
      let same = one_said text r.recording other.recording is.says other.says in
      let unbound : IsUnbound design r.recording scope rounds most e = subst (λ (x : Recording). IsUnbound design x scope rounds most e) (sym same) other.unbound in
      bound_or_cause design r.recording scope rounds most r.binding unbound.cause is.bound unbound.refused

  one_recorded : (rules : Rules) (a b : Recorded) → IsRecorded text design scope rounds most rules a
      → IsRecorded text design scope rounds most rules b → (a.recording ≡ b.recording) × (a.binding ≡ b.binding)
  one_recorded rules a b first second =
      let same = one_said text a.recording b.recording first.says second.says in
      let there : IsBinding design a.recording scope rounds most b.binding =
      subst (λ (x : Recording). IsBinding design x scope rounds most b.binding) (sym same) second.bound in
      (same, one_binding design a.recording scope rounds most a.binding b.binding first.bound there)

  -- The law.
  pub one_recording : (rules : Rules) (a b : Result Recorded RecordingRefusal)
      → RecordingComes text design scope rounds most rules a → RecordingComes text design scope rounds most rules b → IsSame a b
  one_recording rules (Ok a) (Ok b) first second = one_recorded rules a b first second
  one_recording rules (Ok a) (Err f) first second = recorded_or_refused rules a f first (refused_as text design scope rounds most f second)
  one_recording rules (Err e) (Ok b) first second = recorded_or_refused rules b e second (refused_as text design scope rounds most e first)
  one_recording rules (Err e) (Err f) first second =
      one_refused e f (refused_as text design scope rounds most e first) (refused_as text design scope rounds most f second)

  -- What a call answers, but for memory, is what the text comes to.
  pub recording_answer : (rules : Rules) (result : Result Recorded RecordingErr)
      → IfOk result (IsRecorded text design scope rounds most rules)
      → IfErr result (IfRecordingRefused (IsRefusedRecording text design scope rounds most))
      → IsRecordingAnswer text design scope rounds most rules result
  recording_answer rules (Ok recorded) is refused = λ outcome comes. one_recording rules (Ok recorded) outcome is comes
  recording_answer rules (Err (Refused refusal)) is refused = λ outcome comes. one_recording rules (Err refusal) outcome refused comes
  recording_answer rules (Err Memory) is refused = λ outcome comes. tt
