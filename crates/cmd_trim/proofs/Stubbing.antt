-- Texts with stubs, and without.
use Rattle.std.proofs.Common.{◌≡◌, ◌∙◌, ◌<◌, ℕ, List, [], ◌∷◌, Option, Result, Ok, Err, arith, length, refl, subst, sym}
use Rattle.std.specs.Prelude.{IsSome}
use Rattle.std.specs.Borrow.{Bor}
use Rattle.base_line.specs.Line.{Text}
use Rattle.base_run.specs.Prepared.{PreparedAlone, answer_of}
use Rattle.base_run.specs.declared.ready.Ready.{Ready}
use Rattle.base_run.specs.declared.refusal.Refusal.{Refusal}
use Rattle.base_run.proofs.Exact.{ok_err, ok_same}
use Rattle.base_run.proofs.Then.{judged_then}
use Rattle.netlist_trim.specs.Trims.{IsTrimmed, IsUntrimmed}
use Rattle.netlist_stub.specs.Stubs.{StubComes}
use Rattle.netlist_stub.specs.declared.fault.StubFault.{StubFault}
use Rattle.cmd_trim.specs.Done.{KeepsTexts}
use Rattle.cmd_trim.specs.Phases.{StubsCome, kept_phases, text_phases}
use Rattle.cmd_trim.specs.Words.{TrimValues, names_in, text_in}
use Rattle.cmd_trim.specs.declared.cause.Refused.{Refused}
use Rattle.cmd_trim.specs.declared.cause.Refused.TheVariants.{Stub}
use Rattle.cmd_trim.proofs.Cutting.{some_names}

-- ---- no stubs

itself : (names supplies : List (List ℕ)) (text : List ℕ) (outcome : Result (List ℕ) StubFault) → names ≡ []
    → StubsCome names supplies text outcome → outcome ≡ Ok text
itself [] supplies text outcome none is = is
itself (name ∷ names) supplies text outcome none is = absurd (let bad : name ∷ names ≡ [] = none in cc)

pub unstubbed : (w : TrimValues) (text : List ℕ) → w.stubs ≡ [] → (result : Result Ready (Refusal Refused))
    → PreparedAlone (kept_phases w text) answer_of result → PreparedAlone (text_phases w text) answer_of result
unstubbed w text none result kept =
    let here : StubsCome w.stubs w.supplies text (Ok text) = subst (λ (names : List (List ℕ)). StubsCome names w.supplies text (Ok text)) (sym none) refl in
    judged_then (StubsCome w.stubs w.supplies text) Stub (kept_phases w) (λ (l : List ℕ). l) answer_of text result (record { found = here; refused = tt }) kept

pub without_stubs : KeepsTexts
without_stubs w text none = record {
  kept = λ out is. subst (λ (l : List ℕ). IsTrimmed l w.top out) (ok_same is.stubbed text (itself w.stubs w.supplies text (Ok is.stubbed) none is.stubs)) is.trimmed;
  untrimmed = λ fault is. subst (λ (l : List ℕ). IsUntrimmed l w.top fault) (ok_same is.0 text (itself w.stubs w.supplies text (Ok is.0) none is.1)) is.2;
  never = λ fault is. ok_err text fault (sym (itself w.stubs w.supplies text (Err fault) none is));
}

-- ---- some stubs

pub come_of : (names supplies : List (List ℕ)) (text : List ℕ) (outcome : Result (List ℕ) StubFault) → 0 < length names
    → StubComes text names supplies outcome → StubsCome names supplies text outcome
come_of [] supplies text outcome some is = absurd (omega (arith, some))
come_of (name ∷ names) supplies text outcome some is = is

-- So by the words' lists, cut.
pub come_from : (stubs supplies : Option (Bor Text)) (names others : List (List ℕ)) (text : List ℕ) (outcome : Result (List ℕ) StubFault)
    → IsSome stubs → names ≡ names_in (text_in stubs) → others ≡ names_in (text_in supplies)
    → StubComes text names others outcome → StubsCome (names_in (text_in stubs)) (names_in (text_in supplies)) text outcome
come_from stubs supplies names others text outcome some first second is =
    come_of (names_in (text_in stubs)) (names_in (text_in supplies)) text outcome (some_names stubs some)
    (subst (λ (l : List (List ℕ)). StubComes text (names_in (text_in stubs)) l outcome) second
    (subst (λ (l : List (List ℕ)). StubComes text l others outcome) first is))
