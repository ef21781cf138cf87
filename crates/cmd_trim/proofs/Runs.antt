-- What a run comes to.
use Rattle.std.proofs.Common.{◌≡◌, ◌∙◌, ℕ, ◌≤◌, List, [], ◌∷◌, length, IsTrue, Bool, Result, Ok, Err, inl, inr, refl, sym, subst, arith}
use Rattle.std.proofs.lemmas.List.Elements.{All-contains, All-nil, All-push, Contains-push}
use Rattle.base_shelf.specs.Shelf.{Files, View}
use Rattle.base_shelf.specs.Sink.{SinkView}
use Rattle.base_run.specs.Ends.{Comes, RanWords}
use Rattle.base_run.specs.Outputs.{File, IsWhole, WrittenTo}
use Rattle.base_run.specs.Phases.{Answer, ComesTo, IsOne, text_held}
use Rattle.base_run.specs.Rows.{Start}
use Rattle.base_run.proofs.Comes.{Lawful, comes}
use Rattle.base_run.proofs.Exact.{err_same, ok_err}
use Rattle.netlist_trim.proofs.OneWay.{one_outcome}
use Rattle.netlist_stub.proofs.OneWay.{one_stubbed}
use Rattle.cmd_trim.specs.Cause.{status_of}
use Rattle.cmd_trim.specs.Commands.{commands}
use Rattle.cmd_trim.specs.Done.{Done, WritesKept, IsKeptOf, IsRefusedFor, RefusesText}
use Rattle.cmd_trim.specs.Phases.{StubsCome, trim_answer, trim_phases}
use Rattle.cmd_trim.specs.Words.{TrimValues}
use Rattle.cmd_trim.specs.declared.cause.Refused.{Refused}
use Rattle.cmd_trim.specs.declared.cause.Refused.TheVariants.{Long, Stub, Text}
use Rattle.cmd_trim.proofs.Lines.{one_meaning}

-- ---- laws

statuses : (cause : Refused) → (5 ≤ status_of cause) × (status_of cause ≤ 19)
statuses Long = (omega arith, omega arith)
statuses (Stub fault) = (omega arith, omega arith)
statuses (Text fault) = (omega arith, omega arith)

-- Stubs come to one outcome.
one_stubs : (names supplies : List (List ℕ)) (text : List ℕ) → IsOne (StubsCome names supplies text)
one_stubs [] supplies text = λ a b first second. first ∙ sym second
one_stubs (name ∷ names) supplies text = one_stubbed text (name ∷ names) supplies

lawful : (s : Start) → Lawful commands s
lawful s = record {
  of_texts = λ w cause means is. statuses cause;
  one_meaning = one_meaning s.line;
  exact = λ w means text. (one_stubs w.stubs w.supplies text, λ stubbed stubs. (one_outcome stubbed w.top, λ out found. tt));
}

-- ---- status 0

answer_same : (a b : Answer) → ◌≡◌ {A = Result Answer Refused} (Ok a) (Ok b) → a ≡ b
answer_same a b h = cc

pub record Answered (told : Bool) (files : Files) (w : TrimValues) (answer : Answer) : Type 0 where
  pub out : List ℕ
  pub kept : IsTrue told → IsKeptOf w (text_held files w.files) out
  pub is : answer ≡ trim_answer w out

answered : (told : Bool) (files : Files) (w : TrimValues) (answer : Answer) → ComesTo told files (trim_phases w) (Ok answer) → Answered told files w answer
answered told files w answer (inl first) = absurd (ok_err answer Long first.1)
answered told files w answer (inr (text, read, inl (e, refused, is))) = absurd (ok_err answer (Stub e) is)
answered told files w answer (inr (text, read, inr (stubbed, stubs, inl (e, refused, is)))) = absurd (ok_err answer (Text e) is)
answered told files w answer (inr (text, read, inr (stubbed, stubs, inr (out, found, is)))) = record {
  out = out;
  kept = λ t. subst (λ (l : List ℕ). IsKeptOf w l out) (read.is t) (record { stubbed = stubbed; stubs = stubs; trimmed = found });
  is = answer_same answer (trim_answer w out) is;
}

kept_of : (told : Bool) (old new : Files) (w : TrimValues) (answer : Answer) → IsTrue told → Answered told old w answer
    → WrittenTo told (length answer.files) answer.files old new → WritesKept w old new
kept_of told old new w answer t a written =
    let one : WrittenTo told 1 (record { name = w.to; bytes = a.out } ∷ []) old new = subst (λ (x : Answer). WrittenTo told (length x.files) x.files old new) a.is written in
    let file : File = record { name = w.to; bytes = a.out } in
    record {
      out = a.out;
      kept = a.kept t;
      written = All-contains (IsWhole told new) (file ∷ []) file one.whole (Contains-push [] file) t;
      others = λ name other. one.rest name (λ has. other (All-contains (λ n. n ≡ w.to) (w.to ∷ []) name (All-push (λ n. n ≡ w.to) [] w.to (All-nil (λ n. n ≡ w.to)) refl) has));
    }

module _ (s : Start) (shelf : View) (sink : SinkView) (status : ℕ) where
  pub all_comes : RanWords commands s shelf sink status → Comes commands s shelf sink status
  all_comes ran = comes commands s (lawful s) shelf sink status ran

  module _ (all : Comes commands s shelf sink status) where
    pub done_says : status ≡ 0 → Done s shelf
    done_says zero =
        let there = all.done zero in
        let row = there.2 in record {
          words = there.0;
          means = there.1;
          kept = λ t. kept_of s.shelf_told s.shelf.files shelf.files there.0 row.answer t (answered s.shelf_told s.shelf.files there.0 row.answer row.stands) row.delivered.put;
        }

-- ---- refusals

refused_for : (told : Bool) (files : Files) (w : TrimValues) (cause : Refused) → IsTrue told → ComesTo told files (trim_phases w) (Err cause)
    → IsRefusedFor w (text_held files w.files) cause
refused_for told files w cause t (inl first) =
    subst (IsRefusedFor w (text_held files w.files)) (sym (err_same {B = Answer} cause Long first.1)) (first.0 t)
refused_for told files w cause t (inr (text, read, inl (e, refused, is))) =
    subst (IsRefusedFor w (text_held files w.files)) (sym (err_same {B = Answer} cause (Stub e) is))
    (subst (λ (l : List ℕ). StubsCome w.stubs w.supplies l (Err e)) (read.is t) refused)
refused_for told files w cause t (inr (text, read, inr (stubbed, stubs, inl (e, refused, is)))) =
    subst (IsRefusedFor w (text_held files w.files)) (sym (err_same {B = Answer} cause (Text e) is))
    (stubbed, subst (λ (l : List ℕ). StubsCome w.stubs w.supplies l (Ok stubbed)) (read.is t) stubs, refused)
refused_for told files w cause t (inr (text, read, inr (stubbed, stubs, inr (out, found, is)))) = absurd (ok_err (trim_answer w out) cause (sym is))

module _ (s : Start) (shelf : View) (sink : SinkView) (status : ℕ) (all : Comes commands s shelf sink status) where
  pub refuses_text : 5 ≤ status → status ≤ 19 → RefusesText s status
  refuses_text low high =
      let there = all.texts low high in
      let is = there.2 in record {
        words = there.0;
        means = there.1;
        cause = is.cause;
        status_is = is.status_is;
        refused = λ t. refused_for s.shelf_told s.shelf.files there.0 is.cause t is.row.comes;
      }
