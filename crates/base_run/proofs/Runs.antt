-- What is prepared and delivered, as a row.
use Rattle.std.proofs.Common.{◌≡◌, ◌∙◌, ℕ, List, length, Result, Ok, Err, inl, inr, refl, sym, ap, subst}
use Rattle.std.specs.Prelude.{◌⊎◌, string_bytes}
use Rattle.base_shelf.specs.Shelf.{View, Later, Nothing, SameCounts}
use Rattle.base_shelf.specs.Sink.{SinkView}
use Rattle.base_run.specs.Ends.{Delivers, LinePrinted, Ran, ReportsRefusal, Reporting, ReportedAs}
use Rattle.base_run.specs.Lines.{report_name}
use Rattle.base_run.specs.Outputs.{Delivered, DeliveredTo, DeliveryEnds, IsClosed, LeavesUpTo, StopsAt, StopsPrinting}
use Rattle.base_run.specs.Phases.{Answer, Phases, LeavesClosed}
use Rattle.base_run.specs.Prepared.{Refused}
use Rattle.base_run.specs.Rows.{NothingDone, PartDone, Start, Stands}
use Rattle.base_run.specs.declared.refusal.Refusal.{Refusal}
use Rattle.base_run.specs.declared.refusal.Refusal.TheVariants.{Read, Long, Text, Memory as NoMemory}
use Rattle.base_run.specs.declared.undelivered.Undelivered.{Undelivered}
use Rattle.base_run.specs.declared.undelivered.Undelivered.TheVariants.{Fault, Memory}
use Rattle.base_run.proofs.Deliveries.{delivered_same, left_same}
use Rattle.base_run.proofs.Steps.{rose_after, same_twice}
use Rattle.base_run.proofs.Then.{long_comes}

module _ {C : Type 0} (p : Phases Answer C) (t : Reporting C) (s : Start) (new : View) (sink : SinkView) (status : ℕ) where
  -- what is refused before the first output
  pub refused_row : (e : Refusal C) → new.files ≡ s.shelf.files → Refused s.shelf_told p s.shelf new e
      → ReportsRefusal t.status_of t.text_of s.sink_told e s.sink sink status → Ran p t s new sink status
  refused_row (Read file) files is reported = Ran.ends_unread (string_bytes file) record { next = is.next; cause = is.rose; files = files; closed = is.closed } reported
  refused_row (Long cause) files is reported = Ran.ends_refused cause record {
    comes = long_comes s.shelf_told s.shelf.files p cause is.long;
    files = files;
    counts = is.kept;
    closed = inr is.long;
  } reported
  refused_row (Text cause) files is reported = Ran.ends_refused cause record { comes = is.comes; files = files; counts = is.kept; closed = inl is.closed } reported
  refused_row NoMemory files is reported = Ran.ends_without_memory s.sink record { state = inl record { files = files; unprinted = refl }; counts = is; faults = refl } reported

module _ {C : Type 0} (p : Phases Answer C) (t : Reporting C) (s : Start) (answer : Answer) (mid new : View) (before sink : SinkView) (status : ℕ)
    (stands : Stands p s answer) (later : Later s.shelf mid) (files : mid.files ≡ s.shelf.files) (written : mid.written ≡ s.shelf.written) (kept : SameCounts s.shelf mid)
    (closed : LeavesClosed p s.shelf mid (Ok answer)) (after : Later mid new) where
  -- the file in hand after the outputs
  closed_after : LeavesClosed p s.shelf mid (Ok answer) → IsClosed mid new → LeavesClosed p s.shelf new (Ok answer)
  closed_after first (inl none) = inl none
  closed_after (inl none) (inr same) = inl (same ∙ none)
  closed_after (inr (kept, unread)) (inr same) = inr (same ∙ kept, unread)

  delivered_from : (k : ℕ) → DeliveredTo s.shelf_told k answer.files mid new → DeliveredTo s.shelf_told k answer.files s.shelf new
  delivered_from k all = delivered_same s.shelf_told answer.files k mid s.shelf new new all written files refl refl

  left_from : (i : ℕ) → LeavesUpTo s.shelf_told answer.files i mid new → LeavesUpTo s.shelf_told answer.files i s.shelf new
  left_from i left = left_same s.shelf_told answer.files i mid s.shelf new new left written files refl refl

  delivered : Delivered s.shelf_told s.sink_told answer.files answer.printed mid new s.sink before → ReportedAs s.sink_told (Ok tt) before sink status → Ran p t s new sink status
  delivered all reported =
      let now : before ≡ sink = sym reported.1 in
      Ran.ends_done reported.0 record {
        answer = answer;
        stands = stands;
        delivered = delivered_from (length answer.files) all.delivered;
        printed = λ told. ap (λ (x : SinkView). x.bytes) reported.1 ∙ all.printed told;
        counts = same_twice s.shelf mid new kept all.counts;
        faults = ap (λ (x : SinkView). x.faults) reported.1 ∙ all.faults;
        closed = closed_after closed all.closed;
        begun = after.begun ∙ later.begun;
      }

  short_state : (k : ℕ) → before ≡ s.sink → LeavesUpTo s.shelf_told answer.files k s.shelf new → NothingDone s new before ⊎ PartDone p s new before
  short_state i unprinted (inl same) = inl record { files = same; unprinted = unprinted }
  short_state i unprinted (inr (k, up, all)) = inr record { answer = answer; stands = stands; k = k; delivered = all; gained = inl unprinted }

  stops : (e : Undelivered) (i : ℕ) → StopsAt s.shelf_told answer.files i mid new e → new.hand ≡ Nothing → before ≡ s.sink → ReportedAs s.sink_told (Err e) before sink status → Ran p t s new sink status
  stops (Fault text) i stop none unprinted reported =
      let at = stop.at in
      let name = at.file.name in
      Ran.ends_unwritten name before record {
        answer = answer;
        stands = stands;
        fails = inl record {
          i = i;
          file = at.file;
          is = at.is;
          name_is = refl;
          left = left_from i stop.left;
          rose = rose_after (s.shelf.writes name) (mid.writes name) (new.writes name) (later.writes name) at.cause.1;
          closed = none;
          unprinted = unprinted;
        };
      } (subst (λ (l : List ℕ). LinePrinted s.sink_told l 4 before sink status) at.cause.0 reported)
  stops Memory i stop none unprinted reported = Ran.ends_without_memory before record {
    state = short_state i unprinted (left_from i stop.left);
    counts = same_twice s.shelf mid new kept stop.at.cause;
    faults = ap (λ (x : SinkView). x.faults) unprinted;
  } reported

  stops_printing : (e : Undelivered) → StopsPrinting s.shelf_told s.sink_told answer.files answer.printed mid new s.sink before e → ReportedAs s.sink_told (Err e) before sink status → Ran p t s new sink status
  stops_printing (Fault text) at reported = Ran.ends_unwritten report_name before record {
    answer = answer;
    stands = stands;
    fails = inr record {
      name_is = refl;
      delivered = delivered_from (length answer.files) at.delivered;
      gained = at.gained;
      rose = at.cause.1;
      counts = same_twice s.shelf mid new kept at.counts;
      closed = closed_after closed at.closed;
    };
  } (subst (λ (l : List ℕ). LinePrinted s.sink_told l 4 before sink status) at.cause.0 reported)
  stops_printing Memory at reported = Ran.ends_without_memory before record {
    state = inr record { answer = answer; stands = stands; k = length answer.files; delivered = delivered_from (length answer.files) at.delivered; gained = inr (refl, at.gained) };
    counts = same_twice s.shelf mid new kept at.counts;
    faults = at.cause;
  } reported

  by_ends : (result : Result Unit Undelivered) → DeliveryEnds s.shelf_told s.sink_told answer.files answer.printed mid new s.sink before result → ReportedAs s.sink_told result before sink status
      → Ran p t s new sink status
  by_ends (Ok _) all reported = delivered all reported
  by_ends (Err e) (inl at) reported = stops e at.0.0 at.0.1 at.1 at.2 reported
  by_ends (Err e) (inr at) reported = stops_printing e at reported

-- what is delivered
pub delivered_row : {C : Type 0} (p : Phases Answer C) (t : Reporting C) (s : Start) (answer : Answer) (mid new : View) (sink : SinkView) (status : ℕ)
    → Stands p s answer → Later s.shelf mid → mid.files ≡ s.shelf.files → mid.written ≡ s.shelf.written → SameCounts s.shelf mid → LeavesClosed p s.shelf mid (Ok answer)
    → Delivers s.shelf_told s.sink_told answer mid new s.sink sink status → Ran p t s new sink status
delivered_row p t s answer mid new sink status stands later files written kept closed d =
    by_ends p t s answer mid new d.before sink status stands later files written kept closed d.delivery.later d.result d.delivery.ends d.reported
