-- What a run comes to, by its status.
use Rattle.std.proofs.Common.{◌≡◌, ◌≢◌, ◌∙◌, ℕ, ◌≤◌, List, Bool, Result, Ok, Err, inl, inr, ⊎_elim, sym, ap, subst, arith}
use Rattle.std.specs.Prelude.{◌⊎◌}
use Rattle.base_shelf.specs.Shelf.{View, Rose}
use Rattle.base_shelf.specs.Sink.{SinkView}
use Rattle.base_run.specs.Ends.{Commands, Comes, IsAnswered, IsOutside, IsUnrefused, LineMade, NoFault, Ran, RanWords, TextsExact, TextsRefused, Unread, Unwritten, Usage, Within}
use Rattle.base_run.specs.Phases.{Answer, AreExact, ComesTo, IsFirm, NeverRefused}
use Rattle.base_run.specs.Rows.{Start, Stands, DoneRow, OutputFails, ReportFails}
use Rattle.base_run.proofs.Exact.{err_same, exact, never_refused, ok_err}
use Rattle.base_run.proofs.Faultless.{never_unread, never_unwritten}
use Rattle.base_run.proofs.Leaves.{files_left, sink_gains}

-- the status of a line
made_status : (told : Bool) (text : List ℕ) (own : ℕ) (old new : SinkView) (status : ℕ) → LineMade told text own old new status → (status ≡ own) ⊎ (status ≡ 20)
made_status told text own old new status (inl printed) = printed.is
made_status told text own old new status (inr memory) = inr memory.is

-- The laws of a set of commands: what texts are refused for has a status of texts, a line has one meaning, and the phases
-- are exact.
pub record Lawful (k : Commands) (s : Start) : Type 0 where
  pub of_texts : (w : k.Words) (cause : k.Cause) → k.Means s.line w → ComesTo s.shelf_told s.shelf.files (k.phases_of w) (Err cause)
      → (5 ≤ k.reporting.status_of cause) × (k.reporting.status_of cause ≤ 19)
  pub one_meaning : (w other : k.Words) → k.Means s.line w → k.Means s.line other → other ≡ w
  pub exact : (w : k.Words) → k.Means s.line w → AreExact (k.phases_of w)

module _ (k : Commands) (s : Start) (law : Lawful k s) (shelf : View) (sink : SinkView) (status : ℕ) where
  done : RanWords k s shelf sink status → status ≡ 0 → Within k s (λ w. DoneRow (k.phases_of w) s shelf sink)
  done (RanWords.ends_outside outside same line) zero = absurd (⊎_elim (λ e. omega (arith, e, zero)) (λ e. omega (arith, e, zero)) line.is)
  done (RanWords.ends_without_words same line) zero = let e = line.is in absurd (omega (arith, e, zero))
  done (RanWords.ends_within w means (Ran.ends_done is row)) zero = (w, means, row)
  done (RanWords.ends_within w means (Ran.ends_unread name row line)) zero =
      absurd (⊎_elim (λ e. omega (arith, e, zero)) (λ e. omega (arith, e, zero)) (made_status _ _ _ _ _ _ line))
  done (RanWords.ends_within w means (Ran.ends_refused cause row line)) zero =
      let low = (law.of_texts w cause means row.comes).0 in absurd (⊎_elim (λ e. omega (arith, e, zero, low)) (λ e. omega (arith, e, zero)) (made_status _ _ _ _ _ _ line))
  done (RanWords.ends_within w means (Ran.ends_unwritten name before row line)) zero = absurd (⊎_elim (λ e. omega (arith, e, zero)) (λ e. omega (arith, e, zero)) line.is)
  done (RanWords.ends_within w means (Ran.ends_without_memory before row line)) zero = let e = line.is in absurd (omega (arith, e, zero))

  usage : RanWords k s shelf sink status → status ≡ 2 → Usage k s shelf sink status
  usage (RanWords.ends_outside outside same line) two = record { outside = outside; same = same; line = line }
  usage (RanWords.ends_without_words same line) two = let e = line.is in absurd (omega (arith, e, two))
  usage (RanWords.ends_within w means (Ran.ends_done is row)) two = absurd (omega (arith, is, two))
  usage (RanWords.ends_within w means (Ran.ends_unread name row line)) two =
      absurd (⊎_elim (λ e. omega (arith, e, two)) (λ e. omega (arith, e, two)) (made_status _ _ _ _ _ _ line))
  usage (RanWords.ends_within w means (Ran.ends_refused cause row line)) two =
      let low = (law.of_texts w cause means row.comes).0 in absurd (⊎_elim (λ e. omega (arith, e, two, low)) (λ e. omega (arith, e, two)) (made_status _ _ _ _ _ _ line))
  usage (RanWords.ends_within w means (Ran.ends_unwritten name before row line)) two = absurd (⊎_elim (λ e. omega (arith, e, two)) (λ e. omega (arith, e, two)) line.is)
  usage (RanWords.ends_within w means (Ran.ends_without_memory before row line)) two = let e = line.is in absurd (omega (arith, e, two))

  read : RanWords k s shelf sink status → status ≡ 3 → Within k s (λ w. Unread k s w shelf sink status)
  read (RanWords.ends_outside outside same line) three = absurd (⊎_elim (λ e. omega (arith, e, three)) (λ e. omega (arith, e, three)) line.is)
  read (RanWords.ends_without_words same line) three = let e = line.is in absurd (omega (arith, e, three))
  read (RanWords.ends_within w means (Ran.ends_done is row)) three = absurd (omega (arith, is, three))
  read (RanWords.ends_within w means (Ran.ends_unread name row line)) three = (w, means, record { name = name; row = row; line = line })
  read (RanWords.ends_within w means (Ran.ends_refused cause row line)) three =
      let low = (law.of_texts w cause means row.comes).0 in absurd (⊎_elim (λ e. omega (arith, e, three, low)) (λ e. omega (arith, e, three)) (made_status _ _ _ _ _ _ line))
  read (RanWords.ends_within w means (Ran.ends_unwritten name before row line)) three = absurd (⊎_elim (λ e. omega (arith, e, three)) (λ e. omega (arith, e, three)) line.is)
  read (RanWords.ends_within w means (Ran.ends_without_memory before row line)) three = let e = line.is in absurd (omega (arith, e, three))

  write : RanWords k s shelf sink status → status ≡ 4 → Within k s (λ w. Unwritten k s w shelf sink status)
  write (RanWords.ends_outside outside same line) four = absurd (⊎_elim (λ e. omega (arith, e, four)) (λ e. omega (arith, e, four)) line.is)
  write (RanWords.ends_without_words same line) four = let e = line.is in absurd (omega (arith, e, four))
  write (RanWords.ends_within w means (Ran.ends_done is row)) four = absurd (omega (arith, is, four))
  write (RanWords.ends_within w means (Ran.ends_unread name row line)) four =
      absurd (⊎_elim (λ e. omega (arith, e, four)) (λ e. omega (arith, e, four)) (made_status _ _ _ _ _ _ line))
  write (RanWords.ends_within w means (Ran.ends_refused cause row line)) four =
      let low = (law.of_texts w cause means row.comes).0 in absurd (⊎_elim (λ e. omega (arith, e, four, low)) (λ e. omega (arith, e, four)) (made_status _ _ _ _ _ _ line))
  write (RanWords.ends_within w means (Ran.ends_unwritten name before row line)) four = (w, means, record { name = name; before = before; row = row; line = line })
  write (RanWords.ends_within w means (Ran.ends_without_memory before row line)) four = let e = line.is in absurd (omega (arith, e, four))

  texts : RanWords k s shelf sink status → 5 ≤ status → status ≤ 19 → Within k s (λ w. TextsRefused k s w shelf sink status)
  texts (RanWords.ends_outside outside same line) low high = absurd (⊎_elim (λ e. omega (arith, e, low)) (λ e. omega (arith, e, high)) line.is)
  texts (RanWords.ends_without_words same line) low high = let e = line.is in absurd (omega (arith, e, high))
  texts (RanWords.ends_within w means (Ran.ends_done is row)) low high = absurd (omega (arith, is, low))
  texts (RanWords.ends_within w means (Ran.ends_unread name row line)) low high =
      absurd (⊎_elim (λ e. omega (arith, e, low)) (λ e. omega (arith, e, high)) (made_status _ _ _ _ _ _ line))
  texts (RanWords.ends_within w means (Ran.ends_refused cause row line)) low high = (
    w,
    means,
    record {
      cause = cause;
      row = row;
      status_is = ⊎_elim (λ own. own) (λ e. absurd (omega (arith, e, high))) (made_status _ _ _ _ _ _ line);
      line = line;
    },
  )
  texts (RanWords.ends_within w means (Ran.ends_unwritten name before row line)) low high = absurd (⊎_elim (λ e. omega (arith, e, low)) (λ e. omega (arith, e, high)) line.is)
  texts (RanWords.ends_within w means (Ran.ends_without_memory before row line)) low high = let e = line.is in absurd (omega (arith, e, high))

  by_line : (own : ℕ) → own ≢ 1 → own ≤ 20 → ((status ≡ own) ⊎ (status ≡ 20)) → (status ≢ 1) × (status ≤ 20)
  by_line own not high (inl is) = (λ one. not (sym is ∙ one), omega (arith, is, high))
  by_line own not high (inr is) = (λ one. omega (arith, is, one), omega (arith, is))

  only : RanWords k s shelf sink status → (status ≢ 1) × (status ≤ 20)
  only (RanWords.ends_outside outside same line) = by_line 2 (λ e. omega (arith, e)) (omega arith) line.is
  only (RanWords.ends_without_words same line) = let e = line.is in (λ one. omega (arith, e, one), omega (arith, e))
  only (RanWords.ends_within w means (Ran.ends_done is row)) = (λ one. omega (arith, is, one), omega (arith, is))
  only (RanWords.ends_within w means (Ran.ends_unread name row line)) = by_line 3 (λ e. omega (arith, e)) (omega arith) (made_status _ _ _ _ _ _ line)
  only (RanWords.ends_within w means (Ran.ends_refused cause row line)) =
      let bounds = law.of_texts w cause means row.comes in
      let low = bounds.0 in
      let high = bounds.1 in
      by_line (k.reporting.status_of cause) (λ e. omega (arith, e, low)) (omega (arith, high)) (made_status _ _ _ _ _ _ line)
  only (RanWords.ends_within w means (Ran.ends_unwritten name before row line)) = by_line 4 (λ e. omega (arith, e)) (omega arith) line.is
  only (RanWords.ends_within w means (Ran.ends_without_memory before row line)) = let e = line.is in (λ one. omega (arith, e, one), omega (arith, e))

  usage_exact : RanWords k s shelf sink status → IsOutside k s → (status ≡ 2) ⊎ (status ≡ 20)
  usage_exact (RanWords.ends_outside outside same line) none = line.is
  usage_exact (RanWords.ends_without_words same line) none = inr line.is
  usage_exact (RanWords.ends_within w means ran) none = absurd (none w means)

  -- ---- texts

  module _ (w : k.Words) where
    firm_row : (cause : k.Cause) → ((outcome : Result Answer k.Cause) → ComesTo s.shelf_told s.shelf.files (k.phases_of w) outcome → outcome ≡ Err cause)
        → Ran (k.phases_of w) k.reporting s shelf sink status → (status ≡ k.reporting.status_of cause) ⊎ ((status ≡ 3) ⊎ (status ≡ 20))
    firm_row cause alone (Ran.ends_done is row) = absurd (ok_err row.answer cause (alone (Ok row.answer) row.stands))
    firm_row cause alone (Ran.ends_unread name row line) = inr (made_status _ _ _ _ _ _ line)
    firm_row cause alone (Ran.ends_refused other row line) =
        let same : other ≡ cause = err_same other cause (alone (Err other) row.comes) in
        ⊎_elim (λ own. inl (own ∙ ap k.reporting.status_of same)) (λ memory. inr (inr memory)) (made_status _ _ _ _ _ _ line)
    firm_row cause alone (Ran.ends_unwritten name before row line) = absurd (ok_err row.answer cause (alone (Ok row.answer) row.stands))
    firm_row cause alone (Ran.ends_without_memory before row line) = inr (inr line.is)

    sure_row : ((cause : k.Cause) → ComesTo s.shelf_told s.shelf.files (k.phases_of w) (Err cause) → ⊥) → NoFault k s w shelf sink
        → Ran (k.phases_of w) k.reporting s shelf sink status → (status ≡ 0) ⊎ (status ≡ 20)
    sure_row sure none (Ran.ends_done is row) = inl is
    sure_row sure none (Ran.ends_unread name row line) = absurd (none.reads name row.next row.cause)
    sure_row sure none (Ran.ends_refused cause row line) = absurd (sure cause row.comes)
    sure_row sure none (Ran.ends_unwritten name before row line) = absurd (fails row.answer row.stands before line.later row.fails)
      where
        fails : (answer : Answer) → Stands (k.phases_of w) s answer → (before : SinkView) → before.faults ≤ sink.faults
            → OutputFails s answer shelf before name ⊎ ReportFails (k.phases_of w) s answer shelf before name → ⊥
        fails answer stands before later (inl output) =
            none.writes answer output.i output.file stands output.is (subst (λ (n : List ℕ). Rose (s.shelf.writes n) (shelf.writes n)) output.name_is output.rose)
        fails answer stands before later (inr report) =
            let up = report.rose.up in
            let end = report.rose.end in none.printed record { up = omega (arith, up, later); end = omega (arith, end) }
    sure_row sure none (Ran.ends_without_memory before row line) = inr line.is

  texts_exact : RanWords k s shelf sink status → TextsExact k s status
  texts_exact (RanWords.ends_outside outside same line) = λ told w means cause firm. absurd (outside w means)
  texts_exact (RanWords.ends_without_words same line) = λ told w means cause firm. inr (inr line.is)
  texts_exact (RanWords.ends_within w means ran) = λ told other again cause firm.
      let same : w ≡ other = law.one_meaning other w again means in
      firm_row w cause (λ outcome comes.
      exact s.shelf_told s.shelf.files (k.phases_of w) (law.exact w means) told cause outcome (subst (λ (x : k.Words). IsFirm s.shelf_told s.shelf.files (k.phases_of x) cause) (sym same) firm) comes) ran

  unrefused : RanWords k s shelf sink status → IsUnrefused k s shelf sink status
  unrefused (RanWords.ends_outside outside same line) = λ w means sure none. absurd (outside w means)
  unrefused (RanWords.ends_without_words same line) = λ w means sure none. inr line.is
  unrefused (RanWords.ends_within w means ran) = λ other again sure none.
      let same : other ≡ w = law.one_meaning w other means again in
      sure_row w (subst (λ (x : k.Words). NeverRefused s.shelf_told s.shelf.files (k.phases_of x)) same sure)
      (subst (λ (x : k.Words). NoFault k s x shelf sink) same none) ran

  complete : RanWords k s shelf sink status → IsAnswered k s shelf sink status
  complete ran = λ told w means passes none.
      unrefused ran w means (never_refused s.shelf_told s.shelf.files (k.phases_of w) told (law.exact w means) passes) none

  -- A run comes to what its row says.
  pub comes : RanWords k s shelf sink status → Comes k s shelf sink status
  comes ran = record {
    done = done ran;
    usage = usage ran;
    read = read ran;
    write = write ran;
    texts = texts ran;
    memory = λ is. ran;
    only = only ran;
    files = files_left k s shelf sink status ran;
    gains = λ told. sink_gains k s shelf sink status (λ w cause means comes. (law.of_texts w cause means comes).1) told ran;
    usage_exact = usage_exact ran;
    texts_exact = texts_exact ran;
    faultless = λ none. (
      λ three. let there = read ran three in never_unread k s there.0 shelf sink status none there.2,
      λ four. let there = write ran four in never_unwritten k s there.0 shelf sink status none there.2,
    );
    complete = complete ran;
    unrefused = unrefused ran;
  }
