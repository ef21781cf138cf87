-- What a run leaves, from its row.
use Rattle.std.proofs.Common.{◌≡◌, ◌≢◌, ◌∙◌, ℕ, ◌≤◌, List, [], IsTrue, Err, inl, inr, refl, sym, subst, arith, length}
use Rattle.std.specs.Prelude.{◌⊎◌}
use Rattle.std.proofs.lemmas.List.{append-nil}
use Rattle.base_shelf.specs.Shelf.{View, Rose}
use Rattle.base_shelf.specs.Sink.{SinkView}
use Rattle.base_shelf.specs.Calls.{Gained}
use Rattle.base_run.specs.Ends.{Commands, Gains, IsLineOf, LeavesFiles, LineMade, LinePrinted, MemoryPrinted, Ran, RanWords}
use Rattle.base_lists.specs.Text.{line}
use Rattle.base_run.specs.Lines.{memory_line, read_line, report_name, usage_line, write_line}
use Rattle.base_run.specs.Outputs.{LeavesUpTo}
use Rattle.base_run.specs.Phases.{Answer, ComesTo}
use Rattle.base_run.specs.Rows.{Start, NothingDone, OutputFails, PartDone, ReportFails, Stands, WriteRow}

nothing_gained : (text : List ℕ) (v : SinkView) → Gained text v v
nothing_gained text v = ([], sym (append-nil v.bytes), record { rest = text; is = refl })

module _ (k : Commands) (s : Start) (shelf : View) (sink : SinkView) (status : ℕ) where
  -- ---- files

  -- what a write that failed left
  after_fault : (w : k.Words) → k.Means s.line w → (status ≡ 0) ⊎ ((status ≡ 4) ⊎ (status ≡ 20)) → (name : List ℕ) (before : SinkView) (row : WriteRow (k.phases_of w) s shelf before name) → LeavesFiles k s shelf status
  after_fault w means ends name before row = by row.fails
    where
      up_to : (i : ℕ) → LeavesUpTo s.shelf_told row.answer.files i s.shelf shelf → LeavesFiles k s shelf status
      up_to i (inl same) = LeavesFiles.leaves_as_before same
      up_to i (inr (n, up, all)) = LeavesFiles.leaves_written ends (w, means, (row.answer, row.stands, (n, all)))

      by : OutputFails s row.answer shelf before name ⊎ ReportFails (k.phases_of w) s row.answer shelf before name → LeavesFiles k s shelf status
      by (inl output) = up_to output.i output.left
      by (inr report) = LeavesFiles.leaves_written ends (w, means, (row.answer, row.stands, (length row.answer.files, report.delivered)))

  -- what want of memory left
  after_memory : (w : k.Words) → k.Means s.line w → status ≡ 20 → (before : SinkView) → NothingDone s shelf before ⊎ PartDone (k.phases_of w) s shelf before → LeavesFiles k s shelf status
  after_memory w means twenty before (inl nothing) = LeavesFiles.leaves_as_before nothing.files
  after_memory w means twenty before (inr part) = LeavesFiles.leaves_written (inr (inr twenty)) (w, means, (part.answer, part.stands, (part.k, part.delivered)))

  files_of_ran : (w : k.Words) → k.Means s.line w → Ran (k.phases_of w) k.reporting s shelf sink status → LeavesFiles k s shelf status
  files_of_ran w means (Ran.ends_done is row) = LeavesFiles.leaves_written (inl is) (w, means, (row.answer, row.stands, (length row.answer.files, row.delivered)))
  files_of_ran w means (Ran.ends_unread name row printed) = LeavesFiles.leaves_as_before row.files
  files_of_ran w means (Ran.ends_refused cause row printed) = LeavesFiles.leaves_as_before row.files
  files_of_ran w means (Ran.ends_unwritten name before row printed) = after_fault w means (inr printed.is) name before row
  files_of_ran w means (Ran.ends_without_memory before row printed) = after_memory w means printed.is before row.state

  pub files_left : RanWords k s shelf sink status → LeavesFiles k s shelf status
  files_left (RanWords.ends_outside outside same printed) = LeavesFiles.leaves_as_before (cc)
  files_left (RanWords.ends_without_words same printed) = LeavesFiles.leaves_as_before (cc)
  files_left (RanWords.ends_within w means ran) = files_of_ran w means ran

  -- ---- the sink

  module _ (low : (w : k.Words) (cause : k.Cause) → k.Means s.line w → ComesTo s.shelf_told s.shelf.files (k.phases_of w) (Err cause) → k.reporting.status_of cause ≤ 19) (told : IsTrue s.sink_told) where
    -- a line alone, or as much of it as there was memory for
    line_gains : (text : List ℕ) (own : ℕ) → IsLineOf k s own text → LinePrinted s.sink_told text own s.sink sink status → own ≢ 20 → Gains k s sink status
    line_gains text own is printed not = by printed.is
      where
        by : (status ≡ own) ⊎ (status ≡ 20) → Gains k s sink status
        by (inl same) = Gains.gains_line text (subst (λ (n : ℕ). IsLineOf k s n text) (sym same) is) (printed.gained told)
            (printed.whole (λ twenty. not (sym same ∙ twenty)) told)
        by (inr twenty) = Gains.gains_memory twenty [] text (inl refl) (inr (own, is)) (s.sink, sink, nothing_gained [] s.sink, printed.gained told, nothing_gained memory_line sink)

    memory_gains : MemoryPrinted s.sink_told s.sink sink status → Gains k s sink status
    memory_gains printed =
        Gains.gains_memory printed.is [] [] (inl refl) (inl refl) (s.sink, s.sink, nothing_gained [] s.sink, nothing_gained [] s.sink, printed.gained told)

    made_gains : (text : List ℕ) (own : ℕ) → IsLineOf k s own text → own ≢ 20 → LineMade s.sink_told text own s.sink sink status → Gains k s sink status
    made_gains text own is not (inl printed) = line_gains text own is printed not
    made_gains text own is not (inr memory) = memory_gains memory

    module _ (w : k.Words) (means : k.Means s.line w) where
      part_gains : (answer : Answer) → Stands (k.phases_of w) s answer → (before : SinkView) → Gained answer.printed s.sink before
          → Rose s.sink.faults before.faults → LinePrinted s.sink_told (write_line report_name) 4 before sink status → Gains k s sink status
      part_gains answer stands before gained rose printed = by printed.is
        where
          by : (status ≡ 4) ⊎ (status ≡ 20) → Gains k s sink status
          by (inl four) = Gains.gains_part four answer.printed (inr (w, means, (answer, stands, refl))) (rose_on s.sink.faults before.faults sink.faults rose printed.later)
              (before, sink, gained, printed.gained told, nothing_gained [] sink)
            where
              rose_on : (first mid last : ℕ) → Rose first mid → mid ≤ last → Rose first last
              rose_on first mid last rose later = let up = rose.up in let end = rose.end in record { up = omega (arith, up, later); end = omega (arith, end) }
          by (inr twenty) = Gains.gains_memory twenty answer.printed (write_line report_name) (inr (w, means, (answer, stands, refl)))
              (inr (4, IsLineOf.of_output refl report_name refl)) (before, sink, gained, printed.gained told, nothing_gained memory_line sink)

      fault_gains : (name : List ℕ) (before : SinkView) (answer : Answer) → Stands (k.phases_of w) s answer
          → OutputFails s answer shelf before name ⊎ ReportFails (k.phases_of w) s answer shelf before name
          → LinePrinted s.sink_told (write_line name) 4 before sink status → Gains k s sink status
      fault_gains name before answer stands (inl output) printed =
          line_gains (write_line name) 4 (IsLineOf.of_output refl name refl)
          (subst (λ (v : SinkView). LinePrinted s.sink_told (write_line name) 4 v sink status) output.unprinted printed) (λ e. omega (arith, e))
      fault_gains name before answer stands (inr report) printed =
          part_gains answer stands before (report.gained told) report.rose
          (subst (λ (n : List ℕ). LinePrinted s.sink_told (write_line n) 4 before sink status) report.name_is printed)

      short_gains : (before : SinkView) → NothingDone s shelf before ⊎ PartDone (k.phases_of w) s shelf before → MemoryPrinted s.sink_told before sink status → Gains k s sink status
      short_gains before (inl nothing) printed = memory_gains (subst (λ (v : SinkView). MemoryPrinted s.sink_told v sink status) nothing.unprinted printed)
      short_gains before (inr part) printed = by part.gained
        where
          by : (before ≡ s.sink) ⊎ ((part.k ≡ length part.answer.files) × (IsTrue s.sink_told → Gained part.answer.printed s.sink before)) → Gains k s sink status
          by (inl same) = memory_gains (subst (λ (v : SinkView). MemoryPrinted s.sink_told v sink status) same printed)
          by (inr (all, gained)) = Gains.gains_memory printed.is part.answer.printed [] (inr (w, means, (part.answer, part.stands, refl))) (inl refl)
              (before, before, gained told, nothing_gained [] before, printed.gained told)

      ran_gains : Ran (k.phases_of w) k.reporting s shelf sink status → Gains k s sink status
      ran_gains (Ran.ends_done is row) = Gains.gains_report is row.answer.printed (inr (w, means, (row.answer, row.stands, refl))) (row.printed told)
      ran_gains (Ran.ends_unread name row made) = made_gains (read_line name) 3 (IsLineOf.of_input refl name refl) (λ e. omega (arith, e)) made
      ran_gains (Ran.ends_refused cause row made) =
          let high = low w cause means row.comes in
          made_gains (line (k.reporting.text_of cause)) (k.reporting.status_of cause) (IsLineOf.of_texts cause refl refl) (λ e. omega (arith, e, high)) made
      ran_gains (Ran.ends_unwritten name before row printed) = fault_gains name before row.answer row.stands row.fails printed
      ran_gains (Ran.ends_without_memory before row printed) = short_gains before row.state printed

    pub sink_gains : RanWords k s shelf sink status → Gains k s sink status
    sink_gains (RanWords.ends_outside outside same printed) = line_gains usage_line 2 (IsLineOf.of_words refl refl) printed (λ e. omega (arith, e))
    sink_gains (RanWords.ends_without_words same printed) = memory_gains printed
    sink_gains (RanWords.ends_within w means ran) = ran_gains w means ran
