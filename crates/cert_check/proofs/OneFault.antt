-- A certificate's lines have one first fault, and none where it is checked.
use Rattle.std.proofs.Common.{◌≡◌, ◌⊎◌, ⊎_elim, ℕ, ◌+◌, ◌<◌, Bool, true, List, [], ◌∷◌, ◌++◌, append-nil, append_assoc, length, length-append, refl, sym, subst, ap, ◌∙◌, arith}
use Rattle.std.proofs.lemmas.List.{nil_from_length}
use Rattle.design_circuit.proofs.Numbers.{number_of_place_at}
use Rattle.design_circuit.proofs.Rules.{AgreeBelow}
use Rattle.design_circuit.specs.declared.waveform.Written.{Written}
use Rattle.design_circuit.specs.Fits.{Fits}
use Rattle.design_circuit.specs.Job.{Job, number_of}
use Rattle.design_circuit.specs.Waveform.{certain}
use Rattle.law_model.specs.declared.line.Line.{Line as ALine}
use Rattle.law_model.specs.declared.turn.TurnLine.{TurnLine}
use Rattle.wave_proved.specs.Contents.{Contents, IsFinished, IsWave, job, next_number}
use Rattle.wave_proved.specs.Token.{IsLineNext, LineAgrees, with_line, written_by_line}
use Rattle.law_along.proofs.Fitted.{along, along_job}
use Rattle.law_along.specs.Accepted.{AcceptsLine}
use Rattle.law_along.specs.Along.{GoesAlong, by_line}
use Rattle.law_along.specs.Along as walk
use Rattle.cert_writer.specs.declared.cert.Entry.{Entry}
use Rattle.cert_writer.specs.declared.cert.Entry.TheVariants.{Line}
use Rattle.cert_writer.specs.declared.cert.Form.{Form}
use Rattle.cert_writer.specs.declared.cert.Form.TheVariants.{Turns}
use Rattle.cert_turns.specs.Conditions.{gives_bit}
use Rattle.cert_turns.specs.TurnLines.{AreAllTurnLines, AreTurnLines}
use Rattle.cert_check.specs.Entries.{EachHasTurns, HasTurnsBy, lines_in, turns_in_front}
use Rattle.cert_check.specs.Laws.{CheckedHasNone, IsReason, IsSameFault, OneFault}
use Rattle.cert_check.specs.Walk.{IsFirstCertFault, IsUpTo, LacksTurn, due_line, line, no_memory, turn, with_turns}
use Rattle.cert_check.specs.declared.refusal.CertFault.TheVariants.{BadTurn}
use Rattle.cert_check.specs.declared.refusal.CheckErr.{CheckErr}
use Rattle.cert_check.specs.declared.refusal.CheckErr.TheVariants.{Refused}
use Rattle.cert_check.proofs.OwnEntries.{turned_lines}
use Rattle.cert_check.proofs.Reasons.{Reason, both_cert, done_line, done_plain, done_reason, one_reason, reason_of, step_class_no, step_line_no}
use Rattle.cert_check.proofs.TurnCounts.{each_behind_all, goes_on_by, lines_append, none_lacks, places_there, same_head, same_tail, turned_front, turned_long}
use Rattle.cert_check.proofs.Ways.{Begins, FirstStep, IsAhead, ahead, at_once, begins, grows_along, line_first, line_step, of_class, of_line, one_way, up_lines}

-- A wave that came along the first lines of a text.
record IsAt (form : Form) (start : Contents) (entries : List Entry) (c : Contents)
    (done rest : List Entry) : Type 0 where
  parted : entries ≡ done ++ rest
  up : IsUpTo form start done c

-- The lines of Line places of the text, from the wave's side.
lines_at : (form : Form) (start : Contents) (entries : List Entry) (c : Contents) (done rest : List Entry)
    → start.lines ≡ []
    → IsAt form start entries c done rest → c.lines ++ lines_in rest ≡ lines_in entries
lines_at form start entries c done rest none at =
    ap (λ ls. ls ++ lines_in rest) (up_lines form start done c none at.up)
    ∙ (sym (lines_append done rest) ∙ ap lines_in (sym at.parted))

-- Of two such waves one goes on to the other.
two_ways : (form : Form) (start : Contents) (entries : List Entry) (b c : Contents) (done dun rest rust : List Entry)
    → start.lines ≡ [] → IsAt form start entries b done rest → IsAt form start entries c dun rust
    → GoesAlong b c ⊎ GoesAlong c b
two_ways form start entries b c done dun rest rust none at_b at_c =
    one_way start b c (lines_in rest) (lines_in rust) at_b.up.goes at_c.up.goes
    (lines_at form start entries b done rest none at_b ∙ sym (lines_at form start entries c dun rust none at_c))

ahead_at : (form : Form) (start : Contents) (entries : List Entry) (b c : Contents) (done dun rest rust : List Entry)
    → start.lines ≡ [] → IsAt form start entries b done rest → IsAt form start entries c dun rust → GoesAlong b c
    → IsAhead b c done dun rest rust
ahead_at form start entries b c done dun rest rust none at_b at_c goes =
    ahead form start b c done dun rest rust none at_b.up at_c.up goes (sym at_b.parted ∙ at_c.parted)

-- No wave goes on from a fault.
no_step : (form : Form) (start : Contents) (entries : List Entry) (b c : Contents) (done dun rest rust : List Entry)
    (n : ℕ)
    (e : CheckErr) → start.lines ≡ [] → IsAt form start entries b done rest → IsAt form start entries c dun rust
    → GoesAlong b c → Reason b n rest e → (d : Contents) → FirstStep b d → GoesAlong d c → ⊥
no_step form start entries b c done dun rest rust n e none at_b at_c goes reason d (of_class plain agrees) more =
    step_class_no b n rest e reason plain agrees
no_step form start entries b c done dun rest rust n e none at_b at_c goes reason d
    (of_line k next accepts agrees) more =
    let first = line_first b c k done dun rest rust more
    (ahead_at form start entries b c done dun rest rust none at_b at_c goes) in
    step_line_no b n rest e k (first.begins.others ++ rust) at_b.up.wave reason first.rest_is next accepts agrees

stays_at : (form : Form) (start : Contents) (entries : List Entry) (b c : Contents) (done dun rest rust : List Entry)
    (n : ℕ)
    (e : CheckErr) → start.lines ≡ [] → IsAt form start entries b done rest → IsAt form start entries c dun rust
    → GoesAlong b c → Reason b n rest e → c ≡ b
stays_at form start entries b c done dun rest rust n e none at_b at_c goes reason =
    ⊎_elim (λ (same : c ≡ b). same)
    (λ (begun : Begins b c). absurd (no_step form start entries b c done dun rest rust n e none at_b at_c goes reason
    begun.b begun.step
    begun.more)) (begins b c goes)

-- Where both are at a fault, they are the same, and so is what is left.
record IsSamePoint (b c : Contents) (done dun rest rust : List Entry) : Type 0 where
  wave : c ≡ b
  before : dun ≡ done
  left : rest ≡ rust

same_point : (form : Form) (start : Contents) (entries : List Entry) (b c : Contents) (done dun rest rust : List Entry)
    → start.lines ≡ [] → IsAt form start entries b done rest → IsAt form start entries c dun rust → c ≡ b
    → IsSamePoint b c done dun rest rust
same_point form start entries b c done dun rest rust none at_b at_c same =
    let far = ahead_at form start entries b c done dun rest rust none at_b at_c
    (subst (GoesAlong b) (sym same) walk.stays) in
    let point = at_once b c done dun rest rust (sym (ap (λ (x : Contents). x.lines) same)) far in
    record { wave = same; before = point.0; left = point.1 }

-- A turn is lacked behind a line.
record LacksAt (form : Form) (start : Contents) (entries : List Entry) (b : Contents) (done : List Entry) (l : ALine)
    (stated : List TurnLine) (rest : List Entry) : Type 0 where
  is_form : form ≡ Turns
  at : IsAt form start entries b done (with_turns l stated ++ rest)
  next : IsLineNext b
  accepts : AcceptsLine b l
  agrees : LineAgrees b l
  gives : gives_bit l.body ≡ true
  lacks : LacksTurn (with_line b l) (next_number b) stated rest

-- Then no wave goes on behind that line.
turns_of : (j : Job) (limit : ℕ) (w : List Written) (root : ℕ) (gives : Bool) (turns : List TurnLine) → gives ≡ true
    → HasTurnsBy gives j limit w root turns → AreAllTurnLines j limit w root turns
turns_of j limit w root gives turns is has = subst (λ g. HasTurnsBy g j limit w root turns) is has

pub not_behind : (b : Contents) (l : ALine) (stated : List TurnLine) (rest others behind : List Entry) (j : Job)
    (limit : ℕ)
    (w : List Written) → IsWave b → AcceptsLine b l → gives_bit l.body ≡ true
    → LacksTurn (with_line b l) (next_number b) stated rest → j ≡ job b → limit ≡ b.limits.conflicts
    → AgreeBelow (certain (with_line b l).written) (certain w) (next_number b + 1)
    → HasTurnsBy (gives_bit l.body) j limit w (number_of j l.place) (turns_in_front others)
    → turned_lines stated ++ rest ≡ others ++ behind → ⊥
not_behind b l stated rest others behind j limit w wave accepts gives lacks job_is limit_is agree has is =
    let k : Job = job b in
    let fits : Fits k = wave.fits.fits_job in
    let within = accepts.line_holds.within in
    let number : number_of k l.place ≡ next_number b =
    ap (number_of k) accepts.line_holds.place_is ∙ number_of_place_at k (next_number b) fits.ordering fits.all within in
    let all : AreAllTurnLines k b.limits.conflicts w (next_number b) (turns_in_front others) =
    subst (λ n. AreAllTurnLines k b.limits.conflicts w n (turns_in_front others)) number
    (subst (λ m. AreAllTurnLines k m w (number_of k l.place) (turns_in_front others)) limit_is
    (subst (λ i. AreAllTurnLines i limit w (number_of i l.place) (turns_in_front others)) job_is
    (turns_of j limit w (number_of j l.place) (gives_bit l.body) (turns_in_front others) gives has))) in
    let back : AgreeBelow (certain w) (certain (with_line b l).written) (next_number b + 1) = λ i less. sym
    (agree i less) in
    let due = lacks.due in
    let count = all.all in
    let same = ap length (places_there k fits w (with_line b l).written (next_number b + 1) (omega (arith, within)) back
    (next_number b)
    (omega arith)) in
    none_lacks (with_line b l) w (next_number b) stated rest others behind fits within back lacks all.are
    (omega (arith, due, count, same)) is

past_turn : (form : Form) (start : Contents) (entries : List Entry) (b : Contents) (done : List Entry) (l : ALine)
    (stated : List TurnLine) (rest : List Entry) (c : Contents) (dun rust : List Entry) → start.lines ≡ []
    → LacksAt form start entries b done l stated rest → IsAt form start entries c dun rust
    → GoesAlong (with_line b l) c → ⊥
past_turn form start entries b done l stated rest c dun rust none lacked at_c goes =
    let whole = along b (with_line b l) c (by_line walk.stays l lacked.next lacked.accepts lacked.agrees) goes in
    let far = ahead_at form start entries b c done dun (with_turns l stated ++ rest) rust none lacked.at at_c whole in
    let first = line_first b c l done dun (with_turns l stated ++ rest) rust goes far in
    let grow = grows_along goes in
    let long = length-append b.written (written_by_line b l ∷ []) in
    let each : EachHasTurns form (job c) c.limits.conflicts c.written far.on.extra =
    each_behind_all form (job c) c.limits.conflicts c.written done far.on.extra
    (subst (EachHasTurns form (job c) c.limits.conflicts c.written) far.on.longer_is at_c.up.turned.each) in
    let has : EachHasTurns Turns (job c) c.limits.conflicts c.written (Line l ∷ first.begins.others) =
    subst (λ f. EachHasTurns f (job c) c.limits.conflicts c.written (Line l ∷ first.begins.others)) lacked.is_form
    (subst (EachHasTurns form (job c) c.limits.conflicts c.written) first.begins.is each) in
    not_behind b l stated rest first.begins.others rust (job c) c.limits.conflicts c.written lacked.at.up.wave lacked.accepts
    lacked.gives lacked.lacks
    (along_job goes) (ap (λ l. l.conflicts) grow.limits) (λ k less. grow.agree k (omega (arith, less, long))) has.0
    (same_tail (Line l) (Line l) (turned_lines stated ++ rest) (first.begins.others ++ rust) first.rest_is)

-- So a way from before the line ends there.
at_turn : (form : Form) (start : Contents) (entries : List Entry) (b : Contents) (done : List Entry) (l : ALine)
    (stated : List TurnLine) (rest : List Entry) (c : Contents) (dun rust : List Entry) → start.lines ≡ []
    → LacksAt form start entries b done l stated rest → IsAt form start entries c dun rust → GoesAlong b c → c ≡ b
at_turn form start entries b done l stated rest c dun rust none lacked at_c goes =
    ⊎_elim (λ (same : c ≡ b). same)
    (λ (begun : Begins b c).
    absurd (past_turn form start entries b done l stated rest c dun rust none lacked at_c
    (line_step b begun.b c l (lines_in (turned_lines stated ++ rest)) (lines_in rust) lacked.next begun.step begun.more
    (lines_at form start entries b done (with_turns l stated ++ rest) none lacked.at
    ∙ sym (lines_at form start entries c dun rust none at_c)))))
    (begins b c goes)

-- Turns that are stated up to a fault behind the same line are the same.
lacks_first : (b : Contents) (l : ALine) (stated more : List TurnLine) (rest rust : List Entry) → IsWave b
    → AcceptsLine b l
    → LacksTurn (with_line b l) (next_number b) stated rest → LacksTurn (with_line b l) (next_number b) more rust
    → turned_lines stated ++ rest ≡ turned_lines more ++ rust → length stated < length more → ⊥
lacks_first b l stated more rest rust wave accepts lacks other is less =
    let front = turned_front more in
    none_lacks (with_line b l) (with_line b l).written (next_number b) stated rest
    (turned_lines more) rust wave.fits.fits_job
    accepts.line_holds.within (λ k low. refl) lacks
    (subst (AreTurnLines (job b) b.limits.conflicts (with_line b l).written (next_number b)) (sym front) other.so_far)
    (subst (λ ts. length stated < length ts) (sym front) less) is

stated_same : (stated more : List TurnLine) (rest rust : List Entry)
    → turned_lines stated ++ rest ≡ turned_lines more ++ rust
    → length stated ≡ length more → turned_lines more ≡ turned_lines stated
stated_same stated more rest rust is long =
    let a = turned_long stated in
    let b = turned_long more in
    let on = goes_on_by (turned_lines stated) (turned_lines more) rest rust is (omega (arith, long, a, b)) in
    let sum = ap length on.longer_is ∙ length-append (turned_lines stated) on.extra in
    let none : on.extra ≡ [] = nil_from_length on.extra (omega (arith, long, a, b, sum)) in
    on.longer_is ∙ (ap (λ es. turned_lines stated ++ es) none ∙ append-nil (turned_lines stated))

-- A first fault that isn't for want of memory.
data Found (form : Form) (start : Contents) (entries : List Entry) (e : CheckErr) : Type 0 where
  at_line : (c : Contents) (done rest : List Entry) → IsAt form start entries c done rest
      → Reason c (due_line done) rest e
      → Found form start entries e
  at_turns : (c : Contents) (done : List Entry) (l : ALine) (stated : List TurnLine) (rest : List Entry)
      → LacksAt form start entries c done l stated rest → e ≡ Refused (BadTurn (due_line (done ++ with_turns l stated)))
      → Found form start entries e

found : (form : Form) (start : Contents) (entries : List Entry) (e : CheckErr) → IsReason e
    → IsFirstCertFault form start entries e → Found form start entries e
found form start entries e reason (line c done rest same parted up fault) =
    at_line c done rest (record { parted = parted; up = up }) (reason_of c (due_line done) rest e fault)
found form start entries e reason (turn c done l stated rest is_form parted up next accepts agrees gives lacks) =
    at_turns c done l stated rest (record {
      is_form = is_form;
      at = record { parted = parted ∙ append_assoc done (with_turns l stated) rest; up = up };
      next = next;
      accepts = accepts;
      agrees = agrees;
      gives = gives;
      lacks = lacks;
    }) refl
found form start entries e reason no_memory = absurd (reason refl)

-- Two of them.
both_lines : (form : Form) (start : Contents) (entries : List Entry) (b c : Contents) (done dun rest rust : List Entry)
    (e f : CheckErr) → start.lines ≡ [] → IsAt form start entries b done rest → IsAt form start entries c dun rust
    → Reason b (due_line done) rest e → Reason c (due_line dun) rust f → c ≡ b → IsSameFault e f
both_lines form start entries b c done dun rest rust e f none at_b at_c first second same =
    let point = same_point form start entries b c done dun rest rust none at_b at_c same in
    one_reason b (due_line done) rest e f at_b.up.wave first
    (subst (λ es. Reason b (due_line done) es f) (sym point.left)
    (subst (λ es. Reason b (due_line es) rust f) point.before
    (subst (λ (x : Contents). Reason x (due_line dun) rust f) same second)))

line_and_turns : (form : Form) (start : Contents) (entries : List Entry) (b c : Contents)
    (done dun rest rust : List Entry)
    (e : CheckErr) (l : ALine) (stated : List TurnLine) → start.lines ≡ [] → IsAt form start entries b done rest
    → Reason b (due_line done) rest e → LacksAt form start entries c dun l stated rust → ⊥
line_and_turns form start entries b c done dun rest rust e l stated none at_b first lacked =
    let same : c ≡ b = ⊎_elim
    (λ (up : GoesAlong b c). stays_at form start entries b c done dun rest (with_turns l stated ++ rust)
    (due_line done) e none at_b lacked.at
    up first)
    (λ (back : GoesAlong c b). sym (at_turn form start entries c dun l stated rust b done rest none lacked at_b back))
    (two_ways form start entries b c done dun rest (with_turns l stated ++ rust) none at_b lacked.at) in
    let point = same_point form start entries b c done dun rest (with_turns l stated ++ rust) none at_b lacked.at same
    in
    step_line_no b (due_line done) rest e l (turned_lines stated ++ rust) at_b.up.wave first point.left
    (subst IsLineNext same lacked.next) (subst (λ (x : Contents). AcceptsLine x l) same lacked.accepts)
    (subst (λ (x : Contents). LineAgrees x l) same lacked.agrees)

record IsSameTurn (done dun : List Entry) (l k : ALine) (stated more : List TurnLine) : Type 0 where
  before : dun ≡ done
  line_is : k ≡ l
  turns : turned_lines more ≡ turned_lines stated

same_turns : (b c : Contents) (done dun rest rust : List Entry) (l k : ALine) (stated more : List TurnLine) → IsWave b
    → AcceptsLine b l → c ≡ b → dun ≡ done → with_turns l stated ++ rest ≡ with_turns k more ++ rust
    → LacksTurn (with_line b l) (next_number b) stated rest → LacksTurn (with_line c k) (next_number c) more rust
    → IsSameTurn done dun l k stated more
same_turns b c done dun rest rust l k stated more wave accepts same before left lacks other =
    let tails : turned_lines stated ++ rest ≡ turned_lines more ++ rust =
    same_tail (Line l) (Line k) (turned_lines stated ++ rest) (turned_lines more ++ rust) left in
    let lines : k ≡ l = entry_line l k
    (same_head (Line l) (Line k) (turned_lines stated ++ rest) (turned_lines more ++ rust) left) in
    let moved : LacksTurn (with_line b l) (next_number b) more rust =
    subst (λ (x : ALine). LacksTurn (with_line b x) (next_number b) more rust) lines
    (subst (λ (x : Contents). LacksTurn (with_line x k) (next_number x) more rust) same other) in
    record {
      before = before;
      line_is = lines;
      turns = stated_same stated more rest rust tails
          (neither (length stated) (length more)
          (lacks_first b l stated more rest rust wave accepts lacks moved tails)
          (lacks_first b l more stated rust rest wave accepts moved lacks (sym tails)));
    }
  where
    entry_line : (x y : ALine) → Line x ≡ Line y → y ≡ x
    entry_line x y is = cc

    neither : (m n : ℕ) → (m < n → ⊥) → (n < m → ⊥) → m ≡ n
    neither m n up down = omega (arith, up, down)

both_turns : (form : Form) (start : Contents) (entries : List Entry) (b c : Contents) (done dun : List Entry)
    (l k : ALine)
    (stated more : List TurnLine) (rest rust : List Entry) (e f : CheckErr) → start.lines ≡ []
    → LacksAt form start entries b done l stated rest → LacksAt form start entries c dun k more rust
    → e ≡ Refused (BadTurn (due_line (done ++ with_turns l stated)))
    → f ≡ Refused (BadTurn (due_line (dun ++ with_turns k more))) → IsSameFault e f
both_turns form start entries b c done dun l k stated more rest rust e f none first second e_is f_is =
    let same : c ≡ b = ⊎_elim
    (λ (up : GoesAlong b c). at_turn form start entries b done l stated rest c dun
    (with_turns k more ++ rust) none first second.at up)
    (λ (back : GoesAlong c b). sym (at_turn form start entries c dun k more rust b done
    (with_turns l stated ++ rest) none second first.at back))
    (two_ways form start entries b c done dun (with_turns l stated ++ rest) (with_turns k more ++ rust) none first.at
    second.at) in
    let point = same_point form start entries b c done dun (with_turns l stated ++ rest)
    (with_turns k more ++ rust) none first.at second.at same in
    let turns = same_turns b c done dun rest rust l k stated more first.at.up.wave first.accepts same point.before
    point.left first.lacks
    second.lacks in
    both_cert e f _ _ e_is f_is
    (ap (λ es. BadTurn (due_line es))
    (ap (λ es. es ++ with_turns l stated) (sym turns.before)
    ∙ (ap (λ (x : ALine). dun ++ Line x ∷ turned_lines stated) (sym turns.line_is)
    ∙ ap (λ es. dun ++ Line k ∷ es) (sym turns.turns))))

both_found : (form : Form) (start : Contents) (entries : List Entry) (e f : CheckErr) → start.lines ≡ []
    → Found form start entries e → Found form start entries f → IsSameFault e f
both_found form start entries e f none (at_line b done rest at_b first) (at_line c dun rust at_c second) =
    both_lines form start entries b c done dun rest rust e f none at_b at_c first second
    (⊎_elim (λ (up : GoesAlong b c). stays_at form start entries b c done dun rest rust
    (due_line done) e none at_b at_c up first)
    (λ (back : GoesAlong c b). sym (stays_at form start entries c b dun done rust rest
    (due_line dun) f none at_c at_b back second))
    (two_ways form start entries b c done dun rest rust none at_b at_c))
both_found form start entries e f none (at_line b done rest at_b first) (at_turns c dun k more rust second f_is) =
    absurd (line_and_turns form start entries b c done dun rest rust e k more none at_b first second)
both_found form start entries e f none (at_turns b done l stated rest first e_is) (at_line c dun rust at_c second) =
    absurd (line_and_turns form start entries c b dun done rust rest f l stated none at_c second first)
both_found form start entries e f none (at_turns b done l stated rest first e_is)
    (at_turns c dun k more rust second f_is) =
    both_turns form start entries b c done dun l k stated more rest rust e f none first second e_is f_is

pub one_fault : OneFault
one_fault form start entries e f none first second reason_e reason_f =
    both_found form start entries e f none (found form start entries e reason_e first)
    (found form start entries f reason_f second)

-- A checked certificate has none.
finished_stays : (c b : Contents) → IsFinished c → GoesAlong c b → b ≡ c
finished_stays c b finished goes =
    ⊎_elim (λ (same : b ≡ c). same) (λ (begun : Begins c b). absurd (at_end begun.b begun.step)) (begins c b goes)
  where
    at_end : (d : Contents) → FirstStep c d → ⊥
    at_end d (of_class plain agrees) = done_plain c finished plain
    at_end d (of_line l next accepts agrees) = done_line c finished next

none_found : (form : Form) (start : Contents) (entries : List Entry) (c : Contents) (e : CheckErr) → start.lines ≡ []
    → IsFinished c
    → IsAt form start entries c entries [] → Found form start entries e → ⊥
none_found form start entries c e none finished at_c (at_line b done rest at_b reason) =
    let same : c ≡ b = ⊎_elim
    (λ (up : GoesAlong b c). stays_at form start entries b c done entries rest []
    (due_line done) e none at_b at_c up reason)
    (λ (back : GoesAlong c b). sym (finished_stays c b finished back))
    (two_ways form start entries b c done entries rest [] none at_b at_c) in
    let point = same_point form start entries b c done entries rest [] none at_b at_c same in
    done_reason b (due_line done) rest e (subst IsFinished same finished) point.left reason
none_found form start entries c e none finished at_c (at_turns b done l stated rest lacked e_is) =
    let same : c ≡ b = ⊎_elim
    (λ (up : GoesAlong b c). at_turn form start entries b done l stated rest c entries [] none lacked at_c up)
    (λ (back : GoesAlong c b). sym (finished_stays c b finished back))
    (two_ways form start entries b c done entries (with_turns l stated ++ rest) [] none lacked.at at_c) in
    done_line b (subst IsFinished same finished) lacked.next

pub no_fault : CheckedHasNone
no_fault start cert c conditions e none checked fault reason =
    none_found cert.form start cert.entries c e none checked.finished
    (record {
      parted = sym (append-nil cert.entries);
      up = record {
        goes = checked.goes;
        wave = checked.wave;
        lines = checked.lines ∙ sym (ap (λ ls. ls ++ lines_in cert.entries) none);
        turned = checked.turned;
      };
    }) (found cert.form start cert.entries e reason fault)
