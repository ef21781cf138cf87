-- The line at which the machine stops is the first wrong one.
use Rattle.std.proofs.Common.{◌≡◌, ℕ, ◌+◌, ◌^◌, ◌<◌, ◌≤◌, ◌==◌, true, false, cond, List, [], ◌∷◌, ◌++◌, length, map, Option, Some, None, Result, Err, refl, sym, subst, ◌∙◌, ap, append_assoc, arith}
use Rattle.std.specs.Prelude.{option_map}
use Rattle.std.specs.List.{AllByRecursion}
use Rattle.std.proofs.lemmas.List.{append-nil, length-append, length-map, map-append}
use Rattle.cert_writer.specs.declared.cert.Cert.{Cert}
use Rattle.cert_writer.specs.declared.cert.Entry.{Entry}
use Rattle.cert_writer.specs.declared.cert.Form.{Form}
use Rattle.cert_writer.specs.declared.cert.Form.TheVariants.{Lines}
use Rattle.cert_writer.specs.declared.cert.Head.{Head}
use Rattle.cert_writer.specs.Fits.{FitsEntry, FitsHead}
use Rattle.base_scan.specs.Fronts.{◌>>=◌}
use Rattle.cert_reader.specs.Machine.{State, all, cert_with, finish, form_of_title, head_of_words, head_state, item_of, item_state, run, start, step, then_run, titled, within}
use Rattle.cert_writer.specs.Pieces.{line_of_words, lines_in, with_front, words_in}
use Rattle.cert_writer.specs.Text.{cert_lines, end_words, entry_text, entry_words, head_words, title}
use Rattle.cert_writer.specs.Wrong.{IsFirstWrong, AreViable, IsTextOf}
use Rattle.cert_reader.proofs.EntryLaws.{IsItem, item_takes}
use Rattle.cert_reader.proofs.LineLaws.{head_takes}
use Rattle.base_scan.proofs.Fronts.{some_is}
use Rattle.cert_reader.proofs.PieceLaws.{HasPieces, pieces_some, some}
use Rattle.cert_reader.proofs.RunLaws.{end_line, line_back, run_only, steps, steps_cert, title_takes}

-- What lines are that lead to a state.
abbrev front_lines : Form → Head → List Entry → List (List ℕ)
front_lines form head entries = title form ∷ line_of_words (head_words head) ∷ map entry_text entries

abbrev pub Reached : List (List ℕ) → State → Type 0
Reached front start = front ≡ []
Reached front (titled form) = front ≡ title form ∷ []
Reached front (within form head entries) =
    (front ≡ front_lines form head entries) × (FitsHead head × AllByRecursion (FitsEntry form) entries)
Reached front (all cert) =
    (front ≡ cert_lines cert) × (FitsHead cert.head × AllByRecursion (FitsEntry cert.form) cert.entries)

all-append : (form : Form) (entries : List Entry) (entry : Entry) → AllByRecursion (FitsEntry form) entries → FitsEntry form entry
    → AllByRecursion (FitsEntry form) (entries ++ entry ∷ [])
all-append form [] entry fits last = (last, tt)
all-append form (e ∷ entries) entry fits last = (fits.0, all-append form entries entry fits.1 last)

reach_item : (front : List (List ℕ)) (form : Form) (head : Head) (entries : List Entry) (p : List ℕ) (item : Option Entry) (t : State)
    → Reached front (within form head entries) → IsItem form (length entries) (words_in p) item
    → item_state form head entries (Some item) ≡ Some t → Reached (front ++ p ∷ []) t
reach_item front form head entries p None t reached is led =
    subst (Reached (front ++ p ∷ [])) (some_is (all (cert_with form head entries)) t led) (
      ap (λ f. f ++ p ∷ []) reached.0
          ∙ ap (λ q. front_lines form head entries ++ q ∷ []) (line_back p (end_words (length entries)) is),
      reached.1,
    )
reach_item front form head entries p (Some entry) t reached is led =
    subst (Reached (front ++ p ∷ [])) (some_is (within form head (entries ++ entry ∷ [])) t led) (
      ap (λ f. f ++ p ∷ []) reached.0
          ∙ (ap (λ q. front_lines form head entries ++ q ∷ []) (line_back p (entry_words entry) is.0)
          ∙ ap (λ ls. title form ∷ line_of_words (head_words head) ∷ ls) (sym (map-append entry_text entries (entry ∷ [])))),
      (reached.1.0, all-append form entries entry reached.1.1 is.1),
    )

reach : (front : List (List ℕ)) (s : State) (p : List ℕ) (t : State) → Reached front s → step s p ≡ Some t
    → Reached (front ++ p ∷ []) t
reach front start p t reached led = by (form_of_title p) refl led
  where
    by : (o : Option Form) → form_of_title p ≡ o → option_map (λ form. titled form) o ≡ Some t → Reached (front ++ p ∷ []) t
    by None o_is r = absurd cc
    by (Some form) o_is r =
        subst (Reached (front ++ p ∷ [])) (some_is (titled form) t r)
        (ap (λ f. f ++ p ∷ []) reached ∙ ap (λ q. q ∷ []) (title_takes p form o_is))
reach front (titled form) p t reached led = by (head_of_words (words_in p)) refl led
  where
    by : (o : Option Head) → head_of_words (words_in p) ≡ o → head_state form o ≡ Some t → Reached (front ++ p ∷ []) t
    by None o_is r = absurd cc
    by (Some head) o_is r =
        let read = head_takes (words_in p) head o_is in
        subst (Reached (front ++ p ∷ [])) (some_is (within form head []) t r)
        (ap (λ f. f ++ p ∷ []) reached ∙ ap (λ q. title form ∷ q ∷ []) (line_back p (head_words head) read.words), (read.fits, tt))
reach front (within form head entries) p t reached led = by (item_of form (length entries) (words_in p)) refl led
  where
    by : (o : Option (Option Entry)) → item_of form (length entries) (words_in p) ≡ o → item_state form head entries o ≡ Some t
        → Reached (front ++ p ∷ []) t
    by None o_is r = absurd cc
    by (Some item) o_is r =
        reach_item front form head entries p item t reached (item_takes form (length entries) (words_in p) item o_is) r
reach front (all cert) p t reached led = absurd cc

-- Each state can be finished.
abbrev no_numbers : Head
no_numbers = record { rounds = 0; conflicts = 0; moments = 0; nets = 0 }

few : FitsHead no_numbers
few = record { rounds = omega arith; conflicts = omega arith; moments = omega arith; nets = omega arith }

begin : (front more : List (List ℕ)) (cert : Cert) → FitsHead cert.head → AllByRecursion (FitsEntry cert.form) cert.entries
    → length cert.entries < 2 ^ 64 → cert_lines cert ≡ front ++ more → AreViable front
begin front more cert head entries count is =
    record { cert = cert; more = more; fits = record { head = head; entries = entries; count = count }; begins = is }

abbrev nothing : Form → Cert
nothing form = cert_with form no_numbers []

shorter : (front : List (List ℕ)) (form : Form) (head : Head) (entries : List Entry) → length front < 2 ^ 64
    → front ≡ front_lines form head entries → length entries < 2 ^ 64
shorter front form head entries small is = omega (arith, small, ap length is, length-map entries entry_text)

cert_shorter : (front : List (List ℕ)) (cert : Cert) → length front < 2 ^ 64 → front ≡ cert_lines cert → length cert.entries < 2 ^ 64
cert_shorter front cert small is =
    omega (arith, small, ap length is, length-map cert.entries entry_text, length-append (map entry_text cert.entries) (end_line (length cert.entries) ∷ []))

viable : (front : List (List ℕ)) (s : State) → length front < 2 ^ 64 → Reached front s → AreViable front
viable front start small reached =
    begin front (cert_lines (nothing Lines)) (nothing Lines) few tt (omega arith) (ap (λ f. f ++ cert_lines (nothing Lines)) (sym reached))
viable front (titled form) small reached =
    begin front (line_of_words (head_words no_numbers) ∷ end_line 0 ∷ []) (nothing form) few tt (omega arith)
    (ap (λ f. f ++ line_of_words (head_words no_numbers) ∷ end_line 0 ∷ []) (sym reached))
viable front (within form head entries) small reached =
    begin front (end_line (length entries) ∷ []) (cert_with form head entries) reached.1.0 reached.1.1
    (shorter front form head entries small reached.0) (ap (λ f. f ++ end_line (length entries) ∷ []) (sym reached.0))
viable front (all cert) small reached =
    begin front [] cert reached.1.0 reached.1.1 (cert_shorter front cert small reached.0)
    (sym reached.0 ∙ sym (append-nil front))

-- No certificate goes on with a line at which the machine stops.
steps_append : (s : State) (ps qs : List (List ℕ)) → steps s (ps ++ qs) ≡ (steps s ps >>= (λ t. steps t qs))
steps_append s [] qs = refl
steps_append s (p ∷ ps) qs =
    elim (step s p) as (λ o. (o >>= (λ t. steps t (ps ++ qs))) ≡ ((o >>= (λ t. steps t ps)) >>= (λ t. steps t qs))) [
      | None ↦ refl
      | Some t ↦ steps_append t ps qs
    ]

stuck : (front : List (List ℕ)) (s : State) (p : List ℕ) → steps start front ≡ Some s → step s p ≡ None
    → AreViable (front ++ p ∷ []) → ⊥
stuck front s p led stops goes =
    let whole : steps start ((front ++ p ∷ []) ++ goes.more) ≡ Some (all goes.cert) =
    ap (steps start) (sym goes.begins) ∙ steps_cert goes.cert goes.fits in
    let with_newline : steps start ((front ++ p ∷ []) ++ goes.more) ≡ None =
    steps_append start (front ++ p ∷ []) goes.more
    ∙ (ap (λ o. o >>= (λ t. steps t goes.more)) (steps_append start front (p ∷ []))
    ∙ (ap (λ o. (o >>= (λ t. steps t (p ∷ []))) >>= (λ t. steps t goes.more)) led
    ∙ ap (λ o. (o >>= (λ t. Some t)) >>= (λ t. steps t goes.more)) stops)) in
    absurd cc

-- What is kept on the way.
pub record IsBehind (text : List ℕ) (front : List (List ℕ)) (s : State) (n : ℕ) (ps : List (List ℕ)) : Type 0 where
  pub split : lines_in text ≡ front ++ ps
  pub number : n ≡ length front + 1
  pub reached : Reached front s
  pub led : steps start front ≡ Some s
  pub left : HasPieces ps

once_more : (text : List ℕ) (front : List (List ℕ)) (s t : State) (n : ℕ) (p q : List ℕ) (ps : List (List ℕ)) → step s p ≡ Some t
    → IsBehind text front s n (p ∷ q ∷ ps) → IsBehind text (front ++ p ∷ []) t (n + 1) (q ∷ ps)
once_more text front s t n p q ps is behind = record {
  split = behind.split ∙ sym (append_assoc front (p ∷ []) (q ∷ ps));
  number = omega (arith, behind.number, length-append front (p ∷ []));
  reached = reach front s p t behind.reached is;
  led =
      steps_append start front (p ∷ [])
      ∙ (ap (λ o. o >>= (λ u. steps u (p ∷ []))) behind.led ∙ ap (λ o. o >>= (λ u. Some u)) is);
  left = some q ps;
}

abbrev refused : ℕ → Result Cert ℕ
refused n = Err n

err_is : (m n : ℕ) → refused m ≡ refused n → m ≡ n
err_is m n h = cc

last_line : (s : State) (n : ℕ) (p : List ℕ) (line : ℕ) → finish s n p ≡ refused line → n ≡ line
last_line start n p line read = err_is n line read
last_line (titled form) n p line read = err_is n line read
last_line (within form head entries) n p line read = err_is n line read
last_line (all made) n [] line read = absurd cc
last_line (all made) n (b ∷ bs) line read = err_is n line read

no_pieces : HasPieces [] → ⊥
no_pieces h = elim h [ ]

pub first : (text : List ℕ) (front : List (List ℕ)) (s : State) (n : ℕ) (ps : List (List ℕ)) (line : ℕ)
    → ((cert : Cert) → IsTextOf text cert → ⊥) → length (lines_in text) < 2 ^ 64 → IsBehind text front s n ps
    → run s n ps ≡ Err line → IsFirstWrong text line
first text front s n [] line none small behind read = absurd (no_pieces behind.left)
first text front s n (p ∷ []) line none small behind read = record {
  front = front;
  piece = p;
  rest = [];
  split = behind.split;
  number = omega (arith, behind.number, last_line s n p line read);
  viable = viable front s (omega (arith, small, ap length behind.split, length-append front (p ∷ []))) behind.reached;
  wrong = none;
}
first text front s n (p ∷ q ∷ ps) line none small behind read =
    (elim (step s p) as (λ o. step s p ≡ o → then_run o n (λ next. run next (n + 1) (q ∷ ps)) ≡ Err line → IsFirstWrong text line) [
      | None ↦ λ is r. record {
        front = front;
        piece = p;
        rest = q ∷ ps;
        split = behind.split;
        number = omega (arith, behind.number, err_is n line r);
        viable = viable front s (omega (arith, small, ap length behind.split, length-append front (p ∷ q ∷ ps))) behind.reached;
        wrong = stuck front s p behind.led is;
      }
      | Some t ↦ λ is r. first text (front ++ p ∷ []) t (n + 1) (q ∷ ps) line none small (once_more text front s t n p q ps is behind) r
    ]) refl read

-- There are no more lines than bytes, and one.
pieces_few : (bs : List ℕ) → length (lines_in bs) ≤ length bs + 1
pieces_few [] = omega arith
pieces_few (b ∷ bs) =
    let before = pieces_few bs in
    elim (b == 10) as (λ t. length (cond t ([] ∷ lines_in bs) (with_front b (lines_in bs))) ≤ length (b ∷ bs) + 1) [
      | true ↦ omega (arith, before)
      | false ↦ omega (arith, before, front_long b (lines_in bs) (pieces_some 10 bs))
    ]
  where
    front_long : (c : ℕ) (ps : List (List ℕ)) → HasPieces ps → length (with_front c ps) ≡ length ps
    front_long c ps (some p qs) = refl

no_cert : (text : List ℕ) (line : ℕ) → run start 1 (lines_in text) ≡ refused line → (cert : Cert) → IsTextOf text cert → ⊥
no_cert text line read cert stands = let good = run_only text cert stands in absurd cc

pub run_first : (text : List ℕ) (line : ℕ) → length text + 1 < 2 ^ 64 → run start 1 (lines_in text) ≡ Err line → IsFirstWrong text line
run_first text line small read =
    first text [] start 1 (lines_in text) line (no_cert text line read) (omega (arith, small, pieces_few text))
    (record { split = refl; number = refl; reached = refl; led = refl; left = pieces_some 10 text }) read
