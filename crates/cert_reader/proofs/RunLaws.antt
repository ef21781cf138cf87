-- The machine says what the definitions say: certificates' lines are run through, what is run through is one, and the
-- line at which it stops is the first wrong one.
use Rattle.std.proofs.Common.{◌≡◌, ℕ, ◌+◌, ◌^◌, ◌<◌, Bool, true, false, cond, List, [], ◌∷◌, ◌++◌, length, map, Option, Some, None, Ok, refl, sym, subst, ◌∙◌, ap, append_assoc, arith}
use Rattle.std.specs.Prelude.{bytes_eq, option_map}
use Rattle.std.specs.List.{AllByRecursion, flat_map}
use Rattle.std.proofs.lemmas.List.{append-nil}
use Rattle.cert_writer.specs.declared.cert.Cert.{Cert}
use Rattle.cert_writer.specs.declared.cert.Entry.{Entry}
use Rattle.cert_writer.specs.declared.cert.Form.{Form}
use Rattle.cert_writer.specs.declared.cert.Form.TheVariants.{Lines, Turns}
use Rattle.cert_writer.specs.declared.cert.Head.{Head}
use Rattle.cert_writer.specs.Fits.{FitsCert, FitsEntry, FitsHead}
use Rattle.base_scan.specs.Fronts.{◌>>=◌}
use Rattle.cert_reader.specs.Machine.{State, all, cert_with, finish, form_of_title, head_of_words, head_state, item_of, item_state, run, start, step, then_run, titled, within}
use Rattle.cert_writer.specs.Pieces.{joined_by, line_of_words, lines_in, words_in}
use Rattle.cert_writer.specs.Text.{cert_lines, end_words, with_newline, head_words, entry_text, entry_words, title}
use Rattle.cert_writer.specs.Wrong.{IsTextOf}
use Rattle.cert_reader.proofs.EntryLaws.{IsItem, item_again, item_takes, last_again}
use Rattle.cert_reader.proofs.LineLaws.{head_again, head_takes}
use Rattle.base_scan.proofs.Fronts.{bind_some, same_word, some_is}
use Rattle.cert_reader.proofs.PieceLaws.{joined_pieces}
use Rattle.cert_reader.proofs.PlainLaws.{cert_lines_back, end_words_back, entry_words_back, head_words_back}

-- The first line says the form.
pub title_takes : (p : List ℕ) (form : Form) → form_of_title p ≡ Some form → p ≡ title form
title_takes p form read = lines (bytes_eq p (title Lines)) refl read
  where
    turns : (t : Bool) → bytes_eq p (title Turns) ≡ t → cond t (Some Turns) None ≡ Some form → p ≡ title form
    turns true is r = same_word p (title Turns) is ∙ ap title (some_is Turns form r)
    turns false is r = absurd cc

    lines : (t : Bool) → bytes_eq p (title Lines) ≡ t
        → cond t (Some Lines) (cond (bytes_eq p (title Turns)) (Some Turns) None) ≡ Some form → p ≡ title form
    lines true is r = same_word p (title Lines) is ∙ ap title (some_is Lines form r)
    lines false is r = turns (bytes_eq p (title Turns)) refl r

-- The lines after some of a certificate's lines.
abbrev pub end_line : ℕ → List ℕ
end_line count = line_of_words (end_words count)

abbrev pub tail_lines : ℕ → List Entry → List (List ℕ)
tail_lines count more = map entry_text more ++ end_line count ∷ []

-- What is left where a certificate comes of it, by the state.
pub record LeftWithin (form : Form) (head : Head) (entries : List Entry) (ps : List (List ℕ)) (cert : Cert) : Type 0 where
  pub more : List Entry
  pub pieces_are : ps ≡ tail_lines (length cert.entries) more ++ [] ∷ []
  pub cert_is : cert ≡ cert_with form head (entries ++ more)
  pub fits : AllByRecursion (FitsEntry form) more

abbrev pub LeftOf : State → List (List ℕ) → Cert → Type 0
LeftOf start ps cert =
    (ps ≡ cert_lines cert ++ [] ∷ []) × (FitsHead cert.head × AllByRecursion (FitsEntry cert.form) cert.entries)
LeftOf (titled form) ps cert =
    (ps ≡ line_of_words (head_words cert.head) ∷ tail_lines (length cert.entries) cert.entries ++ [] ∷ [])
    × ((form ≡ cert.form) × (FitsHead cert.head × AllByRecursion (FitsEntry cert.form) cert.entries))
LeftOf (within form head entries) ps cert = LeftWithin form head entries ps cert
LeftOf (all made) ps cert = (ps ≡ [] ∷ []) × (made ≡ cert)

finished : (s : State) (n : ℕ) (p : List ℕ) (cert : Cert) → finish s n p ≡ Ok cert → LeftOf s (p ∷ []) cert
finished start n p cert read = absurd cc
finished (titled form) n p cert read = absurd cc
finished (within form head entries) n p cert read = absurd cc
finished (all made) n [] cert read = (refl, cc)
finished (all made) n (b ∷ bs) cert read = absurd cc

pub line_back : (p : List ℕ) (ws : List (List ℕ)) → words_in p ≡ ws → p ≡ line_of_words ws
line_back p ws is = sym (joined_pieces 32 p) ∙ ap line_of_words is

within_left : (form : Form) (head : Head) (entries : List Entry) (p : List ℕ) (rest : List (List ℕ)) (item : Option Entry) (t : State)
    (cert : Cert) → IsItem form (length entries) (words_in p) item → item_state form head entries (Some item) ≡ Some t
    → LeftOf t rest cert → LeftWithin form head entries (p ∷ rest) cert
within_left form head entries p rest None t cert item is left =
    let done = subst (λ s. LeftOf s rest cert) (sym (some_is (all (cert_with form head entries)) t is)) left in
    record {
      more = [];
      pieces_are =
          ap (λ q. q ∷ rest) (line_back p (end_words (length entries)) item)
          ∙ (ap (λ (c : Cert). end_line (length c.entries) ∷ rest) done.1 ∙ ap (λ r. end_line (length cert.entries) ∷ r) done.0);
      cert_is = sym done.1 ∙ ap (cert_with form head) (sym (append-nil entries));
      fits = tt;
    }
within_left form head entries p rest (Some entry) t cert item is left =
    let later : LeftWithin form head (entries ++ entry ∷ []) rest cert =
    subst (λ s. LeftOf s rest cert) (sym (some_is (within form head (entries ++ entry ∷ [])) t is)) left in
    record {
      more = entry ∷ later.more;
      pieces_are =
          ap (λ q. q ∷ rest) (line_back p (entry_words entry) item.0) ∙ ap (λ r. entry_text entry ∷ r) later.pieces_are;
      cert_is = later.cert_is ∙ ap (cert_with form head) (append_assoc entries (entry ∷ []) later.more);
      fits = (item.1, later.fits);
    }

stepped : (s : State) (p : List ℕ) (rest : List (List ℕ)) (t : State) (cert : Cert) → step s p ≡ Some t → LeftOf t rest cert
    → LeftOf s (p ∷ rest) cert
stepped start p rest t cert is left = by (form_of_title p) refl is
  where
    by : (o : Option Form) → form_of_title p ≡ o → option_map (λ form. titled form) o ≡ Some t → LeftOf start (p ∷ rest) cert
    by None o_is r = absurd cc
    by (Some form) o_is r =
        let later : LeftOf (titled form) rest cert = subst (λ s. LeftOf s rest cert) (sym (some_is (titled form) t r)) left in
        (ap (λ q. q ∷ rest) (title_takes p form o_is ∙ ap title later.1.0) ∙ ap (λ r. title cert.form ∷ r) later.0, later.1.1)
stepped (titled form) p rest t cert is left = by (head_of_words (words_in p)) refl is
  where
    by : (o : Option Head) → head_of_words (words_in p) ≡ o → head_state form o ≡ Some t → LeftOf (titled form) (p ∷ rest) cert
    by None o_is r = absurd cc
    by (Some head) o_is r =
        let later : LeftWithin form head [] rest cert =
        subst (λ s. LeftOf s rest cert) (sym (some_is (within form head []) t r)) left in
        let read = head_takes (words_in p) head o_is in
        let family : Cert → Type 0 = λ c. (p ∷ rest ≡ line_of_words (head_words c.head) ∷ tail_lines (length c.entries) c.entries ++ [] ∷ [])
        × ((form ≡ c.form) × (FitsHead c.head × AllByRecursion (FitsEntry c.form) c.entries)) in
        subst family (sym later.cert_is) (
          ap (λ q. q ∷ rest) (line_back p (head_words head) read.words)
              ∙ ap (λ r. line_of_words (head_words head) ∷ r) (later.pieces_are ∙ ap (λ (c : Cert). tail_lines (length c.entries) later.more ++ [] ∷ []) later.cert_is),
          (refl, (read.fits, later.fits)),
        )
stepped (within form head entries) p rest t cert is left = by (item_of form (length entries) (words_in p)) refl is
  where
    by : (o : Option (Option Entry)) → item_of form (length entries) (words_in p) ≡ o → item_state form head entries o ≡ Some t
        → LeftWithin form head entries (p ∷ rest) cert
    by None o_is r = absurd cc
    by (Some item) o_is r =
        within_left form head entries p rest item t cert (item_takes form (length entries) (words_in p) item o_is) r left
stepped (all made) p rest t cert is left = absurd cc

pub ran : (s : State) (n : ℕ) (ps : List (List ℕ)) (cert : Cert) → run s n ps ≡ Ok cert → LeftOf s ps cert
ran s n [] cert read = absurd cc
ran s n (p ∷ []) cert read = finished s n p cert read
ran s n (p ∷ q ∷ ps) cert read =
    (elim (step s p) as (λ o. step s p ≡ o → then_run o n (λ next. run next (n + 1) (q ∷ ps)) ≡ Ok cert → LeftOf s (p ∷ q ∷ ps) cert) [
      | None ↦ λ is r. absurd cc
      | Some t ↦ λ is r. stepped s p (q ∷ ps) t cert is (ran t (n + 1) (q ∷ ps) cert r)
    ]) refl read

-- A text with as many pieces stands for a certificate that is run through.
text_of_lines : (lines : List (List ℕ)) → joined_by 10 (lines ++ [] ∷ []) ≡ flat_map with_newline lines
text_of_lines [] = refl
text_of_lines (line ∷ []) = sym (append-nil (line ++ 10 ∷ []))
text_of_lines (line ∷ next ∷ lines) =
    ap (λ t. line ++ 10 ∷ t) (text_of_lines (next ∷ lines)) ∙ sym (append_assoc line (10 ∷ []) (flat_map with_newline (next ∷ lines)))

pub run_found : (text : List ℕ) (cert : Cert) → length cert.entries < 2 ^ 64 → run start 1 (lines_in text) ≡ Ok cert → IsTextOf text cert
run_found text cert count read =
    let left = ran start 1 (lines_in text) cert read in
    record {
      fits = record { head = left.1.0; entries = left.1.1; count = count };
      written = sym (joined_pieces 10 text) ∙ (ap (joined_by 10) left.0 ∙ text_of_lines (cert_lines cert));
    }

-- The lines of a certificate are run through.
step_entry : (form : Form) (head : Head) (entries : List Entry) (entry : Entry) → FitsEntry form entry
    → step (within form head entries) (entry_text entry) ≡ Some (within form head (entries ++ entry ∷ []))
step_entry form head entries entry fits =
    ap (λ ws. item_state form head entries (item_of form (length entries) ws)) (entry_words_back form entry fits)
    ∙ ap (item_state form head entries) (item_again form (length entries) entry fits)

step_end : (form : Form) (head : Head) (entries : List Entry) → length entries < 2 ^ 64
    → step (within form head entries) (end_line (length entries)) ≡ Some (all (cert_with form head entries))
step_end form head entries small =
    ap (λ ws. item_state form head entries (item_of form (length entries) ws)) (end_words_back (length entries) small)
    ∙ ap (item_state form head entries) (last_again form (length entries) small)

step_head : (form : Form) (head : Head) → FitsHead head
    → step (titled form) (line_of_words (head_words head)) ≡ Some (within form head [])
step_head form head fits =
    ap (λ ws. head_state form (head_of_words ws)) (head_words_back head fits) ∙ ap (head_state form) (head_again head fits)

step_title : (form : Form) → step start (title form) ≡ Some (titled form)
step_title Lines = refl
step_title Turns = refl

-- What lines lead to from a state.
abbrev pub steps : State → List (List ℕ) → Option State
steps s [] = Some s
steps s (p ∷ ps) = step s p >>= (λ t. steps t ps)

steps_entries : (form : Form) (head : Head) (entries more : List Entry) → AllByRecursion (FitsEntry form) more
    → length (entries ++ more) < 2 ^ 64 → steps (within form head entries) (tail_lines (length (entries ++ more)) more)
    ≡ Some (all (cert_with form head (entries ++ more)))
steps_entries form head entries [] fits small =
    let same : entries ++ [] ≡ entries = append-nil entries in
    let less : length entries < 2 ^ 64 = omega (arith, small, ap length same) in
    ap (λ (es : List Entry). steps (within form head entries) (end_line (length es) ∷ [])) same
    ∙ (ap (λ o. o >>= (λ t. Some t)) (step_end form head entries less) ∙ ap (λ es. Some (all (cert_with form head es))) (sym same))
steps_entries form head entries (entry ∷ more) fits small =
    let same : (entries ++ entry ∷ []) ++ more ≡ entries ++ entry ∷ more = append_assoc entries (entry ∷ []) more in
    ap (λ o. o >>= (λ t. steps t (tail_lines (length (entries ++ entry ∷ more)) more))) (step_entry form head entries entry fits.0)
    ∙ subst (λ es. steps (within form head (entries ++ entry ∷ [])) (tail_lines (length es) more) ≡ Some (all (cert_with form head es))) same
    (steps_entries form head (entries ++ entry ∷ []) more fits.1 (omega (arith, small, ap length same)))

pub steps_cert : (cert : Cert) → FitsCert cert → steps start (cert_lines cert) ≡ Some (all cert)
steps_cert cert fits =
    ap (λ o. o >>= (λ t. steps t (line_of_words (head_words cert.head) ∷ tail_lines (length cert.entries) cert.entries))) (step_title cert.form)
    ∙ (ap (λ o. o >>= (λ t. steps t (tail_lines (length cert.entries) cert.entries))) (step_head cert.form cert.head fits.head)
    ∙ steps_entries cert.form cert.head [] cert.entries fits.entries fits.count)

-- A run goes along lines as steps do.
run_along : (s t : State) (n : ℕ) (ps : List (List ℕ)) (q : List ℕ) (qs : List (List ℕ)) → steps s ps ≡ Some t
    → (m : ℕ) × (run s n (ps ++ q ∷ qs) ≡ run t m (q ∷ qs))
run_along s t n [] q qs led = (n, ap (λ u. run u n (q ∷ qs)) (some_is s t led))
run_along s t n (p ∷ []) q qs led =
    let found = bind_some (step s p) (λ u. steps u []) t led in
    let last : found.0 ≡ t = some_is found.0 t found.2 in
    (n + 1, ap (λ o. then_run o n (λ next. run next (n + 1) (q ∷ qs))) found.1 ∙ ap (λ u. run u (n + 1) (q ∷ qs)) last)
run_along s t n (p ∷ r ∷ ps) q qs led =
    let found = bind_some (step s p) (λ u. steps u (r ∷ ps)) t led in
    let later = run_along found.0 t (n + 1) (r ∷ ps) q qs found.2 in
    (later.0, ap (λ o. then_run o n (λ next. run next (n + 1) (r ∷ ps ++ q ∷ qs))) found.1 ∙ later.1)

pub run_only : (text : List ℕ) (cert : Cert) → IsTextOf text cert → run start 1 (lines_in text) ≡ Ok cert
run_only text cert stands =
    let along = run_along start (all cert) 1 (cert_lines cert) [] [] (steps_cert cert stands.fits) in
    ap (λ t. run start 1 (lines_in t)) stands.written ∙ (ap (run start 1) (cert_lines_back cert stands.fits) ∙ along.1)
