-- Logs by their words: what is read is written so, and what is written is read again.
use Rattle.std.proofs.Common.{◌≡◌, ◌≢◌, ℕ, ◌<◌, Bool, true, false, cond, List, [], ◌∷◌, ◌++◌, length, Some, refl, sym, subst, ◌∙◌, ap, append_assoc, arith}
use Rattle.std.specs.Prelude.{ℤ, pos, codes, map}
use Rattle.std.specs.Fmt.{signed_decimal}
use Rattle.std.specs.List.{AllByRecursion}
use Rattle.std.proofs.lemmas.Bool.Decides.{Decides-int_eq}
use Rattle.std.proofs.lemmas.Fmt.{decimal_digit}
use Rattle.std.proofs.lemmas.List.{append-nil}
use Rattle.cert_writer.specs.Fits.{FitsLiteral, FitsLog}
use Rattle.cert_reader.specs.Machine.{is_end, log_of_words, log_end, log_from}
use Rattle.cert_reader.specs.Numbers.{literal_of_word}
use Rattle.cert_writer.specs.Text.{clause_words, log_words}
use Rattle.cert_reader.proofs.NumberLaws.{literal_again, literal_takes}
use Rattle.base_scan.proofs.Fronts.{bind_some, some_is}

zero_is : (l : ℤ) → is_end l ≡ true → l ≡ pos 0
zero_is l h = (Decides-int_eq l (pos 0)).0 h

not_zero : (l : ℤ) → is_end l ≡ false → l ≢ pos 0
not_zero l h is = let t : is_end l ≡ true = (Decides-int_eq l (pos 0)).1 is in cc

zero_false : (l : ℤ) → l ≢ pos 0 → is_end l ≡ false
zero_false l some = by (is_end l) refl
  where
    by : (t : Bool) → is_end l ≡ t → t ≡ false
    by true is = absurd (some (zero_is l is))
    by false is = refl

abbrev pub FitsClauses : List (List ℤ) → Type 0
FitsClauses clauses = AllByRecursion (λ clause. AllByRecursion FitsLiteral clause) clauses

-- What is left of a log after clauses and the literals of an open one: nothing, or the rest of that clause and more.
pub data LogLeft (clauses : List (List ℤ)) (literals : List ℤ) (ws : List (List ℕ)) (log : List (List ℤ)) : Type 0 where
  over : literals ≡ [] → ws ≡ [] → log ≡ clauses → 0 < length clauses → LogLeft clauses literals ws log
  rest_of : (xs : List ℤ) (more : List (List ℤ)) → ws ≡ clause_words xs ++ log_words more
      → log ≡ clauses ++ (literals ++ xs) ∷ more → AllByRecursion FitsLiteral xs → FitsClauses more
      → LogLeft clauses literals ws log

ends : (clauses : List (List ℤ)) (literals : List ℤ) (log : List (List ℤ)) → log_end clauses literals ≡ Some log
    → LogLeft clauses literals [] log
ends [] literals log read = absurd cc
ends (c ∷ cs) [] log read = over refl refl (sym (some_is (c ∷ cs) log read)) (omega arith)
ends (c ∷ cs) (l ∷ ls) log read = absurd cc

some_literals : (ls : List ℤ) (l : ℤ) → ls ++ l ∷ [] ≡ [] → ⊥
some_literals [] l is = absurd cc
some_literals (k ∷ ks) l is = absurd cc

-- A clause is closed,
closed_left : (clauses : List (List ℤ)) (literals : List ℤ) (w : List ℕ) (ws : List (List ℕ)) (log : List (List ℤ))
    → w ≡ codes "0" → LogLeft (clauses ++ literals ∷ []) [] ws log → LogLeft clauses literals (w ∷ ws) log
closed_left clauses literals w ws log w_is (over none ws_is log_is some) =
    rest_of [] [] (cc (w_is, ws_is)) (log_is ∙ ap (λ ls. clauses ++ ls ∷ []) (sym (append-nil literals))) tt tt
closed_left clauses literals w ws log w_is (rest_of xs more ws_is log_is fits others) =
    rest_of [] (xs ∷ more) (cc (w_is, ws_is))
    (log_is ∙ (append_assoc clauses (literals ∷ []) (xs ∷ more) ∙ ap (λ ls. clauses ++ ls ∷ xs ∷ more) (sym (append-nil literals))))
    tt (fits, others)

-- or gets one more literal.
longer_left : (clauses : List (List ℤ)) (literals : List ℤ) (l : ℤ) (w : List ℕ) (ws : List (List ℕ)) (log : List (List ℤ))
    → w ≡ signed_decimal l → FitsLiteral l → LogLeft clauses (literals ++ l ∷ []) ws log → LogLeft clauses literals (w ∷ ws) log
longer_left clauses literals l w ws log w_is fits (over none ws_is log_is some) = absurd (some_literals literals l none)
longer_left clauses literals l w ws log w_is fits (rest_of xs more ws_is log_is all others) =
    rest_of (l ∷ xs) more (cc (w_is, ws_is))
    (log_is ∙ ap (λ ls. clauses ++ ls ∷ more) (append_assoc literals (l ∷ []) xs)) (fits, all) others

zero_text : signed_decimal (pos 0) ≡ codes "0"
zero_text = decimal_digit 0 (omega arith)

log_left : (clauses : List (List ℤ)) (literals : List ℤ) (ws : List (List ℕ)) (log : List (List ℤ))
    → log_from clauses literals ws ≡ Some log → LogLeft clauses literals ws log
unfolding log_from
log_left clauses literals [] log read = ends clauses literals log read
log_left clauses literals (w ∷ ws) log read =
    let found = bind_some (literal_of_word w) (λ l. cond (is_end l) (log_from (clauses ++ literals ∷ []) [] ws) (log_from clauses (literals ++ l ∷ []) ws)) log read in
    let word = literal_takes w found.0 found.1 in
    (elim (is_end found.0) as (λ t. is_end found.0 ≡ t
    → cond t (log_from (clauses ++ literals ∷ []) [] ws) (log_from clauses (literals ++ found.0 ∷ []) ws) ≡ Some log
    → LogLeft clauses literals (w ∷ ws) log) [
      | true ↦ λ is r.
          closed_left clauses literals w ws log (word.word_is ∙ (ap signed_decimal (zero_is found.0 is) ∙ zero_text))
          (log_left (clauses ++ literals ∷ []) [] ws log r)
      | false ↦ λ is r.
          longer_left clauses literals found.0 w ws log word.word_is (record { some = not_zero found.0 is; small = word.small })
          (log_left clauses (literals ++ found.0 ∷ []) ws log r)
    ]) refl found.2

pub record IsLogAt (ws : List (List ℕ)) (log : List (List ℤ)) : Type 0 where
  pub words : ws ≡ log_words log
  pub fits : FitsLog log

whole_log : (ws : List (List ℕ)) (log : List (List ℤ)) → LogLeft [] [] ws log → IsLogAt ws log
whole_log ws log (over none ws_is log_is some) = absurd (omega (arith, some))
whole_log ws log (rest_of xs more ws_is log_is all others) =
    let is : log ≡ xs ∷ more = log_is in
    subst (IsLogAt ws) (sym is) (record {
      words = ws_is;
      fits = record { some = omega arith; literals = (all, others) };
    })

pub log_takes : (ws : List (List ℕ)) (log : List (List ℤ)) → log_of_words ws ≡ Some log → IsLogAt ws log
log_takes ws log read = whole_log ws log (log_left [] [] ws log read)

-- The other way round.
zero_word : literal_of_word (codes "0") ≡ Some (pos 0)
zero_word = ap literal_of_word (sym zero_text) ∙ literal_again (pos 0) (omega arith)

clause_again : (clauses : List (List ℤ)) (literals xs : List ℤ) (rest : List (List ℕ)) → AllByRecursion FitsLiteral xs
    → log_from clauses literals (map signed_decimal xs ++ codes "0" ∷ rest) ≡ log_from (clauses ++ (literals ++ xs) ∷ []) [] rest
unfolding log_from
clause_again clauses literals [] rest fits =
    rw zero_word (ap (λ ls. log_from (clauses ++ ls ∷ []) [] rest) (sym (append-nil literals)))
clause_again clauses literals (x ∷ xs) rest fits =
    rw (literal_again x fits.0.small, zero_false x fits.0.some)
    (clause_again clauses (literals ++ x ∷ []) xs rest fits.1
    ∙ ap (λ ls. log_from (clauses ++ ls ∷ []) [] rest) (append_assoc literals (x ∷ []) xs))

nothing_more : (clauses : List (List ℤ)) → log_from clauses [] [] ≡ log_end (clauses ++ []) []
unfolding log_from
nothing_more clauses = ap (λ cs. log_end cs []) (sym (append-nil clauses))

clauses_again : (clauses log : List (List ℤ)) → FitsClauses log → log_from clauses [] (log_words log) ≡ log_end (clauses ++ log) []
clauses_again clauses [] fits = nothing_more clauses
clauses_again clauses (x ∷ more) fits =
    ap (log_from clauses []) (append_assoc (map signed_decimal x) (codes "0" ∷ []) (log_words more))
    ∙ (clause_again clauses [] x (log_words more) fits.0
    ∙ (clauses_again (clauses ++ x ∷ []) more fits.1 ∙ ap (λ cs. log_end cs []) (append_assoc clauses (x ∷ []) more)))

pub log_again : (log : List (List ℤ)) → FitsLog log → log_of_words (log_words log) ≡ Some log
log_again [] fits = absurd (omega (arith, fits.some))
log_again (x ∷ more) fits = clauses_again [] (x ∷ more) fits.literals
