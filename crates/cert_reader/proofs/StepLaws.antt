-- What one word or one line more leads to.
use Rattle.std.proofs.Common.{◌≡◌, ℕ, ◌+◌, Bool, true, false, cond, List, [], ◌∷◌, ◌++◌, Option, Some, None, Result, Err, refl, sym, ◌∙◌, ap, subst}
use Rattle.std.specs.Prelude.{ℤ, bytes_eq, codes, option_map}
use Rattle.design_circuit.specs.declared.place.Place.{Place}
use Rattle.base_scan.specs.Fronts.{◌>>=◌}
use Rattle.cert_reader.specs.Machine.{State, form_of_title, is_end, log_end, log_from, number_in_front, place_of_step, places_before, places_to_end, run, short_of, start, step, then_run, titled}
use Rattle.cert_reader.specs.Numbers.{literal_of_word}
use Rattle.cert_writer.specs.Pieces.{lines_in}
use Rattle.cert_reader.specs.Reading.{Fails, TakesLine, IsNextBefore, TakesNoLine, LinesView, goes, refusal_at}
use Rattle.cert_reader.specs.declared.refusal.LineErr.{LineErr}
use Rattle.cert_reader.specs.declared.refusal.LineErr.TheVariants.{Wrong, Memory}
use Rattle.cert_reader.proofs.PieceLaws.{HasPieces, pieces_some, some}

abbrev made : ℕ → ℕ × List (List ℕ) → Option (Place × List (List ℕ))
made step net = Some (record { step = step; net = net.0 }, net.1)

abbrev nothing : List (List ℕ)
nothing = []

left_some : (ps : List (List ℕ)) → HasPieces ps → ps ≡ [] → ⊥
left_some ps (some p qs) is = absurd cc

-- The places before the mark.
pub before_none : (done : List Place) → places_before done [] ≡ None
unfolding places_before
before_none done = refl

pub before_mark : (done : List Place) (w : List ℕ) (rest : List (List ℕ)) → bytes_eq w (codes ";") ≡ true
    → places_before done (w ∷ rest) ≡ Some (done, rest)
unfolding places_before
before_mark done w [] is = rw is refl
before_mark done w (v ∷ ws) is = rw is refl

pub before_place : (done : List Place) (w : List ℕ) (rest : List (List ℕ)) → bytes_eq w (codes ";") ≡ false
    → places_before done (w ∷ rest) ≡ (place_of_step w rest >>= (λ place. places_before (done ++ place.0 ∷ []) place.1))
unfolding places_before
before_place done w [] is =
    rw is (elim (short_of w) as (λ o. None ≡ ((o >>= (λ step. number_in_front [] >>= made step))
    >>= (λ (place : Place × List (List ℕ)). places_before (done ++ place.0 ∷ []) place.1))) [ None ↦ refl | Some step ↦ refl ])
before_place done w (v ∷ ws) is =
    rw is (elim (short_of w) as (λ o. ((o >>= (λ step. number_in_front (v ∷ []) >>= made step)) >>= (λ place. places_before (done ++ place.0 ∷ []) ws))
    ≡ ((o >>= (λ step. number_in_front (v ∷ ws) >>= made step)) >>= (λ place. places_before (done ++ place.0 ∷ []) place.1))) [
      | None ↦ refl
      | Some step ↦ elim (short_of v) as (λ o. ((option_map (λ n. (n, nothing)) o >>= made step) >>= (λ place. places_before (done ++ place.0 ∷ []) ws))
          ≡ ((option_map (λ n. (n, ws)) o >>= made step) >>= (λ place. places_before (done ++ place.0 ∷ []) place.1))) [ None ↦ refl | Some net ↦ refl ]
    ])

still : (a b c : Bool) → a ≡ b → a ≡ c → b ≡ c
still a b c x y = cc

pub before_mark_at : (w : List ℕ) (left : List (List ℕ)) (tested : Bool) → tested ≡ bytes_eq w (codes ";") → tested ≡ true
    → (done : List Place) → places_before done (w ∷ left) ≡ Some (done, left)
before_mark_at w left tested is holds done = before_mark done w left (still tested (bytes_eq w (codes ";")) true is holds)

pub before_grows : (w : List ℕ) (left : List (List ℕ)) (tested : Bool) (place : Place) (behind : List (List ℕ))
    → tested ≡ bytes_eq w (codes ";") → tested ≡ false → place_of_step w left ≡ Some (place, behind) → (done : List Place)
    → places_before done (w ∷ left) ≡ places_before (done ++ place ∷ []) behind
before_grows w left tested place behind is holds read done =
    before_place done w left (still tested (bytes_eq w (codes ";")) false is holds)
    ∙ ap (λ o. o >>= (λ (found : Place × List (List ℕ)). places_before (done ++ found.0 ∷ []) found.1)) read

pub before_fails : (w : List ℕ) (left : List (List ℕ)) (tested : Bool) (e : LineErr) → tested ≡ bytes_eq w (codes ";")
    → tested ≡ false → Fails e (place_of_step w left) → (done : List Place) → Fails e (places_before done (w ∷ left))
before_fails w left tested Wrong is holds read done =
    before_place done w left (still tested (bytes_eq w (codes ";")) false is holds)
    ∙ ap (λ o. o >>= (λ (found : Place × List (List ℕ)). places_before (done ++ found.0 ∷ []) found.1)) read
before_fails w left tested Memory is holds read done = tt

pub before_none_at : (args : List (List ℕ)) → args ≡ [] → (done : List Place) → places_before done args ≡ None
before_none_at args is done = ap (places_before done) is ∙ before_none done

pub before_at : (args : List (List ℕ)) (w : List ℕ) (left new : List (List ℕ)) (result : Result (Option Place) LineErr)
    → args ≡ w ∷ left → ((done : List Place) → IsNextBefore done result (places_before done (w ∷ left)) new)
    → (done : List Place) → IsNextBefore done result (places_before done args) new
before_at args w left new result split reads done =
    subst (λ ws. IsNextBefore done result (places_before done ws) new) (sym split) (reads done)

-- The places up to the end.
pub to_end_none : (done : List Place) → places_to_end done [] ≡ Some done
unfolding places_to_end
to_end_none done = refl

pub to_end_place : (done : List Place) (w : List ℕ) (rest : List (List ℕ))
    → places_to_end done (w ∷ rest) ≡ (place_of_step w rest >>= (λ place. places_to_end (done ++ place.0 ∷ []) place.1))
unfolding places_to_end
to_end_place done w [] =
    elim (short_of w) as (λ o. None ≡ ((o >>= (λ step. number_in_front [] >>= made step)) >>= (λ place. places_to_end (done ++ place.0 ∷ []) place.1)))
    [ None ↦ refl | Some step ↦ refl ]
to_end_place done w (v ∷ ws) =
    elim (short_of w) as (λ o. ((o >>= (λ step. number_in_front (v ∷ []) >>= made step)) >>= (λ place. places_to_end (done ++ place.0 ∷ []) ws))
    ≡ ((o >>= (λ step. number_in_front (v ∷ ws) >>= made step)) >>= (λ place. places_to_end (done ++ place.0 ∷ []) place.1))) [
      | None ↦ refl
      | Some step ↦ elim (short_of v) as (λ o. ((option_map (λ n. (n, nothing)) o >>= made step) >>= (λ place. places_to_end (done ++ place.0 ∷ []) ws))
          ≡ ((option_map (λ n. (n, ws)) o >>= made step) >>= (λ place. places_to_end (done ++ place.0 ∷ []) place.1))) [ None ↦ refl | Some net ↦ refl ]
    ]

-- A line ends at the first newline, or there is none.
abbrev pub lines_view : ℕ → List ℕ → LinesView
lines_view number rest = record { number = number; lines = lines_in rest }

pub line_taken : (old : LinesView) (number : ℕ) (rest piece behind : List ℕ) → lines_view number rest ≡ old
    → lines_in rest ≡ piece ∷ lines_in behind → TakesLine old piece (lines_view (number + 1) behind)
line_taken old number rest piece behind view split =
    subst (λ v. TakesLine v piece (lines_view (number + 1) behind)) view
    (record { lines = split; some = left_some (lines_in behind) (pieces_some 10 behind); number = refl })

pub no_line_taken : (old : LinesView) (number : ℕ) (rest piece : List ℕ) → lines_view number rest ≡ old
    → lines_in rest ≡ piece ∷ [] → TakesNoLine old (refusal_at number Wrong)
no_line_taken old number rest piece view split =
    subst (λ v. TakesNoLine v (refusal_at number Wrong)) view (record { piece = piece; lines = split; is = refl })

-- Where the machine can't go on by a line, that is the first wrong one.
stops_at : (s : State) (old new : LinesView) (line : List ℕ) → TakesLine old line new → step s line ≡ None → goes s old ≡ Err old.number
stops_at s old new line taken stops = ap (run s old.number) taken.lines ∙ behind new.lines taken.some
  where
    behind : (ps : List (List ℕ)) → (ps ≡ [] → ⊥) → run s old.number (line ∷ ps) ≡ Err old.number
    behind [] filled = absurd (filled refl)
    behind (q ∷ qs) filled = ap (λ o. then_run o old.number (λ next. run next (old.number + 1) (q ∷ qs))) stops

pub no_title : (old : LinesView) (line : List ℕ) (new : LinesView) (number : ℕ) → number ≡ old.number → TakesLine old line new
    → None ≡ form_of_title line → goes start old ≡ Err number
no_title old line new number number_is taken none =
    stops_at start old new line taken (ap (option_map (λ form. titled form)) (sym none)) ∙ ap (λ n. Err n) (sym number_is)

pub to_end_over : (args : List (List ℕ)) → args ≡ [] → (done : List Place) → places_to_end done args ≡ Some done
to_end_over args is done = ap (places_to_end done) is ∙ to_end_none done

pub to_end_grows : (args : List (List ℕ)) (w : List ℕ) (left : List (List ℕ)) (place : Place) (behind : List (List ℕ))
    → args ≡ w ∷ left → place_of_step w left ≡ Some (place, behind) → (done : List Place)
    → places_to_end done args ≡ places_to_end (done ++ place ∷ []) behind
to_end_grows args w left place behind split read done =
    ap (places_to_end done) split
    ∙ (to_end_place done w left
    ∙ ap (λ o. o >>= (λ (found : Place × List (List ℕ)). places_to_end (done ++ found.0 ∷ []) found.1)) read)

pub to_end_fails : (args : List (List ℕ)) (w : List ℕ) (left : List (List ℕ)) (e : LineErr) → args ≡ w ∷ left
    → Fails e (place_of_step w left) → (done : List Place) → Fails e (places_to_end done args)
to_end_fails args w left Wrong split read done =
    ap (places_to_end done) split
    ∙ (to_end_place done w left
    ∙ ap (λ o. o >>= (λ (found : Place × List (List ℕ)). places_to_end (done ++ found.0 ∷ []) found.1)) read)
to_end_fails args w left Memory split read done = tt

-- Logs, a literal at a time.
log_over : (clauses : List (List ℤ)) (literals : List ℤ) → log_from clauses literals [] ≡ log_end clauses literals
unfolding log_from
log_over clauses literals = refl

pub log_over_at : (args : List (List ℕ)) → args ≡ [] → (clauses : List (List ℤ)) (literals : List ℤ)
    → log_from clauses literals args ≡ log_end clauses literals
log_over_at args is clauses literals = ap (log_from clauses literals) is ∙ log_over clauses literals

log_word : (clauses : List (List ℤ)) (literals : List ℤ) (w : List ℕ) (left : List (List ℕ))
    → log_from clauses literals (w ∷ left) ≡ (literal_of_word w >>= (λ l. cond (is_end l) (log_from (clauses ++ literals ∷ []) [] left)
    (log_from clauses (literals ++ l ∷ []) left)))
unfolding log_from
log_word clauses literals w left = refl

pub log_wrong : (args : List (List ℕ)) (w : List ℕ) (left : List (List ℕ)) → args ≡ w ∷ left → None ≡ literal_of_word w
    → (clauses : List (List ℤ)) (literals : List ℤ) → log_from clauses literals args ≡ None
log_wrong args w left split read clauses literals =
    ap (log_from clauses literals) split
    ∙ (log_word clauses literals w left
    ∙ ap (λ o. o >>= (λ l. cond (is_end l) (log_from (clauses ++ literals ∷ []) [] left) (log_from clauses (literals ++ l ∷ []) left))) (sym read))

pub log_grows : (args : List (List ℕ)) (w : List ℕ) (left : List (List ℕ)) (l : ℤ) → args ≡ w ∷ left → Some l ≡ literal_of_word w
    → (clauses : List (List ℤ)) (literals : List ℤ) → log_from clauses literals args
    ≡ cond (is_end l) (log_from (clauses ++ literals ∷ []) [] left) (log_from clauses (literals ++ l ∷ []) left)
log_grows args w left l split read clauses literals =
    ap (log_from clauses literals) split
    ∙ (log_word clauses literals w left
    ∙ ap (λ o. o >>= (λ k. cond (is_end k) (log_from (clauses ++ literals ∷ []) [] left) (log_from clauses (literals ++ k ∷ []) left))) (sym read))
