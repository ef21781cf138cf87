-- What words stand for is read of them.
use Rattle.std.proofs.Common.{◌≡◌, ℕ, ◌+◌, ◌<◌, ◌≤◌, Bool, true, false, cond, List, [], ◌∷◌, ◌++◌, length, Option, Some, None, Result, Ok, refl, sym, subst, ◌∙◌, ap, append_assoc, arith}
use Rattle.std.specs.Prelude.{ℤ, pos, nat_abs, ◌&&◌}
use Rattle.std.specs.List.{AllByRecursion}
use Rattle.std.proofs.lemmas.Bool.Decides.{Decides-int_eq, nat_tests}
use Rattle.std.proofs.lemmas.List.{append-nil, length-append}
use Rattle.sat_dimacs.specs.declared.fault.DimacsFault.{DimacsFault}
use Rattle.sat_dimacs.specs.Faults.{AreFew, begun}
use Rattle.sat_dimacs.specs.Grammar.{AreLiterals, AreNumbers, IsLiteral, StandFor, numbers_of}
use Rattle.sat_dimacs.specs.Lines.{Word}
use Rattle.sat_dimacs.specs.Machine.{State, are_all, are_short, ended, finish, is_end, is_full, is_nothing, longer, on_ok, reach, start, step, take_number, taken}
use Rattle.sat_dimacs.specs.Numbers.{IsNumber}
use Rattle.sat_dimacs.proofs.NumberLaws.{literal_read}
use Rattle.sat_dimacs.proofs.StandLaws.{AreAsMany}

-- There is room for one clause more.
abbrev pub HasRoom : Option ℕ → ℕ → Type 0
HasRoom None n = Unit {0}
HasRoom (Some count) n = n < count

not_full : (s : State) → HasRoom s.count (length s.clauses) → is_full s ≡ false
not_full s room = by s.literals s.count room
  where
    by : (ls : List ℤ) (count : Option ℕ) → HasRoom count (length s.clauses) → is_nothing ls && are_all count (length s.clauses) ≡ false
    by [] None h = refl
    by [] (Some n) h = grind (arith, nat_tests)
    by (l ∷ ls) count h = refl

is_zero : (l : ℤ) → l ≡ pos 0 → is_end l ≡ true
is_zero l is = (Decides-int_eq l (pos 0)).1 is

isnt_zero : (l : ℤ) → (l ≡ pos 0 → ⊥) → is_end l ≡ false
isnt_zero l some = by (is_end l) refl
  where
    by : (t : Bool) → is_end l ≡ t → t ≡ false
    by true h = absurd (some ((Decides-int_eq l (pos 0)).0 h))
    by false h = refl

abbrev good : State → Result State DimacsFault
good s = Ok s

word_taken : (s : State) (w : Word) (l : ℤ) → IsNumber w.bytes l → nat_abs l ≤ s.vars → HasRoom s.count (length s.clauses)
    → step s w.line w.bytes ≡ Ok (taken s l)
word_taken s w l is small room =
    ap (λ r. on_ok r (take_number s w.line)) (literal_read s.vars w.line w.bytes l is small) ∙ rw (not_full s room) refl

zero_taken : (s : State) (w : Word) → IsNumber w.bytes (pos 0) → HasRoom s.count (length s.clauses) → step s w.line w.bytes ≡ Ok (ended s)
zero_taken s w is room =
    word_taken s w (pos 0) is (omega arith) room
    ∙ ap (λ t. good (cond t (ended s) (longer s (pos 0)))) (is_zero (pos 0) refl)

literal_taken : (s : State) (w : Word) (l : ℤ) → IsNumber w.bytes l → IsLiteral s.vars l → HasRoom s.count (length s.clauses)
    → step s w.line w.bytes ≡ Ok (longer s l)
literal_taken s w l is literal room =
    word_taken s w l is literal.within room
    ∙ ap (λ t. good (cond t (ended s) (longer s l))) (isnt_zero l literal.some)

-- A state after clauses and literals of an open one.
abbrev pub at_state : ℕ → Option ℕ → List (List ℤ) → List ℤ → State
at_state vars count clauses literals = record { vars = vars; count = count; clauses = clauses; literals = literals }

-- The rest of a clause is read, and the words after it are left.
pub record IsEndedBy (vars : ℕ) (count : Option ℕ) (clauses : List (List ℤ)) (literals xs : List ℤ) (ws : List Word) (ns : List ℤ)
    : Type 0 where
  pub rest : List Word
  pub numbers : AreNumbers rest ns
  pub reads : reach (at_state vars count clauses literals) ws ≡ reach (at_state vars count (clauses ++ (literals ++ xs) ∷ []) []) rest

clause_again : (vars : ℕ) (count : Option ℕ) (clauses : List (List ℤ)) (literals xs : List ℤ) (ws : List Word) (ns : List ℤ)
    → AreLiterals vars xs → AreNumbers ws (xs ++ pos 0 ∷ ns) → HasRoom count (length clauses)
    → IsEndedBy vars count clauses literals xs ws ns
clause_again vars count clauses literals [] [] ns fits numbers room = absurd numbers
clause_again vars count clauses literals [] (w ∷ ws) ns fits numbers room = record {
  rest = ws;
  numbers = numbers.1;
  reads =
      ap (λ r. on_ok r (λ t. reach t ws)) (zero_taken (at_state vars count clauses literals) w numbers.0 room)
      ∙ ap (λ ls. reach (at_state vars count (clauses ++ ls ∷ []) []) ws) (sym (append-nil literals));
}
clause_again vars count clauses literals (x ∷ xs) [] ns fits numbers room = absurd numbers
clause_again vars count clauses literals (x ∷ xs) (w ∷ ws) ns fits numbers room =
    let more = clause_again vars count clauses (literals ++ x ∷ []) xs ws ns fits.1 numbers.1 room in
    record {
      rest = more.rest;
      numbers = more.numbers;
      reads =
          ap (λ r. on_ok r (λ t. reach t ws)) (literal_taken (at_state vars count clauses literals) w x numbers.0 fits.0 room)
          ∙ (more.reads
          ∙ ap (λ ls. reach (at_state vars count (clauses ++ ls ∷ []) []) more.rest) (append_assoc literals (x ∷ []) xs));
    }

-- No more clauses than there are to be.
abbrev pub AreWithin : Option ℕ → ℕ → Type 0
AreWithin None n = Unit {0}
AreWithin (Some count) n = n ≤ count

has_room : (count : Option ℕ) (clauses : List (List ℤ)) (c : List ℤ) (cs : List (List ℤ)) → AreWithin count (length (clauses ++ c ∷ cs))
    → HasRoom count (length clauses)
has_room None clauses c cs few = tt
has_room (Some n) clauses c cs few = omega (arith, few, length-append clauses (c ∷ cs))

-- Clauses that are ended are read, and the words after them are left.
pub record AreEndedBy (vars : ℕ) (count : Option ℕ) (clauses cs : List (List ℤ)) (ws : List Word) (ns : List ℤ) : Type 0 where
  pub rest : List Word
  pub numbers : AreNumbers rest ns
  pub reads : reach (at_state vars count clauses []) ws ≡ reach (at_state vars count (clauses ++ cs) []) rest

clause_and_more : (c : List ℤ) (cs : List (List ℤ)) (ns : List ℤ) → numbers_of (c ∷ cs) ++ ns ≡ c ++ pos 0 ∷ (numbers_of cs ++ ns)
clause_and_more c cs ns =
    append_assoc (c ++ pos 0 ∷ []) (numbers_of cs) ns ∙ append_assoc c (pos 0 ∷ []) (numbers_of cs ++ ns)

clauses_again : (vars : ℕ) (count : Option ℕ) (clauses cs : List (List ℤ)) (ws : List Word) (ns : List ℤ)
    → AllByRecursion (AreLiterals vars) cs → AreNumbers ws (numbers_of cs ++ ns) → AreWithin count (length (clauses ++ cs))
    → AreEndedBy vars count clauses cs ws ns
clauses_again vars count clauses [] ws ns fits numbers few = record {
  rest = ws;
  numbers = numbers;
  reads = ap (λ cs. reach (at_state vars count cs []) ws) (sym (append-nil clauses));
}
clauses_again vars count clauses (c ∷ cs) ws ns fits numbers few =
    let one =
    clause_again vars count clauses [] c ws (numbers_of cs ++ ns) fits.0
    (subst (AreNumbers ws) (clause_and_more c cs ns) numbers) (has_room count clauses c cs few) in
    let more =
    clauses_again vars count (clauses ++ c ∷ []) cs one.rest ns fits.1 one.numbers
    (subst (λ ls. AreWithin count (length ls)) (sym (append_assoc clauses (c ∷ []) cs)) few) in
    record {
      rest = more.rest;
      numbers = more.numbers;
      reads =
          one.reads
          ∙ (more.reads ∙ ap (λ ls. reach (at_state vars count ls []) more.rest) (append_assoc clauses (c ∷ []) cs));
    }

-- The literals of a clause that isn't ended are read.
literals_again : (vars : ℕ) (count : Option ℕ) (clauses : List (List ℤ)) (literals xs : List ℤ) (ws : List Word)
    → AreLiterals vars xs → AreNumbers ws xs → HasRoom count (length clauses)
    → reach (at_state vars count clauses literals) ws ≡ Ok (at_state vars count clauses (literals ++ xs))
literals_again vars count clauses literals [] [] fits numbers room =
    ap (λ ls. good (at_state vars count clauses ls)) (sym (append-nil literals))
literals_again vars count clauses literals [] (w ∷ ws) fits numbers room = absurd numbers
literals_again vars count clauses literals (x ∷ xs) [] fits numbers room = absurd numbers
literals_again vars count clauses literals (x ∷ xs) (w ∷ ws) fits numbers room =
    ap (λ r. on_ok r (λ t. reach t ws)) (literal_taken (at_state vars count clauses literals) w x numbers.0 fits.0 room)
    ∙ (literals_again vars count clauses (literals ++ x ∷ []) xs ws fits.1 numbers.1 room
    ∙ ap (λ ls. good (at_state vars count clauses ls)) (append_assoc literals (x ∷ []) xs))

room_by : (count : Option ℕ) (n : ℕ) → AreFew count (n + 1) → HasRoom count n
room_by None n few = tt
room_by (Some c) n few = omega (arith, few)

unended_again : (vars : ℕ) (count : Option ℕ) (clauses : List (List ℤ)) (literals : List ℤ) (ws : List Word) → AreLiterals vars literals
    → AreNumbers ws literals → AreFew count (begun clauses literals)
    → reach (at_state vars count clauses []) ws ≡ Ok (at_state vars count clauses literals)
unended_again vars count clauses [] [] fits numbers few = refl
unended_again vars count clauses [] (w ∷ ws) fits numbers few = absurd numbers
unended_again vars count clauses (l ∷ ls) ws fits numbers few =
    literals_again vars count clauses [] (l ∷ ls) ws fits numbers (room_by count (length clauses) few)

within_by : (count : Option ℕ) (clauses : List (List ℤ)) (literals : List ℤ) → AreFew count (begun clauses literals)
    → AreWithin count (length clauses)
within_by None clauses literals few = tt
within_by (Some n) clauses [] few = few
within_by (Some n) clauses (l ∷ ls) few = omega (arith, few)

-- Words that stand for clauses and an open one lead there.
pub front_again : (vars : ℕ) (count : Option ℕ) (words : List Word) (clauses : List (List ℤ)) (literals : List ℤ)
    → StandFor vars words clauses literals → AreFew count (begun clauses literals)
    → reach (start vars count) words ≡ Ok (at_state vars count clauses literals)
front_again vars count words clauses literals stand few =
    let ended = clauses_again vars count [] clauses words literals stand.fit stand.numbers (within_by count clauses literals few) in
    ended.reads ∙ unended_again vars count clauses literals ended.rest stand.unended_fits ended.numbers few

not_short : (count : Option ℕ) (n : ℕ) → AreAsMany count n → are_short count n ≡ false
not_short None n is = refl
not_short (Some c) n is = grind (arith, nat_tests)

are_few : (count : Option ℕ) (n : ℕ) → AreAsMany count n → AreFew count n
are_few None n is = tt
are_few (Some c) n is = omega (arith, is)

-- Words that stand for clauses are read as these.
pub words_again : (vars : ℕ) (count : Option ℕ) (words : List Word) (clauses : List (List ℤ)) (after : ℕ) → StandFor vars words clauses []
    → AreAsMany count (length clauses) → on_ok (reach (start vars count) words) (finish after) ≡ Ok clauses
words_again vars count words clauses after stand many =
    ap (λ r. on_ok r (finish after)) (front_again vars count words clauses [] stand (are_few count (length clauses) many))
    ∙ rw (not_short count (length clauses) many) refl
