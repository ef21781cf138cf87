-- Words that were read stand for clauses; the first word that isn't is the first fault.
use Rattle.std.proofs.Common.{◌≡◌, ◌≢◌, ℕ, ◌+◌, ◌<◌, ◌≤◌, Bool, true, false, cond, List, [], ◌∷◌, ◌++◌, length, Option, Some, None, Result, Ok, Err, refl, sym, subst, ◌∙◌, ap, append_assoc, arith}
use Rattle.std.specs.Prelude.{ℤ, pos, nat_abs, nat_le, nat_lt, ◌&&◌}
use Rattle.std.specs.List.{AllByRecursion}
use Rattle.std.proofs.lemmas.Bool.Decides.{Decides-int_eq, nat_tests}
use Rattle.std.proofs.lemmas.List.{append-nil, length-append}
use Rattle.sat_dimacs.specs.declared.fault.DimacsFault.{DimacsFault}
use Rattle.sat_dimacs.specs.declared.fault.DimacsFault.TheVariants.{Count}
use Rattle.sat_dimacs.specs.Faults.{AreFew, IsFaultAt, IsFaultAtEnd, IsFirstFault, begun, count_at, count_end, range_at, syntax_at, syntax_end}
use Rattle.sat_dimacs.specs.Grammar.{AreLiterals, AreNumbers, IsLiteral, StandFor, numbers_of}
use Rattle.sat_dimacs.specs.Lines.{Word}
use Rattle.sat_dimacs.specs.Machine.{State, are_all, are_short, ended, finish, is_end, is_full, is_nothing, literal_of, longer, on_ok, reach, start, step, take_number, taken}
use Rattle.sat_dimacs.specs.Numbers.{IsNumber}
use Rattle.sat_dimacs.proofs.NumberLaws.{LiteralIs, literal_law, no_number, past_vars}

-- What words in front lead to.
pub record IsReached (s : State) (front : List Word) : Type 0 where
  pub stand : StandFor s.vars front s.clauses s.literals
  pub few : AreFew s.count (begun s.clauses s.literals)

no_clauses : (count : Option ℕ) → AreFew count 0
no_clauses None = tt
no_clauses (Some n) = omega arith

pub start_reached : (vars : ℕ) (count : Option ℕ) → IsReached (start vars count) []
start_reached vars count = record { stand = record { numbers = tt; fit = tt; unended_fits = tt }; few = no_clauses count }

-- One number more.
number_more : (ws : List Word) (ns : List ℤ) (w : Word) (n : ℤ) → AreNumbers ws ns → IsNumber w.bytes n
    → AreNumbers (ws ++ w ∷ []) (ns ++ n ∷ [])
number_more [] [] w n before is = (is, tt)
number_more [] (m ∷ ns) w n before is = absurd before
number_more (v ∷ ws) [] w n before is = absurd before
number_more (v ∷ ws) (m ∷ ns) w n before is = (before.0, number_more ws ns w n before.1 is)

all_more : {X : Type 0} (P : X → Type 0) (xs : List X) (x : X) → AllByRecursion P xs → P x → AllByRecursion P (xs ++ x ∷ [])
all_more P [] x before is = (is, tt)
all_more P (y ∷ xs) x before is = (before.0, all_more P xs x before.1 is)

numbers_more : (clauses : List (List ℤ)) (literals : List ℤ)
    → numbers_of (clauses ++ literals ∷ []) ≡ numbers_of clauses ++ (literals ++ pos 0 ∷ [])
numbers_more [] literals = append-nil (literals ++ pos 0 ∷ [])
numbers_more (c ∷ cs) literals =
    ap (λ (ns : List ℤ). (c ++ pos 0 ∷ []) ++ ns) (numbers_more cs literals)
    ∙ sym (append_assoc (c ++ pos 0 ∷ []) (numbers_of cs) (literals ++ pos 0 ∷ []))

begun_more : (clauses : List (List ℤ)) (literals : List ℤ) (l : ℤ) → begun clauses (literals ++ l ∷ []) ≡ length clauses + 1
begun_more clauses [] l = refl
begun_more clauses (k ∷ ks) l = refl

-- There is room for a clause that is open, or for one more.
not_all : (count n : ℕ) → nat_le count n ≡ false → n + 1 ≤ count
not_all count n h = grind (arith, nat_tests)

room : (count : Option ℕ) (clauses : List (List ℤ)) (literals : List ℤ) → AreFew count (begun clauses literals)
    → is_nothing literals && are_all count (length clauses) ≡ false → AreFew count (length clauses + 1)
room None clauses literals few free = tt
room (Some n) clauses [] few free = not_all n (length clauses) free
room (Some n) clauses (l ∷ ls) few free = few

ended_reached : (s : State) (front : List Word) (w : Word) → IsReached s front → AreFew s.count (length s.clauses + 1)
    → IsNumber w.bytes (pos 0) → IsReached (ended s) (front ++ w ∷ [])
ended_reached s front w before few is = record {
  stand = record {
    numbers =
        subst (AreNumbers (front ++ w ∷ []))
        (append_assoc (numbers_of s.clauses) s.literals (pos 0 ∷ []) ∙ (sym (numbers_more s.clauses s.literals)
        ∙ sym (append-nil (numbers_of (s.clauses ++ s.literals ∷ [])))))
        (number_more front (numbers_of s.clauses ++ s.literals) w (pos 0) before.stand.numbers is);
    fit = all_more (AreLiterals s.vars) s.clauses s.literals before.stand.fit before.stand.unended_fits;
    unended_fits = tt;
  };
  few = subst (AreFew s.count) (sym (length-append s.clauses (s.literals ∷ []))) few;
}

longer_reached : (s : State) (front : List Word) (w : Word) (l : ℤ) → IsReached s front → AreFew s.count (length s.clauses + 1)
    → IsNumber w.bytes l → IsLiteral s.vars l → IsReached (longer s l) (front ++ w ∷ [])
longer_reached s front w l before few is literal = record {
  stand = record {
    numbers =
        subst (AreNumbers (front ++ w ∷ [])) (append_assoc (numbers_of s.clauses) s.literals (l ∷ []))
        (number_more front (numbers_of s.clauses ++ s.literals) w l before.stand.numbers is);
    fit = before.stand.fit;
    unended_fits = all_more (IsLiteral s.vars) s.literals l before.stand.unended_fits literal;
  };
  few = subst (AreFew s.count) (sym (begun_more s.clauses s.literals l)) few;
}

zero_is : (l : ℤ) → is_end l ≡ true → l ≡ pos 0
zero_is l h = (Decides-int_eq l (pos 0)).0 h

not_zero : (l : ℤ) → is_end l ≡ false → l ≢ pos 0
not_zero l h is = let t : is_end l ≡ true = (Decides-int_eq l (pos 0)).1 is in cc

taken_reached : (s : State) (front : List Word) (w : Word) (l : ℤ) → IsReached s front → AreFew s.count (length s.clauses + 1)
    → IsNumber w.bytes l → nat_abs l ≤ s.vars → IsReached (taken s l) (front ++ w ∷ [])
taken_reached s front w l before few is small = by (is_end l) refl
  where
    by : (t : Bool) → is_end l ≡ t → IsReached (cond t (ended s) (longer s l)) (front ++ w ∷ [])
    by true ends = ended_reached s front w before few (subst (IsNumber w.bytes) (zero_is l ends) is)
    by false goes = longer_reached s front w l before few is (record { some = not_zero l goes; within = small })

-- A clause too many.
past_count : (count : Option ℕ) (clauses : List (List ℤ)) (literals : List ℤ) → AreFew count (begun clauses literals)
    → is_nothing literals && are_all count (length clauses) ≡ true → (literals ≡ []) × (count ≡ Some (length clauses))
past_count None clauses [] few full = absurd cc
past_count None clauses (l ∷ ls) few full = absurd cc
past_count (Some n) clauses [] few full = (refl, ap (λ m. Some m) (both_ways full))
  where
    both_ways : nat_le n (length clauses) ≡ true → n ≡ length clauses
    both_ways h = let more : n ≤ length clauses = grind (arith, nat_tests) in let less : length clauses ≤ n = few in omega (arith, more, less)
past_count (Some n) clauses (l ∷ ls) few full = absurd cc

-- What one word more leads to.
abbrev pub StepIs : State → List Word → Word → Result State DimacsFault → Type 0
StepIs s front w (Ok t) = IsReached t (front ++ w ∷ []) × (t.vars ≡ s.vars) × (t.count ≡ s.count)
StepIs s front w (Err fault) = IsFaultAt s.vars s.count s.clauses s.literals w fault

taken_keeps : (s : State) (l : ℤ) → ((taken s l).vars ≡ s.vars) × ((taken s l).count ≡ s.count)
taken_keeps s l = elim (is_end l) as (λ t. ((cond t (ended s) (longer s l)).vars ≡ s.vars) × ((cond t (ended s) (longer s l)).count ≡ s.count)) [
  | true ↦ (refl, refl)
  | false ↦ (refl, refl)
]

number_law : (s : State) (front : List Word) (w : Word) (l : ℤ) → IsReached s front → IsNumber w.bytes l → nat_abs l ≤ s.vars
    → StepIs s front w (take_number s w.line l)
number_law s front w l before is small = by (is_full s) refl
  where
    by : (t : Bool) → is_full s ≡ t → StepIs s front w (cond t (Err (Count w.line)) (Ok (taken s l)))
    by true full =
        let past = past_count s.count s.clauses s.literals before.few full in
        count_at l is small past.0 past.1 refl
    by false free =
        let keeps = taken_keeps s l in
        (taken_reached s front w l before (room s.count s.clauses s.literals before.few free) is small, keeps.0, keeps.1)

step_law : (s : State) (front : List Word) (w : Word) → IsReached s front → StepIs s front w (step s w.line w.bytes)
step_law s front w before = by (literal_of s.vars w.line w.bytes) (literal_law s.vars w.line w.bytes)
  where
    by : (r : Result ℤ DimacsFault) → LiteralIs s.vars w.line w.bytes r → StepIs s front w (on_ok r (take_number s w.line))
    by (Ok l) read = number_law s front w l before read.0 read.1
    by (Err fault) (no_number none is) = syntax_at none is
    by (Err fault) (past_vars n number past is) = range_at n number past is

-- What comes at the end.
abbrev pub AreAsMany : Option ℕ → ℕ → Type 0
AreAsMany None n = Unit {0}
AreAsMany (Some count) n = n ≡ count

abbrev pub RunIs : ℕ → Option ℕ → List Word → ℕ → Result (List (List ℤ)) DimacsFault → Type 0
RunIs vars count words after (Ok clauses) = StandFor vars words clauses [] × AreAsMany count (length clauses)
RunIs vars count words after (Err fault) = IsFirstFault vars count words after fault

enough : (count : Option ℕ) (n : ℕ) → AreFew count n → are_short count n ≡ false → AreAsMany count n
enough None n few h = tt
enough (Some c) n few h = let more : c ≤ n = grind (arith, nat_tests) in omega (arith, more, few)

too_few : (count : Option ℕ) (clauses : List (List ℤ)) (after : ℕ) → are_short count (length clauses) ≡ true
    → IsFaultAtEnd count clauses [] after (Count after)
too_few None clauses after h = absurd cc
too_few (Some c) clauses after h = count_end c refl refl (below h) refl
  where
    below : nat_lt (length clauses) c ≡ true → length clauses < c
    below is = grind (arith, nat_tests)

end_law : (vars : ℕ) (count : Option ℕ) (clauses : List (List ℤ)) (literals : List ℤ) (words : List Word) (after : ℕ)
    → StandFor vars words clauses literals → AreFew count (begun clauses literals)
    → RunIs vars count words after (finish after (record { vars = vars; count = count; clauses = clauses; literals = literals }))
end_law vars count clauses [] words after stand few = by (are_short count (length clauses)) refl
  where
    by : (t : Bool) → are_short count (length clauses) ≡ t → RunIs vars count words after (cond t (Err (Count after)) (Ok clauses))
    by true short = record {
      front = words;
      rest = [];
      clauses = clauses;
      unended = [];
      split = sym (append-nil words);
      stand = stand;
      few = few;
      at = too_few count clauses after short;
    }
    by false whole = (stand, enough count (length clauses) few whole)
end_law vars count clauses (l ∷ ls) words after stand few = record {
  front = words;
  rest = [];
  clauses = clauses;
  unended = l ∷ ls;
  split = sym (append-nil words);
  stand = stand;
  few = few;
  at = syntax_end some refl;
}
  where
    some : l ∷ ls ≡ [] → ⊥
    some is = absurd cc

-- What words come to is what they stand for, or their first fault.
pub run_law : (vars : ℕ) (count : Option ℕ) (words : List Word) (after : ℕ) (s : State) (front ws : List Word) → s.vars ≡ vars → s.count ≡ count
    → words ≡ front ++ ws → IsReached s front → RunIs vars count words after (on_ok (reach s ws) (finish after))
run_law vars count words after s front [] vars_is count_is split before =
    subst (λ v. RunIs v count words after (finish after s)) vars_is
    (subst (λ k. RunIs s.vars k words after (finish after s)) count_is
    (end_law s.vars s.count s.clauses s.literals words after
    (subst (λ ws. StandFor s.vars ws s.clauses s.literals) (sym (split ∙ append-nil front)) before.stand) before.few))
run_law vars count words after s front (w ∷ ws) vars_is count_is split before =
    by (λ t reached. run_law vars count words after t (front ++ w ∷ []) ws (reached.1 ∙ vars_is) (reached.2 ∙ count_is)
    (split ∙ sym (append_assoc front (w ∷ []) ws)) reached.0)
    (step s w.line w.bytes) (step_law s front w before)
  where
    by : ((t : State) → StepIs s front w (Ok t) → RunIs vars count words after (on_ok (reach t ws) (finish after)))
        → (r : Result State DimacsFault) → StepIs s front w r
        → RunIs vars count words after (on_ok (on_ok r (λ t. reach t ws)) (finish after))
    by goes (Ok t) reached = goes t reached
    by goes (Err fault) fails =
        subst (λ v. IsFirstFault v count words after fault) vars_is
        (subst (λ k. IsFirstFault s.vars k words after fault) count_is
        (record {
          front = front;
          rest = w ∷ ws;
          clauses = s.clauses;
          unended = s.literals;
          split = split;
          stand = before.stand;
          few = before.few;
          at = fails;
        }))

pub words_law : (vars : ℕ) (count : Option ℕ) (words : List Word) (after : ℕ)
    → RunIs vars count words after (on_ok (reach (start vars count) words) (finish after))
words_law vars count words after = run_law vars count words after (start vars count) [] words refl refl refl (start_reached vars count)
