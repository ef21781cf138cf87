-- The header: which line it is, and which numbers it has.
use Rattle.std.proofs.Common.{◌≡◌, ℕ, ◌+◌, ◌≤◌, Bool, true, false, cond, List, [], ◌∷◌, ◌++◌, length, Option, Some, None, Result, Ok, Err, refl, sym, subst, ◌∙◌, ap, arith}
use Rattle.std.specs.Prelude.{codes, nat_le}
use Rattle.std.specs.List.{AllByRecursion}
use Rattle.sat_dimacs.specs.declared.fault.DimacsFault.{DimacsFault}
use Rattle.sat_dimacs.specs.declared.fault.DimacsFault.TheVariants.{Syntax}
use Rattle.base_scan.specs.declared.gap.Gap.TheVariants.{Blank}
use Rattle.sat_dimacs.specs.declared.header.Header.{Header}
use Rattle.sat_dimacs.specs.Grammar.{IsFirstLine, IsHeader, is_idle}
use Rattle.sat_dimacs.specs.Lines.{words_in}
use Rattle.sat_dimacs.specs.Machine.{LinesView, before_lines, count_in_front, header_in, header_of, header_on, needed, on_ok, whole, with_rest}
use Rattle.base_scan.specs.Fronts.{◌>>=◌, word_in_front}
use Rattle.base_scan.specs.Bytes.{are_digits}
use Rattle.sat_dimacs.specs.Numbers.{IsCount}
use Rattle.base_scan.specs.Numbers.{at_most, number_from, number_within}
use Rattle.base_scan.proofs.Digits.{at_most_again, within}
use Rattle.base_scan.proofs.Fronts.{bind_some, guarded, some_is, word_takes}
use Rattle.sat_dimacs.proofs.NumberLaws.{digits_again, digits_of}

-- A count in front.
at_most_takes : (limit n m : ℕ) → at_most limit n ≡ Some m → (m ≡ n) × (n ≤ limit)
at_most_takes limit n m read =
    let found = guarded (nat_le n limit) (Some n) m read in (sym (some_is n m found.1), within n limit found.0)

count_takes : (limit : ℕ) (word : List ℕ) (n : ℕ) → number_within limit word ≡ Some n → IsCount limit word n
count_takes limit word n read =
    let found = guarded (are_digits word) (at_most limit (number_from 0 word)) n read in
    let value = at_most_takes limit (number_from 0 word) n found.1 in
    let digits = digits_of word found.0 in
    record {
      writes = record { some = digits.some; digits = digits.digits; is = value.0 };
      small = omega (arith, value.0, value.1);
    }

count_again : (limit : ℕ) (word : List ℕ) (n : ℕ) → IsCount limit word n → number_within limit word ≡ Some n
count_again limit word n is =
    rw (digits_again word n is.writes) (ap (at_most limit) (sym is.writes.is) ∙ at_most_again limit n is.small)

pub record HasCount (limit : ℕ) (ws : List (List ℕ)) (n : ℕ) (rest : List (List ℕ)) : Type 0 where
  pub word : List ℕ
  pub words : ws ≡ word ∷ rest
  pub count : IsCount limit word n

front_takes : (limit : ℕ) (ws : List (List ℕ)) (p : ℕ × List (List ℕ)) → count_in_front limit ws ≡ Some p → HasCount limit ws p.0 p.1
unfolding count_in_front
front_takes limit [] p read = absurd cc
front_takes limit (w ∷ ws) p read =
    let found = bind_some (number_within limit w) (with_rest ws) p read in
    let p_is : (found.0, ws) ≡ p = some_is (found.0, ws) p found.2 in
    subst (λ (q : ℕ × List (List ℕ)). HasCount limit (w ∷ ws) q.0 q.1) p_is
    (record { word = w; words = refl; count = count_takes limit w found.0 found.1 })

front_again : (limit : ℕ) (w : List ℕ) (ws : List (List ℕ)) (n : ℕ) → IsCount limit w n → count_in_front limit (w ∷ ws) ≡ Some (n, ws)
unfolding count_in_front
front_again limit w ws n is = ap (λ o. o >>= with_rest ws) (count_again limit w n is)

whole_takes : (h header : Header) (ws : List (List ℕ)) → whole h ws ≡ Some header → (ws ≡ []) × (h ≡ header)
whole_takes h header [] read = (refl, some_is h header read)
whole_takes h header (w ∷ ws) read = absurd cc

abbrev pub header_with : ℕ → ℕ → Header
header_with vars count = record { vars = vars; count = count }

-- The words of a header.
pub record AreHeader (ws : List (List ℕ)) (vars count : ℕ) : Type 0 where
  pub v : List ℕ
  pub c : List ℕ
  pub words : ws ≡ codes "p" ∷ codes "cnf" ∷ v ∷ c ∷ []
  pub vars_are : IsCount 2147483647 v vars
  pub count_is : IsCount 9223372036854775807 c count

words_join : (ws a b c d : List (List ℕ)) (v k : List ℕ) → ws ≡ codes "p" ∷ a → a ≡ codes "cnf" ∷ b → b ≡ v ∷ c → c ≡ k ∷ d → d ≡ []
    → ws ≡ codes "p" ∷ codes "cnf" ∷ v ∷ k ∷ []
words_join ws a b c d v k one two three four five =
    one ∙ ap (λ t. codes "p" ∷ t) (two ∙ ap (λ t. codes "cnf" ∷ t) (three ∙ ap (λ t. v ∷ t) (four ∙ ap (λ t. k ∷ t) five)))

header_takes : (ws : List (List ℕ)) (header : Header) → header_of ws ≡ Some header → AreHeader ws header.vars header.count
unfolding header_of
header_takes ws header read =
    let problem = bind_some (word_in_front (codes "p") ws) _ header read in
    let format = bind_some (word_in_front (codes "cnf") problem.0) _ header problem.2 in
    let vars = bind_some (count_in_front 2147483647 format.0) _ header format.2 in
    let count = bind_some (count_in_front 9223372036854775807 vars.0.1) _ header vars.2 in
    let last = whole_takes (header_with vars.0.0 count.0.0) header count.0.1 count.2 in
    let v = front_takes 2147483647 format.0 vars.0 vars.1 in
    let c = front_takes 9223372036854775807 vars.0.1 count.0 count.1 in
    subst (λ (h : Header). AreHeader ws h.vars h.count) last.1
    (record {
      v = v.word;
      c = c.word;
      words =
          words_join ws problem.0 format.0 vars.0.1 count.0.1 v.word c.word (word_takes (codes "p") ws problem.0 problem.1)
          (word_takes (codes "cnf") problem.0 format.0 format.1) v.words c.words last.0;
      vars_are = v.count;
      count_is = c.count;
    })

header_again : (v c : List ℕ) (vars count : ℕ) → IsCount 2147483647 v vars → IsCount 9223372036854775807 c count
    → header_of (codes "p" ∷ codes "cnf" ∷ v ∷ c ∷ []) ≡ Some (header_with vars count)
unfolding header_of
header_again v c vars count vars_are count_is =
    ap (λ (o : Option (ℕ × List (List ℕ))). o >>= (λ (a : ℕ × List (List ℕ)).
    count_in_front 9223372036854775807 a.1 >>= (λ (b : ℕ × List (List ℕ)). whole (header_with a.0 b.0) b.1)))
    (front_again 2147483647 v (c ∷ []) vars vars_are)
    ∙ ap (λ (o : Option (ℕ × List (List ℕ))). o >>= (λ (b : ℕ × List (List ℕ)). whole (header_with vars b.0) b.1))
    (front_again 9223372036854775807 c [] count count_is)

-- A line is a header, or none.
pub header_found : (line : List ℕ) (header : Header) → header_of (words_in Blank line) ≡ Some header → IsHeader line header.vars header.count
header_found line header read =
    let found = header_takes (words_in Blank line) header read in
    record { v = found.v; c = found.c; words = found.words; vars_are = found.vars_are; count_is = found.count_is }

pub header_read : (line : List ℕ) (vars count : ℕ) → IsHeader line vars count → header_of (words_in Blank line) ≡ Some (header_with vars count)
header_read line vars count is =
    ap header_of is.words ∙ header_again is.v is.c vars count is.vars_are is.count_is

pub header_none : (line : List ℕ) → header_of (words_in Blank line) ≡ None → (vars count : ℕ) → IsHeader line vars count → ⊥
header_none line none vars count is = clash (sym (header_read line vars count is) ∙ none)
  where
    clash : Some (header_with vars count) ≡ None → ⊥
    clash h = absurd cc

-- What the first lines come to.
pub record FoundAt (number : ℕ) (lines : List (List ℕ)) (header : Header) (view : LinesView) : Type 0 where
  pub front : List (List ℕ)
  pub line : List ℕ
  pub rest : List (List ℕ)
  pub first : IsFirstLine lines front line rest
  pub is : IsHeader line header.vars header.count
  pub number_is : view.number ≡ number + length front + 1
  pub lines_are : view.lines ≡ rest

pub data NotFound (number : ℕ) (lines : List (List ℕ)) (fault : DimacsFault) : Type 0 where
  all_idle : AllByRecursion (λ l. is_idle l ≡ true) lines → fault ≡ Syntax (number + length lines) → NotFound number lines fault
  other_line : (front : List (List ℕ)) (line : List ℕ) (rest : List (List ℕ)) → IsFirstLine lines front line rest
      → ((vars count : ℕ) → IsHeader line vars count → ⊥) → fault ≡ Syntax (number + length front) → NotFound number lines fault

abbrev pub HeaderIs : ℕ → List (List ℕ) → Result (Header × LinesView) DimacsFault → Type 0
HeaderIs number lines (Ok found) = FoundAt number lines found.0 found.1
HeaderIs number lines (Err fault) = NotFound number lines fault

first_here : (line : List ℕ) (rest : List (List ℕ)) → is_idle line ≡ false → IsFirstLine (line ∷ rest) [] line rest
first_here line rest is = record { split = refl; idle = tt; first = is }

first_later : (l : List ℕ) (lines front : List (List ℕ)) (line : List ℕ) (rest : List (List ℕ)) → is_idle l ≡ true
    → IsFirstLine lines front line rest → IsFirstLine (l ∷ lines) (l ∷ front) line rest
first_later l lines front line rest is later =
    record { split = ap (λ ls. l ∷ ls) later.split; idle = (is, later.idle); first = later.first }

later_law : (number : ℕ) (l : List ℕ) (lines : List (List ℕ)) (r : Result (Header × LinesView) DimacsFault) → is_idle l ≡ true
    → HeaderIs (number + 1) lines r → HeaderIs number (l ∷ lines) r
later_law number l lines (Ok found) is later = record {
  front = l ∷ later.front;
  line = later.line;
  rest = later.rest;
  first = first_later l lines later.front later.line later.rest is later.first;
  is = later.is;
  number_is = omega (arith, later.number_is);
  lines_are = later.lines_are;
}
later_law number l lines (Err fault) is (all_idle idle fault_is) =
    let same : number + 1 + length lines ≡ number + length (l ∷ lines) = omega arith in
    all_idle (is, idle) (fault_is ∙ ap (λ n. Syntax n) same)
later_law number l lines (Err fault) is (other_line front line rest first no_header fault_is) =
    let same : number + 1 + length front ≡ number + length (l ∷ front) = omega arith in
    other_line (l ∷ front) line rest (first_later l lines front line rest is first) no_header (fault_is ∙ ap (λ n. Syntax n) same)

here_law : (number : ℕ) (l : List ℕ) (lines : List (List ℕ)) (o : Option Header) → is_idle l ≡ false → header_of (words_in Blank l) ≡ o
    → HeaderIs number (l ∷ lines) (on_ok (needed number o) (before_lines (number + 1) lines))
here_law number l lines None is none =
    let same : number ≡ number + length {A = List ℕ} [] = omega arith in
    other_line [] l lines (first_here l lines is) (header_none l none) (ap (λ n. Syntax n) same)
here_law number l lines (Some header) is found = record {
  front = [];
  line = l;
  rest = lines;
  first = first_here l lines is;
  is = header_found l header found;
  number_is = omega arith;
  lines_are = refl;
}

pub header_law : (number : ℕ) (lines : List (List ℕ)) → HeaderIs number lines (header_in number lines)
header_law number [] =
    let same : number ≡ number + length {A = List ℕ} [] = omega arith in all_idle tt (ap (λ n. Syntax n) same)
header_law number (l ∷ lines) = by (header_law (number + 1) lines) (is_idle l) refl
  where
    by : HeaderIs (number + 1) lines (header_in (number + 1) lines) → (t : Bool) → is_idle l ≡ t
        → HeaderIs number (l ∷ lines) (cond t (header_in (number + 1) lines) (on_ok (header_on number l) (before_lines (number + 1) lines)))
    by later true is = later_law number l lines (header_in (number + 1) lines) is later
    by later false is = here_law number l lines (header_of (words_in Blank l)) is refl

-- The first line that isn't idle is read where it is a header.
abbrev pub view_at : ℕ → List (List ℕ) → LinesView
view_at number lines = record { number = number; lines = lines }

abbrev found_at : ℕ → ℕ → List (List ℕ) → ℕ → Result (Header × LinesView) DimacsFault
found_at vars count rest number = Ok (header_with vars count, view_at number rest)

pub header_in_again : (number vars count : ℕ) (front : List (List ℕ)) (line : List ℕ) (rest : List (List ℕ))
    → AllByRecursion (λ l. is_idle l ≡ true) front → is_idle line ≡ false → IsHeader line vars count
    → header_in number (front ++ line ∷ rest) ≡ Ok (header_with vars count, view_at (number + length front + 1) rest)
header_in_again number vars count [] line rest idle first is =
    let same : number + 1 ≡ number + length {A = List ℕ} [] + 1 = omega arith in
    ap (λ t. cond t (header_in (number + 1) rest) (on_ok (header_on number line) (before_lines (number + 1) rest))) first
    ∙ (ap (λ o. on_ok (needed number o) (before_lines (number + 1) rest)) (header_read line vars count is)
    ∙ ap (found_at vars count rest) same)
header_in_again number vars count (l ∷ front) line rest idle first is =
    let same : number + 1 + length front + 1 ≡ number + length (l ∷ front) + 1 = omega arith in
    ap (λ t. cond t (header_in (number + 1) (front ++ line ∷ rest)) (on_ok (header_on number l) (before_lines (number + 1) (front ++ line ∷ rest)))) idle.0
    ∙ (header_in_again (number + 1) vars count front line rest idle.1 first is
    ∙ ap (found_at vars count rest) same)
