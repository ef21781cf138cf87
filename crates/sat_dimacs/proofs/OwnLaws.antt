-- What is written is read as what was written.
use Rattle.std.proofs.Common.{◌≡◌, ℕ, suc, ◌+◌, ◌^◌, ◌<◌, ◌≤◌, true, false, List, [], ◌∷◌, ◌++◌, length, refl, sym, subst, ◌∙◌, ap, append_assoc, arith}
use Rattle.std.specs.Prelude.{ℤ, pos, negsuc, nat_abs, codes, decimal, map, Result}
use Rattle.std.specs.Fmt.{signed_decimal}
use Rattle.std.specs.List.{All, AllByRecursion, flat_map, list_all}
use Rattle.std.proofs.lemmas.Bool.Decides.{nat_tests}
use Rattle.std.proofs.lemmas.Fmt.{decimal_nonempty}
use Rattle.std.proofs.lemmas.List.{append-nil}
use Rattle.std.proofs.lemmas.List.Elements.{recursion_from_All}
use Rattle.sat_proof.specs.Assignment.{HasNoZero}
use Rattle.sat_proof.specs.Log.{Fit}
use Rattle.sat_proof.specs.declared.clause.Cnf.{Cnf}
use Rattle.base_scan.specs.declared.gap.Gap.{Gap}
use Rattle.base_scan.specs.declared.gap.Gap.TheVariants.{Blank, Byte, White}
use Rattle.sat_dimacs.specs.declared.kind.Kind.{Kind}
use Rattle.sat_dimacs.specs.declared.kind.Kind.TheVariants.{OfCnf, OfLog}
use Rattle.sat_dimacs.specs.declared.refusal.DimacsErr.{DimacsErr}
use Rattle.sat_dimacs.specs.Grammar.{AreLiterals, AreNumbers, IsCnfText, IsHeader, IsLogText, StandFor, numbers_of}
use Rattle.sat_dimacs.specs.Laws.{CnfIsRead, IsBounded, LogIsRead, OwnCnfIsRead, OwnLogIsRead}
use Rattle.sat_dimacs.specs.Lines.{Word, begins_passed, is_filled, is_passed, lines_in, on_line, parts, words_from, words_in, words_of_line}
use Rattle.base_scan.specs.Gaps.{is_gap, with_front}
use Rattle.sat_dimacs.specs.Numbers.{AreDigitsOf, IsNumber, negative, plain}
use Rattle.base_scan.specs.Bytes.{is_digit}
use Rattle.base_scan.proofs.Digits.{all_digits_decimal, number_of_decimal}
use Rattle.base_scan.proofs.Fronts.{both}
use Rattle.sat_dimacs.specs.Text.{clause_text, cnf_text, header_text, literal_text, log_text}

-- No byte of these is a gap.
abbrev pub HasNoGap : Gap → List ℕ → Type 0
HasNoGap gap bytes = AllByRecursion (λ b. is_gap gap b ≡ false) bytes

pub part_first : (gap : Gap) (w : List ℕ) (g : ℕ) (rest : List ℕ) → HasNoGap gap w → is_gap gap g ≡ true
    → parts gap (w ++ g ∷ rest) ≡ w ∷ parts gap rest
part_first gap [] g rest none is = rw is refl
part_first gap (b ∷ bs) g rest none is = rw none.0 (ap (with_front b) (part_first gap bs g rest none.1 is))

pub part_last : (gap : Gap) (b : ℕ) (bs : List ℕ) → HasNoGap gap (b ∷ bs) → parts gap (b ∷ bs) ≡ (b ∷ bs) ∷ []
part_last gap b [] none = rw none.0 refl
part_last gap b (c ∷ cs) none = rw none.0 (ap (with_front b) (part_last gap c cs none.1))

-- A word has a byte, and no gap.
pub record IsWord (gap : Gap) (w : List ℕ) : Type 0 where
  pub some : is_filled w ≡ true
  pub none : HasNoGap gap w

word_first : (gap : Gap) (w : List ℕ) (g : ℕ) (rest : List ℕ) → IsWord gap w → is_gap gap g ≡ true
    → words_in gap (w ++ g ∷ rest) ≡ w ∷ words_in gap rest
word_first gap w g rest word is = rw (part_first gap w g rest word.none is, word.some) refl

word_last : (gap : Gap) (w : List ℕ) → IsWord gap w → words_in gap w ≡ w ∷ []
word_last gap [] word = absurd (no_word word.some)
  where
    no_word : false ≡ true → ⊥
    no_word h = absurd cc
word_last gap (b ∷ bs) word = rw (part_last gap b bs word.none) refl

-- Digits. No gap of lines or words is one.
abbrev IsPlain : Gap → Type 0
IsPlain (Byte one) = one ≡ 10
IsPlain Blank = Unit {0}
IsPlain White = Unit {0}

digit_no_gap : (gap : Gap) → IsPlain gap → (b : ℕ) → is_digit b ≡ true → is_gap gap b ≡ false
digit_no_gap (Byte one) is b h = grind (arith, nat_tests)
digit_no_gap Blank is b h = grind (arith, nat_tests)
digit_no_gap White is b h = grind (arith, nat_tests)

digit_not_passed : (kind : Kind) (b : ℕ) → is_digit b ≡ true → begins_passed kind b ≡ false
digit_not_passed OfCnf b h = grind (arith, nat_tests)
digit_not_passed OfLog b h = grind (arith, nat_tests)

digits_no_gap : (gap : Gap) → IsPlain gap → (ds : List ℕ) → list_all is_digit ds ≡ true → HasNoGap gap ds
digits_no_gap gap is [] h = tt
digits_no_gap gap is (d ∷ ds) h =
    let found = both (is_digit d) (list_all is_digit ds) h in (digit_no_gap gap is d found.0, digits_no_gap gap is ds found.1)

filled_by : (w : List ℕ) → 0 < length w → is_filled w ≡ true
filled_by [] some = absurd (omega (arith, some))
filled_by (b ∷ bs) some = refl

decimal_word : (gap : Gap) → IsPlain gap → (n : ℕ) → n < 2 ^ 64 → IsWord gap (decimal n)
decimal_word gap is n small =
    record { some = filled_by (decimal n) (decimal_nonempty n small); none = digits_no_gap gap is (decimal n) (all_digits_decimal n small) }

decimal_digits : (n : ℕ) → n < 2 ^ 64 → AreDigitsOf (decimal n) n
decimal_digits n small =
    record { some = decimal_nonempty n small; digits = all_digits_decimal n small; is = sym (number_of_decimal n small) }

-- Literals.
sign_no_gap : (gap : Gap) → IsPlain gap → is_gap gap 45 ≡ false
sign_no_gap (Byte one) is = rw is refl
sign_no_gap Blank is = refl
sign_no_gap White is = refl

literal_word : (gap : Gap) → IsPlain gap → (l : ℤ) → nat_abs l < 2 ^ 64 → IsWord gap (signed_decimal l)
literal_word gap is (pos n) small = decimal_word gap is n small
literal_word gap is (negsuc n) small =
    record { some = refl; none = (sign_no_gap gap is, digits_no_gap gap is (decimal (suc n)) (all_digits_decimal (suc n) small)) }

literal_number : (l : ℤ) → nat_abs l < 2 ^ 64 → IsNumber (signed_decimal l) l
literal_number (pos n) small = plain n (decimal_digits n small) refl
literal_number (negsuc n) small = negative (decimal (suc n)) (suc n) refl (decimal_digits (suc n) small) (omega arith) refl

zero_number : IsNumber (codes "0") (pos 0)
zero_number = plain 0 (record { some = omega arith; digits = refl; is = refl }) refl

-- The words of a clause.
abbrev AreSmall : List ℤ → Type 0
AreSmall ls = AllByRecursion (λ l. nat_abs l < 2 ^ 64) ls

literal_first : (s rest last : List ℕ) → ((s ++ 32 ∷ []) ++ rest) ++ last ≡ s ++ 32 ∷ (rest ++ last)
literal_first s rest last = simp append_assoc

clause_words : (ls : List ℤ) → AreSmall ls → words_in White (clause_text ls) ≡ map signed_decimal ls ++ codes "0" ∷ []
clause_words [] small = refl
clause_words (l ∷ ls) small =
    ap (words_in White) (literal_first (signed_decimal l) (flat_map literal_text ls) (codes "0"))
    ∙ (word_first White (signed_decimal l) 32 (clause_text ls) (literal_word White tt l small.0) refl
    ∙ ap (λ ws. signed_decimal l ∷ ws) (clause_words ls small.1))

clause_numbers : (n : ℕ) (ls : List ℤ) → AreSmall ls → AreNumbers (on_line n (map signed_decimal ls ++ codes "0" ∷ [])) (ls ++ pos 0 ∷ [])
clause_numbers n [] small = (zero_number, tt)
clause_numbers n (l ∷ ls) small = (literal_number l small.0, clause_numbers n ls small.1)

-- A clause is one line, which isn't passed over.
no_gap_append : (gap : Gap) (v w : List ℕ) → HasNoGap gap v → HasNoGap gap w → HasNoGap gap (v ++ w)
no_gap_append gap [] w x y = y
no_gap_append gap (b ∷ bs) w x y = (x.0, no_gap_append gap bs w x.1 y)

literals_one_line : (ls : List ℤ) → AreSmall ls → HasNoGap (Byte 10) (flat_map literal_text ls)
literals_one_line [] small = tt
literals_one_line (l ∷ ls) small =
    no_gap_append (Byte 10) (literal_text l) (flat_map literal_text ls)
    (no_gap_append (Byte 10) (signed_decimal l) (codes " ") (literal_word (Byte 10) refl l small.0).none (refl, tt)) (literals_one_line ls small.1)

one_line : (ls : List ℤ) → AreSmall ls → HasNoGap (Byte 10) (clause_text ls)
one_line ls small = no_gap_append (Byte 10) (flat_map literal_text ls) (codes "0") (literals_one_line ls small) (refl, tt)

begins : (kind : Kind) (w rest : List ℕ) → is_filled w ≡ true → is_passed kind w ≡ false → is_passed kind (w ++ rest) ≡ false
begins kind [] rest some is = absurd cc
begins kind (b ∷ bs) rest some is = is

digits_begin : (kind : Kind) (ds : List ℕ) → list_all is_digit ds ≡ true → is_passed kind ds ≡ false
digits_begin kind [] h = refl
digits_begin kind (d ∷ ds) h = digit_not_passed kind d (both (is_digit d) (list_all is_digit ds) h).0

sign_begins : (kind : Kind) → begins_passed kind 45 ≡ false
sign_begins OfCnf = refl
sign_begins OfLog = refl

zero_begins : (kind : Kind) → begins_passed kind 48 ≡ false
zero_begins OfCnf = refl
zero_begins OfLog = refl

literal_begins : (kind : Kind) (l : ℤ) → nat_abs l < 2 ^ 64 → is_passed kind (signed_decimal l) ≡ false
literal_begins kind (pos n) small = digits_begin kind (decimal n) (all_digits_decimal n small)
literal_begins kind (negsuc n) small = sign_begins kind

not_passed : (kind : Kind) (ls : List ℤ) → AreSmall ls → is_passed kind (clause_text ls) ≡ false
not_passed kind [] small = zero_begins kind
not_passed kind (l ∷ ls) small =
    ap (is_passed kind) (literal_first (signed_decimal l) (flat_map literal_text ls) (codes "0"))
    ∙ begins kind (signed_decimal l) (32 ∷ clause_text ls) (literal_word White tt l small.0).some (literal_begins kind l small.0)

-- The lines of clauses, and their words.
abbrev AreAllSmall : List (List ℤ) → Type 0
AreAllSmall cs = AllByRecursion AreSmall cs

line_first : (t rest : List ℕ) → (t ++ 10 ∷ []) ++ rest ≡ t ++ 10 ∷ rest
line_first t rest = append_assoc t (10 ∷ []) rest

clause_lines : (cs : List (List ℤ)) → AreAllSmall cs → lines_in (log_text cs) ≡ map clause_text cs
clause_lines [] small = refl
clause_lines (c ∷ cs) small =
    ap lines_in (line_first (clause_text c) (log_text cs))
    ∙ (part_first (Byte 10) (clause_text c) 10 (log_text cs) (one_line c small.0) refl
    ∙ ap (λ ls. clause_text c ∷ ls) (clause_lines cs small.1))

numbers_append : (vs ws : List Word) (ms ns : List ℤ) → AreNumbers vs ms → AreNumbers ws ns → AreNumbers (vs ++ ws) (ms ++ ns)
numbers_append [] ws [] ns x y = y
numbers_append [] ws (m ∷ ms) ns x y = absurd x
numbers_append (v ∷ vs) ws [] ns x y = absurd x
numbers_append (v ∷ vs) ws (m ∷ ms) ns x y = (x.0, numbers_append vs ws ms ns x.1 y)

line_words : (kind : Kind) (n : ℕ) (c : List ℤ) → AreSmall c
    → words_of_line kind n (clause_text c) ≡ on_line n (map signed_decimal c ++ codes "0" ∷ [])
line_words kind n c small = rw (not_passed kind c small) (ap (on_line n) (clause_words c small))

clauses_numbers : (kind : Kind) (n : ℕ) (cs : List (List ℤ)) → AreAllSmall cs → AreNumbers (words_from kind n (map clause_text cs)) (numbers_of cs)
clauses_numbers kind n [] small = tt
clauses_numbers kind n (c ∷ cs) small =
    numbers_append (words_of_line kind n (clause_text c)) (words_from kind (n + 1) (map clause_text cs)) (c ++ pos 0 ∷ []) (numbers_of cs)
    (subst (λ ws. AreNumbers ws (c ++ pos 0 ∷ [])) (sym (line_words kind n c small.0)) (clause_numbers n c small.0))
    (clauses_numbers kind (n + 1) cs small.1)

-- Clauses without 0 whose variables are within the number.
literals_fit : (vars : ℕ) (c : List ℤ) → AllByRecursion (λ l. l ≡ pos 0 → ⊥) c → AllByRecursion (λ l. nat_abs l ≤ vars) c → AreLiterals vars c
literals_fit vars [] some fit = tt
literals_fit vars (l ∷ ls) some fit = (record { some = some.0; within = fit.0 }, literals_fit vars ls some.1 fit.1)

clauses_fit : (vars : ℕ) (cs : List (List ℤ)) → AllByRecursion HasNoZero cs → AllByRecursion (λ c. All (λ l. nat_abs l ≤ vars) c) cs
    → AllByRecursion (AreLiterals vars) cs
clauses_fit vars [] some fit = tt
clauses_fit vars (c ∷ cs) some fit = (
  literals_fit vars c (recursion_from_All (λ l. l ≡ pos 0 → ⊥) c some.0) (recursion_from_All (λ l. nat_abs l ≤ vars) c fit.0),
  clauses_fit vars cs some.1 fit.1,
)

literals_small : (vars : ℕ) (c : List ℤ) → vars < 2 ^ 32 → AreLiterals vars c → AreSmall c
literals_small vars [] few fit = tt
literals_small vars (l ∷ ls) few fit = (omega (arith, few, fit.0.within), literals_small vars ls few fit.1)

clauses_small : (vars : ℕ) (cs : List (List ℤ)) → vars < 2 ^ 32 → AllByRecursion (AreLiterals vars) cs → AreAllSmall cs
clauses_small vars [] few fit = tt
clauses_small vars (c ∷ cs) few fit = (literals_small vars c few fit.0, clauses_small vars cs few fit.1)

all_fit : (vars : ℕ) (cs : List (List ℤ)) → All HasNoZero cs → Fit vars cs → AllByRecursion (AreLiterals vars) cs
all_fit vars cs some fit =
    clauses_fit vars cs (recursion_from_All HasNoZero cs some) (recursion_from_All (λ c. All (λ l. nat_abs l ≤ vars) c) cs fit)

written_stand : (kind : Kind) (n vars : ℕ) (cs : List (List ℤ)) → vars < 2 ^ 32 → AllByRecursion (AreLiterals vars) cs
    → StandFor vars (words_from kind n (map clause_text cs)) cs []
written_stand kind n vars cs few fit = record {
  numbers =
      subst (AreNumbers (words_from kind n (map clause_text cs))) (sym (append-nil (numbers_of cs)))
      (clauses_numbers kind n cs (clauses_small vars cs few fit));
  fit = fit;
  unended_fits = tt;
}

-- A log.
pub written_log : (vars : ℕ) (log : List (List ℤ)) → vars < 2 ^ 32 → All HasNoZero log → Fit vars log → IsLogText (log_text log) vars log
written_log vars log few some fit =
    let fits = all_fit vars log some fit in
    subst (λ ls. StandFor vars (words_from OfLog 1 ls) log []) (sym (clause_lines log (clauses_small vars log few fits)))
    (written_stand OfLog 1 vars log few fits)

-- A formula.
header_words : (vars count : ℕ) → vars < 2 ^ 64 → count < 2 ^ 64
    → words_in Blank (header_text vars count) ≡ codes "p" ∷ codes "cnf" ∷ decimal vars ∷ decimal count ∷ []
header_words vars count small few =
    ap (λ ws. codes "p" ∷ codes "cnf" ∷ ws)
    (word_first Blank (decimal vars) 32 (decimal count) (decimal_word Blank tt vars small) refl
    ∙ ap (λ ws. decimal vars ∷ ws) (word_last Blank (decimal count) (decimal_word Blank tt count few)))

header_line : (vars count : ℕ) → vars < 2 ^ 64 → count < 2 ^ 64 → HasNoGap (Byte 10) (header_text vars count)
header_line vars count small few =
    no_gap_append (Byte 10) (codes "p cnf ") (decimal vars ++ (codes " " ++ decimal count)) (refl, (refl, (refl, (refl, (refl, (refl, tt))))))
    (no_gap_append (Byte 10) (decimal vars) (codes " " ++ decimal count) (decimal_word (Byte 10) refl vars small).none
    (refl, (decimal_word (Byte 10) refl count few).none))

written_header : (vars count : ℕ) → vars ≤ 2147483647 → count < 9223372036854775808 → IsHeader (header_text vars count) vars count
written_header vars count few many =
    let small : vars < 2 ^ 64 = omega (arith, few) in
    let less : count < 2 ^ 64 = omega (arith, many) in
    record {
      v = decimal vars;
      c = decimal count;
      words = header_words vars count small less;
      vars_are = record { writes = decimal_digits vars small; small = few };
      count_is = record { writes = decimal_digits count less; small = omega (arith, many) };
    }

cnf_lines : (vars : ℕ) (cs : List (List ℤ)) → vars < 2 ^ 64 → length cs < 2 ^ 64 → AreAllSmall cs
    → lines_in (cnf_text vars cs) ≡ header_text vars (length cs) ∷ map clause_text cs
cnf_lines vars cs small few all =
    ap lines_in (line_first (header_text vars (length cs)) (log_text cs))
    ∙ (part_first (Byte 10) (header_text vars (length cs)) 10 (log_text cs) (header_line vars (length cs) small few) refl
    ∙ ap (λ ls. header_text vars (length cs) ∷ ls) (clause_lines cs all))

pub written_cnf : (vars : ℕ) (clauses : List (List ℤ)) → IsBounded vars clauses → IsCnfText (cnf_text vars clauses) vars clauses
written_cnf vars clauses bounded =
    let fits = all_fit vars clauses bounded.no_zero bounded.fit in
    let few : vars < 2 ^ 32 = omega (arith, bounded.vars_few) in
    let small : vars < 2 ^ 64 = omega (arith, bounded.vars_few) in
    let many : length clauses < 2 ^ 64 = omega (arith, bounded.clauses_few) in
    record {
      front = [];
      header = header_text vars (length clauses);
      rest = map clause_text clauses;
      first = record {
        split = cnf_lines vars clauses small many (clauses_small vars clauses few fits);
        idle = tt;
        first = refl;
      };
      is = written_header vars (length clauses) bounded.vars_few bounded.clauses_few;
      stand = written_stand OfCnf 2 vars clauses few fits;
    }

pub own_cnf : (text : List ℕ) (result : Result Cnf DimacsErr) → CnfIsRead text result → OwnCnfIsRead text result
own_cnf text result only vars clauses bounded is =
    only vars clauses (subst (λ t. IsCnfText t vars clauses) (sym is) (written_cnf vars clauses bounded))

pub own_log : (text : List ℕ) (vars : ℕ) (result : Result (List (List ℤ)) DimacsErr) → vars < 2 ^ 32 → LogIsRead text vars result
    → OwnLogIsRead text vars result
own_log text vars result few only log some fit is =
    only log (subst (λ t. IsLogText t vars log) (sym is) (written_log vars log few some fit))
