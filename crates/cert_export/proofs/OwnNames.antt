-- The files have names of their own.
use Rattle.std.proofs.Common.{◌≡◌, ◌≢◌, ◌∙◌, ℕ, zero, suc, ◌+◌, ◌<◌, ◌≤◌, ◌^◌, List, [], ◌∷◌, ◌++◌, Option, Some, None, length, take, get_or, codes, refl, sym, ap, subst, arith}
use Rattle.std.specs.Prelude.{ℤ}
use Rattle.std.specs.Fmt.{decimal}
use Rattle.std.specs.List.{All, AllByRecursion}
use Rattle.std.proofs.lemmas.Fmt.{decimal_injective}
use Rattle.std.proofs.lemmas.List.{append_assoc, append_cancel_left, append_cancel_right}
use Rattle.std.proofs.lemmas.List.Elements.{All-cons, All-nil}
use Rattle.sat_dimacs.specs.Text.{cnf_text}
use Rattle.law_model.specs.declared.line.Line.{Line as ALine}
use Rattle.base_run.specs.Outputs.{AreApart, File}
use Rattle.wave_proved.specs.Contents.{Contents}
use Rattle.cert_export.specs.Export.{AreFiles, cert_name, file, line_name, log_files, log_of}

-- ---- two names

-- The last byte of a text, 0 where there is none.
abbrev last_of : List ℕ → ℕ
last_of [] = 0
last_of (b ∷ []) = b
last_of (b ∷ c ∷ bs) = last_of (c ∷ bs)

last_end : (bs : List ℕ) (c : ℕ) (cs : List ℕ) → last_of (bs ++ c ∷ cs) ≡ last_of (c ∷ cs)
last_end [] c cs = refl
last_end (b ∷ []) c cs = refl
last_end (b ∷ d ∷ bs) c cs = last_end (d ∷ bs) c cs

module _ (prefix : List ℕ) where
  one_ending : (m n : ℕ) (ending : List ℕ) → m < 2 ^ 64 → n < 2 ^ 64 → line_name prefix m ending ≡ line_name prefix n ending → m ≡ n
  one_ending m n ending less more same =
      let after = append_cancel_left prefix (codes "-" ++ (decimal m ++ ending)) (codes "-" ++ (decimal n ++ ending)) same in
      let numbers = append_cancel_left (codes "-") (decimal m ++ ending) (decimal n ++ ending) after in
      decimal_injective m n less more (append_cancel_right (decimal m) (decimal n) ending numbers)

  two_endings : (m n : ℕ) → line_name prefix m (codes ".cnf") ≡ line_name prefix n (codes ".log") → ⊥
  two_endings m n same =
      let f = last_end (prefix ++ (codes "-" ++ decimal m)) 46 (codes "cnf") in
      let g = last_end (prefix ++ (codes "-" ++ decimal n)) 46 (codes "log") in
      let one : last_of (line_name prefix m (codes ".cnf")) ≡ 102 = ap last_of (spread m (codes ".cnf")) ∙ f in
      let other : last_of (line_name prefix n (codes ".log")) ≡ 103 = ap last_of (spread n (codes ".log")) ∙ g in
      let bad : 102 ≡ 103 = sym one ∙ ap last_of same ∙ other in omega (arith, bad)
    where
      spread : (k : ℕ) (ending : List ℕ) → line_name prefix k ending ≡ (prefix ++ (codes "-" ++ decimal k)) ++ ending
      spread k ending = ap (λ (l : List ℕ). prefix ++ l) (sym (append_assoc (codes "-") (decimal k) ending)) ∙ sym (append_assoc prefix (codes "-" ++ decimal k) ending)

  no_certificate : (n : ℕ) (ending : List ℕ) → line_name prefix n ending ≡ cert_name prefix → ⊥
  no_certificate n ending same =
      let after = append_cancel_left prefix (codes "-" ++ (decimal n ++ ending)) (codes ".xc") same in
      let bad : 45 ≡ 46 = ap (λ (l : List ℕ). get_or l 0 0) after in omega (arith, bad)

-- ---- names of lines

-- A file of a line of this number, or of a later one.
data IsFrom (prefix : List ℕ) (number : ℕ) (f : File) : Type 0 where
  of_query : (n : ℕ) → number ≤ n → n < 2 ^ 64 → f.name ≡ line_name prefix n (codes ".cnf") → IsFrom prefix number f
  of_log : (n : ℕ) → number ≤ n → n < 2 ^ 64 → f.name ≡ line_name prefix n (codes ".log") → IsFrom prefix number f

-- Each file has another name than those after it.
abbrev Apart : List File → Type 0
Apart [] = Unit {0}
Apart (f ∷ fs) = AllByRecursion (λ (g : File). f.name ≢ g.name) fs × Apart fs

every : (P Q : File → Type 0) (fs : List File) → ((f : File) → P f → Q f) → AllByRecursion P fs → AllByRecursion Q fs
every P Q [] go all = tt
every P Q (f ∷ fs) go all = (go f all.0, every P Q fs go all.1)

joined : (P : File → Type 0) (fs gs : List File) → AllByRecursion P fs → AllByRecursion P gs → AllByRecursion P (fs ++ gs)
joined P [] gs all more = more
joined P (f ∷ fs) gs all more = (all.0, joined P fs gs all.1 more)

module _ (prefix : List ℕ) where
  lower : (number : ℕ) (f : File) → IsFrom prefix (number + 1) f → IsFrom prefix number f
  lower number f (IsFrom.of_query n least less is) = IsFrom.of_query n (omega (arith, least)) less is
  lower number f (IsFrom.of_log n least less is) = IsFrom.of_log n (omega (arith, least)) less is

  query_apart : (number : ℕ) (f : File) → number < 2 ^ 64 → IsFrom prefix (number + 1) f → line_name prefix number (codes ".cnf") ≢ f.name
  query_apart number f less (IsFrom.of_query n least few is) = λ same.
      let one = one_ending prefix number n (codes ".cnf") less few (same ∙ is) in omega (arith, one, least)
  query_apart number f less (IsFrom.of_log n least few is) = λ same. two_endings prefix number n (same ∙ is)

  log_apart : (number : ℕ) (f : File) → number < 2 ^ 64 → IsFrom prefix (number + 1) f → line_name prefix number (codes ".log") ≢ f.name
  log_apart number f less (IsFrom.of_query n least few is) = λ same. two_endings prefix n number (sym is ∙ sym same)
  log_apart number f less (IsFrom.of_log n least few is) = λ same.
      let one = one_ending prefix number n (codes ".log") less few (same ∙ is) in omega (arith, one, least)

  cert_apart : (number : ℕ) (f : File) → IsFrom prefix number f → cert_name prefix ≢ f.name
  cert_apart number f (IsFrom.of_query n least few is) = λ same. no_certificate prefix n (codes ".cnf") (sym (same ∙ is))
  cert_apart number f (IsFrom.of_log n least few is) = λ same. no_certificate prefix n (codes ".log") (sym (same ∙ is))

  abbrev first_file : ℕ → List ℕ → File
  first_file number bytes = file (line_name prefix number (codes ".cnf")) bytes

  line_from : (number : ℕ) (bytes : List ℕ) (log : Option (List (List ℤ))) → number < 2 ^ 64
      → AllByRecursion (IsFrom prefix number) (first_file number bytes ∷ log_files prefix number log)
  line_from number bytes None less = (IsFrom.of_query number (omega arith) less refl, tt)
  line_from number bytes (Some log) less = (IsFrom.of_query number (omega arith) less refl, (IsFrom.of_log number (omega arith) less refl, tt))

  line_apart : (number : ℕ) (bytes : List ℕ) (log : Option (List (List ℤ))) (rest : List File) → number < 2 ^ 64
      → AllByRecursion (IsFrom prefix (number + 1)) rest → Apart rest
      → Apart ((first_file number bytes ∷ log_files prefix number log) ++ rest)
  line_apart number bytes None rest less all apart =
      (every (IsFrom prefix (number + 1)) (λ (g : File). line_name prefix number (codes ".cnf") ≢ g.name) rest (λ g from. query_apart number g less from) all, apart)
  line_apart number bytes (Some log) rest less all apart = (
    (
      two_endings prefix number number,
      every (IsFrom prefix (number + 1)) (λ (g : File). line_name prefix number (codes ".cnf") ≢ g.name) rest (λ g from. query_apart number g less from) all,
    ),
    (every (IsFrom prefix (number + 1)) (λ (g : File). line_name prefix number (codes ".log") ≢ g.name) rest (λ g from. log_apart number g less from) all, apart),
  )

  abbrev AreGood : ℕ → List File → Type 0
  AreGood number files = AllByRecursion (IsFrom prefix number) files × Apart files

  lines_good : (c : Contents) (number : ℕ) (lines : List ALine) (files : List File) → number + length lines ≤ 2 ^ 64 → AreFiles c prefix number lines files
      → AreGood number files
  lines_good c number [] files fits none = subst (AreGood number) (sym none) (tt, tt)
  lines_good c number (l ∷ ls) files fits (own, rest, is, more, split) =
      let after = lines_good c (number + 1) ls rest (omega (arith, fits)) more in
      let bytes = cnf_text is.query.vars is.query.clauses in
      let less : number < 2 ^ 64 = omega (arith, fits) in
      let first = first_file number bytes ∷ log_files prefix number (log_of l.body) in
      let all = joined (IsFrom prefix number) first rest (line_from number bytes (log_of l.body) less)
      (every (IsFrom prefix (number + 1)) (IsFrom prefix number) rest (lower number) after.0) in
      let apart = line_apart number bytes (log_of l.body) rest less after.0 after.1 in
      subst (AreGood number) (sym (split ∙ ap (λ (o : List File). o ++ rest) is.are)) (all, apart)

-- ---- as outputs are

-- Each file has another name than those before it.
apart_before : (files : List File) → Apart files → AreApart files
apart_before [] apart = λ i d within. absurd (omega (arith, within))
apart_before (f ∷ fs) apart = by (apart_before fs apart.1)
  where
    first : (gs : List File) (i : ℕ) (d : File) → i < length gs → AllByRecursion (λ (g : File). f.name ≢ g.name) gs → f.name ≢ (get_or gs i d).name
    first [] i d within all = absurd (omega (arith, within))
    first (g ∷ gs) zero d within all = all.0
    first (g ∷ gs) (suc i) d within all = first gs i d (omega (arith, within)) all.1

    by : AreApart fs → (i : ℕ) (d : File) → i < length (f ∷ fs) → All (λ (before : File). before.name ≢ (get_or (f ∷ fs) i d).name) (take i (f ∷ fs))
    by rest zero d within = All-nil (λ (before : File). before.name ≢ f.name)
    by rest (suc i) d within =
        All-cons (λ (before : File). before.name ≢ (get_or fs i d).name) f (take i fs) (first fs i d (omega (arith, within)) apart.0)
        (rest i d (omega (arith, within)))

-- All files of a wave.
pub files_apart : (c : Contents) (prefix bytes : List ℕ) (files : List File) → length c.lines < 2 ^ 64 → AreFiles c prefix 1 c.lines files
    → AreApart (file (cert_name prefix) bytes ∷ files)
files_apart c prefix bytes files few are =
    let good = lines_good prefix c 1 c.lines files (omega (arith, few)) are in
    apart_before (file (cert_name prefix) bytes ∷ files)
    (every (IsFrom prefix 1) (λ (g : File). cert_name prefix ≢ g.name) files (cert_apart prefix 1) good.0, good.1)
