-- The words of a declaration, where a text that says a recording is read from it.
use Rattle.std.proofs.Common.{◌≡◌, ℕ, ◌<◌, Bool, true, false, cond, List, [], ◌∷◌, ◌++◌, length, Option, Some, None, Ok, Err, refl, sym, ap, ◌∙◌, subst, arith}
use Rattle.std.proofs.lemmas.Slice.Eq.{bytes_eq-Decides}
use Rattle.std.specs.Prelude.{◌==◌, bytes_eq, codes, is_some}
use Rattle.recording_reader.specs.Bytes.{is_code, is_end, is_power, is_scale, is_skipped, is_unit, range_of}
use Rattle.base_scan.specs.Numbers.{number_from}
use Rattle.base_scan.specs.Bytes.{are_digits}
use Rattle.recording_reader.specs.Declarations.{Declarations, RecordedName, name, recorded_name, with_scale, with_scope, with_variable}
use Rattle.recording_reader.specs.Machine.{State, Next, code_on, finish, is_width, range_on, run, step, then_run}
use Rattle.recording_reader.specs.Machine.State.{declaring, note, scale, scale_unit, scale_end, scope_kind, scope_name, scope_end, var_kind, var_width, var_code, var_reference, var_range, var_end}
use Rattle.recording_reader.specs.Recording.{Recording}
use Rattle.recording_reader.specs.Scopes.{IsEnd, RangeEnd, UntilEnd}
use Rattle.recording_reader.specs.Words.{Word}
use Rattle.recording_codes.specs.Code.{Code, code, find, with_kind_at}
use Rattle.recording_codes.specs.declared.codes.Found.{Found as FoundCode}
use Rattle.recording_reader.specs.declared.refusal.VcdErr.{VcdErr}
use Rattle.recording_reader.specs.declared.refusal.VcdErr.TheVariants.{Syntax, Truncated, Width}

-- One word is taken.

pub record Taken (s : State) (ts : List Word) (stop : ℕ) (r : Recording) : Type 0 where
  pub word : Word
  pub rest : List Word
  pub next : State
  pub split : ts ≡ word ∷ rest
  pub stepped : step s word ≡ Ok next
  pub goes : run next rest stop ≡ Ok r

pub taken : (s : State) (ts : List Word) (stop : ℕ) (r : Recording) → finish s stop ≡ Err (Truncated stop) → run s ts stop ≡ Ok r → Taken s ts stop r
taken s [] stop r cut e = cc
taken s (t ∷ ts) stop r cut e =
    let by : (n : Next) → step s t ≡ n → then_run n (λ next. run next ts stop) ≡ Ok r → Taken s (t ∷ ts) stop r =
    λ n. elim n as (λ n. step s t ≡ n → then_run n (λ next. run next ts stop) ≡ Ok r → Taken s (t ∷ ts) stop r) [
      | Ok next ↦ λ is e. record { word = t; rest = ts; next = next; split = refl; stepped = is; goes = e }
      | Err x ↦ λ is e. cc
    ] in
    by (step s t) refl e

pub goes_from : (s next : State) (ts : List Word) (stop : ℕ) (r : Recording) → s ≡ next → run next ts stop ≡ Ok r → run s ts stop ≡ Ok r
goes_from s next ts stop r is e = subst (λ (x : State). run x ts stop ≡ Ok r) (sym is) e

pub same_state : (s next : State) → (let n : Next = Ok s in n) ≡ Ok next → s ≡ next
same_state s next e = cc

pub passed : (b : Bool) (x : VcdErr) (s next : State) → (let n : Next = cond b (Ok s) (Err x) in n) ≡ Ok next → (b ≡ true) × (s ≡ next)
passed true x s next e = (refl, same_state s next e)
passed false x s next e = cc

pub not_refused : (b : Bool) (x : VcdErr) (s next : State) → (let n : Next = cond b (Err x) (Ok s) in n) ≡ Ok next → s ≡ next
not_refused true x s next e = cc
not_refused false x s next e = same_state s next e

pub behind : (w : Word) (ts words more : List Word) → ts ≡ w ∷ words → words ≡ more → ts ≡ w ∷ more
behind w ts words more is e = is ∙ ap (λ (l : List Word). w ∷ l) e

-- `$scope kind name $end`

pub record Scoped (h : Declarations) (ts : List Word) (stop : ℕ) (r : Recording) : Type 0 where
  pub kind_word : Word
  pub name_word : Word
  pub end : Word
  pub rest : List Word
  pub split : ts ≡ kind_word ∷ name_word ∷ end ∷ rest
  pub ended : IsEnd end
  pub goes : run (declaring (with_scope h name_word.text)) rest stop ≡ Ok r

pub scoped : (h : Declarations) (ts : List Word) (stop : ℕ) (r : Recording) → run (scope_kind h) ts stop ≡ Ok r → Scoped h ts stop r
scoped h ts stop r e =
    let a = taken (scope_kind h) ts stop r refl e in
    let b = taken (scope_name h) a.rest stop r refl (goes_from (scope_name h) a.next a.rest stop r (same_state (scope_name h) a.next a.stepped) a.goes) in
    let b_is = not_refused (is_end b.word.text) (Syntax b.word.at) (scope_end h b.word.text) b.next b.stepped in
    let c = taken (scope_end h b.word.text) b.rest stop r refl (goes_from (scope_end h b.word.text) b.next b.rest stop r b_is b.goes) in
    let c_is = passed (is_end c.word.text) (Syntax c.word.at) (declaring (with_scope h b.word.text)) c.next c.stepped in
    record {
      kind_word = a.word;
      name_word = b.word;
      end = c.word;
      rest = c.rest;
      split = behind a.word ts a.rest (b.word ∷ c.word ∷ c.rest) a.split (behind b.word a.rest b.rest (c.word ∷ c.rest) b.split c.split);
      ended = c_is.0;
      goes = goes_from (declaring (with_scope h b.word.text)) c.next c.rest stop r c_is.1 c.goes;
    }

-- `$upscope $end`, after `$upscope`, and `$enddefinitions $end` likewise

pub record Ended (next : State) (ts : List Word) (stop : ℕ) (r : Recording) : Type 0 where
  pub end : Word
  pub rest : List Word
  pub split : ts ≡ end ∷ rest
  pub ended : IsEnd end
  pub goes : run next rest stop ≡ Ok r

pub ended_by : (s next : State) (ts : List Word) (stop : ℕ) (r : Recording) → finish s stop ≡ Err (Truncated stop) → ((t : Word) → step s t ≡ cond (is_end t.text) (Ok next) (Err (Syntax t.at))) → run s ts stop ≡ Ok r → Ended next ts stop r
ended_by s next ts stop r cut steps e =
    let a = taken s ts stop r cut e in
    let is = passed (is_end a.word.text) (Syntax a.word.at) next a.next (sym (steps a.word) ∙ a.stepped) in
    record { end = a.word; rest = a.rest; split = a.split; ended = is.0; goes = goes_from next a.next a.rest stop r is.1 a.goes }

-- `$var kind width code reference [ range ] $end`

abbrev pub with_codes : Declarations → List Code → Declarations
with_codes h codes = record h { codes = codes }

record Sized (h : Declarations) (var : ℕ) (skipped : Bool) (next : State) : Type 0 where
  width : ℕ
  is : var_code h var skipped width ≡ next

sized : (digits wide : Bool) (h : Declarations) (var : ℕ) (skipped : Bool) (n : ℕ) (x y : VcdErr) (next : State) → (let n : Next = cond digits (cond wide (Ok (var_code h var skipped n)) (Err x)) (Err y) in n) ≡ Ok next → Sized h var skipped next
sized true true h var skipped n x y next e = record { width = n; is = same_state (var_code h var skipped n) next e }
sized true false h var skipped n x y next e = cc
sized false wide h var skipped n x y next e = cc

record Coded (h : Declarations) (skipped : Bool) (next : State) : Type 0 where
  codes_ : List Code
  number : ℕ
  width : ℕ
  is : var_reference (with_codes h codes_) skipped number width ≡ next

coded_on : (f : Option FoundCode) (h : Declarations) (var : ℕ) (skipped : Bool) (width : ℕ) (t : List ℕ) (next : State) → code_on f h var skipped width t ≡ Ok next → Coded h skipped next
coded_on None h var skipped width t next e =
    record { codes_ = h.codes ++ code t width skipped ∷ []; number = length h.codes; width = width; is = same_state (var_reference (with_codes h (h.codes ++ code t width skipped ∷ [])) skipped (length h.codes) width) next e }
coded_on (Some found) h var skipped width t next e =
    let is = passed (found.width == width) (Width var) (var_reference (with_codes h (with_kind_at h.codes found.number skipped)) skipped found.number width) next e in
    record { codes_ = with_kind_at h.codes found.number skipped; number = found.number; width = width; is = is.1 }

coded : (b : Bool) (f : Option FoundCode) (h : Declarations) (var : ℕ) (skipped : Bool) (width : ℕ) (t : List ℕ) (x : VcdErr) (next : State) → (let n : Next = cond b (code_on f h var skipped width t) (Err x) in n) ≡ Ok next → Coded h skipped next
coded true f h var skipped width t x next e = coded_on f h var skipped width t next e
coded false f h var skipped width t x next e = cc

pub record Named (h : Declarations) (skipped : Bool) (number width : ℕ) (ts : List Word) (stop : ℕ) (r : Recording) : Type 0 where
  pub rest : List Word
  pub ended : RangeEnd ts rest
  pub shorter : length rest < length ts
  pub called : RecordedName
  pub goes : run (declaring (with_variable h skipped number width called)) rest stop ≡ Ok r

pub named_range : (f : Option (ℕ × ℕ)) (h : Declarations) (skipped : Bool) (number width : ℕ) (reference : List ℕ) (t : Word) (ts : List Word) (next : State) (stop : ℕ) (r : Recording) → range_of t.text ≡ f → range_on f h skipped number width reference t.at ≡ Ok next → run next ts stop ≡ Ok r → Named h skipped number width (t ∷ ts) stop r
named_range None h skipped number width reference t ts next stop r is e g = cc
named_range (Some range) h skipped number width reference t ts next stop r is e g =
    let s : State = var_end h skipped number width reference range in
    let last : State = declaring (with_variable h skipped number width (name reference (Some range) false)) in
    let a = ended_by s last ts stop r refl (λ t. refl) (goes_from s next ts stop r (same_state s next e) g) in
    let some : is_some (range_of t.text) ≡ true = rw is refl in
    record {
      rest = a.rest;
      ended = subst (λ (ws : List Word). RangeEnd (t ∷ ws) a.rest) (sym a.split) (RangeEnd.some some a.ended);
      shorter = omega (arith, ap (λ (l : List Word). length l) a.split);
      called = name reference (Some range) false;
      goes = a.goes;
    }

pub named_on : (b : Bool) (h : Declarations) (skipped : Bool) (number width : ℕ) (reference : List ℕ) (t : Word) (ts : List Word) (next : State) (stop : ℕ) (r : Recording) → is_end t.text ≡ b → (let n : Next = cond b (Ok (declaring (with_variable h skipped number width (recorded_name reference)))) (range_on (range_of t.text) h skipped number width reference t.at) in n) ≡ Ok next → run next ts stop ≡ Ok r → Named h skipped number width (t ∷ ts) stop r
named_on true h skipped number width reference t ts next stop r is e g =
    let s : State = declaring (with_variable h skipped number width (recorded_name reference)) in
    record { rest = ts; ended = RangeEnd.none is; shorter = omega arith; called = recorded_name reference; goes = goes_from s next ts stop r (same_state s next e) g }
named_on false h skipped number width reference t ts next stop r is e g = named_range (range_of t.text) h skipped number width reference t ts next stop r refl e g

pub named : (h : Declarations) (skipped : Bool) (number width : ℕ) (reference : List ℕ) (ts : List Word) (stop : ℕ) (r : Recording) → run (var_range h skipped number width reference) ts stop ≡ Ok r → Named h skipped number width ts stop r
named h skipped number width reference ts stop r e =
    let a = taken (var_range h skipped number width reference) ts stop r refl e in
    subst (λ (ws : List Word). Named h skipped number width ws stop r) (sym a.split) (named_on (is_end a.word.text) h skipped number width reference a.word a.rest a.next stop r refl a.stepped a.goes)

record Referred (h : Declarations) (skipped : Bool) (number width : ℕ) (ts : List Word) (stop : ℕ) (r : Recording) : Type 0 where
  reference : Word
  words : List Word
  split : ts ≡ reference ∷ words
  named_ : Named h skipped number width words stop r

referred : (h : Declarations) (skipped : Bool) (number width : ℕ) (ts : List Word) (stop : ℕ) (r : Recording) → run (var_reference h skipped number width) ts stop ≡ Ok r → Referred h skipped number width ts stop r
referred h skipped number width ts stop r e =
    let a = taken (var_reference h skipped number width) ts stop r refl e in
    let s : State = var_range h skipped number width a.word.text in
    let is = not_refused (is_end a.word.text) (Syntax a.word.at) s a.next a.stepped in
    record { reference = a.word; words = a.rest; split = a.split; named_ = named h skipped number width a.word.text a.rest stop r (goes_from s a.next a.rest stop r is a.goes) }

record Marked (h : Declarations) (skipped : Bool) (ts : List Word) (stop : ℕ) (r : Recording) : Type 0 where
  code_word : Word
  reference : Word
  words : List Word
  split : ts ≡ code_word ∷ reference ∷ words
  codes_ : List Code
  number : ℕ
  width : ℕ
  named_ : Named (with_codes h codes_) skipped number width words stop r

marked : (h : Declarations) (var : ℕ) (skipped : Bool) (width : ℕ) (ts : List Word) (stop : ℕ) (r : Recording) → run (var_code h var skipped width) ts stop ≡ Ok r → Marked h skipped ts stop r
marked h var skipped width ts stop r e =
    let a = taken (var_code h var skipped width) ts stop r refl e in
    let c = coded (is_code a.word.text) (find h.codes a.word.text) h var skipped width a.word.text (Syntax a.word.at) a.next a.stepped in
    let s : State = var_reference (with_codes h c.codes_) skipped c.number c.width in
    let b = referred (with_codes h c.codes_) skipped c.number c.width a.rest stop r (goes_from s a.next a.rest stop r c.is a.goes) in
    record {
      code_word = a.word;
      reference = b.reference;
      words = b.words;
      split = behind a.word ts a.rest (b.reference ∷ b.words) a.split b.split;
      codes_ = c.codes_;
      number = c.number;
      width = c.width;
      named_ = b.named_;
    }

record Measured (h : Declarations) (skipped : Bool) (ts : List Word) (stop : ℕ) (r : Recording) : Type 0 where
  width_word : Word
  rest : List Word
  split : ts ≡ width_word ∷ rest
  marked_ : Marked h skipped rest stop r

measured : (h : Declarations) (var : ℕ) (skipped : Bool) (ts : List Word) (stop : ℕ) (r : Recording) → run (var_width h var skipped) ts stop ≡ Ok r → Measured h skipped ts stop r
measured h var skipped ts stop r e =
    let a = taken (var_width h var skipped) ts stop r refl e in
    let n : ℕ = number_from 0 a.word.text in
    let w = sized (are_digits a.word.text) (is_width n) h var skipped n (Width a.word.at) (Syntax a.word.at) a.next a.stepped in
    record { width_word = a.word; rest = a.rest; split = a.split; marked_ = marked h var skipped w.width a.rest stop r (goes_from (var_code h var skipped w.width) a.next a.rest stop r w.is a.goes) }

pub record Varied (h : Declarations) (ts : List Word) (stop : ℕ) (r : Recording) : Type 0 where
  pub kind_word : Word
  pub width_word : Word
  pub code_word : Word
  pub reference : Word
  pub words : List Word
  pub split : ts ≡ kind_word ∷ width_word ∷ code_word ∷ reference ∷ words
  pub codes_ : List Code
  pub number : ℕ
  pub width : ℕ
  pub named_ : Named (with_codes h codes_) (is_skipped kind_word.text) number width words stop r

pub varied : (h : Declarations) (var : ℕ) (ts : List Word) (stop : ℕ) (r : Recording) → run (var_kind h var) ts stop ≡ Ok r → Varied h ts stop r
varied h var ts stop r e =
    let a = taken (var_kind h var) ts stop r refl e in
    let skipped : Bool = is_skipped a.word.text in
    let s : State = var_width h var skipped in
    let b = measured h var skipped a.rest stop r (goes_from s a.next a.rest stop r (same_state s a.next a.stepped) a.goes) in
    let c = b.marked_ in
    record {
      kind_word = a.word;
      width_word = b.width_word;
      code_word = c.code_word;
      reference = c.reference;
      words = c.words;
      split = behind a.word ts a.rest (b.width_word ∷ c.code_word ∷ c.reference ∷ c.words) a.split (behind b.width_word a.rest b.rest (c.code_word ∷ c.reference ∷ c.words) b.split c.split);
      codes_ = c.codes_;
      number = c.number;
      width = c.width;
      named_ = c.named_;
    }

-- `$timescale`, `$date`, `$version`, `$comment`: words up to the first `$end`

pub record Aside (h : Declarations) (ts : List Word) (stop : ℕ) (r : Recording) : Type 0 where
  pub scale_ : Option (List ℕ)
  pub rest : List Word
  pub until : UntilEnd ts rest
  pub shorter : length rest < length ts
  pub goes : run (declaring (record h { timescale = scale_ })) rest stop ≡ Ok r

pub noted : (h : Declarations) (ts : List Word) (stop : ℕ) (r : Recording) → run (note h) ts stop ≡ Ok r → Aside h ts stop r
noted h [] stop r e = cc
noted h (t ∷ ts) stop r e =
    let by : (b : Bool) → is_end t.text ≡ b → run (cond b (declaring h) (note h)) ts stop ≡ Ok r → Aside h (t ∷ ts) stop r =
    λ b. elim b as (λ b. is_end t.text ≡ b → run (cond b (declaring h) (note h)) ts stop ≡ Ok r → Aside h (t ∷ ts) stop r) [
      | true ↦ λ is e. record { scale_ = h.timescale; rest = ts; until = UntilEnd.here is; shorter = omega arith; goes = e }
      | false ↦ λ is e. let a = noted h ts stop r e in record { scale_ = a.scale_; rest = a.rest; until = UntilEnd.further is a.until; shorter = omega (arith, a.shorter); goes = a.goes }
    ] in
    by (is_end t.text) refl e

text_is : (t u : List ℕ) → bytes_eq t u ≡ true → t ≡ u
text_is t u e = (bytes_eq-Decides t u).0 e

not_end : (t : List ℕ) (test : List ℕ → Bool) → test t ≡ true → test (codes "$end") ≡ false → is_end t ≡ false
not_end t test is other =
    let by : (b : Bool) → is_end t ≡ b → b ≡ false =
    λ b. elim b as (λ b. is_end t ≡ b → b ≡ false) [
      | true ↦ λ e. let same = ap test (text_is t (codes "$end") e) in cc
      | false ↦ λ e. refl
    ] in
    by (is_end t) refl

scale_ended : (h : Declarations) (text : List ℕ) (ts : List Word) (stop : ℕ) (r : Recording) → run (scale_end h text) ts stop ≡ Ok r → Aside h ts stop r
scale_ended h text ts stop r e =
    let a = ended_by (scale_end h text) (declaring (with_scale h text)) ts stop r refl (λ t. refl) e in
    record {
      scale_ = Some text;
      rest = a.rest;
      until = subst (λ (ws : List Word). UntilEnd ws a.rest) (sym a.split) (UntilEnd.here a.ended);
      shorter = omega (arith, ap (λ (l : List Word). length l) a.split);
      goes = a.goes;
    }

one_more : (h : Declarations) (t : Word) (ts : List Word) (stop : ℕ) (r : Recording) → is_end t.text ≡ false → Aside h ts stop r → Aside h (t ∷ ts) stop r
one_more h t ts stop r other a = record { scale_ = a.scale_; rest = a.rest; until = UntilEnd.further other a.until; shorter = omega (arith, a.shorter); goes = a.goes }

scaled_unit : (h : Declarations) (power : List ℕ) (ts : List Word) (stop : ℕ) (r : Recording) → run (scale_unit h power) ts stop ≡ Ok r → Aside h ts stop r
scaled_unit h power ts stop r e =
    let a = taken (scale_unit h power) ts stop r refl e in
    let is = passed (is_unit a.word.text) (Syntax a.word.at) (scale_end h (power ++ a.word.text)) a.next a.stepped in
    subst (λ (ws : List Word). Aside h ws stop r) (sym a.split) (one_more h a.word a.rest stop r (not_end a.word.text is_unit is.0 refl)
    (scale_ended h (power ++ a.word.text) a.rest stop r (goes_from (scale_end h (power ++ a.word.text)) a.next a.rest stop r is.1 a.goes)))

scaled_on : (joined power : Bool) (h : Declarations) (t : Word) (ts : List Word) (next : State) (stop : ℕ) (r : Recording) → is_scale t.text ≡ joined → is_power t.text ≡ power → (let n : Next = cond joined (Ok (scale_end h t.text)) (cond power (Ok (scale_unit h t.text)) (Err (Syntax t.at))) in n) ≡ Ok next → run next ts stop ≡ Ok r → Aside h (t ∷ ts) stop r
scaled_on true power h t ts next stop r is a e g =
    one_more h t ts stop r (not_end t.text is_scale is refl) (scale_ended h t.text ts stop r (goes_from (scale_end h t.text) next ts stop r (same_state (scale_end h t.text) next e) g))
scaled_on false true h t ts next stop r is a e g =
    one_more h t ts stop r (not_end t.text is_power a refl) (scaled_unit h t.text ts stop r (goes_from (scale_unit h t.text) next ts stop r (same_state (scale_unit h t.text) next e) g))
scaled_on false false h t ts next stop r is a e g = cc

pub scaled : (h : Declarations) (ts : List Word) (stop : ℕ) (r : Recording) → run (scale h) ts stop ≡ Ok r → Aside h ts stop r
scaled h ts stop r e =
    let a = taken (scale h) ts stop r refl e in
    subst (λ (ws : List Word). Aside h ws stop r) (sym a.split) (scaled_on (is_scale a.word.text) (is_power a.word.text) h a.word a.rest a.next stop r refl refl a.stepped a.goes)
