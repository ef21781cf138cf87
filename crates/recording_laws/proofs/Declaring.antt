-- The variables that a text declares, where the machine of recording_reader reads it.
use Rattle.std.proofs.Common.{◌≡◌, ℕ, zero, suc, ◌<◌, ◌≤◌, ◌==◌, Bool, true, false, cond, List, [], ◌∷◌, ◌++◌, length, Option, Some, None, Ok, Err, refl, sym, ap, subst, arith, append_assoc}
use Rattle.std.proofs.lemmas.List.{append-nil}
use Rattle.std.specs.Prelude.{nat_lt}
use Rattle.recording_reader.specs.Bytes.{is_code, is_end, is_skipped}
use Rattle.base_scan.specs.Numbers.{number_from}
use Rattle.base_scan.specs.Bytes.{are_digits}
use Rattle.recording_reader.specs.Changes.{start}
use Rattle.recording_reader.specs.Declarations.{Declarations, left_scope, nothing, with_scope, with_variable}
use Rattle.recording_reader.specs.Faults.{Says}
use Rattle.recording_reader.specs.Kinds.{kind_of}
use Rattle.recording_reader.specs.Machine.{State, Next, code_on, declaration_on, is_width, run}
use Rattle.recording_reader.specs.Machine.State.{declaring, note, scale, scope_kind, upscope_end, var_kind, var_width, var_code, var_reference, var_range, definitions_end, body}
use Rattle.recording_reader.specs.Recording.{Recording}
use Rattle.recording_reader.specs.Scopes.{IsOfKind, RangeEnd, is_aside}
use Rattle.recording_reader.specs.Words.{Word, words_of}
use Rattle.recording_codes.specs.Code.{Code, code, find, with_kind_at}
use Rattle.recording_codes.specs.declared.codes.Found.{Found}
use Rattle.recording_reader.specs.declared.kinds.Kind.{Kind}
use Rattle.recording_reader.specs.declared.kinds.Kind.TheVariants as kind
use Rattle.recording_reader.specs.declared.refusal.VcdErr.{VcdErr}
use Rattle.recording_reader.specs.declared.refusal.VcdErr.TheVariants.{Syntax, Width}
use Rattle.recording_reader.proofs.DeclarationWords.{Aside, behind, ended_by, goes_from, named, not_refused, noted, passed, same_state, scaled, scoped, taken}
use Rattle.recording_laws.specs.Codes.{CodedVariable, DeclaresCodes, coded}
use Rattle.recording_laws.proofs.Tied.{Adds, Tied, adds_code, adds_kind, variable_tied, with_coded}
use Rattle.recording_reader.proofs.Innermost.{aside_kind}

-- ---- the words of a variable

sized : (digits wide : Bool) (h : Declarations) (var : ℕ) (skipped : Bool) (n : ℕ) (x y : VcdErr) (next : State) → (let n : Next = cond digits (cond wide (Ok (var_code h var skipped n)) (Err x)) (Err y) in n) ≡ Ok next → var_code h var skipped n ≡ next
sized true true h var skipped n x y next e = same_state (var_code h var skipped n) next e
sized true false h var skipped n x y next e = cc
sized false wide h var skipped n x y next e = cc

-- A code with its number, and the codes with it.
record Marked (h : Declarations) (skipped : Bool) (text : List ℕ) (width : ℕ) (next : State) : Type 0 where
  new : List Code
  number : ℕ
  adds : Adds h.codes new text number skipped
  is : var_reference (record h { codes = new }) skipped number width ≡ next

marked_on : (f : Option Found) (h : Declarations) (var : ℕ) (skipped : Bool) (width : ℕ) (t : List ℕ) (next : State) → find h.codes t ≡ f → code_on f h var skipped width t ≡ Ok next → Marked h skipped t width next
marked_on None h var skipped width t next is e = record {
  new = h.codes ++ code t width skipped ∷ [];
  number = length h.codes;
  adds = adds_code h.codes t width skipped is;
  is = same_state (var_reference (record h { codes = h.codes ++ code t width skipped ∷ [] }) skipped (length h.codes) width) next e;
}
marked_on (Some f) h var skipped width t next is e = record {
  new = with_kind_at h.codes f.number skipped;
  number = f.number;
  adds = adds_kind h.codes t skipped f is;
  is = (passed (f.width == width) (Width var) (var_reference (record h { codes = with_kind_at h.codes f.number skipped }) skipped f.number width) next e).1;
}

marked : (b : Bool) (h : Declarations) (var : ℕ) (skipped : Bool) (width : ℕ) (t : List ℕ) (x : VcdErr) (next : State) → (let n : Next = cond b (code_on (find h.codes t) h var skipped width t) (Err x) in n) ≡ Ok next → Marked h skipped t width next
marked true h var skipped width t x next e = marked_on (find h.codes t) h var skipped width t next refl e
marked false h var skipped width t x next e = cc

-- The words of a variable, which is then declared.
record Varied (h : Declarations) (vs : List CodedVariable) (ts : List Word) (stop : ℕ) (r : Recording) : Type 0 where
  own : Word
  width : Word
  code_ : Word
  reference : Word
  words : List Word
  split : ts ≡ own ∷ width ∷ code_ ∷ reference ∷ words
  rest : List Word
  ended : RangeEnd words rest
  shorter : length rest < length words
  after : Declarations
  tied : Tied after (with_coded (is_skipped own.text) vs (coded code_.text (number_from 0 width.text)))
  goes : run (declaring after) rest stop ≡ Ok r

varied : (h : Declarations) (vs : List CodedVariable) (var : ℕ) (ts : List Word) (stop : ℕ) (r : Recording) → Tied h vs → run (var_kind h var) ts stop ≡ Ok r → Varied h vs ts stop r
varied h vs var ts stop r tied e =
    let a = taken (var_kind h var) ts stop r refl e in
    let skipped : Bool = is_skipped a.word.text in
    let s : State = var_width h var skipped in
    let b = taken s a.rest stop r refl (goes_from s a.next a.rest stop r (same_state s a.next a.stepped) a.goes) in
    let n : ℕ = number_from 0 b.word.text in
    let b_is = sized (are_digits b.word.text) (is_width n) h var skipped n (Width b.word.at) (Syntax b.word.at) b.next b.stepped in
    let c = taken (var_code h var skipped n) b.rest stop r refl (goes_from (var_code h var skipped n) b.next b.rest stop r b_is b.goes) in
    let m = marked (is_code c.word.text) h var skipped n c.word.text (Syntax c.word.at) c.next c.stepped in
    let h' : Declarations = record h { codes = m.new } in
    let u : State = var_reference h' skipped m.number n in
    let d = taken u c.rest stop r refl (goes_from u c.next c.rest stop r m.is c.goes) in
    let v : State = var_range h' skipped m.number n d.word.text in
    let d_is = not_refused (is_end d.word.text) (Syntax d.word.at) v d.next d.stepped in
    let x = named h' skipped m.number n d.word.text d.rest stop r (goes_from v d.next d.rest stop r d_is d.goes) in
    record {
      own = a.word;
      width = b.word;
      code_ = c.word;
      reference = d.word;
      words = d.rest;
      split = behind a.word ts a.rest (b.word ∷ c.word ∷ d.word ∷ d.rest) a.split (behind b.word a.rest b.rest (c.word ∷ d.word ∷ d.rest) b.split (behind c.word b.rest c.rest (d.word ∷ d.rest) c.split d.split));
      rest = x.rest;
      ended = x.ended;
      shorter = x.shorter;
      after = with_variable h' skipped m.number n x.called;
      tied = variable_tied h vs m.new c.word.text m.number n skipped x.called tied m.adds;
      goes = x.goes;
    }

-- ---- all declarations

-- The declarations up to their end, and what stands after is read from there.
pub record Goes (h : Declarations) (vs : List CodedVariable) (ts : List Word) (stop : ℕ) (r : Recording) : Type 0 where
  pub more : List CodedVariable
  pub rest : List Word
  pub declares : DeclaresCodes ts more rest
  pub last : Declarations
  pub tied : Tied last (vs ++ more)
  pub goes : run (body (start last) false) rest stop ≡ Ok r

abbrev Finds : ℕ → Type 0
Finds n = (ts : List Word) (h : Declarations) (vs : List CodedVariable) (stop : ℕ) (r : Recording) → length ts ≤ n → Tied h vs → run (declaring h) ts stop ≡ Ok r → Goes h vs ts stop r

scope_found : (n : ℕ) → Finds n → (word : Word) (ts : List Word) (h : Declarations) (vs : List CodedVariable) (stop : ℕ) (r : Recording) → IsOfKind word kind.Scope → length ts ≤ n → Tied h vs → run (scope_kind h) ts stop ≡ Ok r → Goes h vs (word ∷ ts) stop r
scope_found n finds word ts h vs stop r is le tied e =
    let s = scoped h ts stop r e in
    let few : length s.rest ≤ n = omega (arith, le, ap (λ (l : List Word). length l) s.split) in
    let g = finds s.rest (with_scope h s.name_word.text) vs stop r few record { facts = tied.facts; numbered = tied.numbered; widths = tied.widths } s.goes in
    record {
      more = g.more;
      rest = g.rest;
      declares = subst (λ (ws : List Word). DeclaresCodes (word ∷ ws) g.more g.rest) (sym s.split) (DeclaresCodes.scope is s.ended g.declares);
      last = g.last;
      tied = g.tied;
      goes = g.goes;
    }

upscope_found : (n : ℕ) → Finds n → (word : Word) (ts : List Word) (next : State) (h : Declarations) (vs : List CodedVariable) (stop : ℕ) (r : Recording) → IsOfKind word kind.Upscope → length ts ≤ n → Tied h vs → declaration_on kind.Upscope h word.at ≡ Ok next → run next ts stop ≡ Ok r → Goes h vs (word ∷ ts) stop r
upscope_found n finds word ts next h vs stop r is le tied on e =
    let some = passed (nat_lt 0 (length h.entered)) (Syntax word.at) (upscope_end (left_scope h)) next on in
    let s : State = upscope_end (left_scope h) in
    let a = ended_by s (declaring (left_scope h)) ts stop r refl (λ t. refl) (goes_from s next ts stop r some.1 e) in
    let few : length a.rest ≤ n = omega (arith, le, ap (λ (l : List Word). length l) a.split) in
    let g = finds a.rest (left_scope h) vs stop r few record { facts = tied.facts; numbered = tied.numbered; widths = tied.widths } a.goes in
    record {
      more = g.more;
      rest = g.rest;
      declares = subst (λ (ws : List Word). DeclaresCodes (word ∷ ws) g.more g.rest) (sym a.split) (DeclaresCodes.upscope is a.ended g.declares);
      last = g.last;
      tied = g.tied;
      goes = g.goes;
    }

var_found_on : (b : Bool) (n : ℕ) → Finds n → (word : Word) (ts : List Word) (h : Declarations) (vs : List CodedVariable) (stop : ℕ) (r : Recording) → IsOfKind word kind.Var → length ts ≤ n → (v : Varied h vs ts stop r) → is_skipped v.own.text ≡ b → Goes h vs (word ∷ ts) stop r
var_found_on true n finds word ts h vs stop r is le v skipped =
    let few : length v.rest ≤ n = omega (arith, le, v.shorter, ap (λ (l : List Word). length l) v.split) in
    let tied : Tied v.after vs = subst (λ (b : Bool). Tied v.after (with_coded b vs (coded v.code_.text (number_from 0 v.width.text)))) skipped v.tied in
    let g = finds v.rest v.after vs stop r few tied v.goes in
    record {
      more = g.more;
      rest = g.rest;
      declares = subst (λ (ws : List Word). DeclaresCodes (word ∷ ws) g.more g.rest) (sym v.split) (DeclaresCodes.skipped is skipped v.ended g.declares);
      last = g.last;
      tied = g.tied;
      goes = g.goes;
    }
var_found_on false n finds word ts h vs stop r is le v listed =
    let few : length v.rest ≤ n = omega (arith, le, v.shorter, ap (λ (l : List Word). length l) v.split) in
    let one : CodedVariable = coded v.code_.text (number_from 0 v.width.text) in
    let tied : Tied v.after (vs ++ one ∷ []) = subst (λ (b : Bool). Tied v.after (with_coded b vs one)) listed v.tied in
    let g = finds v.rest v.after (vs ++ one ∷ []) stop r few tied v.goes in
    record {
      more = one ∷ g.more;
      rest = g.rest;
      declares = subst (λ (ws : List Word). DeclaresCodes (word ∷ ws) (one ∷ g.more) g.rest) (sym v.split) (DeclaresCodes.listed is listed v.ended g.declares);
      last = g.last;
      tied = subst (λ (l : List CodedVariable). Tied g.last l) (append_assoc vs (one ∷ []) g.more) g.tied;
      goes = g.goes;
    }

aside_found : (n : ℕ) → Finds n → (word : Word) (ts : List Word) (h : Declarations) (vs : List CodedVariable) (stop : ℕ) (r : Recording) → is_aside (kind_of word.text) ≡ true → length ts ≤ n → Tied h vs → Aside h ts stop r → Goes h vs (word ∷ ts) stop r
aside_found n finds word ts h vs stop r is le tied a =
    let g = finds a.rest (record h { timescale = a.scale_ }) vs stop r (omega (arith, le, a.shorter)) record { facts = tied.facts; numbered = tied.numbered; widths = tied.widths } a.goes in
    record { more = g.more; rest = g.rest; declares = DeclaresCodes.aside is a.until g.declares; last = g.last; tied = g.tied; goes = g.goes }

definitions_found : (word : Word) (ts : List Word) (h : Declarations) (vs : List CodedVariable) (stop : ℕ) (r : Recording) → IsOfKind word kind.Definitions → Tied h vs → run (definitions_end h) ts stop ≡ Ok r → Goes h vs (word ∷ ts) stop r
definitions_found word ts h vs stop r is tied e =
    let a = ended_by (definitions_end h) (body (start h) false) ts stop r refl (λ t. refl) e in
    record {
      more = [];
      rest = a.rest;
      declares = subst (λ (ws : List Word). DeclaresCodes (word ∷ ws) [] a.rest) (sym a.split) (DeclaresCodes.definitions is a.ended);
      last = h;
      tied = subst (λ (l : List CodedVariable). Tied h l) (sym (append-nil vs)) tied;
      goes = a.goes;
    }

found_on : (n : ℕ) → Finds n → (k : Kind) (word : Word) (ts : List Word) (next : State) (h : Declarations) (vs : List CodedVariable) (stop : ℕ) (r : Recording) → kind_of word.text ≡ k → length ts ≤ n → Tied h vs → declaration_on k h word.at ≡ Ok next → run next ts stop ≡ Ok r → Goes h vs (word ∷ ts) stop r
found_on n finds kind.Scope word ts next h vs stop r is le tied on e = scope_found n finds word ts h vs stop r is le tied (goes_from (scope_kind h) next ts stop r (same_state (scope_kind h) next on) e)
found_on n finds kind.Upscope word ts next h vs stop r is le tied on e = upscope_found n finds word ts next h vs stop r is le tied on e
found_on n finds kind.Var word ts next h vs stop r is le tied on e =
    let v = varied h vs word.at ts stop r tied (goes_from (var_kind h word.at) next ts stop r (same_state (var_kind h word.at) next on) e) in
    var_found_on (is_skipped v.own.text) n finds word ts h vs stop r is le v refl
found_on n finds kind.Timescale word ts next h vs stop r is le tied on e =
    aside_found n finds word ts h vs stop r (aside_kind word kind.Timescale is refl) le tied (scaled h ts stop r (goes_from (scale h) next ts stop r (same_state (scale h) next on) e))
found_on n finds kind.Note word ts next h vs stop r is le tied on e =
    aside_found n finds word ts h vs stop r (aside_kind word kind.Note is refl) le tied (noted h ts stop r (goes_from (note h) next ts stop r (same_state (note h) next on) e))
found_on n finds kind.Comment word ts next h vs stop r is le tied on e =
    aside_found n finds word ts h vs stop r (aside_kind word kind.Comment is refl) le tied (noted h ts stop r (goes_from (note h) next ts stop r (same_state (note h) next on) e))
found_on n finds kind.Definitions word ts next h vs stop r is le tied on e =
    definitions_found word ts h vs stop r is tied (goes_from (definitions_end h) next ts stop r (same_state (definitions_end h) next on) e)
found_on n finds kind.Scalar word ts next h vs stop r is le tied on e = cc
found_on n finds kind.Vector word ts next h vs stop r is le tied on e = cc
found_on n finds kind.Real word ts next h vs stop r is le tied on e = cc
found_on n finds kind.Time word ts next h vs stop r is le tied on e = cc
found_on n finds kind.Dump word ts next h vs stop r is le tied on e = cc
found_on n finds kind.End word ts next h vs stop r is le tied on e = cc
found_on n finds kind.Off word ts next h vs stop r is le tied on e = cc
found_on n finds kind.Other word ts next h vs stop r is le tied on e = cc

finds_all : (n : ℕ) → Finds n
finds_all zero ts h vs stop r le tied e =
    let a = taken (declaring h) ts stop r refl e in
    absurd (omega (arith, le, ap (λ (l : List Word). length l) a.split))
finds_all (suc n) ts h vs stop r le tied e =
    let a = taken (declaring h) ts stop r refl e in
    let few : length a.rest ≤ n = omega (arith, le, ap (λ (l : List Word). length l) a.split) in
    subst (λ (ws : List Word). Goes h vs ws stop r) (sym a.split) (found_on n (finds_all n) (kind_of a.word.text) a.word a.rest a.next h vs stop r refl few tied a.stepped a.goes)

pub declared : (text : List ℕ) (r : Recording) → Says text r → Goes nothing [] (words_of text) (length text) r
declared text r says = finds_all (length (words_of text)) (words_of text) nothing [] (length text) r (omega arith) record { facts = λ t. refl; numbered = tt; widths = refl } says
