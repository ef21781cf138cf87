-- What is declared, and the variables that the text lists.
use Rattle.std.proofs.Common.{◌≡◌, ℕ, ◌+◌, ◌==◌, Bool, true, false, not, ◌||◌, ◌&&◌, cond, List, [], ◌∷◌, ◌++◌, length, map, Option, Some, None, refl, sym, ap, ◌∙◌, subst, arith, bytes_eq}
use Rattle.std.proofs.lemmas.Bool.{eqb-false, eqb-true}
use Rattle.std.proofs.lemmas.List.{map-append}
use Rattle.std.proofs.lemmas.Slice.Eq.{bytes_eq-Decides}
use Rattle.recording_reader.specs.Declarations.{Declarations, RecordedName, with_variable}
use Rattle.recording_reader.specs.declared.variable.Variable.{Variable}
use Rattle.recording_codes.specs.Code.{Code, code, find, found, with_kind_at}
use Rattle.recording_codes.specs.declared.codes.Found.{Found}
use Rattle.recording_codes.proofs.Numbers.{first_of}
use Rattle.recording_laws.specs.Codes.{CodedVariable, coded, has_code}
use Rattle.recording_laws.proofs.Coding.{IsFoundAt, find_marked, find_push, marked_in, one_text}

-- What is found of a code says whether a variable that is listed has it.
abbrev pub Facts : Option Found → Bool → Type 0
Facts None has = has ≡ false
Facts (Some f) has = f.listed ≡ has

abbrev pub AllFacts : List Code → List CodedVariable → Type 0
AllFacts cs vs = (t : List ℕ) → Facts (find cs t) (has_code vs t)

-- Each variable has the number of its code.
abbrev pub Numbered : List Code → List CodedVariable → List ℕ → Type 0
Numbered cs [] [] = Unit {0}
Numbered cs [] (n ∷ ns) = ⊥
Numbered cs (v ∷ vs) [] = ⊥
Numbered cs (v ∷ vs) (n ∷ ns) = IsFoundAt cs v.code n × Numbered cs vs ns

abbrev pub width_in : Variable → ℕ
width_in v = v.width

abbrev pub coded_width : CodedVariable → ℕ
coded_width v = v.width

pub record Tied (h : Declarations) (vs : List CodedVariable) : Type 0 where
  pub facts : AllFacts h.codes vs
  pub numbered : Numbered h.codes vs h.numbers
  pub widths : map width_in h.variables ≡ map coded_width vs

-- ---- one variable more, by its code

or_none : (a : Bool) → (a || false) ≡ a
or_none true = refl
or_none false = refl

none_too : (a : Bool) → (a && false) ≡ false
none_too true = refl
none_too false = refl

too : (a : Bool) → (a && true) ≡ a
too true = refl
too false = refl

or_assoc : (a b c : Bool) → ((a || b) || c) ≡ (a || (b || c))
or_assoc true b c = refl
or_assoc false b c = refl

has_more : (vs : List CodedVariable) (v : CodedVariable) (t : List ℕ) → has_code (vs ++ v ∷ []) t ≡ (has_code vs t || bytes_eq t v.code)
has_more [] v t = or_none (bytes_eq t v.code)
has_more (w ∷ vs) v t = ap (λ (b : Bool). bytes_eq t w.code || b) (has_more vs v t) ∙ sym (or_assoc (bytes_eq t w.code) (has_code vs t) (bytes_eq t v.code))

-- The codes with one variable more, of this code and number.
pub record Adds (cs new : List Code) (text : List ℕ) (number : ℕ) (skipped : Bool) : Type 0 where
  pub here : IsFoundAt new text number
  pub kept : (t : List ℕ) (n : ℕ) → IsFoundAt cs t n → IsFoundAt new t n
  pub facts : (vs : List CodedVariable) → AllFacts cs vs → (t : List ℕ) → Facts (find new t) (has_code vs t || (not skipped && bytes_eq t text))

same_text : (t text : List ℕ) → bytes_eq t text ≡ true → t ≡ text
same_text t text is = (bytes_eq-Decides t text).0 is

text_same : (t text : List ℕ) → t ≡ text → bytes_eq t text ≡ true
text_same t text is = (bytes_eq-Decides t text).1 is

-- a code that wasn't there
pub adds_code : (cs : List Code) (text : List ℕ) (width : ℕ) (skipped : Bool) → find cs text ≡ None → Adds cs (cs ++ code text width skipped ∷ []) text (length cs) skipped
adds_code cs text width skipped none = record { here = here; kept = kept; facts = facts }
  where
    c : Code
    c = code text width skipped

    at : (t : List ℕ) → find (cs ++ c ∷ []) t ≡ first_of (find cs t) (cond (bytes_eq t text) (Some (found (0 + length cs) c)) None)
    at t = find_push 0 cs c t

    here : IsFoundAt (cs ++ c ∷ []) text (length cs)
    here = record {
      found_ = found (0 + length cs) c;
      is = at text ∙ (ap (λ o. first_of o (cond (bytes_eq text text) (Some (found (0 + length cs) c)) None)) none ∙ ap (λ b. cond b (Some (found (0 + length cs) c)) None) (text_same text text refl));
      at = omega arith;
    }

    kept : (t : List ℕ) (n : ℕ) → IsFoundAt cs t n → IsFoundAt (cs ++ c ∷ []) t n
    kept t n was = record { found_ = was.found_; is = at t ∙ ap (λ o. first_of o (cond (bytes_eq t text) (Some (found (0 + length cs) c)) None)) was.is; at = was.at }

    facts : (vs : List CodedVariable) → AllFacts cs vs → (t : List ℕ) → Facts (find (cs ++ c ∷ []) t) (has_code vs t || (not skipped && bytes_eq t text))
    facts vs all t = subst (λ (o : Option Found). Facts o (has_code vs t || (not skipped && bytes_eq t text))) (sym (at t)) (by (find cs t) (bytes_eq t text) refl refl (all t))
      where
        by : (o : Option Found) (same : Bool) → find cs t ≡ o → bytes_eq t text ≡ same → Facts o (has_code vs t) → Facts (first_of o (cond same (Some (found (0 + length cs) c)) None)) (has_code vs t || (not skipped && same))
        by (Some f) true is same fact = (let e : find cs text ≡ Some f = subst (λ (u : List ℕ). find cs u ≡ Some f) (same_text t text same) is in absurd (let both = sym none ∙ e in cc))
        by (Some f) false is same fact = fact ∙ (sym (or_none (has_code vs t)) ∙ ap (λ b. has_code vs t || b) (sym (none_too (not skipped))))
        by None true is same fact = sym (ap (λ b. b || (not skipped && true)) fact ∙ too (not skipped))
        by None false is same fact = ap (λ b. b || (not skipped && false)) fact ∙ none_too (not skipped)

-- a code that was there
pub adds_kind : (cs : List Code) (text : List ℕ) (skipped : Bool) (f : Found) → find cs text ≡ Some f → Adds cs (with_kind_at cs f.number skipped) text f.number skipped
adds_kind cs text skipped f there = record {
  here = kept text f.number record { found_ = f; is = there; at = refl };
  kept = kept;
  facts = facts;
}
  where
    at : (t : List ℕ) → find (with_kind_at cs f.number skipped) t ≡ marked_in (0 + f.number) skipped (find cs t)
    at t = find_marked 0 cs f.number skipped t

    number : 0 + f.number ≡ f.number
    number = omega arith

    kept : (t : List ℕ) (n : ℕ) → IsFoundAt cs t n → IsFoundAt (with_kind_at cs f.number skipped) t n
    kept t n was = by (was.found_.number == 0 + f.number) refl
      where
        whole : find (with_kind_at cs f.number skipped) t ≡ marked_in (0 + f.number) skipped (Some was.found_)
        whole = at t ∙ ap (marked_in (0 + f.number) skipped) was.is

        other : Found
        other = record { number = was.found_.number; width = was.found_.width; skipped = was.found_.skipped || skipped; listed = was.found_.listed || not skipped }

        by : (b : Bool) → (was.found_.number == 0 + f.number) ≡ b → IsFoundAt (with_kind_at cs f.number skipped) t n
        by true is = record { found_ = other; is = whole ∙ ap (λ b. Some (cond b other was.found_)) is; at = was.at }
        by false is = record { found_ = was.found_; is = whole ∙ ap (λ b. Some (cond b other was.found_)) is; at = was.at }

    facts : (vs : List CodedVariable) → AllFacts cs vs → (t : List ℕ) → Facts (find (with_kind_at cs f.number skipped) t) (has_code vs t || (not skipped && bytes_eq t text))
    facts vs all t = subst (λ (o : Option Found). Facts o (has_code vs t || (not skipped && bytes_eq t text))) (sym (at t)) (by (find cs t) (bytes_eq t text) refl refl (all t))
      where
        one : (g : Found) (here other : Bool) → find cs t ≡ Some g → bytes_eq t text ≡ here → (g.number == 0 + f.number) ≡ other → g.listed ≡ has_code vs t → Facts (Some (cond other (record { number = g.number; width = g.width; skipped = g.skipped || skipped; listed = g.listed || not skipped }) g)) (has_code vs t || (not skipped && here))
        one g true true is same at fact = ap (λ b. b || not skipped) fact ∙ ap (λ b. has_code vs t || b) (sym (too (not skipped)))
        one g false false is same at fact = fact ∙ (sym (or_none (has_code vs t)) ∙ ap (λ b. has_code vs t || b) (sym (none_too (not skipped))))
        one g false true is same at fact =
            let numbers : g.number ≡ f.number = eqb-true g.number (0 + f.number) at ∙ number in
            let texts : t ≡ text = one_text cs t text f.number record { found_ = g; is = is; at = numbers } record { found_ = f; is = there; at = refl } in
            absurd (let both = sym same ∙ text_same t text texts in cc)
        one g true false is same at fact =
            let e : find cs text ≡ Some g = subst (λ (u : List ℕ). find cs u ≡ Some g) (same_text t text same) is in
            let both : g ≡ f = (let b = sym e ∙ there in cc) in
            let numbers : g.number ≡ 0 + f.number = ap (λ (x : Found). x.number) both ∙ sym number in
            absurd (eqb-false g.number (0 + f.number) at numbers)

        by : (o : Option Found) (same : Bool) → find cs t ≡ o → bytes_eq t text ≡ same → Facts o (has_code vs t) → Facts (marked_in (0 + f.number) skipped o) (has_code vs t || (not skipped && same))
        by (Some g) same is here fact = one g same (g.number == 0 + f.number) is here refl fact
        by None true is same fact = (let e : find cs text ≡ None = subst (λ (u : List ℕ). find cs u ≡ None) (same_text t text same) is in absurd (let both = sym there ∙ e in cc))
        by None false is same fact = ap (λ b. b || (not skipped && false)) fact ∙ none_too (not skipped)

-- ---- and by its declaration

numbered_kept : (cs new : List Code) (vs : List CodedVariable) (ns : List ℕ) → ((t : List ℕ) (n : ℕ) → IsFoundAt cs t n → IsFoundAt new t n) → Numbered cs vs ns → Numbered new vs ns
numbered_kept cs new [] [] kept is = tt
numbered_kept cs new [] (n ∷ ns) kept is = absurd is
numbered_kept cs new (v ∷ vs) [] kept is = absurd is
numbered_kept cs new (v ∷ vs) (n ∷ ns) kept is = (kept v.code n is.0, numbered_kept cs new vs ns kept is.1)

numbered_push : (cs : List Code) (vs : List CodedVariable) (ns : List ℕ) (v : CodedVariable) (n : ℕ) → Numbered cs vs ns → IsFoundAt cs v.code n → Numbered cs (vs ++ v ∷ []) (ns ++ n ∷ [])
numbered_push cs [] [] v n is here = (here, tt)
numbered_push cs [] (m ∷ ns) v n is here = absurd is
numbered_push cs (w ∷ vs) [] v n is here = absurd is
numbered_push cs (w ∷ vs) (m ∷ ns) v n is here = (is.0, numbered_push cs vs ns v n is.1 here)

-- the variables that are listed with one more, where it isn't skipped
abbrev pub with_coded : Bool → List CodedVariable → CodedVariable → List CodedVariable
with_coded true vs v = vs
with_coded false vs v = vs ++ v ∷ []

pub variable_tied : (h : Declarations) (vs : List CodedVariable) (new : List Code) (text : List ℕ) (number width : ℕ) (skipped : Bool) (n : RecordedName) → Tied h vs → Adds h.codes new text number skipped → Tied (with_variable (record h { codes = new }) skipped number width n) (with_coded skipped vs (coded text width))
variable_tied h vs new text number width true n tied adds = record {
  facts = λ t. subst (Facts (find new t)) (or_none (has_code vs t)) (adds.facts vs tied.facts t);
  numbered = numbered_kept h.codes new vs h.numbers adds.kept tied.numbered;
  widths = tied.widths;
}
variable_tied h vs new text number width false n tied adds = record {
  facts = λ t. subst (Facts (find new t)) (sym (has_more vs (coded text width) t)) (adds.facts vs tied.facts t);
  numbered = numbered_push new vs h.numbers (coded text width) number (numbered_kept h.codes new vs h.numbers adds.kept tied.numbered) adds.here;
  widths = map-append width_in h.variables _ ∙ (ap (λ (l : List ℕ). l ++ width ∷ []) tied.widths ∙ sym (map-append coded_width vs (coded text width ∷ [])));
}
