-- A firm refusal is the only one, and texts that pass all come to none.
use Rattle.std.proofs.Common.{◌≡◌, ◌∙◌, ℕ, List, length, IsTrue, Bool, Result, Ok, Err, inl, inr, sym, ap, subst, arith}
use Rattle.base_shelf.specs.Shelf.{Files}
use Rattle.base_run.specs.Phases.{Phases, ComesTo, IsFirm, IsRead, IsLong, IsExact, AreExact, NeverRefused, PassesAll, text_held}

not_both : (told : Bool) (files : Files) (names : List (List ℕ)) (limit : ℕ) (text : List ℕ) → IsTrue told → IsLong told files names limit → IsRead told files names limit text → ⊥
not_both told files names limit text t long read =
    let more = long t in
    let fits = read.fits in
    let same : length text ≡ length (text_held files names) = ap length (read.is t) in omega (arith, more, fits, same)

pub ok_same : {B E : Type 0} (a b : B) → ◌≡◌ {A = Result B E} (Ok a) (Ok b) → a ≡ b
ok_same a b same = cc

pub err_same : {B E : Type 0} (a b : E) → ◌≡◌ {A = Result B E} (Err a) (Err b) → a ≡ b
err_same a b same = cc

pub ok_err : {B E : Type 0} (a : B) (b : E) → ◌≡◌ {A = Result B E} (Ok a) (Err b) → ⊥
ok_err a b same = cc

module _ {A C : Type 0} (told : Bool) (files : Files) (t : IsTrue told) (refusal : C) (outcome : Result A C) where
  -- Where texts are refused for this before any search, they come to nothing else.
  pub firm_alone : (p : Phases A C) → AreExact p → IsFirm told files p refusal → ComesTo told files p outcome → outcome ≡ Err refusal
  firm_alone (Phases.Finds found) exact firm comes = absurd firm
  firm_alone (Phases.Reads names limit long next) exact (inl first) (inl second) = second.1 ∙ ap (λ (c : C). Err c) (sym first.1)
  firm_alone (Phases.Reads names limit long next) exact (inl first) (inr (text, read, comes)) = absurd (not_both told files names limit text t first.0 read)
  firm_alone (Phases.Reads names limit long next) exact (inr (text, read, firm)) (inl second) = absurd (not_both told files names limit text t second.0 read)
  firm_alone (Phases.Reads names limit long next) exact (inr (text, read, firm)) (inr (other, again, comes)) =
      let same : other ≡ text = again.is t ∙ sym (read.is t) in
      firm_alone (next text) (exact text) firm (subst (λ (l : List ℕ). ComesTo told files (next l) outcome) same comes)
  firm_alone (Phases.Judges {B} {E} judge cause next) exact (inl (e, first, is)) (inl (f, second, so)) =
      let same : f ≡ e = err_same f e (exact.0 (Err f) (Err e) second first) in
      so ∙ ap (λ (x : E). Err (cause x)) same ∙ ap (λ (c : C). Err c) (sym is)
  firm_alone (Phases.Judges {B} {E} judge cause next) exact (inl (e, first, is)) (inr (found, second, comes)) =
      absurd (ok_err found e (exact.0 (Ok found) (Err e) second first))
  firm_alone (Phases.Judges {B} {E} judge cause next) exact (inr (found, first, firm)) (inl (f, second, so)) =
      absurd (ok_err found f (exact.0 (Ok found) (Err f) first second))
  firm_alone (Phases.Judges {B} {E} judge cause next) exact (inr (found, first, firm)) (inr (other, second, comes)) =
      let same : other ≡ found = ok_same other found (exact.0 (Ok other) (Ok found) second first) in
      firm_alone (next found) (exact.1 found first) firm (subst (λ (x : B). ComesTo told files (next x) outcome) same comes)
  firm_alone (Phases.Searches judge cause next) exact firm comes = absurd firm

-- So phases of which each comes to one thing are exact.
pub exact : {A C : Type 0} (told : Bool) (files : Files) (p : Phases A C) → AreExact p → IsExact told files p
exact told files p each = λ t refusal outcome. firm_alone told files t refusal outcome p each

module _ {A C : Type 0} (told : Bool) (files : Files) (t : IsTrue told) (c : C) where
  unrefused : (p : Phases A C) → AreExact p → PassesAll files p → ComesTo told files p (Err c) → ⊥
  unrefused (Phases.Finds found) exact passes is = ok_err found c (sym is)
  unrefused (Phases.Reads names limit long next) exact passes (inl first) = let more = first.0 t in let fits = passes.0 in omega (arith, more, fits)
  unrefused (Phases.Reads names limit long next) exact passes (inr (text, read, comes)) =
      unrefused (next (text_held files names)) (exact (text_held files names)) passes.1 (subst (λ (l : List ℕ). ComesTo told files (next l) (Err c)) (read.is t) comes)
  unrefused (Phases.Judges {B} {E} judge cause next) exact (found, first, passes) (inl (e, second, is)) = ok_err found e (exact.0 (Ok found) (Err e) first second)
  unrefused (Phases.Judges {B} {E} judge cause next) exact (found, first, passes) (inr (other, second, comes)) =
      let same : other ≡ found = ok_same other found (exact.0 (Ok other) (Ok found) second first) in
      unrefused (next found) (exact.1 found first) passes (subst (λ (x : B). ComesTo told files (next x) (Err c)) same comes)
  unrefused (Phases.Searches judge cause next) exact passes (inl (e, first, is)) = passes.0 e first
  unrefused (Phases.Searches judge cause next) exact passes (inr (found, first, comes)) = unrefused (next found) (exact found first) (passes.1 found first) comes

-- Texts that pass each phase, and that no search refuses, come to no refusal.
pub never_refused : {A C : Type 0} (told : Bool) (files : Files) (p : Phases A C) → IsTrue told → AreExact p → PassesAll files p → NeverRefused told files p
never_refused told files p t each passes = λ c comes. unrefused told files t c p each passes comes
