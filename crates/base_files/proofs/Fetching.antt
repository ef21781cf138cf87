-- What the reads of a file note, turn by turn, and what that makes of the texts.
use Rattle.std.proofs.Common.{◌≡◌, ◌∙◌, ap, sym, ℕ, zero, suc, List, [], ◌∷◌, ◌++◌, take, refl, Some, None, Bool, true, false, bytes_eq, Option, subst, arith}
use Rattle.std.specs.Prelude.{◌<◌, length, Contains, is_some}
use Rattle.std.proofs.lemmas.List.{append-nil}
use Rattle.std.proofs.lemmas.Slice.Eq.{bytes_eq-Decides}
use Rattle.std.proofs.lemmas.Bool.{false≢true}
use Rattle.base_shelf.specs.Shelf.{Files}
use Rattle.base_shelf.specs.NamedFiles.{SetsFile}
use Rattle.base_trace.specs.Record.{Traced, traced, traced_anew, traced_more}
use Rattle.base_files.specs.Fetched.{AreAmong, AreGiven, IsGiven, OthersTraced}
use Rattle.base_files.proofs.Noting.{traced_here, traced_there, traced_grown}

-- ---- other names

pub others_same : (name : List ℕ) (old new : List Traced) → new ≡ old → OthersTraced name old new
others_same name old new same = record { kept = λ other _. ap (λ (es : List Traced). traced es other) same }

pub others_trans : (name : List ℕ) (old mid new : List Traced) → OthersTraced name old mid → OthersTraced name mid new → OthersTraced name old new
others_trans name old mid new first then = record { kept = λ other not. then.kept other not ∙ first.kept other not }

pub others_anew : (name bytes : List ℕ) (old new : List Traced) → new ≡ traced_anew name bytes old → OthersTraced name old new
others_anew name bytes old new is = record { kept = λ other not. ap (λ (es : List Traced). traced es other) is ∙ traced_there name bytes old other not }

pub others_more : (name more : List ℕ) (old new : List Traced) → new ≡ traced_more name more old → OthersTraced name old new
others_more name more old new is = others_anew name _ old new is

-- ---- a name that is copied

pub anew_as : (copy name bytes : List ℕ) (old new : List Traced) → copy ≡ name → new ≡ traced_anew copy bytes old → new ≡ traced_anew name bytes old
anew_as copy name bytes old new same is = is ∙ ap (λ (n : List ℕ). traced_anew n bytes old) same

pub more_as : (copy name bytes : List ℕ) (old new : List Traced) → copy ≡ name → new ≡ traced_more copy bytes old → new ≡ traced_more name bytes old
more_as copy name bytes old new same is = is ∙ ap (λ (n : List ℕ). traced_more n bytes old) same

-- ---- the turns

-- These bytes were given so far, and nothing was noted of other names, nor of an end.
pub record IsReading (name text : List ℕ) (gave_old gave ended_old ended : List Traced) : Type 0 where
  pub others : OthersTraced name gave_old gave
  pub is : traced gave name ≡ Some text
  pub unended : ended ≡ ended_old

pub reading_starts : (name text : List ℕ) (old gave ended : List Traced) → text ≡ [] → gave ≡ traced_anew name [] old → IsReading name text old gave ended ended
reading_starts name text old gave ended none is = record {
  others = others_anew name [] old gave is;
  is = ap (λ (es : List Traced). traced es name) is ∙ traced_here name [] old ∙ ap (λ (l : List ℕ). Some l) (sym none);
  unended = refl;
}

pub reading_grows : (name text grown more : List ℕ) (old gave new ended_old ended : List Traced) → IsReading name text old gave ended_old ended
    → new ≡ traced_more name more gave → grown ≡ text ++ more → IsReading name grown old new ended_old ended
reading_grows name text grown more old gave new ended_old ended turn is grown_is = record {
  others = others_trans name old gave new turn.others (others_more name more gave new is);
  is = ap (λ (es : List Traced). traced es name) is ∙ traced_grown name text more gave turn.is ∙ ap (λ (l : List ℕ). Some l) (sym grown_is);
  unended = turn.unended;
}

-- A read that gave none: nothing of the text changed.
pub reading_ends : (name text buffer : List ℕ) (count : ℕ) (old gave new ended_old ended : List Traced) → IsReading name text old gave ended_old ended
    → count ≡ 0 → new ≡ traced_more name (take count buffer) gave → IsReading name text old new ended_old ended
reading_ends name text buffer count old gave new ended_old ended turn none is =
    reading_grows name text text (take count buffer) old gave new ended_old ended turn is
    (sym (ap (λ (n : ℕ). text ++ take n buffer) none ∙ append-nil text))

pub reading_others : (name text : List ℕ) (old gave ended_old ended : List Traced) → IsReading name text old gave ended_old ended → OthersTraced name old gave
reading_others name text old gave ended_old ended turn = turn.others

pub reading_others_ended : (name text : List ℕ) (old gave ended_old ended : List Traced) → IsReading name text old gave ended_old ended → OthersTraced name ended_old ended
reading_others_ended name text old gave ended_old ended turn = others_same name ended_old ended turn.unended

-- A refused read notes nothing.
pub reading_fails : (name text : List ℕ) (old gave new ended_old ended : List Traced) → IsReading name text old gave ended_old ended → new ≡ gave → OthersTraced name old new
reading_fails name text old gave new ended_old ended turn same = others_trans name old gave new turn.others (others_same name gave new same)

pub end_others : (name text shown : List ℕ) (old gave ended_old ended last : List Traced) → IsReading name text old gave ended_old ended → last ≡ traced_anew name shown ended → OthersTraced name ended_old last
end_others name text shown old gave ended_old ended last turn is =
    others_trans name ended_old ended last (reading_others_ended name text old gave ended_old ended turn) (others_anew name shown ended last is)

pub given_whole : (limit : ℕ) (name text shown : List ℕ) (old gave ended_old ended last : List Traced) → IsReading name text old gave ended_old ended
    → last ≡ traced_anew name shown ended → shown ≡ text → IsGiven limit gave last name text
given_whole limit name text shown old gave ended_old ended last turn is shown_is = record {
  is = turn.is;
  whole = λ _. ap (λ (es : List Traced). traced es name) is ∙ traced_here name shown ended ∙ ap (λ (l : List ℕ). Some l) shown_is;
}

pub given_long : (limit : ℕ) (name text : List ℕ) (old gave ended_old ended : List Traced) → IsReading name text old gave ended_old ended → limit < length text
    → IsGiven limit gave ended name text
given_long limit name text old gave ended_old ended turn long = record { is = turn.is; whole = λ fits. absurd (omega (arith, long, fits)) }

-- ---- the texts

given_still : (limit : ℕ) (name other bytes : List ℕ) (gave gave_new ended ended_new : List Traced) → (other ≡ name → ⊥) → IsGiven limit gave ended other bytes
    → OthersTraced name gave gave_new → OthersTraced name ended ended_new → IsGiven limit gave_new ended_new other bytes
given_still limit name other bytes gave gave_new ended ended_new not given others others_ended = record {
  is = others.kept other not ∙ given.is;
  whole = λ fits. others_ended.kept other not ∙ given.whole fits;
}

-- The name that was read has no text.
pub given_others : (limit : ℕ) (name : List ℕ) (texts : Files) (gave gave_new ended ended_new : List Traced) → AreGiven limit gave ended texts → texts name ≡ None
    → OthersTraced name gave gave_new → OthersTraced name ended ended_new → AreGiven limit gave_new ended_new texts
given_others limit name texts gave gave_new ended ended_new are absent others others_ended other bytes is =
    let not : other ≡ name → ⊥ = λ same. (let both = ap texts same in cc) in
    given_still limit name other bytes gave gave_new ended ended_new not (are other bytes is) others others_ended

-- Or its text is what was given.
pub given_set : (limit : ℕ) (name text : List ℕ) (texts new : Files) (gave gave_new ended ended_new : List Traced) → AreGiven limit gave ended texts
    → OthersTraced name gave gave_new → OthersTraced name ended ended_new → IsGiven limit gave_new ended_new name text → SetsFile name text texts new
    → AreGiven limit gave_new ended_new new
given_set limit name text texts new gave gave_new ended ended_new are others others_ended given sets other bytes is = at (bytes_eq other name) refl
  where
    at : (b : Bool) → bytes_eq other name ≡ b → IsGiven limit gave_new ended_new other bytes
    at true same =
        let one : other ≡ name = (bytes_eq-Decides other name).0 same in
        let all : text ≡ bytes = (let there = ap new one in let here = sets.here in cc) in
        rw (one, ← all) given
    at false apart =
        let not : other ≡ name → ⊥ = λ one. false≢true (sym apart ∙ (bytes_eq-Decides other name).1 one) in
        given_still limit name other bytes gave gave_new ended ended_new not (are other bytes (sym (sets.others other not) ∙ is)) others others_ended

pub contains_itself : (name : List ℕ) → Contains (name ∷ []) name
contains_itself name = (0, omega arith, refl)

pub contains_only : (name other : List ℕ) → Contains (name ∷ []) other → name ≡ other
contains_only name other (zero, less, is) = is
contains_only name other (suc k, less, is) = absurd (omega (arith, less))

-- A text is set at one of the names.
pub among_set : (names : List (List ℕ)) (name text : List ℕ) (texts new : Files) → Contains names name → SetsFile name text texts new → AreAmong names texts → AreAmong names new
among_set names name text texts new there sets among other has = at (bytes_eq other name) refl
  where
    at : (b : Bool) → bytes_eq other name ≡ b → Contains names other
    at true same = subst (λ (n : List ℕ). Contains names n) (sym ((bytes_eq-Decides other name).0 same)) there
    at false apart =
        let not : other ≡ name → ⊥ = λ one. false≢true (sym apart ∙ (bytes_eq-Decides other name).1 one) in
        among other (ap (λ (o : Option (List ℕ)). is_some o) (sym (sets.others other not)) ∙ has)
