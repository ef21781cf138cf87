-- The phases of a command in their one order, each given what those before it found; and what texts come to by them.
use Rattle.std.specs.Prelude.{◌≡◌, ◌⊎◌, ℕ, ◌<◌, ◌≤◌, List, [], ◌∷◌, ◌++◌, length, map, Contains, Result, Ok, Err, Bool}
use Rattle.std.specs.Prelude.{IsSome, IsTrue}
use Rattle.std.specs.List.{AllByRecursion}
use Rattle.base_shelf.specs.Shelf.{Files, Nothing, View, bytes_of}
use Rattle.base_run.specs.Outputs.{File}

-- What a command delivers: the files that it writes, in their order, and what it prints after them.
pub record Answer : Type 0 where
  pub files : List File
  pub printed : List ℕ

-- Phases that find an A, or refuse for a cause C.
pub data Phases (A C : Type 0) : Type 1 where
  -- All stands.
  Finds : A → Phases A C
  -- The files of these names are read and joined, and refused where they have more bytes than that.
  Reads : List (List ℕ) → ℕ → C → (List ℕ → Phases A C) → Phases A C
  -- What is found so far comes to one thing.
  Judges : {B E : Type 0} → (Result B E → Type 0) → (E → C) → (B → Phases A C) → Phases A C
  -- It may come to several, of which one is chosen.
  Searches : {B E : Type 0} → (Result B E → Type 0) → (E → C) → (B → Phases A C) → Phases A C

-- ---- a phase alone, and one after another

abbrev pub reads : {C : Type 0} → List (List ℕ) → ℕ → C → Phases (List ℕ) C
reads names limit long = Phases.Reads names limit long (λ text. Phases.Finds text)

abbrev pub judges : {B C E : Type 0} → (Result B E → Type 0) → (E → C) → Phases B C
judges comes cause = Phases.Judges comes cause (λ found. Phases.Finds found)

abbrev pub searches : {B C E : Type 0} → (Result B E → Type 0) → (E → C) → Phases B C
searches comes cause = Phases.Searches comes cause (λ found. Phases.Finds found)

infixl 10 ◌>>=◌
abbrev pub ◌>>=◌ : {A B C : Type 0} → Phases A C → (A → Phases B C) → Phases B C
(Phases.Finds found) >>= then = then found
(Phases.Reads names limit long next) >>= then = Phases.Reads names limit long (λ text. next text >>= then)
(Phases.Judges comes cause next) >>= then = Phases.Judges comes cause (λ found. next found >>= then)
(Phases.Searches comes cause next) >>= then = Phases.Searches comes cause (λ found. next found >>= then)

-- ---- the text of some names

-- A text after those before it, with a newline between: the first stands alone.
abbrev pub put_after : List (List ℕ) → List ℕ → List ℕ → List ℕ
put_after [] before text = text
put_after (_ ∷ _) before text = before ++ 10 ∷ text

-- Texts joined, with one newline between each two.
abbrev pub joined_after : List (List ℕ) → List ℕ → List (List ℕ) → List ℕ
joined_after before so_far [] = so_far
joined_after before so_far (text ∷ texts) = joined_after (before ++ text ∷ []) (put_after before so_far text) texts

abbrev pub joined : List (List ℕ) → List ℕ
joined texts = joined_after [] [] texts

-- What the files of these names hold, joined.
abbrev pub text_held : Files → List (List ℕ) → List ℕ
text_held files names = joined (map (λ (name : List ℕ). bytes_of (files name)) names)

-- The files of these names are there.
abbrev pub AreThere : Files → List (List ℕ) → Type 0
AreThere files names = AllByRecursion (λ (name : List ℕ). IsSome (files name)) names

-- This text was read of them: where the shelf reported, they are there, and it is what they hold.
pub record IsRead (told : Bool) (files : Files) (names : List (List ℕ)) (limit : ℕ) (text : List ℕ) : Type 0 where
  pub there : IsTrue told → AreThere files names
  pub is : IsTrue told → text ≡ text_held files names
  pub fits : length text ≤ limit

-- They hold more bytes than that.
abbrev pub IsLong : Bool → Files → List (List ℕ) → ℕ → Type 0
IsLong told files names limit = IsTrue told → limit < length (text_held files names)

-- ---- what texts come to

-- The texts of a shelf come to this by the phases, one after the other: to what they find, or to the first refusal.
abbrev pub ComesTo : {A C : Type 0} → Bool → Files → Phases A C → Result A C → Type 0
ComesTo told files (Phases.Finds found) outcome = outcome ≡ Ok found
ComesTo told files (Phases.Reads names limit long next) outcome =
    (IsLong told files names limit × (outcome ≡ Err long))
    ⊎ ((text : List ℕ) × IsRead told files names limit text × ComesTo told files (next text) outcome)
ComesTo told files (Phases.Judges {B} {E} comes cause next) outcome =
    ((e : E) × comes (Err e) × (outcome ≡ Err (cause e)))
    ⊎ ((found : B) × comes (Ok found) × ComesTo told files (next found) outcome)
ComesTo told files (Phases.Searches {B} {E} comes cause next) outcome =
    ((e : E) × comes (Err e) × (outcome ≡ Err (cause e)))
    ⊎ ((found : B) × comes (Ok found) × ComesTo told files (next found) outcome)

-- They come to it with no file read.
abbrev pub ComesUnread : {A C : Type 0} → Phases A C → Result A C → Type 0
ComesUnread (Phases.Finds found) outcome = outcome ≡ Ok found
ComesUnread (Phases.Reads names limit long next) outcome = ⊥
ComesUnread (Phases.Judges {B} {E} comes cause next) outcome =
    ((e : E) × comes (Err e) × (outcome ≡ Err (cause e)))
    ⊎ ((found : B) × comes (Ok found) × ComesUnread (next found) outcome)
ComesUnread (Phases.Searches {B} {E} comes cause next) outcome =
    ((e : E) × comes (Err e) × (outcome ≡ Err (cause e)))
    ⊎ ((found : B) × comes (Ok found) × ComesUnread (next found) outcome)

-- No file is in hand; or still the one that was, where none was read.
abbrev pub LeavesClosed : {A C : Type 0} → Phases A C → View → View → Result A C → Type 0
LeavesClosed p old new outcome = (new.hand ≡ Nothing) ⊎ ((new.hand ≡ old.hand) × ComesUnread p outcome)

-- A file of this name is to be read: all before it passed.
abbrev pub ReadsNext : {A C : Type 0} → Bool → Files → Phases A C → List ℕ → Type 0
ReadsNext told files (Phases.Finds found) name = ⊥
ReadsNext told files (Phases.Reads names limit long next) name =
    Contains names name ⊎ ((text : List ℕ) × IsRead told files names limit text × ReadsNext told files (next text) name)
ReadsNext told files (Phases.Judges {B} comes cause next) name =
    (found : B) × comes (Ok found) × ReadsNext told files (next found) name
ReadsNext told files (Phases.Searches {B} comes cause next) name =
    (found : B) × comes (Ok found) × ReadsNext told files (next found) name

-- They are refused for the length of a text.
abbrev pub IsTooLong : {A C : Type 0} → Bool → Files → Phases A C → C → Type 0
IsTooLong told files (Phases.Finds found) refusal = ⊥
IsTooLong told files (Phases.Reads names limit long next) refusal =
    (IsLong told files names limit × (refusal ≡ long))
    ⊎ ((text : List ℕ) × IsRead told files names limit text × IsTooLong told files (next text) refusal)
IsTooLong told files (Phases.Judges {B} comes cause next) refusal =
    (found : B) × comes (Ok found) × IsTooLong told files (next found) refusal
IsTooLong told files (Phases.Searches {B} comes cause next) refusal =
    (found : B) × comes (Ok found) × IsTooLong told files (next found) refusal

-- They are refused for this before any search, and so for nothing else.
abbrev pub IsFirm : {A C : Type 0} → Bool → Files → Phases A C → C → Type 0
IsFirm told files (Phases.Finds found) refusal = ⊥
IsFirm told files (Phases.Reads names limit long next) refusal =
    (IsLong told files names limit × (refusal ≡ long))
    ⊎ ((text : List ℕ) × IsRead told files names limit text × IsFirm told files (next text) refusal)
IsFirm told files (Phases.Judges {B} {E} comes cause next) refusal =
    ((e : E) × comes (Err e) × (refusal ≡ cause e))
    ⊎ ((found : B) × comes (Ok found) × IsFirm told files (next found) refusal)
IsFirm told files (Phases.Searches comes cause next) refusal = ⊥

-- The law of a command: a firm refusal is the only thing that the texts come to.
abbrev pub IsExact : {A C : Type 0} → Bool → Files → Phases A C → Type 0
IsExact {A} {C} told files p =
    IsTrue told → (refusal : C) (outcome : Result A C) → IsFirm told files p refusal → ComesTo told files p outcome
    → outcome ≡ Err refusal

-- What is judged comes to one thing.
abbrev pub IsOne : {B E : Type 0} → (Result B E → Type 0) → Type 0
IsOne {B} {E} comes = (a b : Result B E) → comes a → comes b → a ≡ b

-- Each phase but a search comes to one thing.
abbrev pub AreExact : {A C : Type 0} → Phases A C → Type 0
AreExact (Phases.Finds found) = Unit {0}
AreExact (Phases.Reads names limit long next) = (text : List ℕ) → AreExact (next text)
AreExact (Phases.Judges {B} comes cause next) = IsOne comes × ((found : B) → comes (Ok found) → AreExact (next found))
AreExact (Phases.Searches {B} comes cause next) = (found : B) → comes (Ok found) → AreExact (next found)

-- The texts that a shelf holds pass each phase, and no search refuses them.
abbrev pub PassesAll : {A C : Type 0} → Files → Phases A C → Type 0
PassesAll files (Phases.Finds found) = Unit {0}
PassesAll files (Phases.Reads names limit long next) =
    (length (text_held files names) ≤ limit) × PassesAll files (next (text_held files names))
PassesAll files (Phases.Judges {B} comes cause next) = (found : B) × comes (Ok found) × PassesAll files (next found)
PassesAll files (Phases.Searches {B} {E} comes cause next) =
    ((e : E) → comes (Err e) → ⊥) × ((found : B) → comes (Ok found) → PassesAll files (next found))

-- They come to no refusal.
abbrev pub NeverRefused : {A C : Type 0} → Bool → Files → Phases A C → Type 0
NeverRefused {A} {C} told files p = (cause : C) → ComesTo told files p (Err cause) → ⊥
