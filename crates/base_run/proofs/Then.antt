-- A phase passed, and what comes after it.
use Rattle.std.proofs.Common.{◌≡◌, ◌∙◌, ℕ, List, Bool, Result, Ok, Err, Vec, inl, inr, refl, sym, ap, subst}
use Rattle.std.specs.Prelude.{string_bytes}
use Rattle.std.specs.declared.alloc.Global.{Global}
use Rattle.base_shelf.specs.Shelf.{View, Files, Later, SameCounts}
use Rattle.base_run.specs.Inputs.{TextRead, TextUnread}
use Rattle.base_run.specs.Phases.{Phases, ComesTo, ComesUnread, IsTooLong, LeavesClosed, ReadsNext, ◌>>=◌, reads, judges, searches}
use Rattle.base_run.specs.Prepared.{IsJudgedBy, Judged, Prepared, PreparedAlone, Refused}
use Rattle.base_run.specs.declared.refusal.Refusal.{Refusal}
use Rattle.base_run.specs.declared.refusal.Refusal.TheVariants.{Read, Long, Text, Memory}
use Rattle.base_run.proofs.Exact.{ok_same, err_same, ok_err}
use Rattle.base_run.proofs.Steps.{later_twice, same_twice, same_here, later_here, rose_after}

module _ {A B C : Type 0} (told : Bool) (files : Files) (then : A → Phases B C) where
  -- What comes after phases that pass comes of all.
  pub passes : (p : Phases A C) (a : A) (outcome : Result B C) → ComesTo told files p (Ok a) → ComesTo told files (then a) outcome → ComesTo told files (p >>= then) outcome
  passes (Phases.Finds found) a outcome is rest = subst (λ (x : A). ComesTo told files (then x) outcome) (ok_same a found is) rest
  passes (Phases.Reads names limit long next) a outcome (inl first) rest = absurd (ok_err a long first.1)
  passes (Phases.Reads names limit long next) a outcome (inr (text, read, comes)) rest = inr (text, read, passes (next text) a outcome comes rest)
  passes (Phases.Judges judge cause next) a outcome (inl (e, first, is)) rest = absurd (ok_err a (cause e) is)
  passes (Phases.Judges judge cause next) a outcome (inr (found, first, comes)) rest = inr (found, first, passes (next found) a outcome comes rest)
  passes (Phases.Searches judge cause next) a outcome (inl (e, first, is)) rest = absurd (ok_err a (cause e) is)
  passes (Phases.Searches judge cause next) a outcome (inr (found, first, comes)) rest = inr (found, first, passes (next found) a outcome comes rest)

  -- What they refuse all refuse.
  pub refuses : (p : Phases A C) (c : C) → ComesTo told files p (Err c) → ComesTo told files (p >>= then) (Err c)
  refuses (Phases.Finds found) c is = absurd (ok_err found c (sym is))
  refuses (Phases.Reads names limit long next) c (inl (first, is)) = inl (first, ap (λ (x : C). Err x) (err_same c long is))
  refuses (Phases.Reads names limit long next) c (inr (text, read, comes)) = inr (text, read, refuses (next text) c comes)
  refuses (Phases.Judges judge cause next) c (inl (e, first, is)) = inl (e, first, ap (λ (x : C). Err x) (err_same c (cause e) is))
  refuses (Phases.Judges judge cause next) c (inr (found, first, comes)) = inr (found, first, refuses (next found) c comes)
  refuses (Phases.Searches judge cause next) c (inl (e, first, is)) = inl (e, first, ap (λ (x : C). Err x) (err_same c (cause e) is))
  refuses (Phases.Searches judge cause next) c (inr (found, first, comes)) = inr (found, first, refuses (next found) c comes)

  -- What they read next all do.
  pub next_here : (p : Phases A C) (name : List ℕ) → ReadsNext told files p name → ReadsNext told files (p >>= then) name
  next_here (Phases.Finds found) name is = absurd is
  next_here (Phases.Reads names limit long next) name (inl named) = inl named
  next_here (Phases.Reads names limit long next) name (inr (text, read, more)) = inr (text, read, next_here (next text) name more)
  next_here (Phases.Judges judge cause next) name (found, first, more) = (found, first, next_here (next found) name more)
  next_here (Phases.Searches judge cause next) name (found, first, more) = (found, first, next_here (next found) name more)

  -- What is too long for them is for all.
  pub long_here : (p : Phases A C) (c : C) → IsTooLong told files p c → IsTooLong told files (p >>= then) c
  long_here (Phases.Finds found) c is = absurd is
  long_here (Phases.Reads names limit long next) c (inl first) = inl first
  long_here (Phases.Reads names limit long next) c (inr (text, read, more)) = inr (text, read, long_here (next text) c more)
  long_here (Phases.Judges judge cause next) c (found, first, more) = (found, first, long_here (next found) c more)
  long_here (Phases.Searches judge cause next) c (found, first, more) = (found, first, long_here (next found) c more)

  pub long_after : (p : Phases A C) (a : A) (c : C) → ComesTo told files p (Ok a) → IsTooLong told files (then a) c → IsTooLong told files (p >>= then) c
  long_after (Phases.Finds found) a c is more = subst (λ (x : A). IsTooLong told files (then x) c) (ok_same a found is) more
  long_after (Phases.Reads names limit long next) a c (inl first) more = absurd (ok_err a long first.1)
  long_after (Phases.Reads names limit long next) a c (inr (text, read, comes)) more = inr (text, read, long_after (next text) a c comes more)
  long_after (Phases.Judges judge cause next) a c (inl (e, first, is)) more = absurd (ok_err a (cause e) is)
  long_after (Phases.Judges judge cause next) a c (inr (found, first, comes)) more = (found, first, long_after (next found) a c comes more)
  long_after (Phases.Searches judge cause next) a c (inl (e, first, is)) more = absurd (ok_err a (cause e) is)
  long_after (Phases.Searches judge cause next) a c (inr (found, first, comes)) more = (found, first, long_after (next found) a c comes more)

  pub next_after : (p : Phases A C) (a : A) (name : List ℕ) → ComesTo told files p (Ok a) → ReadsNext told files (then a) name → ReadsNext told files (p >>= then) name
  next_after (Phases.Finds found) a name is more = subst (λ (x : A). ReadsNext told files (then x) name) (ok_same a found is) more
  next_after (Phases.Reads names limit long next) a name (inl first) more = absurd (ok_err a long first.1)
  next_after (Phases.Reads names limit long next) a name (inr (text, read, comes)) more = inr (text, read, next_after (next text) a name comes more)
  next_after (Phases.Judges judge cause next) a name (inl (e, first, is)) more = absurd (ok_err a (cause e) is)
  next_after (Phases.Judges judge cause next) a name (inr (found, first, comes)) more = (found, first, next_after (next found) a name comes more)
  next_after (Phases.Searches judge cause next) a name (inl (e, first, is)) more = absurd (ok_err a (cause e) is)
  next_after (Phases.Searches judge cause next) a name (inr (found, first, comes)) more = (found, first, next_after (next found) a name comes more)

-- A text that is too long is what the texts are refused for.
pub long_comes : {A C : Type 0} (told : Bool) (files : Files) (p : Phases A C) (c : C) → IsTooLong told files p c → ComesTo told files p (Err c)
long_comes told files (Phases.Finds found) c is = absurd is
long_comes {A} {C} told files (Phases.Reads names limit long next) c (inl first) = inl (first.0, ap (λ (x : C). Err x) first.1)
long_comes told files (Phases.Reads names limit long next) c (inr (text, read, more)) = inr (text, read, long_comes told files (next text) c more)
long_comes told files (Phases.Judges judge cause next) c (found, first, more) = inr (found, first, long_comes told files (next found) c more)
long_comes told files (Phases.Searches judge cause next) c (found, first, more) = inr (found, first, long_comes told files (next found) c more)

module _ {A B C : Type 0} (then : A → Phases B C) where
  -- So it is where no file is read.
  passes_unread : (p : Phases A C) (a : A) (outcome : Result B C) → ComesUnread p (Ok a) → ComesUnread (then a) outcome → ComesUnread (p >>= then) outcome
  passes_unread (Phases.Finds found) a outcome is rest = subst (λ (x : A). ComesUnread (then x) outcome) (ok_same a found is) rest
  passes_unread (Phases.Reads names limit long next) a outcome is rest = absurd is
  passes_unread (Phases.Judges judge cause next) a outcome (inl (e, first, is)) rest = absurd (ok_err a (cause e) is)
  passes_unread (Phases.Judges judge cause next) a outcome (inr (found, first, comes)) rest = inr (found, first, passes_unread (next found) a outcome comes rest)
  passes_unread (Phases.Searches judge cause next) a outcome (inl (e, first, is)) rest = absurd (ok_err a (cause e) is)
  passes_unread (Phases.Searches judge cause next) a outcome (inr (found, first, comes)) rest = inr (found, first, passes_unread (next found) a outcome comes rest)

  refuses_unread : (p : Phases A C) (c : C) → ComesUnread p (Err c) → ComesUnread (p >>= then) (Err c)
  refuses_unread (Phases.Finds found) c is = absurd (ok_err found c (sym is))
  refuses_unread (Phases.Reads names limit long next) c is = absurd is
  refuses_unread (Phases.Judges judge cause next) c (inl (e, first, is)) = inl (e, first, ap (λ (x : C). Err x) (err_same c (cause e) is))
  refuses_unread (Phases.Judges judge cause next) c (inr (found, first, comes)) = inr (found, first, refuses_unread (next found) c comes)
  refuses_unread (Phases.Searches judge cause next) c (inl (e, first, is)) = inl (e, first, ap (λ (x : C). Err x) (err_same c (cause e) is))
  refuses_unread (Phases.Searches judge cause next) c (inr (found, first, comes)) = inr (found, first, refuses_unread (next found) c comes)

  -- The file in hand over phases that pass and those after them.
  closed_then : (p : Phases A C) (a : A) (outcome : Result B C) (old mid new : View) → LeavesClosed p old mid (Ok a) → LeavesClosed (then a) mid new outcome
      → LeavesClosed (p >>= then) old new outcome
  closed_then p a outcome old mid new first (inl none) = inl none
  closed_then p a outcome old mid new (inl none) (inr (same, more)) = inl (same ∙ none)
  closed_then p a outcome old mid new (inr (kept, unread)) (inr (same, more)) = inr (same ∙ kept, passes_unread p a outcome unread more)

  -- Over phases that refuse.
  closed_here : (p : Phases A C) (c : C) (old new : View) → LeavesClosed p old new (Err c) → LeavesClosed (p >>= then) old new (Err c)
  closed_here p c old new (inl none) = inl none
  closed_here p c old new (inr (kept, unread)) = inr (kept, refuses_unread p c unread)

module _ {A B C : Type 0} (told : Bool) (p : Phases A C) (then : A → Phases B C) (a : A) (old mid new : View)
    (comes : ComesTo told old.files p (Ok a)) (later : Later old mid) (files : mid.files ≡ old.files) (written : mid.written ≡ old.written) (kept : SameCounts old mid) (closed : LeavesClosed p old mid (Ok a)) where
  refused_after : (e : Refusal C) → Refused told (then a) mid new e → Refused told (p >>= then) old new e
  refused_after (Read file) is = record {
    next = next_after told old.files then p a (string_bytes file) comes (subst (λ (f : Files). ReadsNext told f (then a) (string_bytes file)) files is.next);
    rose = rose_after (old.reads (string_bytes file)) (mid.reads (string_bytes file)) (new.reads (string_bytes file)) (later.reads (string_bytes file)) is.rose;
    closed = is.closed;
  }
  refused_after (Long cause) is = record {
    long = long_after told old.files then p a cause comes (subst (λ (f : Files). IsTooLong told f (then a) cause) files is.long);
    kept = same_twice old mid new kept is.kept;
  }
  refused_after (Text cause) is = record {
    comes = passes told old.files then p a (Err cause) comes (subst (λ (f : Files). ComesTo told f (then a) (Err cause)) files is.comes);
    kept = same_twice old mid new kept is.kept;
    closed = closed_then then p a (Err cause) old mid new closed is.closed;
  }
  refused_after Memory is = same_twice old mid new kept is

  -- Phases that pass, and what is prepared after them.
  pub prepared_after : {Y : Type 0} (seen : Y → B) (result : Result Y (Refusal C)) → Prepared told (then a) seen mid new result → Prepared told (p >>= then) seen old new result
  prepared_after seen (Ok y) more = record {
    later = later_twice old mid new later more.later;
    files = more.files ∙ files;
    written = more.written ∙ written;
    comes = passes told old.files then p a (Ok (seen y)) comes (subst (λ (f : Files). ComesTo told f (then a) (Ok (seen y))) files more.comes);
    kept = same_twice old mid new kept more.kept;
    closed = closed_then then p a (Ok (seen y)) old mid new closed more.closed;
    refused = tt;
  }
  prepared_after seen (Err e) more = record {
    later = later_twice old mid new later more.later;
    files = more.files ∙ files;
    written = more.written ∙ written;
    comes = tt;
    kept = tt;
    closed = tt;
    refused = refused_after e more.refused;
  }

module _ {A B C X Y : Type 0} (told : Bool) (p : Phases A C) (then : A → Phases B C) (seen : X → A) (seen_then : Y → B) (old mid new : View) where
  -- What is prepared, and then more.
  pub prepared_then : (x : X) (result : Result Y (Refusal C)) → Prepared told p seen old mid (Ok x) → Prepared told (then (seen x)) seen_then mid new result
      → Prepared told (p >>= then) seen_then old new result
  prepared_then x result first more = prepared_after told p then (seen x) old mid new first.comes first.later first.files first.written first.kept first.closed seen_then result more

  refused_here : (e : Refusal C) → Refused told p old new e → Refused told (p >>= then) old new e
  refused_here (Read file) is = record { next = next_here told old.files then p (string_bytes file) is.next; rose = is.rose; closed = is.closed }
  refused_here (Long cause) is = record { long = long_here told old.files then p cause is.long; kept = is.kept }
  refused_here (Text cause) is = record { comes = refuses told old.files then p cause is.comes; kept = is.kept; closed = closed_here then p cause old new is.closed }
  refused_here Memory is = is

  -- Or it is refused, and so is all.
  pub prepared_refused : (e : Refusal C) → Prepared told p seen old new (Err e) → Prepared told (p >>= then) seen_then old new (Err e)
  prepared_refused e first = record { later = first.later; files = first.files; written = first.written; comes = tt; kept = tt; closed = tt; refused = refused_here e first.refused }

-- A text that is read is prepared.
text_refused : {C : Type 0} (told : Bool) (names : List (List ℕ)) (limit : ℕ) (long : C) (old new : View) (e : Refusal C) → TextUnread told names limit long old new e
    → Refused told (reads names limit long) old new e
text_refused told names limit long old new (Read file) is = record { next = inl is.named; rose = is.rose; closed = is.closed }
text_refused told names limit long old new (Long cause) is = record { long = inl (is.0, is.1); kept = is.2 }
text_refused told names limit long old new (Text cause) is = absurd is
text_refused told names limit long old new Memory is = is

abbrev pub items_of : Vec ℕ Global → List ℕ
items_of v = v.items

pub text_prepared : {C : Type 0} (told : Bool) (names : List (List ℕ)) (limit : ℕ) (long : C) (old new : View) (result : Result (Vec ℕ Global) (Refusal C))
    → TextRead told names limit long old new result → Prepared told (reads names limit long) items_of old new result
text_prepared told names limit long old new (Ok v) read = record {
  later = read.later;
  files = read.files;
  written = read.written;
  comes = inr (v.items, read.text, refl);
  kept = read.kept;
  closed = inl read.closed;
  refused = tt;
}
text_prepared told names limit long old new (Err e) read = record { later = read.later; files = read.files; written = read.written; comes = tt; kept = tt; closed = tt; refused = text_refused told names limit long old new e read.refused }

-- So is what is judged, with no call on the shelf.
module _ {B C E X : Type 0} (told : Bool) (judge : Result B E → Type 0) (cause : E → C) (seen : X → B) (v : View) where
  judged_refused : (e : Refusal C) → IsJudgedBy judge cause e → Refused told (judges judge cause) v v e
  judged_refused (Read file) is = absurd is
  judged_refused (Long other) is = absurd is
  judged_refused (Text other) (e, first, is) = record { comes = inl (e, first, ap (λ (c : C). Err c) is); kept = same_here v; closed = inr (refl, inl (e, first, ap (λ (c : C). Err c) is)) }
  judged_refused Memory is = same_here v

  pub judged_prepared : (result : Result X (Refusal C)) → Judged judge cause seen result → Prepared told (judges judge cause) seen v v result
  judged_prepared (Ok x) is = record { later = later_here v; files = refl; written = refl; comes = inr (seen x, is.found, refl); kept = same_here v; closed = inr (refl, inr (seen x, is.found, refl)); refused = tt }
  judged_prepared (Err e) is = record { later = later_here v; files = refl; written = refl; comes = tt; kept = tt; closed = tt; refused = judged_refused e is.refused }

  searched_refused : (e : Refusal C) → IsJudgedBy judge cause e → Refused told (searches judge cause) v v e
  searched_refused (Read file) is = absurd is
  searched_refused (Long other) is = absurd is
  searched_refused (Text other) (e, first, is) = record { comes = inl (e, first, ap (λ (c : C). Err c) is); kept = same_here v; closed = inr (refl, inl (e, first, ap (λ (c : C). Err c) is)) }
  searched_refused Memory is = same_here v

  pub searched_prepared : (result : Result X (Refusal C)) → Judged judge cause seen result → Prepared told (searches judge cause) seen v v result
  searched_prepared (Ok x) is = record { later = later_here v; files = refl; written = refl; comes = inr (seen x, is.found, refl); kept = same_here v; closed = inr (refl, inr (seen x, is.found, refl)); refused = tt }
  searched_prepared (Err e) is = record { later = later_here v; files = refl; written = refl; comes = tt; kept = tt; closed = tt; refused = searched_refused e is.refused }

-- What is found is found.
pub found_prepared : {A C X : Type 0} (told : Bool) (seen : X → A) (a : A) (v : View) (x : X) → seen x ≡ a → Prepared {C = C} told (Phases.Finds a) seen v v (Ok x)
found_prepared told seen a v x is = record { later = later_here v; files = refl; written = refl; comes = ap (λ (b : _). Ok b) is; kept = same_here v; closed = inr (refl, ap (λ (b : _). Ok b) is); refused = tt }

-- ---- the ways of a function that goes through phases

module _ {B C Y : Type 0} (told : Bool) (names : List (List ℕ)) (limit : ℕ) (long : C) (then : List ℕ → Phases B C) (seen : Y → B) (old mid new : View) where
  -- A text isn't read.
  pub unread : (e : Refusal C) → TextRead told names limit long old new (Err e) → Prepared told (reads names limit long >>= then) seen old new (Err e)
  unread e read = prepared_refused told (reads names limit long) then items_of seen old old new e (text_prepared told names limit long old new (Err e) read)

  -- It is, and then more.
  pub read_then : (v : Vec ℕ Global) (result : Result Y (Refusal C)) → TextRead told names limit long old mid (Ok v) → Prepared told (then v.items) seen mid new result
      → Prepared told (reads names limit long >>= then) seen old new result
  read_then v result read more = prepared_then told (reads names limit long) then items_of seen old mid new v result (text_prepared told names limit long old mid (Ok v) read) more

module _ {A B C E X Y : Type 0} (judge : Result A E → Type 0) (cause : E → C) (then : A → Phases B C) (seen : X → A) (seen_then : Y → B) where
  -- What is judged is refused, in a function with no call on the shelf.
  pub judged_out : (e : Refusal C) → Judged judge cause seen (Err e) → PreparedAlone (judges judge cause >>= then) seen_then (Err e)
  judged_out e judged = λ told v. prepared_refused told (judges judge cause) then seen seen_then v v v e (judged_prepared told judge cause seen v (Err e) judged)

  -- It is found, and then more.
  pub judged_then : (x : X) (result : Result Y (Refusal C)) → Judged judge cause seen (Ok x) → PreparedAlone (then (seen x)) seen_then result
      → PreparedAlone (judges judge cause >>= then) seen_then result
  judged_then x result judged more = λ told v. prepared_then told (judges judge cause) then seen seen_then v v v x result (judged_prepared told judge cause seen v (Ok x) judged) (more told v)

  pub searched_out : (e : Refusal C) → Judged judge cause seen (Err e) → PreparedAlone (searches judge cause >>= then) seen_then (Err e)
  searched_out e judged = λ told v. prepared_refused told (searches judge cause) then seen seen_then v v v e (searched_prepared told judge cause seen v (Err e) judged)

  pub searched_then : (x : X) (result : Result Y (Refusal C)) → Judged judge cause seen (Ok x) → PreparedAlone (then (seen x)) seen_then result
      → PreparedAlone (searches judge cause >>= then) seen_then result
  searched_then x result judged more = λ told v. prepared_then told (searches judge cause) then seen seen_then v v v x result (searched_prepared told judge cause seen v (Ok x) judged) (more told v)

-- There was no memory, in such a function.
pub memory_out : {A C X : Type 0} (p : Phases A C) (seen : X → A) → PreparedAlone {X = X} p seen (Err Memory)
memory_out p seen = λ told v. record { later = later_here v; files = refl; written = refl; comes = tt; kept = tt; closed = tt; refused = same_here v }

-- All is found.
pub found_alone : {A C X : Type 0} (seen : X → A) (x : X) → PreparedAlone {C = C} (Phases.Finds (seen x)) seen (Ok x)
found_alone seen x = λ told v. found_prepared told seen (seen x) v x refl
