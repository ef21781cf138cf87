-- What the clauses propagate with nothing assumed, and how it goes on with one clause more.
use Rattle.std.proofs.Common.{◌≡◌, ℕ, ◌<◌, ◌≤◌, ◌+◌, ◌-◌, Bool, true, false, List, length, ap, sym, refl, ◌∙◌, subst, take, drop, slice_index_or, [], ◌∷◌, ◌++◌, arith, append_assoc}
use Rattle.std.proofs.lemmas.Bool.{false≢true}
use Rattle.std.proofs.lemmas.List.{take_more, take_rest, get_or_default, length-append, length-take}
use Rattle.std.proofs.lemmas.List.Elements.{All-append, All-take, All-contains, All-weaker, Contains-append_left, Contains-push}
use Rattle.std.specs.Prelude.{ℤ, neg_ℤ}
use Rattle.std.specs.List.{All}
use Rattle.sat_proof.specs.Assignment.{HasNoZero}
use Rattle.sat_proof.specs.Closed.{IsFalse, IsQuiet, AreContrary}
use Rattle.sat_proof.specs.Code.{is_false, AreClear, code_of, HaveRoom, HasRoom}
use Rattle.sat_proof.specs.Follows.{Follows, without}
use Rattle.sat_proof.specs.Guard.{Watches}
use Rattle.sat_proof.specs.Lines.{IsReady}
use Rattle.sat_proof.specs.Log.{before, clause_at, EndsEmpty}
use Rattle.sat_proof.specs.Propagation.{IsGrowth, AreRefuted, AreForced, IsBase}
use Rattle.sat_proof.specs.Propagator.{ComesBack, HasPropagated, IsAtBase, LeadsBack}
use Rattle.sat_proof.specs.Trail.{held, IsEmpty, IsSameTrail}
use Rattle.sat_proof.specs.declared.propagator.Propagator.{Propagator}
use Rattle.sat_proof.specs.declared.trail.Trail.{Trail}
use Rattle.sat_proof.proofs.Assuming.{contrary_from, forced_more}
use Rattle.sat_proof.proofs.Deciding.{follows_if_none}
use Rattle.sat_proof.proofs.ClosedSets.{all_from}
use Rattle.sat_proof.proofs.Backs.{serves_back}

pub base_kept : (old new : Trail) (clauses : List (List ℤ)) → IsBase old clauses → IsSameTrail old new → IsBase new clauses
base_kept old new clauses b k = record {
  forced = λ f quiet l on. b.forced f quiet l (sym (ap (λ ms. is_false ms l) k.marks) ∙ on);
  quiet = subst (λ ms. All (IsQuiet (is_false ms)) clauses) (sym k.marks) b.quiet;
  read = k.read ∙ b.read ∙ sym k.len;
}

pub kept_more : (old mid new : Trail) → IsSameTrail old mid → IsSameTrail mid new → IsSameTrail old new
kept_more old mid new a b = record { marks = b.marks ∙ a.marks; len = b.len ∙ a.len; read = b.read ∙ a.read }

pub kept_none : (t : Trail) → IsSameTrail t t
kept_none t = record { marks = refl; len = refl; read = refl }

pub empty_kept : (old new : Trail) → IsEmpty old → IsSameTrail old new → IsEmpty new
empty_kept old new e k = record {
  clear = subst (λ (ms : List Bool). AreClear ms) (sym k.marks) e.clear;
  len = k.len ∙ e.len;
  read = k.read ∙ e.read;
}

pub back_none : (p : Propagator) (clauses : List (List ℤ)) → IsAtBase p clauses → ComesBack p p clauses
back_none p clauses b = record { base = b; kept = kept_none p.trail }

pub back_more : (old mid new : Propagator) (clauses : List (List ℤ)) → ComesBack old mid clauses → ComesBack mid new clauses → ComesBack old new clauses
back_more old mid new clauses a b = record { base = b.base; kept = kept_more old.trail mid.trail new.trail a.kept b.kept }

-- the marks are those of the base again
pub at_base : (old mid new : Propagator) (clauses : List (List ℤ)) → IsAtBase old clauses → LeadsBack old mid clauses → IsSameTrail old.trail new.trail
    → new.watch ≡ mid.watch → IsAtBase new clauses
at_base old mid new clauses b back k same = record {
  room = subst (λ (ms : List Bool). HaveRoom (length ms) clauses) (sym k.marks) b.room;
  base = base_kept old.trail new.trail clauses b.base k;
  watches = subst (λ (ms : List Bool). Watches new.watch ms clauses) (sym k.marks) (subst (λ x. Watches x old.trail.marks.items clauses) (sym same)
      (serves_back old mid clauses back old.trail.marks.items (λ l on. on) b.watches));
}

pub ready_back : (old new : Propagator) (refuted : Bool) (clauses : List (List ℤ)) → IsReady old refuted clauses → ComesBack old new clauses → IsReady new refuted clauses
ready_back old new refuted clauses r back = record { contrary = r.contrary; base = λ e. back.base }

-- what propagation from marks that are forced leaves
pub ready_from : (old new : Propagator) (result : Bool) (clauses : List (List ℤ)) → HaveRoom (length old.trail.marks.items) clauses → AreForced old.trail.marks.items clauses
    → (result ≡ true → AreRefuted old.trail.marks.items clauses) → (result ≡ false → HasPropagated old new clauses) → LeadsBack old new clauses → IsReady new result clauses
ready_from old new result clauses room forced conflict done back = record {
  contrary = λ e. contrary_from old.trail.marks.items clauses forced (conflict e);
  base = λ e. record {
    room = subst (λ n. HaveRoom n clauses) (sym (done e).growth.sized) room;
    base = record { forced = forced_more old.trail.marks.items new.trail.marks.items clauses forced (done e).growth; quiet = (done e).quiet; read = (done e).read };
    watches = λ on. record { laced = back.laced on; safe = (done e).safe on };
  };
}

pub ready_contrary : (p : Propagator) (clauses : List (List ℤ)) → AreContrary clauses → IsReady p true clauses
ready_contrary p clauses contrary = record { contrary = λ _. contrary; base = λ e. absurd (false≢true (sym e)) }

-- what is said of the clause in the code, of the log's entry
pub entry : (log : List (List ℤ)) (k : ℕ) (c r : List ℤ) → k < length log → c ≡ r → r ≡ slice_index_or log k r → c ≡ clause_at log k
entry log k c r lt e f = e ∙ f ∙ get_or_default log k r [] lt

-- what stands before the next clause of the log
pub before_push : (query log : List (List ℤ)) (k : ℕ) (c : List ℤ) → k < length log → c ≡ clause_at log k → before query log k ++ c ∷ [] ≡ before query log (k + 1)
before_push query log k c lt e =
    append_assoc query (take k log) (c ∷ []) ∙ ap (λ (cs : List (List ℤ)). query ++ cs) (ap (λ (d : List ℤ). take k log ++ d ∷ []) e ∙ sym (take_more log k [] lt))

pub length_before : (query log : List (List ℤ)) (k : ℕ) → k ≤ length log → length (before query log k) ≡ length query + k
length_before query log k le = omega (arith, length-append query (take k log), length-take k log)

-- One more clause.
module _ (clauses : List (List ℤ)) (c : List ℤ) where
  pub quiet_push : (f : ℤ → Bool) → All (IsQuiet f) (clauses ++ c ∷ []) → All (IsQuiet f) clauses
  quiet_push f quiet = all_from (IsQuiet f) clauses (λ d here. All-contains (IsQuiet f) (clauses ++ c ∷ []) d quiet (Contains-append_left clauses (c ∷ []) d here))

  pub contrary_push : AreContrary clauses → AreContrary (clauses ++ c ∷ [])
  contrary_push contrary f quiet = contrary f (quiet_push f quiet)

  pub forced_push : (marks : List Bool) → AreForced marks clauses → AreForced marks (clauses ++ c ∷ [])
  forced_push marks forced f quiet l on = forced f (quiet_push f quiet) l on

  -- the new clause is false
  pub false_push : (t : Trail) → IsBase t clauses → IsFalse (held t) c → AreContrary (clauses ++ c ∷ [])
  false_push t b bad f quiet = (All-contains (IsQuiet f) (clauses ++ c ∷ []) c quiet (Contains-push clauses c)).met
      (All-weaker (λ l. held t l ≡ true) (λ l. f l ≡ true) (λ l on. (b.forced f (quiet_push f quiet) l on).0) c bad)

-- The next clause of a log, as the code has it.
module _ (query log : List (List ℤ)) (k : ℕ) (lt : k < length log) (c r : List ℤ) (e : c ≡ r) (f : r ≡ slice_index_or log k r) (t : Trail)
    (b : IsBase t (before query log k)) where
  pub next_is : before query log k ++ c ∷ [] ≡ before query log (k + 1)
  next_is = before_push query log k c lt (entry log k c r lt e f)

  pub next_contrary : IsFalse (held t) c → AreContrary (before query log (k + 1))
  next_contrary bad = subst AreContrary next_is (false_push (before query log k) c t b bad)

  pub next_forced : (new : Trail) → IsGrowth t.marks.items new.marks.items (before query log (k + 1)) → AreForced new.marks.items (before query log (k + 1))
  next_forced new growth = forced_more t.marks.items new.marks.items (before query log (k + 1))
      (subst (AreForced t.marks.items) next_is (forced_push (before query log k) c t.marks.items b.forced)) growth

pub contrary_next : (query log : List (List ℤ)) (k : ℕ) → k < length log → AreContrary (before query log k) → AreContrary (before query log (k + 1))
contrary_next query log k lt contrary = subst AreContrary (before_push query log k (clause_at log k) lt refl) (contrary_push (before query log k) (clause_at log k) contrary)

pub room_before : (n m : ℕ) (query log : List (List ℤ)) (k : ℕ) → m ≡ n → HaveRoom n query → HaveRoom n log → HaveRoom m (before query log k)
room_before n m query log k e q g = subst (λ i. HaveRoom i (before query log k)) (sym e)
    (All-append (All (λ l. (code_of l < n) × (code_of (neg_ℤ l) < n))) query (take k log) q (All-take (All (λ l. (code_of l < n) × (code_of (neg_ℤ l) < n))) k log g))

-- over clauses that conflict each clause follows
pub follows_contrary : (clauses : List (List ℤ)) (clause : List ℤ) → AreContrary clauses → Follows clauses clause
follows_contrary clauses clause contrary = follows_if_none clauses clause (λ f r. contrary f r.quiet)

pub without_is : (literals : List ℤ) (k : ℕ) → take k literals ++ take (length literals - (k + 1)) (drop (k + 1) literals) ≡ without k literals
without_is literals k = rw take_rest

pub room_for : (n m : ℕ) (log : List (List ℤ)) (k : ℕ) → HaveRoom n log → n ≡ m → k < length log → (c r : List ℤ) → c ≡ r → r ≡ slice_index_or log k r
    → HasNoZero c → All (HasRoom m) c
room_for n m log k room same lt c r e f no_zero = subst (λ i. All (HasRoom i) c) same
    (λ j d jt.
    let both : (code_of (slice_index_or c j d) < n) × (code_of (neg_ℤ (slice_index_or c j d)) < n) =
    subst (λ x. All (λ l. (code_of l < n) × (code_of (neg_ℤ l) < n)) x) (sym (entry log k c r lt e f)) (room k [] lt) j d jt in
    record { nonzero = no_zero j d jt; own = both.0; other = both.1 })

empty_list : (c : List ℤ) → length c ≡ 0 → c ≡ []
empty_list [] e = refl
empty_list (x ∷ xs) e = absurd (omega arith)

pub ends_from : (log : List (List ℤ)) (n : ℕ) (c r : List ℤ) → 0 < n → n ≡ length log → c ≡ r → r ≡ slice_index_or log (n - 1) r → length c ≡ 0 → EndsEmpty log
ends_from log n c r pos same e at empty = (
  n - 1,
  omega arith,
  sym (entry log (n - 1) c r (omega arith) e at) ∙ empty_list c empty,
)

pub ends_not : (log : List (List ℤ)) (n : ℕ) (c r : List ℤ) → 0 < n → n ≡ length log → c ≡ r → r ≡ slice_index_or log (n - 1) r → (length c ≡ 0 → ⊥) → EndsEmpty log → ⊥
ends_not log n c r pos same e at filled (m, f, g) =
    let m_is : n - 1 ≡ m = omega arith in
    filled (ap length (entry log (n - 1) c r (omega arith) e at ∙ ap (clause_at log) m_is ∙ g))
