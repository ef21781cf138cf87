-- A log, a model or one more clause after each round.
use Rattle.std.proofs.Common.{◌≡◌, ◌≢◌, ◌∙◌, ◌++◌, ◌*◌, ◌+◌, ◌-◌, ◌∷◌, [], ◌<◌, append-nil, refl, sym, subst, ap, List, Bool, false, length, arith, slice_index_or, Option, IfSome, IfNone, OnSome}
use Rattle.std.proofs.lemmas.List.Elements.{All-nil}
use Rattle.std.specs.Prelude.{ℤ, neg_ℤ, Vec, vec_len}
use Rattle.std.specs.declared.alloc.Global.{Global}
use Rattle.std.specs.List.{All}
use Rattle.sat_proof.specs.Code.{HasRoom, HaveRoom, code_of, is_false}
use Rattle.sat_proof.specs.Assignment.{HasNoZero, IsModel}
use Rattle.sat_proof.specs.Lines.{IsReady}
use Rattle.sat_proof.specs.Log.{Refutes, AreFresh, IsFresh, Fit, before}
use Rattle.sat_proof.specs.Propagator.{ComesBack, IsAtBase}
use Rattle.sat_proof.specs.declared.trail.Trail.{Trail}
use Rattle.sat_proof.proofs.NamedVariables.{fresh_no_zero}
use Rattle.sat_search.specs.Decide.{AreValued}
use Rattle.sat_search.specs.Reach.{IsSettled}
use Rattle.sat_search.proofs.Logging.{refutes_pushed, fresh_pushed, before_whole, before_last, length_logged, room_logged, quiet_query, ready_next, fit_with_room, model_if_settled}
use Rattle.sat_search.proofs.search.search.Goals as goal

pub close-requires : goal.close-requires
close-requires c = fresh_no_zero c.as_slice-query.result.now c.rounds.log.items c.rounds.invariant.fresh

pub from_vec-requires-then-is_full : goal.from_vec-requires-then-is_full
from_vec-requires-then-is_full c =
    let log_is : c.push.new.self.items ≡ c.rounds.log.items ++ c.in-Some.literals.items ∷ [] =
    c.in_ok-push-in-Some.ensures.items ∙ ap (λ (d : List ℤ). c.rounds.log.items ++ d ∷ []) c.from_vec-in-Some.ensures in
    let fresh_now : IsFresh (c.as_slice-query.result.now ++ c.rounds.log.items) c.in-Some.literals.items =
    subst (λ (cs : List (List ℤ)). IsFresh (c.as_slice-query.result.now ++ cs) c.in-Some.literals.items) c.deref.ensures.value
    (subst (λ (o : Option (Vec ℤ Global)). IfSome o (λ v. IsFresh (c.as_slice-query.result.now ++ c.deref.result.now) v.items)) c.in-Some.is c.in_ok-round.ensures.fresh) in
    subst (λ (log : List (List ℤ)). All HasNoZero log) (sym log_is) (fresh_no_zero c.as_slice-query.result.now (c.rounds.log.items ++ c.in-Some.literals.items ∷ [])
    (fresh_pushed c.as_slice-query.result.now c.rounds.log.items c.in-Some.literals.items c.rounds.invariant.fresh fresh_now))

pub from_log-requires : goal.from_log-requires
from_log-requires c = record {
  refutes = subst (λ (q : List (List ℤ)). Refutes q c.in_ok-log.log) c.as_slice-query.ensures
      (subst (Refutes c.as_slice-query.result.now) (sym c.in_ok-log.ensures)
      (refutes_pushed c.as_slice-query.result.now c.rounds.log.items c.rounds.invariant.fresh (c.rounds.invariant.ready.contrary c.if-refuted.true)));
}

pub returns-then-refuted : goal.returns-then-refuted
returns-then-refuted c = (
  c.from_log.ensures.refutes,
  subst (Fit c.args.cnf.now.vars) (sym (c.from_log.ensures.log ∙ c.in_ok-log.ensures))
      (fit_with_room c.args.cnf.now.vars (length c.args.propagator.now.trail.marks.items) (c.rounds.log.items ++ [] ∷ []) c.requires.codes
      (room_logged (length c.args.propagator.now.trail.marks.items) c.rounds.log.items [] c.rounds.invariant.room (All-nil (HasRoom (length c.args.propagator.now.trail.marks.items))))),
)

pub returns-then-is_full : goal.returns-then-is_full
returns-then-is_full c =
    let log_is : c.push.new.self.items ≡ c.rounds.log.items ++ c.in-Some.literals.items ∷ [] =
    c.in_ok-push-in-Some.ensures.items ∙ ap (λ (d : List ℤ). c.rounds.log.items ++ d ∷ []) c.from_vec-in-Some.ensures in
    let room_now : All (HasRoom (length c.args.propagator.now.trail.marks.items)) c.in-Some.literals.items =
    subst (λ n. All (HasRoom n) c.in-Some.literals.items) c.rounds.invariant.size
    (subst (λ (o : Option (Vec ℤ Global)). IfSome o (λ v. All (HasRoom (length c.rounds.propagator.trail.marks.items)) v.items)) c.in-Some.is c.in_ok-round.ensures.room) in (
      c.from_log-then-is_full.ensures.fresh,
      c.from_log-then-is_full.ensures.count,
      subst (Fit c.args.cnf.now.vars) (sym (c.from_log-then-is_full.ensures.log ∙ c.from_vec-then-is_full.ensures ∙ log_is))
          (fit_with_room c.args.cnf.now.vars (length c.args.propagator.now.trail.marks.items) (c.rounds.log.items ++ c.in-Some.literals.items ∷ []) c.requires.codes
          (room_logged (length c.args.propagator.now.trail.marks.items) c.rounds.log.items c.in-Some.literals.items c.rounds.invariant.room room_now)),
    )

pub rounds-init : goal.rounds-init
rounds-init c =
    let none : [] ≡ c.new-log.result.items = sym c.new-log.ensures.items in
    let first : c.args.cnf.now.clauses ≡ before c.as_slice-query.result.now c.new-log.result.items (length c.new-log.result.items) =
    sym c.as_slice-query.ensures ∙ sym (append-nil c.as_slice-query.result.now) ∙ ap (λ (log : List (List ℤ)). before c.as_slice-query.result.now log (length log)) none in
    record {
      short = let empty : length c.new-log.result.items ≡ 0 = ap length c.new-log.ensures.items in omega (arith, empty, c.requires.some);
      ready = subst (IsReady c.args.propagator.now c.args.refuted) first c.requires.ready;
      size = refl;
      room = subst (HaveRoom (length c.args.propagator.now.trail.marks.items)) none (All-nil (All (λ l. (code_of l < length c.args.propagator.now.trail.marks.items) × (code_of (neg_ℤ l) < length c.args.propagator.now.trail.marks.items))));
      no_zero = λ e. subst (λ (q : List (List ℤ)). All HasNoZero q) (sym c.as_slice-query.ensures) (c.requires.no_zero e);
      fresh = subst (AreFresh c.as_slice-query.result.now) none (λ k lt. absurd (omega arith));
    }

pub round-requires-clause-base : goal.round-requires-clause-base
round-requires-clause-base c = subst (IsAtBase c.rounds.propagator)
    (before_whole c.as_slice-query.result.now c.rounds.log.items ∙ ap (λ (log : List (List ℤ)). c.as_slice-query.result.now ++ log) (sym c.deref.ensures.value))
    (c.rounds.invariant.ready.base c.if-refuted.false)

pub round-requires-clause-codes : goal.round-requires-clause-codes
round-requires-clause-codes c = c.rounds.invariant.size ∙ c.requires.codes

pub values_of-requires : goal.values_of-requires
values_of-requires c = ap length c.deref-in-None.ensures.value ∙ c.in_ok-round.ensures.size ∙ c.rounds.invariant.size ∙ c.requires.codes

pub advance-refuted-requires-clause-query : goal.advance-refuted-requires-clause-query
advance-refuted-requires-clause-query c =
    let size : length c.widen.new.self.trail.marks.items ≡ length c.args.propagator.now.trail.marks.items =
    ap (λ (t : Trail). length t.marks.items) c.in_ok-widen.ensures.trail ∙ c.in_ok-round.ensures.size ∙ c.rounds.invariant.size in
    subst (λ n. HaveRoom n c.as_slice-query.result.now) (sym size) (subst (HaveRoom (length c.args.propagator.now.trail.marks.items)) (sym c.as_slice-query.ensures) c.requires.room)

pub returns-in-None : goal.returns-in-None
returns-in-None c =
    let settled : IsSettled c.round.new.propagator (c.as_slice-query.result.now ++ c.deref.result.now) =
    subst (λ (o : Option (Vec ℤ Global)). IfNone o (IsSettled c.round.new.propagator (c.as_slice-query.result.now ++ c.deref.result.now))) c.in-None.is c.in_ok-round.ensures.settled in
    let valued : AreValued c.round.new.propagator.trail.marks.items c.args.cnf.now.vars =
    subst (λ (o : Option (Vec ℤ Global)). IfNone o (AreValued c.round.new.propagator.trail.marks.items c.args.cnf.now.vars)) c.in-None.is c.in_ok-round.ensures.valued in
    let size : length c.round.new.propagator.trail.marks.items ≡ length c.args.propagator.now.trail.marks.items = c.in_ok-round.ensures.size ∙ c.rounds.invariant.size in
    subst (λ (q : List (List ℤ)). IsModel c.args.cnf.now.vars q c.from_vec.result) c.as_slice-query.ensures
    (model_if_settled c.round.new.propagator.trail.marks.items c.from_vec.result c.args.cnf.now.vars (size ∙ c.requires.codes) valued
    (λ n lt. ap (λ (vs : List Bool). slice_index_or vs n false) c.from_vec.ensures ∙ c.in_ok-values-in-None.ensures.values n lt
    ∙ ap (λ (ms : List Bool). slice_index_or ms (2 * n + 3) false) c.deref-in-None.ensures.value)
    c.as_slice-query.result.now (c.rounds.invariant.no_zero c.if-refuted.false) (subst (λ n. HaveRoom n c.as_slice-query.result.now) (sym size) (subst (HaveRoom (length c.args.propagator.now.trail.marks.items)) (sym c.as_slice-query.ensures) c.requires.room))
    (quiet_query (is_false c.round.new.propagator.trail.marks.items) c.as_slice-query.result.now c.deref.result.now settled.quiet) (ap length c.from_vec.ensures ∙ c.in_ok-values-in-None.ensures.count))

pub from_log-requires-then-is_full-clause-fresh : goal.from_log-requires-then-is_full-clause-fresh
from_log-requires-then-is_full-clause-fresh c =
    let log_is : c.push.new.self.items ≡ c.rounds.log.items ++ c.in-Some.literals.items ∷ [] =
    c.in_ok-push-in-Some.ensures.items ∙ ap (λ (d : List ℤ). c.rounds.log.items ++ d ∷ []) c.from_vec-in-Some.ensures in
    let fresh_now : IsFresh (c.as_slice-query.result.now ++ c.rounds.log.items) c.in-Some.literals.items =
    subst (λ (cs : List (List ℤ)). IsFresh (c.as_slice-query.result.now ++ cs) c.in-Some.literals.items) c.deref.ensures.value
    (subst (λ (o : Option (Vec ℤ Global)). IfSome o (λ v. IsFresh (c.as_slice-query.result.now ++ c.deref.result.now) v.items)) c.in-Some.is c.in_ok-round.ensures.fresh) in
    subst (λ (q : List (List ℤ)). AreFresh q c.from_vec-then-is_full.result) c.as_slice-query.ensures
    (subst (AreFresh c.as_slice-query.result.now) (sym (c.from_vec-then-is_full.ensures ∙ log_is))
    (fresh_pushed c.as_slice-query.result.now c.rounds.log.items c.in-Some.literals.items c.rounds.invariant.fresh fresh_now))

pub advance-refuted-requires-clause-ready : goal.advance-refuted-requires-clause-ready
advance-refuted-requires-clause-ready c =
    let log_is : c.push.new.self.items ≡ c.rounds.log.items ++ c.in-Some.literals.items ∷ [] =
    c.in_ok-push-in-Some.ensures.items ∙ ap (λ (d : List ℤ). c.rounds.log.items ++ d ∷ []) c.from_vec-in-Some.ensures in
    let back : ComesBack c.rounds.propagator c.round.new.propagator (c.as_slice-query.result.now ++ c.deref.result.now) =
    subst (λ (o : Option (Vec ℤ Global)). OnSome o (ComesBack c.rounds.propagator c.round.new.propagator (c.as_slice-query.result.now ++ c.deref.result.now))) c.in-Some.is c.in_ok-round.ensures.back in
    ready_next c.rounds.propagator c.round.new.propagator c.widen.new.self (c.as_slice-query.result.now ++ c.deref.result.now)
    (before c.as_slice-query.result.now c.deref-in-rounds-2.result.now (c.len.result - 1)) back c.in_ok-widen.ensures.trail c.in_ok-widen.ensures.serving
    (ap (λ (log : List (List ℤ)). c.as_slice-query.result.now ++ log) c.deref.ensures.value
    ∙ sym (before_last c.as_slice-query.result.now c.rounds.log.items c.deref-in-rounds-2.result.now c.in-Some.literals.items c.len.result
    (c.deref-in-rounds-2.ensures.value ∙ log_is) (c.len.ensures ∙ sym c.deref-in-rounds-2.ensures.len)))

pub advance-refuted-requires-clause-log : goal.advance-refuted-requires-clause-log
advance-refuted-requires-clause-log c =
    let log_is : c.push.new.self.items ≡ c.rounds.log.items ++ c.in-Some.literals.items ∷ [] =
    c.in_ok-push-in-Some.ensures.items ∙ ap (λ (d : List ℤ). c.rounds.log.items ++ d ∷ []) c.from_vec-in-Some.ensures in
    let size : length c.widen.new.self.trail.marks.items ≡ length c.args.propagator.now.trail.marks.items =
    ap (λ (t : Trail). length t.marks.items) c.in_ok-widen.ensures.trail ∙ c.in_ok-round.ensures.size ∙ c.rounds.invariant.size in
    let room_now : All (HasRoom (length c.args.propagator.now.trail.marks.items)) c.in-Some.literals.items =
    subst (λ n. All (HasRoom n) c.in-Some.literals.items) c.rounds.invariant.size
    (subst (λ (o : Option (Vec ℤ Global)). IfSome o (λ v. All (HasRoom (length c.rounds.propagator.trail.marks.items)) v.items)) c.in-Some.is c.in_ok-round.ensures.room) in
    subst (λ n. HaveRoom n c.deref-in-rounds-2.result.now) (sym size)
    (subst (HaveRoom (length c.args.propagator.now.trail.marks.items)) (sym (c.deref-in-rounds-2.ensures.value ∙ log_is))
    (room_logged (length c.args.propagator.now.trail.marks.items) c.rounds.log.items c.in-Some.literals.items c.rounds.invariant.room room_now))

pub rounds-preserved : goal.rounds-preserved
rounds-preserved c =
    let log_is : c.push.new.self.items ≡ c.rounds.log.items ++ c.in-Some.literals.items ∷ [] =
    c.in_ok-push-in-Some.ensures.items ∙ ap (λ (d : List ℤ). c.rounds.log.items ++ d ∷ []) c.from_vec-in-Some.ensures in
    let fresh_now : IsFresh (c.as_slice-query.result.now ++ c.rounds.log.items) c.in-Some.literals.items =
    subst (λ (cs : List (List ℤ)). IsFresh (c.as_slice-query.result.now ++ cs) c.in-Some.literals.items) c.deref.ensures.value
    (subst (λ (o : Option (Vec ℤ Global)). IfSome o (λ v. IsFresh (c.as_slice-query.result.now ++ c.deref.result.now) v.items)) c.in-Some.is c.in_ok-round.ensures.fresh) in
    let room_now : All (HasRoom (length c.args.propagator.now.trail.marks.items)) c.in-Some.literals.items =
    subst (λ n. All (HasRoom n) c.in-Some.literals.items) c.rounds.invariant.size
    (subst (λ (o : Option (Vec ℤ Global)). IfSome o (λ v. All (HasRoom (length c.rounds.propagator.trail.marks.items)) v.items)) c.in-Some.is c.in_ok-round.ensures.room) in
    let len : length c.push.new.self.items ≡ length c.rounds.log.items + 1 = length_logged c.rounds.log.items c.push.new.self.items c.in-Some.literals.items log_is in
    let len_is : length c.push.new.self.items ≡ vec_len c.push.new.self = ap length (sym c.deref-in-rounds-2.ensures.value) ∙ c.deref-in-rounds-2.ensures.len in
    let at : c.len.result - 1 + 1 ≡ length c.push.new.self.items = omega (arith, c.len.ensures, len, len_is) in
    record {
      short = let other : length c.push.new.self.items ≢ c.args.limit = λ e. c.if-is_full.ensures.no refl (ap length c.deref-in-rounds.ensures.value ∙ e) in omega (arith, len, other, c.rounds.invariant.short);
      ready = subst (λ (cs : List (List ℤ)). IsReady c.advance-refuted.new.self c.advance-refuted.result (before c.as_slice-query.result.now cs (length c.push.new.self.items)))
          c.deref-in-rounds-2.ensures.value
          (subst (λ n. IsReady c.advance-refuted.new.self c.advance-refuted.result (before c.as_slice-query.result.now c.deref-in-rounds-2.result.now n)) at c.advance-refuted.ensures.ready);
      size = c.advance-refuted.ensures.size ∙ ap (λ (t : Trail). length t.marks.items) c.in_ok-widen.ensures.trail ∙ c.in_ok-round.ensures.size ∙ c.rounds.invariant.size;
      room = subst (HaveRoom (length c.args.propagator.now.trail.marks.items)) (sym log_is)
          (room_logged (length c.args.propagator.now.trail.marks.items) c.rounds.log.items c.in-Some.literals.items c.rounds.invariant.room room_now);
      no_zero = λ _. c.rounds.invariant.no_zero c.if-refuted.false;
      fresh = subst (AreFresh c.as_slice-query.result.now) (sym log_is) (fresh_pushed c.as_slice-query.result.now c.rounds.log.items c.in-Some.literals.items c.rounds.invariant.fresh fresh_now);
    }
