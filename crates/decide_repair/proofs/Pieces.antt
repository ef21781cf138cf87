-- A walk goes on by pieces.
use Rattle.std.proofs.Common.{◌≡◌, ℕ, ◌<◌, ◌≤◌, ◌⊎◌, inl, inr, List, length, refl, sym, ap, subst, arith, ⊎_elim}
use Rattle.law_along.specs.Along.{GoesAlong, stays}
use Rattle.law_along.proofs.Fitted.{along}
use Rattle.decide_cone.proofs.GrownCones.{cones_go}
use Rattle.design_circuit.specs.declared.design.Design.{Design}
use Rattle.design_circuit.specs.declared.stim.Stim.{Stim}
use Rattle.design_circuit.specs.History.{HistoryView}
use Rattle.design_circuit.specs.Job.{Job, places_of}
use Rattle.wave_proved.proofs.NextLines.{line_next}
use Rattle.wave_proved.specs.Advance.{IsAdvanced, IsPlain}
use Rattle.wave_proved.specs.Contents.{Contents, IsFinished, IsWave, job, next_seen, nothing_written}
use Rattle.wave_proved.specs.Token.{IsLineNext}
use Rattle.decide_repair.specs.Repaired.{IsOfJob}
use Rattle.decide_repair.specs.Step.{IsFurther}
use Rattle.decide_repair.specs.Walk.{AreRightOf, HasLessLeft, IsWalk, left_in, start_of}
use Rattle.decide_repair.specs.declared.aids.Aids.{Aids}
use Rattle.decide_repair.proofs.Objecting.{job_along}
use Rattle.decide_repair.proofs.Walking.{all_written, goes_long, job_stays}
use Rattle.law_model.specs.declared.limits.Limits.{Limits}

-- A piece of a walk: from a wave to a later one of its job, which stands before a Line place or at the end; of so many
-- lines so many are left, and the wave grew where fewer are.
pub record IsOnWay (from c : Contents) (aids : Aids) (all lines left : ℕ) : Type 0 where
  pub same : IsOfJob from c
  pub goes : GoesAlong from c
  pub stops : IsPlain (next_seen c) → ⊥
  pub right : AreRightOf c aids
  pub all_is : all ≡ places_of (job from)
  pub up : length from.written ≤ length c.written
  pub grew : (left ≡ lines) ⊎ (length from.written < length c.written)

pub way_begins : (from c : Contents) (aids : Aids) (all lines : ℕ) → IsWave from → AreRightOf from aids
    → all ≡ places_of (job from) → IsAdvanced from c → IsOfJob from c → GoesAlong from c
    → IsOnWay from c aids all lines lines
way_begins from c aids all lines wave right all_is advanced same goes = record {
  same = same;
  goes = goes;
  stops = advanced.stops;
  right = cones_go advanced.goes aids.cones wave right;
  all_is = all_is;
  up = goes_long advanced.goes;
  grew = inl refl;
}

pub way_further : (from c d : Contents) (aids next_aids : Aids) (all lines left less : ℕ)
    → IsOnWay from c aids all lines left → IsFurther c d → GoesAlong c d → AreRightOf d next_aids
    → IsOnWay from d next_aids all lines less
way_further from c d aids next_aids all lines left less way further goes right =
    let before = way.up in
    let more = further.more in
    record {
      same = job_along from c d way.same further.same;
      goes = along from c d way.goes goes;
      stops = further.stops;
      right = right;
      all_is = way.all_is;
      up = omega (arith, before, more);
      grew = inr (omega (arith, before, more));
    }

-- Where places are left, the next one is a Line place.
all_stay : (from c : Contents) → IsOfJob from c → places_of (job c) ≡ places_of (job from)
all_stay from c same = ap (λ (j : Job). places_of j) (job_stays from c same)

pub way_line : (from c : Contents) (aids : Aids) (all lines left : ℕ) → IsOnWay from c aids all lines left
    → length c.written < all → IsLineNext c
way_line from c aids all lines left way less =
    let all_is = way.all_is in
    let all_now = all_stay from c way.same in
    line_next c (omega (arith, less, all_is, all_now)) way.stops

-- Where places were left, fewer are.
pub way_less : (from c : Contents) (aids : Aids) (all lines left : ℕ) → IsOnWay from c aids all lines left → 0 < lines
    → (left ≡ 0) ⊎ (all ≤ length c.written) → HasLessLeft from c
way_less from c aids all lines left way some ends before =
    let all_is = way.all_is in
    let all_now = all_stay from c way.same in
    let more : length from.written < length c.written = ⊎_elim
    (λ (none : left ≡ 0). ⊎_elim (λ (same : left ≡ lines). absurd (omega (arith, none, same, some)))
    (λ (grew : length from.written < length c.written). grew) way.grew)
    (λ (many : all ≤ length c.written). omega (arith, many, all_is, before)) ends in
    omega (arith, more, all_now, before)

-- The wave of which nothing is written stays the same in a job, and a wave is of its job.
pub start_stays : (a b : Contents) → IsOfJob a b → start_of b ≡ start_of a
start_stays a b same = rw (same.design, same.order, same.stim, same.history, same.limits) refl

pub start_job : (c : Contents) → IsOfJob (start_of c) c
start_job c = record { design = refl; order = refl; stim = refl; history = refl; limits = refl }

-- A wave that went along lines from nothing still has.
pub way_along : (from c : Contents) (aids : Aids) (all lines left : ℕ) → IsOnWay from c aids all lines left
    → GoesAlong (start_of from) from → GoesAlong (start_of c) c
way_along from c aids all lines left way before =
    subst (λ start. GoesAlong start c) (sym (start_stays from c way.same)) (along (start_of from) from c before way.goes)

-- A walk of which nothing is written,
pub walk_begins : (c : Contents) (design : Design) (order : List ℕ) (stim : Stim) (history : HistoryView) (limits : Limits)
    (aids : Aids) → c ≡ nothing_written design order stim history limits → IsWave c → AreRightOf c aids → IsWalk c aids
walk_begins c design order stim history limits aids is wave right = record {
  wave = wave;
  along = subst (λ (d : Contents). GoesAlong (start_of d) d) (sym is) stays;
  right = right;
}

-- and one that went on.
pub walk_further : (a b : Contents) (aids next_aids : Aids) → IsWalk a aids → IsOfJob a b → GoesAlong a b → IsWave b
    → AreRightOf b next_aids → IsWalk b next_aids
walk_further a b aids next_aids walk same goes wave right = record {
  wave = wave;
  along = subst (λ start. GoesAlong start b) (sym (start_stays a b same)) (along (start_of a) a b walk.along goes);
  right = right;
}

-- A wave is finished where no places are left.
pub wave_finished : (c : Contents) → IsWave c → left_in c ≡ 0 → IsFinished c
wave_finished c wave none = all_written c wave (omega (arith, none))
