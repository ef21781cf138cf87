-- Lists of lines meet their first optimistic place where an audit lists its first.
use Rattle.std.proofs.Common.{◌≡◌, ℕ, zero, suc, ◌+◌, ◌<◌, ◌≤◌, List, [], ◌∷◌, ◌++◌, length, length-append, refl, sym, ◌∙◌, arith, subst, inl, inr, ◌⊎◌, ⊎_elim}
use Rattle.std.proofs.lemmas.Bool.{cases_eq}
use Rattle.design_cell.specs.declared.value.Value.{Value}
use Rattle.design_cell.specs.declared.value.Value.TheVariants.{Zero, One, X, Z}
use Rattle.design_circuit.specs.declared.waveform.Written.{Written}
use Rattle.design_circuit.specs.declared.waveform.Mark.{Mark}
use Rattle.design_circuit.specs.declared.waveform.Mark.TheVariants.{Certain, Unknown, Undecided}
use Rattle.design_circuit.specs.Job.{Job}
use Rattle.design_circuit.specs.Fits.{Fits}
use Rattle.design_circuit.specs.Waveform.{certain, written_at, IsExact}
use Rattle.law_model.specs.Laws.{IsSameAt}
use Rattle.law_model.specs.Sound.{IsOptimistic, IsOptimisticAt, Sound}
use Rattle.law_model.specs.Yields.{Yields}
use Rattle.law_model.specs.declared.line.Line.{Line as ALine}
use Rattle.law_model.proofs.FactsBefore.{written_grown, written_last}
use Rattle.law_model.proofs.Uniqueness.{sound_exact}
use Rattle.law_model.proofs.YieldedSound.{sound_honest, yielded_sound}
use Rattle.law_model.specs.declared.limits.Limits.{Limits}
use Rattle.law_waveforms.specs.Audit.{FirstListed, IsAudited, IsFirst, IsListed, ObjectionListed, SomeListed}
use Rattle.law_waveforms.specs.Objection.{AllDecide}
use Rattle.law_waveforms.specs.Reshown.{reshown}
use Rattle.law_waveforms.proofs.DecidingLines.{all_decide}
use Rattle.law_waveforms.proofs.ExactFronts.{alike_at, optimistic_same}
use Rattle.law_waveforms.proofs.Objections.{decided_law, exact_with}
use Rattle.law_waveforms.proofs.Reshowing.{reshown_law, reshown_there}

-- ---- what is optimistic is carried over by equal marks and certain values

pub listed_same : (shown : ℕ → Value) (v w : List Written) (k : ℕ) → k < length w → IsSameAt v w k → IsListed shown v k
    → IsListed shown w k
unfolding certain
listed_same shown v w k less same is = record {
  within = less;
  otherwise = optimistic_same (written_at v k).mark (written_at w k).mark (written_at v k).value (written_at w k).value
      (shown k) same.mark same.certain_value is.otherwise;
}

pub turned : (v w : List Written) (k : ℕ) → IsSameAt v w k → IsSameAt w v k
turned v w k same = record { mark = sym same.mark; certain_value = sym same.certain_value }

pub chained : (u v w : List Written) (k : ℕ) → IsSameAt u v k → IsSameAt v w k → IsSameAt u w k
chained u v w k first second = record {
  mark = first.mark ∙ second.mark;
  certain_value = first.certain_value ∙ second.certain_value;
}

-- The first listed place of two waveforms that are alike up to it.
first_same : (shown : ℕ → Value) (v w : List Written) (place : ℕ) → place < length w
    → ((k : ℕ) → k ≤ place → IsSameAt v w k) → IsFirst shown v place → IsFirst shown w place
first_same shown v w place less same is = record {
  listed = listed_same shown v w place less (same place (omega arith)) is.listed;
  none = λ k before listed. is.none k before
      (listed_same shown w v k (let low = is.listed.within in omega (arith, low, before))
      (turned v w k (same k (omega (arith, before)))) listed);
}

-- ---- lines that yield, and the audited waveform

-- A waveform that lines without an undecided body yield for any history is alike to each sound one without undecided
-- places: for a history that knows nothing it is sound.
pub nothing : ℕ → Value
nothing k = X

pub yielded_exact : (j : Job) (limits : Limits) → Fits j → (shown : ℕ → Value) (waveform : List Written) (lines : List ALine)
    → Yields j limits shown waveform lines → AllDecide lines → IsExact j (reshown nothing waveform)
unfolding nothing
yielded_exact j limits fits shown waveform lines yields all =
    let w = reshown nothing waveform in
    let again = reshown_law j limits shown nothing waveform w lines fits (reshown_there nothing waveform) yields in
    let sound : Sound j limits nothing w lines = yielded_sound j limits fits nothing w lines again
    (λ k less is. honest (written_at w k).mark (written_at w k).value is) in
    sound_exact j limits nothing w lines (decided_law j limits nothing w lines sound all) sound
  where
    honest : (mark : Mark) (value : Value) → IsOptimistic mark value X → ⊥
    honest Certain value is = is.0
    honest Unknown value is = is
    honest Undecided value is = is

audited_exact : (j : Job) (waveform : List Written) (lines : List ALine) → IsAudited j waveform lines → IsExact j
    waveform
audited_exact j waveform lines is = sound_exact j is.limits is.shown waveform lines is.decided is.holds.sound

pub first_listed : FirstListed
first_listed j shown waveform lines more place fits audited meets =
    first_same shown meets.waveform waveform place (let all = meets.yields.within in
    let less = meets.first.listed.within in let whole = audited.whole in omega (arith, all, less, whole))
    (λ k up. alike k up) meets.first
  where
    w : List Written
    w = reshown nothing meets.waveform

    alike : (k : ℕ) → k ≤ place → IsSameAt meets.waveform waveform k
    alike k up =
        let shown_so = reshown_there nothing meets.waveform in
        let all = meets.yields.within in
        let less = meets.first.listed.within in
        let whole = audited.whole in
        let long = shown_so.long in
        let here = alike_at j fits w waveform (omega (arith, long, all)) (omega (arith, whole))
        (yielded_exact j meets.limits fits shown meets.waveform more meets.yields meets.decide)
        (audited_exact j waveform lines audited) k (omega (arith, long, up, less)) (omega (
          arith,
          up,
          less,
          all,
          whole,
        )) in
        chained meets.waveform w waveform k (shown_so.same k (omega (arith, up, less)))
        (record { mark = here.mark; certain_value = here.certain_value })

pub objection_listed : ObjectionListed
unfolding certain
objection_listed j limits shown waveform front lines more found fits audited objects all = record {
  listed = listed_same shown v waveform n inside (alike n (omega arith)) (record {
    within = omega (arith, long);
    otherwise = subst (λ (x : Written). IsOptimistic x.mark x.value (shown n)) (sym (written_last front found))
        objects.optimistic;
  });
  none = λ k before listed. sound_honest j limits shown front more objects.sound k before
      (subst (λ (x : Written). IsOptimistic x.mark x.value (shown k)) (written_grown front found k before)
      (listed_same shown waveform v k (omega (arith, long, before)) (turned v waveform k (alike k (omega (
        arith,
        before,
      ))))
      listed).otherwise);
}
  where
    n : ℕ
    n = length front

    v : List Written
    v = front ++ found ∷ []

    long : length v ≡ length front + 1
    long = length-append front (found ∷ [])

    inside : n < length waveform
    inside = (let low = objects.said.within in let whole = audited.whole in omega (arith, low, whole))

    alike : (k : ℕ) → k ≤ n → IsSameAt v waveform k
    alike k up =
        let within = objects.said.within in
        let whole = audited.whole in
        let here = alike_at j fits v waveform (omega (arith, long, within)) (omega (arith, whole))
        (exact_with j limits fits shown front more found objects all) (audited_exact j waveform lines audited) k
        (omega (arith, long, up)) (omega (arith, up, within, whole)) in
        record { mark = here.mark; certain_value = here.certain_value }

-- ---- the first listed place

optimistic_or : (mark : Mark) (value shown : Value) → IsOptimistic mark value shown ⊎ (IsOptimistic mark value shown →
    ⊥)
optimistic_or Undecided value shown = inr (λ is. is)
optimistic_or Unknown value Zero = inl tt
optimistic_or Unknown value One = inl tt
optimistic_or Unknown value X = inr (λ is. is)
optimistic_or Unknown value Z = inr (λ is. is)
optimistic_or Certain value X = inr (λ is. is.0)
optimistic_or Certain value Z = inr (λ is. is.0)
optimistic_or Certain Zero Zero = inr (λ is. is.1 refl)
optimistic_or Certain One Zero = inl (tt, λ e. cc)
optimistic_or Certain X Zero = inl (tt, λ e. cc)
optimistic_or Certain Z Zero = inl (tt, λ e. cc)
optimistic_or Certain Zero One = inl (tt, λ e. cc)
optimistic_or Certain One One = inr (λ is. is.1 refl)
optimistic_or Certain X One = inl (tt, λ e. cc)
optimistic_or Certain Z One = inl (tt, λ e. cc)

-- Either no place below n is listed, or there is a first one.
first_below : (shown : ℕ → Value) (waveform : List Written) (n : ℕ) → n ≤ length waveform
    → ((place : ℕ) × IsFirst shown waveform place) ⊎ ((k : ℕ) → k < n → IsListed shown waveform k → ⊥)
first_below shown waveform zero up = inr (λ k less is. omega (arith, less))
first_below shown waveform (suc n) up = more (first_below shown waveform n (omega (arith, up)))
    (optimistic_or (written_at waveform n).mark (written_at waveform n).value (shown n))
  where
    more : ((place : ℕ) × IsFirst shown waveform place) ⊎ ((k : ℕ) → k < n → IsListed shown waveform k → ⊥)
        → IsOptimisticAt shown waveform n ⊎ (IsOptimisticAt shown waveform n → ⊥)
        → ((place : ℕ) × IsFirst shown waveform place) ⊎ ((k : ℕ) → k < suc n → IsListed shown waveform k → ⊥)
    more (inl found) here = inl found
    more (inr none) (inl is) = inl (
      n,
      record {
        listed = record { within = omega (arith, up); otherwise = is };
        none =
            none;
      },
    )
    more (inr none) (inr not_here) = inr (λ k less is.
        ⊎_elim (λ (e : k ≡ n). not_here (subst (IsOptimisticAt shown waveform) e is.otherwise))
        (λ (e : k ≡ n → ⊥). none k (omega (arith, less, e)) is) (cases_eq k n))

first_of : (shown : ℕ → Value) (waveform : List Written) (k : ℕ) → IsListed shown waveform k
    → (place : ℕ) × IsFirst shown waveform place
first_of shown waveform k is =
    ⊎_elim (λ (found : (place : ℕ) × IsFirst shown waveform place). found)
    (λ (none : (i : ℕ) → i < length waveform → IsListed shown waveform i → ⊥). absurd (none k is.within is))
    (first_below shown waveform (length waveform) (omega arith))

pub some_listed : SomeListed
some_listed j shown waveform lines fits audited = (
  λ some. (
      let first = first_of shown waveform some.0 some.1 in
      let again = reshown_there shown waveform in
      let long = again.long in
      let within = first.1.listed.within in (
        lines,
        first.0,
        record {
          decide = all_decide j audited.limits audited.shown waveform lines fits audited.holds.yields audited.decided;
          limits = audited.limits;
          waveform = reshown shown waveform;
          yields = reshown_law j audited.limits audited.shown shown waveform (reshown shown waveform) lines fits again
              audited.holds.yields;
          first = first_same shown waveform (reshown shown waveform) first.0 (omega (arith, long, within))
              (λ k up. again.same k (omega (arith, up, within))) first.1;
        },
      )
      ),
  λ found. (
      let first = first_listed j shown waveform lines found.0 found.1 fits audited found.2 in (found.1, first.listed)
      ),
)
