-- The first listed place is the first one that lists of lines without an undecided body meet.
use Rattle.std.proofs.Common.{◌≡◌, ◌≢◌, ◌⊎◌, ℕ, zero, suc, ◌<◌, ◌≤◌, Bool, true, false, List, [], ◌∷◌, ◌++◌, length, refl, sym, ap, ◌∙◌, subst, arith, inl, inr, ⊎_elim}
use Rattle.std.proofs.lemmas.Bool.{cases_eq, cases_lt}
use Rattle.design_cell.specs.declared.value.Value.{Value}
use Rattle.design_cell.specs.declared.value.Value.TheVariants.{Zero, One, X, Z}
use Rattle.design_circuit.specs.declared.place.Place.{Place}
use Rattle.design_circuit.specs.declared.waveform.Mark.{Mark}
use Rattle.design_circuit.specs.declared.waveform.Mark.TheVariants.{Certain, Unknown, Undecided}
use Rattle.design_circuit.specs.Fits.{Fits, place_at}
use Rattle.design_circuit.specs.Handed.{shown_of}
use Rattle.design_circuit.specs.History.{HistoryView}
use Rattle.design_circuit.specs.Job.{number_of, places_of}
use Rattle.design_circuit.specs.Waveform.{written_at}
use Rattle.design_circuit.proofs.Handed.{number_within}
use Rattle.design_circuit.proofs.Numbers.{number_of_place_at}
use Rattle.law_waveforms.specs.Audit.{IsAudited, IsFirst, IsListed, MeetsFirst}
use Rattle.law_waveforms.proofs.Audits.{first_listed, some_listed}
use Rattle.law_model.specs.Sound.{IsDecided, IsOptimistic}
use Rattle.law_model.specs.declared.line.Line.{Line as ALine}
use Rattle.design_circuit.proofs.PlaceNumbers.{place_back}
use Rattle.wave_proved.specs.Contents.{Contents, IsWave, job, shown_in, written_of}
use Rattle.report_audit.specs.First.{BeginsAt, ListedLaw, MeetFirst}
use Rattle.report_audit.specs.Found.{AreFound, listed_below, listed_if}
use Rattle.report_audit.specs.Listed.{IsAudit, is_listed, lists, replayed_at}
use Rattle.report_audit.specs.declared.found.Found.{Found}

-- What the test of a listed place says.
listed_so : (mark : Mark) (value shown : Value) → lists mark value shown ≡ true → IsOptimistic mark value shown
listed_so Certain value X told = cc
listed_so Certain value Z told = cc
listed_so Certain Zero Zero told = cc
listed_so Certain One Zero told = (tt, λ (e : One ≡ Zero). cc)
listed_so Certain X Zero told = (tt, λ (e : X ≡ Zero). cc)
listed_so Certain Z Zero told = (tt, λ (e : Z ≡ Zero). cc)
listed_so Certain Zero One told = (tt, λ (e : Zero ≡ One). cc)
listed_so Certain One One told = cc
listed_so Certain X One told = (tt, λ (e : X ≡ One). cc)
listed_so Certain Z One told = (tt, λ (e : Z ≡ One). cc)
listed_so Unknown value Zero told = tt
listed_so Unknown value One told = tt
listed_so Unknown value X told = cc
listed_so Unknown value Z told = cc
listed_so Undecided value shown told = cc

not_listed_so : (mark : Mark) (value shown : Value) → lists mark value shown ≡ false → IsOptimistic mark value shown → ⊥
not_listed_so Certain value X told is = is.0
not_listed_so Certain value Z told is = is.0
not_listed_so Certain Zero Zero told is = is.1 refl
not_listed_so Certain One Zero told is = cc
not_listed_so Certain X Zero told is = cc
not_listed_so Certain Z Zero told is = cc
not_listed_so Certain Zero One told is = cc
not_listed_so Certain One One told is = is.1 refl
not_listed_so Certain X One told is = cc
not_listed_so Certain Z One told is = cc
not_listed_so Unknown value Zero told is = cc
not_listed_so Unknown value One told is = cc
not_listed_so Unknown value X told is = is
not_listed_so Unknown value Z told is = is
not_listed_so Undecided value shown told is = is

module _ (c : Contents) (replayed : HistoryView) where
  abbrev told_at : ℕ → Bool
  told_at n = is_listed c replayed (place_at (job c) n)

  -- The list of the listed places among the first n begins with the least of them.
  record BeginsWith (n number : ℕ) : Type 0 where
    less : number < n
    told : told_at number ≡ true
    none : (k : ℕ) → k < number → told_at k ≡ false
    rest : List Place
    is : listed_below c replayed n ≡ place_at (job c) number ∷ rest

  record NoneBelow (n : ℕ) : Type 0 where
    none : (k : ℕ) → k < n → told_at k ≡ false
    is : listed_below c replayed n ≡ []

  first_told : (n : ℕ) → NoneBelow n ⊎ ((number : ℕ) × BeginsWith n number)
  first_told zero = inl (record { none = λ k less. absurd (omega (arith, less)); is = refl })
  first_told (suc n) = ⊎_elim (λ (before : NoneBelow n). by (told_at n) refl before)
      (λ (before : (number : ℕ) × BeginsWith n number). inr (before.0, more before.0 before.1)) (first_told n)
    where
      more : (number : ℕ) → BeginsWith n number → BeginsWith (suc n) number
      more number before = record {
        less = (let low = before.less in omega (arith, low));
        told = before.told;
        none = before.none;
        rest = before.rest ++ listed_if (told_at n) (place_at (job c) n);
        is = ap (λ (l : List Place). l ++ listed_if (told_at n) (place_at (job c) n)) before.is;
      }

      by : (b : Bool) → told_at n ≡ b → NoneBelow n → NoneBelow (suc n) ⊎ ((number : ℕ) × BeginsWith (suc n) number)
      by true told before = inr (
        n,
        record {
          less = omega arith;
          told = told;
          none = before.none;
          rest = [];
          is = ap (λ (l : List Place). l ++ listed_if (told_at n) (place_at (job c) n)) before.is
              ∙ ap (λ (b : Bool). listed_if b (place_at (job c) n)) told;
        },
      )
      by false told before = inl (record {
        none = λ k less. ⊎_elim (λ (low : k < n). before.none k low)
            (λ (up : n ≤ k). (let same : k ≡ n = omega (arith, less, up) in ap told_at same ∙ told)) (cases_lt k n);
        is = ap (λ (l : List Place). l ++ listed_if (told_at n) (place_at (job c) n)) before.is
            ∙ ap (λ (b : Bool). listed_if b (place_at (job c) n)) told;
      })

  module _ (wave : IsWave c) (audit : IsAudit c replayed) where
    abbrev shown : ℕ → Value
    shown = shown_of (job c) replayed

    number_at : (k : ℕ) → k < places_of (job c) → number_of (job c) (place_at (job c) k) ≡ k
    number_at k less = number_of_place_at (job c) k wave.fits.fits_job.ordering wave.fits.fits_job.all less

    is_told : (k : ℕ) → k < places_of (job c) → told_at k ≡ true → IsListed shown c.written k
    is_told k less told = record {
      within = (let all = audit.finished in omega (arith, all, less));
      otherwise = subst (λ (n : ℕ). IsOptimistic (written_at c.written n).mark (written_at c.written n).value (shown k))
          (number_at k less)
          (listed_so (written_at c.written (number_of (job c) (place_at (job c) k))).mark
          (written_at c.written (number_of (job c) (place_at (job c) k))).value (shown k) told);
    }

    not_told : (k : ℕ) → told_at k ≡ false → IsListed shown c.written k → ⊥
    not_told k told is =
        let inside = is.within in
        let all = audit.finished in
        let less : k < places_of (job c) = omega (arith, inside, all) in
        not_listed_so (written_at c.written (number_of (job c) (place_at (job c) k))).mark
        (written_at c.written (number_of (job c) (place_at (job c) k))).value (shown k) told
        (subst (λ (n : ℕ). IsOptimistic (written_at c.written n).mark (written_at c.written n).value (shown k))
        (sym (number_at k less)) is.otherwise)

    -- Where the list begins, the audit lists its first place.
    begins_at : (number first : ℕ) → BeginsWith (places_of (job c)) first → IsFirst shown c.written number → number ≡ first
    begins_at number first begins is = ⊎_elim (λ (same : number ≡ first). same)
        (λ (apart : number ≢ first). ⊎_elim
        (λ (low : number < first). absurd (not_told number (begins.none number low) is.listed))
        (λ (up : first ≤ number). absurd (is.none first (omega (arith, apart, up))
        (is_told first begins.less begins.told))) (cases_lt number first)) (cases_eq number first)

    listed_begins : (number : ℕ) (places : List Place) (listed : List Found) → number < places_of (job c)
        → AreFound c replayed (place_at (job c) number ∷ places) listed → BeginsAt (job c) listed number
    listed_begins number places [] less are = absurd are
    listed_begins number places (found ∷ listed) less are =
        ap (number_of (job c)) are.0.place_is ∙ number_at number less

    some_found : (place : Place) (places : List Place) (listed : List Found) → AreFound c replayed (place ∷ places) listed
        → 0 < length listed
    some_found place places [] are = absurd are
    some_found place places (found ∷ listed) are = omega arith

    none_found : (listed : List Found) → AreFound c replayed [] listed → 0 < length listed → ⊥
    none_found [] are some = omega (arith, some)
    none_found (found ∷ listed) are some = are

    audited : IsDecided c.written → IsAudited (job c) c.written c.lines
    audited decided = record {
      limits = c.limits;
      shown = shown_in c;
      holds = wave.holds;
      whole = audit.finished;
      decided = decided;
    }

    pub met_first : (listed : List Found) → AreFound c replayed (listed_below c replayed (places_of (job c))) listed
        → MeetFirst c replayed listed
    met_first listed are decided = record {
      first = λ lines number meets. first lines number meets (first_told (places_of (job c)));
      some = (λ more. some more (first_told (places_of (job c))), λ met. back met.0 met.1 met.2 (first_told (places_of (job c))));
    }
      where
        fits : Fits (job c)
        fits = wave.fits.fits_job

        first : (lines : List ALine) (number : ℕ) → MeetsFirst (job c) shown lines number
            → NoneBelow (places_of (job c)) ⊎ ((n : ℕ) × BeginsWith (places_of (job c)) n) → BeginsAt (job c) listed number
        first lines number meets (inl none) =
            let is = first_listed (job c) shown c.written c.lines lines number fits (audited decided) meets in
            let inside = is.listed.within in
            let all = audit.finished in
            absurd (not_told number (none.none number (omega (arith, inside, all))) is.listed)
        first lines number meets (inr begins) =
            let is = first_listed (job c) shown c.written c.lines lines number fits (audited decided) meets in
            let same = begins_at number begins.0 begins.1 is in
            subst (BeginsAt (job c) listed) (sym same) (listed_begins begins.0 begins.1.rest listed begins.1.less
            (subst (λ (places : List Place). AreFound c replayed places listed) begins.1.is are))

        some : 0 < length listed → NoneBelow (places_of (job c)) ⊎ ((n : ℕ) × BeginsWith (places_of (job c)) n)
            → (lines : List ALine) × (number : ℕ) × MeetsFirst (job c) shown lines number
        some more (inl none) = absurd (none_found listed
            (subst (λ (places : List Place). AreFound c replayed places listed) none.is are) more)
        some more (inr begins) =
            (some_listed (job c) shown c.written c.lines fits (audited decided)).0
            (begins.0, is_told begins.0 begins.1.less begins.1.told)

        back : (lines : List ALine) (number : ℕ) → MeetsFirst (job c) shown lines number
            → NoneBelow (places_of (job c)) ⊎ ((n : ℕ) × BeginsWith (places_of (job c)) n) → 0 < length listed
        back lines number meets (inl none) =
            let is = first_listed (job c) shown c.written c.lines lines number fits (audited decided) meets in
            let inside = is.listed.within in
            let all = audit.finished in
            absurd (not_told number (none.none number (omega (arith, inside, all))) is.listed)
        back lines number meets (inr begins) = some_found (place_at (job c) begins.0) begins.1.rest listed
            (subst (λ (places : List Place). AreFound c replayed places listed) begins.1.is are)

-- The test of a listed place says that it is listed.
pub listed_law : ListedLaw
listed_law c replayed place wave audit within = (
  λ told. record {
    within = (
        let low = number_within (job c) wave.fits.fits_job place within in
        let all = audit.finished in omega (arith, low, all));
    otherwise = subst (λ (v : Value). IsOptimistic (written_of c place).mark (written_of c place).value v) again
        (listed_so (written_of c place).mark (written_of c place).value (replayed_at replayed place) told);
  },
  λ is. by (is_listed c replayed place) refl (subst (λ (v : Value). IsOptimistic (written_of c place).mark (written_of c place).value v)
      (sym again) is.otherwise),
)
  where
    again : replayed_at replayed place ≡ shown_of (job c) replayed (number_of (job c) place)
    again = ap (λ (p : Place). replayed_at replayed p) (sym (place_back (job c) wave.fits.fits_job place within))

    by : (b : Bool) → is_listed c replayed place ≡ b
        → IsOptimistic (written_of c place).mark (written_of c place).value (replayed_at replayed place) → is_listed c replayed place ≡ true
    by true told is = told
    by false told is =
        absurd (not_listed_so (written_of c place).mark (written_of c place).value (replayed_at replayed place) told is)
