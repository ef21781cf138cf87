-- A waveform that lines yield is sound where no place of it is optimistic, and a sound one has no optimistic place.
use Rattle.std.proofs.Common.{◌≡◌, ℕ, ◌<◌, Bool, List, [], ◌∷◌, ◌++◌, length, refl, sym, ap, ◌∙◌, arith, length-append, subst}
use Rattle.std.proofs.lemmas.List.{append-nil, append_assoc}
use Rattle.std.proofs.Math.ListN.{get_or-append}
use Rattle.std.proofs.Math.Seq.{get_or-append_seam}
use Rattle.design_cell.specs.declared.value.Value.{Value}
use Rattle.design_cell.specs.Value.{IsKnown}
use Rattle.design_circuit.specs.declared.waveform.Written.{Written}
use Rattle.design_circuit.specs.declared.waveform.Mark.{Mark}
use Rattle.design_circuit.specs.declared.waveform.Mark.TheVariants.{Certain, Unknown, Undecided}
use Rattle.design_circuit.specs.Job.{Job, places_of}
use Rattle.design_circuit.specs.Fits.{Fits}
use Rattle.design_circuit.specs.Waveform.{unwritten, written_at, certain, certain_by}
use Rattle.design_circuit.proofs.Rules.{AgreeBelow}
use Rattle.law_model.specs.Class.{class_of}
use Rattle.law_model.specs.Stated.{body_at}
use Rattle.law_model.specs.Yields.{written_by, Yields}
use Rattle.law_model.specs.Sound.{Sound, IsOptimistic, IsHonest}
use Rattle.law_model.specs.declared.class.ClassByNumber.{ClassByNumber}
use Rattle.law_model.specs.declared.class.ClassByNumber.TheVariants.{Local, Free, Carried, Line}
use Rattle.law_model.specs.declared.line.Line.{Line as ALine}
use Rattle.law_model.proofs.ClassesBefore.{class_local}
use Rattle.law_model.proofs.FactsBefore.{body_moved}
use Rattle.law_model.proofs.LinesByPlace.{line_found}
use Rattle.law_model.proofs.NextPlace.{LineHeld}
use Rattle.law_model.proofs.Roots.{carried_below}
use Rattle.law_model.proofs.SoundGrowth.{NextSound, sound_grown}
use Rattle.law_model.proofs.WrittenPlaces.{written_moved}
use Rattle.law_model.specs.declared.limits.Limits.{Limits}

certain_front : (front rest : List Written) → AgreeBelow (certain front) (certain (front ++ rest)) (length front)
unfolding certain
certain_front front rest k less = ap (λ (w : Written). certain_by w.mark w.value)
    (sym (get_or-append front rest unwritten k less))

held_by : (j : Job) (limits : Limits) (waveform : List Written) (lines : List ALine) (class : ClassByNumber)
    → (class ≡ Line → LineHeld j limits waveform lines Line) → LineHeld j limits waveform lines class
held_by j limits waveform lines (Local bit) line = tt
held_by j limits waveform lines Free line = tt
held_by j limits waveform lines (Carried from inverted) line = tt
held_by j limits waveform lines Line line = line refl

-- The place behind the first ones of a waveform that lines yield.
next_yielded : (j : Job) (limits : Limits) → Fits j
    → (shown : ℕ → Value) (front rest : List Written) (x : Written) (lines : List ALine)
    → Yields j limits shown (front ++ x ∷ rest) lines → IsHonest shown (front ++ x ∷ rest)
    → NextSound j limits shown front x lines lines
next_yielded j limits fits shown front rest x lines yields honest = record {
  within = within;
  same = λ k less. refl;
  held = held_by j limits front lines (class_of j (certain front) n) line;
  as_said = sym here ∙ yields.written n inside
      ∙ sym (written_moved (written_at front) (written_at whole) (class_of j (certain front) n) (body_at j lines n)
      (shown n) from_same ∙ ap (λ class. written_by (written_at whole) class (body_at j lines n) (shown n)) class_same);
  honest = subst (λ (w : Written). IsOptimistic w.mark w.value (shown n) → ⊥) here (honest n inside);
}
  where
    n : ℕ
    n = length front

    whole : List Written
    whole = front ++ x ∷ rest

    inside : n < length whole
    inside = let long = length-append front (x ∷ rest) in omega (arith, long)

    within : n < places_of j
    within = let all = yields.within in let less = inside in omega (arith, less, all)

    here : written_at whole n ≡ x
    here = get_or-append_seam front x rest unwritten

    agree : AgreeBelow (certain front) (certain whole) n
    agree = certain_front front (x ∷ rest)

    class_same : class_of j (certain front) n ≡ class_of j (certain whole) n
    class_same = class_local j fits (certain front) (certain whole) n within agree

    from_same : (from : ℕ) (inverted : Bool) → class_of j (certain front) n ≡ Carried from inverted
        → written_at front from ≡ written_at whole from
    from_same from inverted is = sym (get_or-append front (x ∷ rest) unwritten from
        (carried_below j fits (certain front) n from inverted within is))

    line : class_of j (certain front) n ≡ Line → LineHeld j limits front lines Line
    line is =
        let found = line_found j fits (certain whole) (length whole) n lines yields.within yields.places inside
        (sym class_same ∙ is) in (
          found.0,
          found.1,
          body_moved j limits fits whole front n found.0 within (λ k less. sym (agree k less))
              (yields.bodies n found.0 inside found.1),
        )

front_sound : (j : Job) (limits : Limits) → Fits j → (shown : ℕ → Value) (front rest : List Written) (lines : List ALine)
    → Yields j limits shown (front ++ rest) lines → IsHonest shown (front ++ rest) → Sound j limits shown front lines
    → Sound j limits shown (front ++ rest) lines
front_sound j limits fits shown front [] lines yields honest sound = subst (λ w. Sound j limits shown w lines)
    (sym (append-nil front)) sound
front_sound j limits fits shown front (x ∷ rest) lines yields honest sound =
    let whole : (front ++ x ∷ []) ++ rest ≡ front ++ x ∷ rest = append_assoc front (x ∷ []) rest in
    let grown : Sound j limits shown (front ++ x ∷ []) lines = sound_grown j limits fits shown front x lines lines sound
    (next_yielded j limits fits shown front rest x lines yields honest) in
    subst (λ w. Sound j limits shown w lines) whole
    (front_sound j limits fits shown (front ++ x ∷ []) rest lines
    (subst (λ w. Yields j limits shown w lines) (sym whole) yields) (subst (IsHonest shown) (sym whole) honest)
    grown)

pub empty_sound : (j : Job) (limits : Limits) (shown : ℕ → Value) (lines : List ALine) → Sound j limits shown [] lines
empty_sound j limits shown lines = record {
  within = omega arith;
  classes = λ place less. absurd (omega arith);
  exact = λ place less. absurd (omega arith);
  shows = record {
    known = λ place less known. absurd (omega arith);
    uncertain = λ place less mark. absurd (omega arith);
    open_ = λ place less mark known. omega arith;
  };
}

-- A waveform that lines yield is sound where no place of it is optimistic.
pub yielded_sound : (j : Job) (limits : Limits) → Fits j → (shown : ℕ → Value) (waveform : List Written) (lines : List ALine)
    → Yields j limits shown waveform lines → IsHonest shown waveform → Sound j limits shown waveform lines
yielded_sound j limits fits shown waveform lines yields honest = front_sound j limits fits shown [] waveform lines yields
    honest (empty_sound j limits shown lines)

not_optimistic : (mark : Mark) (value shown : Value) → (IsKnown shown → value ≡ shown)
    → (mark ≡ Unknown → IsKnown shown → ⊥) → IsOptimistic mark value shown → ⊥
not_optimistic Certain value shown known open_ is = is.1 (known is.0)
not_optimistic Unknown value shown known open_ is = open_ refl is
not_optimistic Undecided value shown known open_ is = is

-- No place of a sound waveform is optimistic.
pub sound_honest : (j : Job) (limits : Limits) (shown : ℕ → Value) (waveform : List Written) (lines : List ALine)
    → Sound j limits shown waveform lines → IsHonest shown waveform
sound_honest j limits shown waveform lines sound place less =
    not_optimistic (written_at waveform place).mark (written_at waveform place).value (shown place)
    (sound.shows.known place less) (sound.shows.open_ place less)
