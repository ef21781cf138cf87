-- The ways along lines from one start: of two along the same lines one goes on where the other ends.
use Rattle.std.proofs.Common.{◌≡◌, ◌⊎◌, inl, inr, ⊎_elim, ℕ, ◌<◌, ◌≤◌, List, [], ◌∷◌, ◌++◌, append-nil, append_assoc, length, length-append, map, refl, sym, subst, ap, ◌∙◌, arith}
use Rattle.std.proofs.lemmas.List.{append_cancel_left, nil_from_length}
use Rattle.std.specs.List.{AllByRecursion}
use Rattle.design_circuit.proofs.Rules.{AgreeBelow}
use Rattle.design_circuit.specs.declared.waveform.Written.{Written}
use Rattle.design_circuit.specs.Job.{Job, number_of}
use Rattle.design_circuit.specs.Waveform.{certain}
use Rattle.law_model.proofs.FactsBefore.{certain_grown}
use Rattle.law_model.proofs.LinesByPlace.{numbers_back}
use Rattle.law_model.proofs.PlacesWhere.{picked_below}
use Rattle.law_model.specs.Class.{class_of}
use Rattle.law_model.specs.Yields.{is_line, line_places, places_of_lines}
use Rattle.law_model.specs.declared.class.Class.TheVariants as seen
use Rattle.law_model.specs.declared.line.Line.{Line as ALine}
use Rattle.wave_proved.specs.Advance.{Contradicts, IsPlain, plain_written, with_written}
use Rattle.wave_proved.specs.Contents.{Contents, IsWave, job, next_seen}
use Rattle.wave_proved.specs.Token.{IsLineNext, LineAgrees, with_line, written_by_line}
use Rattle.law_along.proofs.Fitted.{along_job}
use Rattle.law_along.specs.Accepted.{AcceptsLine}
use Rattle.law_along.specs.Along.{GoesAlong, by_class, by_line}
use Rattle.law_along.specs.Along as walk
use Rattle.cert_writer.specs.declared.cert.Entry.{Entry}
use Rattle.cert_writer.specs.declared.cert.Entry.TheVariants.{Line}
use Rattle.cert_writer.specs.declared.cert.Form.{Form}
use Rattle.cert_check.specs.Entries.{EachHasTurns, lines_in, turns_in_front}
use Rattle.cert_check.specs.Walk.{IsUpTo}
use Rattle.cert_check.proofs.TurnCounts.{AreBelow, BeginsWith, GoesOnBy, begins_with, each_behind_all, each_long, goes_on_by, lines_append, no_entries, span_append, span_of, span_there}

-- The first place on a way, and how it is written.
pub data FirstStep (a : Contents) : Contents → Type 0 where
  of_class : IsPlain (next_seen a) → (Contradicts a (plain_written a) → ⊥)
      → FirstStep a (with_written a (plain_written a))
  of_line : (l : ALine) → IsLineNext a → AcceptsLine a l → LineAgrees a l → FirstStep a (with_line a l)

pub record Begins (a c : Contents) : Type 0 where
  pub b : Contents
  pub step : FirstStep a b
  pub more : GoesAlong b c

begun_class : (a d : Contents) → d ≡ a → IsPlain (next_seen d) → (Contradicts d (plain_written d) → ⊥)
    → Begins a (with_written d (plain_written d))
begun_class a d same =
    subst (λ x. IsPlain (next_seen x) → (Contradicts x (plain_written x) → ⊥)
    → Begins a (with_written x (plain_written x))) (sym same)
    (λ plain agrees. record { b = with_written a (plain_written a); step = of_class plain agrees; more = walk.stays })

begun_line : (a d : Contents) (l : ALine) → d ≡ a → IsLineNext d → AcceptsLine d l → LineAgrees d l
    → Begins a (with_line d l)
begun_line a d l same =
    subst (λ x. IsLineNext x → AcceptsLine x l → LineAgrees x l → Begins a (with_line x l)) (sym same)
    (λ next accepts agrees. record { b = with_line a l; step = of_line l next accepts agrees; more = walk.stays })

pub begins : (a c : Contents) → GoesAlong a c → (c ≡ a) ⊎ Begins a c
begins a c walk.stays = inl refl
begins a c (by_class {c = d} goes plain agrees) =
    ⊎_elim (λ (same : d ≡ a). inr (begun_class a d same plain agrees))
    (λ (begun : Begins a d). inr (record { b = begun.b; step = begun.step; more = by_class begun.more plain agrees }))
    (begins a d goes)
begins a c (by_line {c = d} goes l next accepts agrees) =
    ⊎_elim (λ (same : d ≡ a). inr (begun_line a d l same next accepts agrees))
    (λ (begun : Begins a d). inr (record {
      b = begun.b;
      step = begun.step;
      more = by_line begun.more l next accepts
          agrees;
    })) (begins a d goes)

-- Its lines stand after those of its start.
pub record Longer (a b : Contents) : Type 0 where
  pub more : List ALine
  pub is : b.lines ≡ a.lines ++ more

pub along_lines : (a b : Contents) → GoesAlong a b → Longer a b
along_lines a b walk.stays = record { more = []; is = sym (append-nil a.lines) }
along_lines a b (by_class {c = d} goes plain agrees) = let l = along_lines a d goes in record {
  more = l.more;
  is = l.is;
}
along_lines a b (by_line {c = d} goes l next accepts agrees) =
    let before = along_lines a d goes in
    record {
      more = before.more ++ l ∷ [];
      is = ap (λ ls. ls ++ l ∷ []) before.is
          ∙ append_assoc a.lines before.more (l ∷ []);
    }

pub plain_line : (c : Contents) → IsPlain (next_seen c) → IsLineNext c → ⊥
plain_line c plain next = subst IsPlain next plain

pub plain_done : (c : Contents) → IsPlain (next_seen c) → next_seen c ≡ seen.Done → ⊥
plain_done c plain done = subst IsPlain done plain

pub line_done : (c : Contents) → IsLineNext c → next_seen c ≡ seen.Done → ⊥
line_done c next done = absurd cc

-- A step by a line takes the first of the lines that are left.
record TakesFirst (a : Contents) (rest : List ALine) (l : ALine) : Type 0 where
  others : List ALine
  is : rest ≡ l ∷ others

takes_first : (a c : Contents) (l : ALine) (rest s : List ALine) → GoesAlong (with_line a l) c
    → a.lines ++ rest ≡ c.lines ++ s
    → TakesFirst a rest l
takes_first a c l rest s goes is =
    let longer = along_lines (with_line a l) c goes in
    record {
      others = longer.more ++ s;
      is = append_cancel_left a.lines rest (l ∷ (longer.more ++ s))
          (is ∙ (ap (λ ls. ls ++ s) longer.is ∙ (append_assoc (a.lines ++ l ∷ []) longer.more s
          ∙ append_assoc a.lines (l ∷ []) (longer.more ++ s))));
    }

same_first : (l k : ALine) (ls ks : List ALine) → l ∷ ls ≡ k ∷ ks → k ≡ l
same_first l k ls ks is = cc

no_lines : (l : ALine) (ls : List ALine) → [] ≡ l ∷ ls → ⊥
no_lines l ls is = absurd cc

-- Of two ways from one start along the same lines one goes on where the other ends.
pub class_step : (d b c : Contents) → IsPlain (next_seen d) → FirstStep d b → GoesAlong b c
    → GoesAlong (with_written d (plain_written d)) c
class_step d b c plain (of_class p g) more = more
class_step d b c plain (of_line l next accepts agrees) more = absurd (plain_line d plain next)

pub line_step : (d b c : Contents) (l : ALine) (r s : List ALine) → IsLineNext d → FirstStep d b → GoesAlong b c
    → d.lines ++ l ∷ r ≡ c.lines ++ s → GoesAlong (with_line d l) c
line_step d b c l r s next (of_class plain g) more is = absurd (plain_line d plain next)
line_step d b c l r s next (of_line k there accepts agrees) more is =
    let first = takes_first d c k (l ∷ r) s more is in
    subst (λ x. GoesAlong (with_line d x) c) (same_first l k r first.others first.is) more

pub one_way : (a b c : Contents) (r s : List ALine) → GoesAlong a b → GoesAlong a c → b.lines ++ r ≡ c.lines ++ s
    → GoesAlong b c ⊎ GoesAlong c b
one_way a b c r s walk.stays second is = inl second
one_way a b c r s (by_class {c = d} goes plain agrees) second is =
    let next = with_written d (plain_written d) in
    ⊎_elim (λ (up : GoesAlong d c).
    ⊎_elim (λ (same : c ≡ d). inr (subst (λ x. GoesAlong x next) (sym same) (by_class walk.stays plain agrees)))
    (λ (begun : Begins d c). inl (class_step d begun.b c plain begun.step begun.more)) (begins d c up))
    (λ (back : GoesAlong c d). inr (by_class back plain agrees))
    (one_way a d c r s goes second is)
one_way a b c r s (by_line {c = d} goes l next accepts agrees) second is =
    let parted : d.lines ++ l ∷ r ≡ c.lines ++ s = sym (append_assoc d.lines (l ∷ []) r) ∙ is in
    ⊎_elim (λ (up : GoesAlong d c).
    ⊎_elim (λ (same : c ≡ d). inr (subst (λ x. GoesAlong x (with_line d l)) (sym same)
    (by_line walk.stays l next accepts agrees)))
    (λ (begun : Begins d c). inl (line_step d begun.b c l r s next begun.step begun.more parted)) (begins d c up))
    (λ (back : GoesAlong c d). inr (by_line back l next accepts agrees))
    (one_way a d c (l ∷ r) s goes second parted)

-- What is written stays along a way.
pub record GrowsAlong (b c : Contents) : Type 0 where
  pub agree : AgreeBelow (certain b.written) (certain c.written) (length b.written)
  pub longer : length b.written ≤ length c.written
  pub limits : c.limits ≡ b.limits

grows_more : (b c : Contents) (w : Written) (lines : List ALine) → GrowsAlong b c
    → GrowsAlong b (record c { written = c.written ++ w ∷ []; lines = lines })
grows_more b c w lines before =
    let up = before.longer in
    let long = length-append c.written (w ∷ []) in
    record {
      agree = λ k less. before.agree k less ∙ certain_grown c.written w k (omega (arith, less, up));
      longer = omega (arith, up, long);
      limits = before.limits;
    }

pub grows_along : {b c : Contents} → GoesAlong b c → GrowsAlong b c
grows_along walk.stays = record { agree = λ k less. refl; longer = omega arith; limits = refl }
grows_along {b} (by_class {c = d} goes plain agrees) = grows_more b d (plain_written d) d.lines (grows_along goes)
grows_along {b} (by_line {c = d} goes l next accepts agrees) =
    grows_more b d (written_by_line d l) (d.lines ++ l ∷ []) (grows_along goes)

-- The lines of a wave are of places that are written.
below_each : (j : Job) (n : ℕ) (lines : List ALine) → AllByRecursion (λ k. k < n) (map (number_of j)
    (places_of_lines lines))
    → AreBelow j n lines
below_each j n [] all = tt
below_each j n (line ∷ lines) all = (all.0, below_each j n lines all.1)

pub lines_below : (c : Contents) → IsWave c → AreBelow (job c) (length c.written) c.lines
lines_below c wave =
    let j = job c in
    let numbers : List ℕ = line_places j (certain c.written) (length c.written) in
    let below = picked_below (λ place. is_line (class_of j (certain c.written) place)) (length c.written) in
    below_each j (length c.written) c.lines
    (subst (AllByRecursion (λ k. k < length c.written))
    (sym (ap (map (number_of j)) wave.holds.yields.places
    ∙ numbers_back j wave.fits.fits_job (length c.written) numbers wave.holds.yields.within below)) below)

-- How many lines of the text a wave came along.
pub up_lines : (form : Form) (start : Contents) (done : List Entry) (c : Contents) → start.lines ≡ []
    → IsUpTo form start done c
    → c.lines ≡ lines_in done
up_lines form start done c none up = up.lines ∙ ap (λ ls. ls ++ lines_in done) none

pub up_long : (form : Form) (start : Contents) (done : List Entry) (c : Contents) → start.lines ≡ []
    → IsUpTo form start done c
    → length done ≡ span_of form (job c) c.written c.lines
up_long form start done c none up =
    let long = each_long form (job c) c.limits.conflicts c.written done up.turned.each in
    let front = ap length up.turned.none_in_front in
    let same = ap (span_of form (job c) c.written) (up_lines form start done c none up) in
    omega (arith, long, front, same)

-- A wave that came along lines of a text, and one that went on from it along more.
pub record IsAhead (b c : Contents) (done dun rest rust : List Entry) : Type 0 where
  pub on : GoesOnBy done dun rest rust
  pub none : turns_in_front on.extra ≡ []
  pub lines : c.lines ≡ b.lines ++ lines_in on.extra

pub ahead : (form : Form) (start b c : Contents) (done dun rest rust : List Entry) → start.lines ≡ []
    → IsUpTo form start done b
    → IsUpTo form start dun c → GoesAlong b c → done ++ rest ≡ dun ++ rust → IsAhead b c done dun rest rust
ahead form start b c done dun rest rust none up_b up_c goes parted = record {
  on = on;
  none = front;
  lines = lines;
}
  where
    j : Job
    j = job b

    grow : GrowsAlong b c
    grow = grows_along goes

    more : Longer b c
    more = along_lines b c goes

    spans : (ls : List ALine) → span_of form (job c) c.written ls ≡ span_of form j c.written ls
    spans ls = ap (λ i. span_of form i c.written ls) (along_job goes)

    before : span_of form j b.written b.lines ≡ span_of form j c.written b.lines
    before = span_there j up_b.wave.fits.fits_job b.written c.written (length b.written) up_b.wave.holds.yields.within
        grow.agree form
        b.lines (lines_below b up_b.wave)

    long_c : length dun ≡ span_of form j c.written c.lines
    long_c = up_long form start dun c none up_c ∙ spans c.lines

    on : GoesOnBy done dun rest rust
    on =
        let long_b = up_long form start done b none up_b in
        let sum = ap (span_of form j c.written) more.is ∙ span_append form j c.written b.lines more.more in
        goes_on_by done dun rest rust parted (omega (arith, long_b, long_c, before, sum))

    lines : c.lines ≡ b.lines ++ lines_in on.extra
    lines =
        up_lines form start dun c none up_c
        ∙ (ap lines_in on.longer_is
        ∙ (lines_append done on.extra ∙ ap (λ ls. ls ++ lines_in on.extra) (sym (up_lines form start done b none
        up_b))))

    each : EachHasTurns form (job c) c.limits.conflicts c.written on.extra
    each = each_behind_all form (job c) c.limits.conflicts c.written done on.extra
        (subst (EachHasTurns form (job c) c.limits.conflicts c.written) on.longer_is up_c.turned.each)

    front : turns_in_front on.extra ≡ []
    front =
        let long_b = up_long form start done b none up_b in
        let long_dun = ap length on.longer_is ∙ length-append done on.extra in
        let long_extra = each_long form (job c) c.limits.conflicts c.written on.extra each in
        let span_extra = spans (lines_in on.extra) in
        let sum = ap (span_of form j c.written) lines ∙ span_append form j c.written b.lines (lines_in on.extra) in
        nil_from_length (turns_in_front on.extra) (omega (
          arith,
          long_b,
          long_c,
          before,
          sum,
          long_dun,
          long_extra,
          span_extra,
        ))

-- It is the same wave, or it went on by a place whose class says what it is, or by the next line of the text.
pub at_once : (b c : Contents) (done dun rest rust : List Entry) → b.lines ≡ c.lines → IsAhead b c done dun rest rust
    → (dun ≡ done) × (rest ≡ rust)
at_once b c done dun rest rust same far =
    let none : lines_in far.on.extra ≡ [] =
    append_cancel_left b.lines (lines_in far.on.extra) [] (sym far.lines ∙ (sym same ∙ sym (append-nil b.lines))) in
    let empty : far.on.extra ≡ [] = no_entries far.on.extra far.none none in
    (far.on.longer_is ∙ (ap (λ es. done ++ es) empty ∙ append-nil done), far.on.rest_is ∙ ap (λ es. es ++ rust) empty)

pub record FirstIs (b : Contents) (l : ALine) (extra rest rust : List Entry) : Type 0 where
  pub lines : List ALine
  pub begins : BeginsWith extra l lines
  pub rest_is : rest ≡ Line l ∷ (begins.others ++ rust)

pub line_first : (b c : Contents) (l : ALine) (done dun rest rust : List Entry) → GoesAlong (with_line b l) c
    → (far : IsAhead b c done dun rest rust) → FirstIs b l far.on.extra rest rust
line_first b c l done dun rest rust goes far =
    let longer = along_lines (with_line b l) c goes in
    let lines : lines_in far.on.extra ≡ l ∷ longer.more =
    append_cancel_left b.lines (lines_in far.on.extra) (l ∷ longer.more)
    (sym far.lines ∙ (longer.is ∙ append_assoc b.lines (l ∷ []) longer.more)) in
    let first = begins_with far.on.extra l longer.more far.none lines in
    record {
      lines = longer.more;
      begins = first;
      rest_is = far.on.rest_is ∙ ap (λ es. es ++ rust) first.is;
    }
