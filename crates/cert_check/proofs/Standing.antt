-- Where a walk stands after each step, and its fault where it can't go on.
use Rattle.std.proofs.Common.{◌≡◌, ℕ, ◌+◌, ◌<◌, true, false, Option, None, Some, List, [], ◌∷◌, ◌++◌, append-nil, append_assoc, length, map, slice_index_or, refl, sym, subst, ap, ◌∙◌, arith}
use Rattle.std.proofs.lemmas.List.{map-append}
use Rattle.std.proofs.Math.Seq.{get_or-append_seam}
use Rattle.std.proofs.lemmas.List.{length-append}
use Rattle.design_circuit.proofs.Numbers.{number_of_place_at}
use Rattle.design_circuit.specs.declared.place.Place.{Place}
use Rattle.design_circuit.specs.Job.{Job, number_of}
use Rattle.law_model.specs.declared.line.Line.{Line as ALine}
use Rattle.law_model.specs.declared.turn.TurnLine.{TurnLine}
use Rattle.wave_proved.specs.Advance.{GoesOn, IfObjects, IsObjected, more, plain_written, stays}
use Rattle.wave_proved.specs.declared.advance.AdvanceErr.{AdvanceErr}
use Rattle.wave_proved.specs.declared.advance.AdvanceErr.TheVariants as stopped
use Rattle.wave_proved.specs.Contents.{Contents, IsFinished, IsWave, job, next_number, shown_in}
use Rattle.wave_proved.specs.Token.{IsLineNext, LineAgrees, with_line, written_by_line}
use Rattle.wave_proved.specs.declared.advance.Optimistic.{Optimistic}
use Rattle.law_along.proofs.Fitted.{along, goes_along}
use Rattle.law_along.proofs.GoingWaves.{goes_wave}
use Rattle.law_along.specs.Accepted.{AcceptsLine}
use Rattle.law_along.specs.Along.{by_line}
use Rattle.law_along.specs.Along as walk
use Rattle.cert_turns.specs.OfCone.{IsGrown}
use Rattle.cert_turns.specs.View.{ConditionView, IsConditionOf}
use Rattle.cert_turns.proofs.StayingConditions.{conditions_stay}
use Rattle.cert_turns.specs.Conditions.{AreConditionsOf, IsConditionAt, IsCertainLine, gives_bit, settled_places}
use Rattle.cert_turns.specs.Laws.{StatesTurns}
use Rattle.cert_turns.specs.TurnLines.{IsNoTurn, IsTaken, stated, turn_lines, turn_places}
use Rattle.cert_turns.proofs.SettledLines.{settled_at}
use Rattle.cert_turns.proofs.StatedTurns.{states_turns}
use Rattle.law_waveforms.proofs.Alikes.{alike_law, one_law}
use Rattle.cert_writer.specs.declared.cert.Entry.{Entry}
use Rattle.cert_writer.specs.declared.cert.Entry.TheVariants.{Line, Turn}
use Rattle.cert_writer.specs.declared.cert.Form.{Form}
use Rattle.cert_writer.specs.declared.cert.Form.TheVariants.{Lines, Turns}
use Rattle.cert_check.specs.Entries.{AreConditionsFor, AreTurnedIn, entries_of, lines_in}
use Rattle.cert_check.specs.Words.{stopped_by}
use Rattle.cert_check.specs.Standing.{ComesAmid, EndsAmid, EndsFrom, IsAmid, IsBehind, IsBetween, IsDone, Stands, StandsAt, StopsAt, Takes}
use Rattle.cert_check.specs.declared.walked.Walked.{Walked}
use Rattle.cert_check.specs.Walk.{IsCertFault, IsFirstCertFault, IsUpTo, LacksTurn, class_objects, due_line, line, no_memory, turn}
use Rattle.cert_check.specs.Walk.{with_turns}
use Rattle.cert_check.specs.declared.refusal.CertFault.TheVariants.{BadTurn}
use Rattle.cert_check.specs.declared.refusal.CheckErr.{CheckErr}
use Rattle.cert_check.specs.declared.refusal.CheckErr.TheVariants.{Refused, Optimistic as Objects}
use Rattle.cert_check.proofs.OwnEntries.{conditions_turned, conditions_unturned, more_plain, more_turned, more_unturned, own_lines, own_turned}

-- Where no condition is under way, and where one is.
pub between_there : (form : Form) (start : Contents) (done : List Entry) (c : Contents) (views : List ConditionView)
    (under_way : Option ConditionView) → under_way ≡ None → StandsAt form start done c views under_way
    → IsBetween form start done c views
between_there form start done c views under_way is stands = subst (StandsAt form start done c views) is stands

pub amid_there : (form : Form) (start : Contents) (done : List Entry) (c : Contents) (views : List ConditionView)
    (under_way : Option ConditionView) (view : ConditionView) → under_way ≡ Some view
    → StandsAt form start done c views under_way → (form ≡ Turns) × IsAmid start done c views view
amid_there form start done c views under_way view is stands = subst (StandsAt form start done c views) is stands

-- A wave that stands between lines has come along them.
pub up_to : (form : Form) (start : Contents) (done : List Entry) (c : Contents) (views : List ConditionView)
    → IsBetween form start done c views → IsUpTo form start done c
up_to form start done c views is = record {
  goes = is.goes;
  wave = is.wave;
  lines =
      sym (ap lines_in is.done_is ∙ own_lines c.lines views) ∙ sym (ap (λ ls. ls ++ lines_in done) is.none);
  turned = subst (AreTurnedIn form c) (sym is.done_is) (own_turned form c views is.conditions_are);
}

-- Conditions stay as a wave grows.
pub conditions_still : (c d : Contents) (places : List Place) (views : List ConditionView) → IsGrown c d
    → d.limits ≡ c.limits
    → IsWave d → AreConditionsOf c places views → AreConditionsOf d places views
conditions_still c d [] [] grown limits wave are = tt
conditions_still c d [] (v ∷ views) grown limits wave are = absurd are
conditions_still c d (p ∷ places) [] grown limits wave are = absurd are
conditions_still c d (p ∷ places) (v ∷ views) grown limits wave are = (
  record {
    is = subst (λ (j : Job). IsConditionOf d (number_of j p) v) (sym grown.same)
        (conditions_stay c d (number_of (job c) p) v grown limits wave are.0.is);
    none_due = are.0.none_due;
  },
  conditions_still c d places views grown limits wave are.1,
)

grown_on : (a b : Contents) → GoesOn a b → IsGrown a b
grown_on a b stays = record { same = refl; more = []; written = sym (append-nil a.written) }
grown_on a b (more {c = c} goes plain agrees) =
    let before = grown_on a c goes in
    record {
      same = before.same;
      more = before.more ++ plain_written c ∷ [];
      written = ap (λ ws. ws ++ plain_written c ∷ []) before.written ∙ append_assoc a.written before.more
          (plain_written c ∷ []);
    }

pub lines_on : {a b : Contents} → GoesOn a b → b.lines ≡ a.lines
lines_on stays = refl
lines_on (more goes plain agrees) = lines_on goes

limits_on : {a b : Contents} → GoesOn a b → b.limits ≡ a.limits
limits_on stays = refl
limits_on (more goes plain agrees) = limits_on goes

conditions_on : (form : Form) (a b : Contents) (views : List ConditionView) → GoesOn a b → IsWave b
    → AreConditionsFor form a views → AreConditionsFor form b views
conditions_on Lines a b views goes wave are = are
conditions_on Turns a b views goes wave are =
    subst (λ ls. AreConditionsOf b (settled_places ls) views) (sym (lines_on goes))
    (conditions_still a b (settled_places a.lines) views (grown_on a b goes) (limits_on goes) wave are)

-- It goes on by places whose class says what they are,
pub goes_between : (form : Form) (start : Contents) (done : List Entry) (a b : Contents) (views : List ConditionView)
    → GoesOn a b → IsBetween form start done a views → IsBetween form start done b views
goes_between form start done a b views goes is =
    let wave : IsWave b = goes_wave goes is.wave in
    record {
      none = is.none;
      goes = along start a b is.goes (goes_along goes);
      wave = wave;
      done_is = is.done_is ∙ ap (λ ls. entries_of ls views) (sym (lines_on goes));
      conditions_are = conditions_on form a b views goes wave is.conditions_are;
    }

-- by a line that has no turns,
grown_line : (c : Contents) (l : ALine) → IsGrown c (with_line c l)
grown_line c l = record { same = refl; more = written_by_line c l ∷ []; written = refl }

unturned_entries : (form : Form) (c : Contents) (l : ALine) (views : List ConditionView)
    → (form ≡ Turns → gives_bit l.body ≡ false) → AreConditionsFor form c views
    → entries_of (c.lines ++ l ∷ []) views ≡ entries_of c.lines views ++ Line l ∷ []
unturned_entries Lines c l views none are =
    subst (λ vs. entries_of (c.lines ++ l ∷ []) vs ≡ entries_of c.lines vs ++ Line l ∷ []) (sym are)
    (more_plain c.lines l)
unturned_entries Turns c l views none are = more_unturned c c.lines views l are (none refl)

unturned_conditions : (form : Form) (c : Contents) (l : ALine) (views : List ConditionView) → IsWave (with_line c l)
    → (form ≡ Turns → gives_bit l.body ≡ false) → AreConditionsFor form c views
    → AreConditionsFor form (with_line c l) views
unturned_conditions Lines c l views wave none are = are
unturned_conditions Turns c l views wave none are =
    conditions_unturned (with_line c l) c.lines l views (none refl)
    (conditions_still c (with_line c l) (settled_places c.lines) views (grown_line c l) refl wave are)

pub line_between : (form : Form) (start : Contents) (done : List Entry) (c : Contents) (l : ALine)
    (views : List ConditionView)
    → IsWave (with_line c l) → IsLineNext c → AcceptsLine c l → LineAgrees c l → (form ≡ Turns
    → gives_bit l.body ≡ false)
    → IsBetween form start done c views → IsBetween form start (done ++ Line l ∷ []) (with_line c l) views
line_between form start done c l views wave next accepts agrees none is = record {
  none = is.none;
  goes = by_line is.goes l next accepts agrees;
  wave = wave;
  done_is =
      ap (λ es. es ++ Line l ∷ []) is.done_is ∙ sym (unturned_entries form c l views none is.conditions_are);
  conditions_are = unturned_conditions form c l views wave none is.conditions_are;
}

-- or by one with all its turns.
number_there : (c : Contents) (l : ALine) → IsWave c → AcceptsLine c l → number_of (job c) l.place ≡ next_number c
number_there c l wave accepts =
    ap (number_of (job c)) accepts.line_holds.place_is
    ∙ number_of_place_at (job c) (next_number c) wave.fits.fits_job.ordering wave.fits.fits_job.all
    accepts.line_holds.within

pub closed_between : (start : Contents) (done : List Entry) (c : Contents) (views : List ConditionView)
    (view : ConditionView)
    → view.due ≡ 0 → IsAmid start done c views view → IsBetween Turns start done c (views ++ view ∷ [])
closed_between start done c views view none is =
    subst (λ (x : Contents). IsBetween Turns start done x (views ++ view ∷ [])) (sym b.is) (record {
      none = b.between.none;
      goes = by_line b.between.goes b.line b.next b.accepts b.agrees;
      wave = at.wave;
      done_is =
          b.done_is ∙ (ap (λ es. es ++ with_turns b.line (turn_lines view)) b.between.done_is
          ∙ sym (more_turned b.before b.before.lines views b.line view b.between.conditions_are b.gives));
      conditions_are = conditions_turned after b.before.lines b.line views view b.gives
          (conditions_still b.before after (settled_places b.before.lines) views (grown_line b.before b.line) refl
          at.wave
          b.between.conditions_are)
          (record {
            is = subst (λ (p : Place). IsConditionAt after p view) (sym b.place_is) at;
            none_due = none;
          });
    })
  where
    b : IsBehind start done c views is.place (turn_lines view)
    b = is.behind

    after : Contents
    after = with_line b.before b.line

    at : IsConditionAt after is.place view
    at = subst (λ (x : Contents). IsConditionAt x is.place view) b.is is.condition_is

-- The place of a line that gives a bit is settled.
pub settled_line : (c : Contents) (l : ALine) → IsWave (with_line c l) → gives_bit l.body ≡ true
    → IsCertainLine (with_line c l) l.place
settled_line c l wave gives =
    let long = length-append c.lines (l ∷ []) in
    let here : slice_index_or (c.lines ++ l ∷ []) (length c.lines) l ≡ l = get_or-append_seam c.lines l [] l in
    subst (λ (x : ALine). IsCertainLine (with_line c l) x.place) here
    (settled_at (with_line c l) (length c.lines) l wave (omega (arith, long)) (ap (λ (x : ALine). gives_bit x.body) here
    ∙ gives))

-- A line that gives a bit is written,
pub line_behind : (start : Contents) (done : List Entry) (c : Contents) (l : ALine) (views : List ConditionView)
    → IsLineNext c → AcceptsLine c l → LineAgrees c l → gives_bit l.body ≡ true
    → IsBetween Turns start done c views → IsBehind start (done ++ Line l ∷ []) (with_line c l) views l.place []
line_behind start done c l views next accepts agrees gives is = record {
  before = c;
  passed = done;
  line = l;
  between = is;
  next = next;
  accepts = accepts;
  agrees = agrees;
  gives = gives;
  place_is = refl;
  is = refl;
  done_is = refl;
}

-- its condition begins,
pub behind_amid : (start : Contents) (done : List Entry) (c : Contents) (views : List ConditionView) (place : Place)
    (view : ConditionView) → view.turns ≡ [] → IsConditionAt c place view → IsBehind start done c views place []
    → IsAmid start done c views view
behind_amid start done c views place view none at is = record {
  place = place;
  behind = subst (IsBehind start done c views place) (sym (ap (stated view.boundary) none)) is;
  condition_is = at;
}

-- and a turn more is made.
pub turn_amid : (start : Contents) (done : List Entry) (c : Contents) (views : List ConditionView)
    (view new : ConditionView)
    (l : TurnLine) → IsTaken view l new → IsAmid start done c views view
    → IsAmid start (done ++ Turn l ∷ []) c views new
turn_amid start done c views view new l taken is = record {
  place = is.place;
  behind = record {
    before = b.before;
    passed = b.passed;
    line = b.line;
    between = b.between;
    next = b.next;
    accepts = b.accepts;
    agrees = b.agrees;
    gives = b.gives;
    place_is = b.place_is;
    is = b.is;
    done_is =
        ap (λ es. es ++ Turn l ∷ []) b.done_is
        ∙ (append_assoc b.passed (with_turns b.line (turn_lines view)) (Turn l ∷ [])
        ∙ ap (λ es. b.passed ++ Line b.line ∷ es)
        (sym (map-append (λ (t : TurnLine). Turn t) (turn_lines view) (l ∷ []))
        ∙ ap (map (λ (t : TurnLine). Turn t)) (sym taken.lines)));
  };
  condition_is = taken.turned.is c (number_of (job c) is.place) is.condition_is;
}
  where
    b : IsBehind start done c views is.place (turn_lines view)
    b = is.behind

-- A fault where no turn is due.
pub fault_between : (form : Form) (start : Contents) (done rest : List Entry) (c : Contents)
    (views : List ConditionView)
    (number : ℕ) (e : CheckErr) → number ≡ due_line done → IsCertFault c number rest e
    → IsBetween form start done c views
    → IsFirstCertFault form start (done ++ rest) e
fault_between form start done rest c views number e is fault stands =
    line c done rest e refl (up_to form start done c views stands) (subst (λ n. IsCertFault c n rest e) is fault)

-- A turn is due, and the next line isn't it.
pub fault_amid : (start : Contents) (done rest : List Entry) (c : Contents) (views : List ConditionView)
    (view : ConditionView)
    (number : ℕ) → number ≡ due_line done → 0 < view.due
    → ((l : TurnLine) (others : List Entry) → rest ≡ Turn l ∷ others → IsNoTurn view l)
    → IsAmid start done c views view → IsFirstCertFault Turns start (done ++ rest) (Refused (BadTurn number))
fault_amid start done rest c views view number is due no_turn stands =
    subst (λ n. IsFirstCertFault Turns start (done ++ rest) (Refused (BadTurn n))) (sym (is ∙ ap due_line b.done_is))
    (turn b.before b.passed b.line (turn_lines view) rest refl (ap (λ es. es ++ rest) b.done_is)
    (up_to Turns start b.passed b.before views b.between) b.next b.accepts b.agrees b.gives
    (subst (λ n. LacksTurn after n (turn_lines view) rest) (ap (number_of (job after)) (sym b.place_is)
    ∙ number_there b.before b.line b.between.wave b.accepts)
    (record {
      so_far = states.are;
      due = omega (arith, due, count);
      stops = λ l others rest_is. no_turn l others rest_is after (number_of (job after) stands.place) at;
    })))
  where
    b : IsBehind start done c views stands.place (turn_lines view)
    b = stands.behind

    after : Contents
    after = with_line b.before b.line

    at : IsConditionAt after stands.place view
    at = subst (λ (x : Contents). IsConditionAt x stands.place view) b.is stands.condition_is

    states : StatesTurns after (number_of (job after) stands.place) view
    states = states_turns after (number_of (job after) stands.place) view at

    count : length (turn_lines view) + view.due ≡ length (turn_places (job after) after.written (number_of
        (job after) stands.place))
    count = states.count

-- All lines are taken, and all places written.
pub done_between : (form : Form) (start : Contents) (done : List Entry) (c : Contents) (views : List ConditionView)
    → IsFinished c
    → IsBetween form start done c views → IsDone form start done c views
done_between form start done c views finished is =
    let j = job c in
    record {
      goes = is.goes;
      lines = sym (ap lines_in is.done_is ∙ own_lines c.lines views);
      turned = (up_to form start done c views is).turned;
      stated = is.done_is;
      conditions_are = is.conditions_are;
      finished = finished;
      wave = is.wave;
      one = one_law j c.limits (shown_in c) c.written c.lines is.wave.fits.fits_job is.wave.holds.sound;
      alike = alike_law j c.limits (shown_in c) c.written c.lines is.wave.fits.fits_job is.wave.holds.sound;
    }

-- A place is left, and no line.
pub short_between : (form : Form) (start : Contents) (done : List Entry) (c : Contents) (views : List ConditionView)
    (e : CheckErr)
    → IsCertFault c (due_line done) [] e → IsBetween form start done c views → IsFirstCertFault form start done e
short_between form start done c views e fault is =
    line c done [] e (sym (append-nil done)) (up_to form start done c views is) fault

-- A place that the history knows otherwise stops the walk, whatever lines are left.
pub objected_between : (form : Form) (start : Contents) (done rest : List Entry) (a : Contents)
    (views : List ConditionView)
    (objection : Optimistic) → IsObjected a objection → IsBetween form start done a views
    → IsFirstCertFault form start (done ++ rest) (Objects objection)
objected_between form start done rest a views objection objected is =
    line objected.before done rest (Objects objection) refl
    (up_to form start done objected.before views (goes_between form start done a objected.before views objected.goes
    is))
    (class_objects rest objection objected.plain objected.contradicts objected.reports)

-- Or there is no memory.
pub stops_between : (a : Contents) (views : List ConditionView) (err : AdvanceErr) → IfObjects (IsObjected a) err
    → EndsFrom a views (stopped_by err)
stops_between a views (stopped.Optimistic objection) objected form start done rest is =
    objected_between form start done rest a views objection objected is
stops_between a views stopped.Memory objected form start done rest is = no_memory

same_first : (a b : Entry) (xs ys : List Entry) → a ∷ xs ≡ b ∷ ys → a ≡ b
same_first a b xs ys is = cc

pub fault_turned : (form : Form) (start : Contents) (done rest : List Entry) (c : Contents) (views : List ConditionView)
    (view : ConditionView) (entry : Entry) (number : ℕ) → 0 < view.due → ((l : TurnLine) → entry ≡ Turn l
    → IsNoTurn view l)
    → (form ≡ Turns) × IsAmid start done c views view → number ≡ due_line done
    → IsFirstCertFault form start (done ++ entry ∷ rest) (Refused (BadTurn number))
fault_turned form start done rest c views view entry number due no_turn stands is =
    subst (λ f. IsFirstCertFault f start (done ++ entry ∷ rest) (Refused (BadTurn number))) (sym stands.0)
    (fault_amid start done (entry ∷ rest) c views view number is due
    (λ l others same. no_turn l (same_first entry (Turn l) rest others same)) stands.1)

pub line_is_none : (entry : Entry) (l : ALine) (t : TurnLine) → entry ≡ Line l → entry ≡ Turn t → ⊥
line_is_none entry l t is other = absurd cc

pub turn_is : (entry : Entry) (t u : TurnLine) → entry ≡ Turn t → entry ≡ Turn u → t ≡ u
turn_is entry t u is other = cc

-- A turn is taken, and whatever comes of it.
pub comes_turned : (form : Form) (c : Contents) (views : List ConditionView) (view new : ConditionView) (l : TurnLine)
    (entry : Entry)
    (next : Walked) → entry ≡ Turn l → IsTaken view l new → ComesAmid c views new next
    → Takes form c views (Some view) entry next
comes_turned form c views view new l entry next is taken comes start done stands =
    subst (λ f. Stands f start (done ++ entry ∷ []) next) (sym stands.0)
    (subst (λ x. Stands Turns start (done ++ x ∷ []) next) (sym is)
    (comes start (done ++ Turn l ∷ []) (turn_amid start done c views view new l taken stands.1)))

pub ends_turned : (form : Form) (number : ℕ) (c : Contents) (views : List ConditionView) (view new : ConditionView)
    (l : TurnLine)
    (entry : Entry) (e : CheckErr) → entry ≡ Turn l → IsTaken view l new → EndsAmid c views new e
    → StopsAt form number c views (Some view) entry e
ends_turned form number c views view new l entry e is taken ends start done rest stands number_is =
    subst (λ f. IsFirstCertFault f start (done ++ entry ∷ rest) e) (sym stands.0)
    (subst (λ x. IsFirstCertFault Turns start (done ++ x ∷ rest) e) (sym is)
    (subst (λ es. IsFirstCertFault Turns start es e) (append_assoc done (Turn l ∷ []) rest)
    (ends start (done ++ Turn l ∷ []) rest (turn_amid start done c views view new l taken stands.1))))

-- Where a walk begins.
no_conditions : (form : Form) (c : Contents) → c.lines ≡ [] → AreConditionsFor form c []
no_conditions Lines c none = refl
no_conditions Turns c none = subst (λ ls. AreConditionsOf c (settled_places ls) []) (sym none) tt

pub begins_between : (form : Form) (c : Contents) (views : List ConditionView) → IsWave c → c.lines ≡ [] → views ≡ []
    → IsBetween form c [] c views
begins_between form c views wave none no_views =
    subst (IsBetween form c [] c) (sym no_views) (record {
      none = none;
      goes = walk.stays;
      wave = wave;
      done_is = sym (ap (λ ls. entries_of ls []) none);
      conditions_are = no_conditions form c none;
    })
