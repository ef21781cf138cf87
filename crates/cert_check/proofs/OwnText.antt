-- The certificate of a wave that went along lines from nothing has a text.
use Rattle.std.proofs.Common.{◌*◌, ◌^◌, ◌≤◌, true, false, if◌then◌else◌, List, [], ◌∷◌, ◌++◌, length, length-append, refl, sym, subst, arith}
use Rattle.std.specs.List.{AllByRecursion}
use Rattle.design_circuit.proofs.Numbers.{few_steps}
use Rattle.design_circuit.specs.Fits.{Fits}
use Rattle.design_circuit.specs.Job.{number_of}
use Rattle.law_model.specs.declared.line.Line.{Line as ALine}
use Rattle.law_model.specs.declared.turn.TurnLine.{TurnLine}
use Rattle.wave_proved.specs.Contents.{Contents, AreLimits, job}
use Rattle.law_along.proofs.Fitted.{along_job}
use Rattle.cert_turns.specs.View.{ConditionView}
use Rattle.cert_turns.specs.Conditions.{AreConditionsOf, gives_bit, settled_places}
use Rattle.cert_turns.specs.TurnLines.{turn_lines}
use Rattle.cert_writer.specs.Fits.{FitsEntry, FitsLine, FitsTurnLine}
use Rattle.cert_writer.specs.declared.cert.Entry.{Entry}
use Rattle.cert_writer.specs.declared.cert.Entry.TheVariants.{Line}
use Rattle.cert_writer.specs.declared.cert.Form.{Form}
use Rattle.cert_writer.specs.declared.cert.Form.TheVariants.{Lines, Turns}
use Rattle.cert_check.specs.Entries.{AreConditionsFor, entries_of}
use Rattle.cert_check.specs.Laws.{OwnTextStands}
use Rattle.cert_check.proofs.OwnEntries.{settled_by, turned_lines}
use Rattle.cert_check.proofs.OwnLines.{along_limits, few_lines, lines_fit}
use Rattle.cert_check.proofs.OwnTurns.{few_turn_lines, turn_lines_fit}
use Rattle.cert_check.proofs.TurnCounts.{turned_long}

-- Each line between has words,
plain_fit : (form : Form) (lines : List ALine) → AllByRecursion FitsLine lines
    → AllByRecursion (FitsEntry form) (entries_of lines [])
plain_fit form [] all = tt
plain_fit form (l ∷ lines) all = (all.0, plain_fit form lines all.1)

turned_fit : (turns : List TurnLine) (entries : List Entry) → AllByRecursion FitsTurnLine turns
    → AllByRecursion (FitsEntry Turns) entries → AllByRecursion (FitsEntry Turns) (turned_lines turns ++ entries)
turned_fit [] entries all behind = behind
turned_fit (t ∷ turns) entries all behind = (all.0, turned_fit turns entries all.1 behind)

turns_fit : (c : Contents) (lines : List ALine) (views : List ConditionView) → AllByRecursion FitsLine lines
    → AreConditionsOf c (settled_places lines) views → AllByRecursion (FitsEntry Turns) (entries_of lines views)
turns_fit c [] views all are = tt
turns_fit c (l ∷ lines) [] all are = plain_fit Turns (l ∷ lines) all
turns_fit c (l ∷ lines) (v ∷ views) all are = (
  all.0,
  (elim (gives_bit l.body) as (λ b. AreConditionsOf c (settled_by b l lines) (v ∷ views)
      → AllByRecursion (FitsEntry Turns) (if b then turned_lines (turn_lines v) ++ entries_of lines views
      else entries_of lines (v ∷ views))) [
        | true ↦ λ some.
            turned_fit (turn_lines v) (entries_of lines views) (turn_lines_fit c (number_of
            (job c) l.place) v some.0.is)
            (turns_fit c lines views all.1 some.1)
        | false ↦ λ some. turns_fit c lines (v ∷ views) all.1 some
      ]) are,
)

entries_fit : (form : Form) (c : Contents) (views : List ConditionView) → AllByRecursion FitsLine c.lines
    → AreConditionsFor form c views
    → AllByRecursion (FitsEntry form) (entries_of c.lines views)
entries_fit Lines c views all none =
    subst (λ vs. AllByRecursion (FitsEntry Lines) (entries_of c.lines vs)) (sym none) (plain_fit Lines c.lines all)
entries_fit Turns c views all are = turns_fit c c.lines views all are

-- and these are at most 65 for each line of a Line place.
plain_few : (lines : List ALine) → length (entries_of lines []) ≤ 65 * length lines
plain_few [] = omega arith
plain_few (l ∷ lines) = let few = plain_few lines in omega (arith, few)

turns_few : (c : Contents) (lines : List ALine) (views : List ConditionView)
    → AreConditionsOf c (settled_places lines) views
    → length (entries_of lines views) ≤ 65 * length lines
turns_few c [] views are = omega arith
turns_few c (l ∷ lines) [] are = plain_few (l ∷ lines)
turns_few c (l ∷ lines) (v ∷ views) are =
    (elim (gives_bit l.body) as (λ b. AreConditionsOf c (settled_by b l lines) (v ∷ views)
    → length (Line l ∷ (if b then turned_lines (turn_lines v) ++ entries_of lines views
    else entries_of lines (v ∷ views))) ≤ 65 * length (l ∷ lines)) [
      | true ↦ λ some.
          let few = turns_few c lines views some.1 in
          let turns = few_turn_lines c (number_of (job c) l.place) v some.0.is in
          let long = length-append (turned_lines (turn_lines v)) (entries_of lines views) in
          let same = turned_long (turn_lines v) in
          omega (arith, few, turns, long, same)
      | false ↦ λ some. let few = turns_few c lines (v ∷ views) some in omega (arith, few)
    ]) are

entries_few : (form : Form) (c : Contents) (views : List ConditionView) → AreConditionsFor form c views
    → length (entries_of c.lines views) ≤ 65 * length c.lines
entries_few Lines c views none = subst (λ vs. length (entries_of c.lines vs) ≤ 65 * length c.lines) (sym none)
    (plain_few c.lines)
entries_few Turns c views are = turns_few c c.lines views are

pub own_text_stands : OwnTextStands
own_text_stands form start c conditions none goes wave are =
    let fits : Fits (job start) = subst Fits (along_job goes) wave.fits.fits_job in
    let most : (job start).moments * (job start).rounds ≤ 2 ^ 32 = few_steps start.stim in
    let limited : AreLimits start.limits = subst AreLimits (along_limits goes) wave.limited in
    let rounds = c.stim.few_rounds in
    let moments = c.stim.few_moments in
    let nets = wave.fits.fits_job.few_nets in
    let conflicts = wave.limited.few in
    let few = entries_few form c conditions are in
    let lines = few_lines c wave in
    record {
      fits = record {
        head = record {
          rounds = omega (arith, rounds);
          conflicts = omega (arith, conflicts);
          moments = omega (arith, moments);
          nets = omega (arith, nets);
        };
        entries = entries_fit form c conditions (lines_fit start c goes fits most limited none) are;
        count = omega (arith, few, lines);
      };
      written = refl;
    }
