-- What the options of a job give is one.
use Rattle.std.proofs.Common.{◌≡◌, ◌∙◌, ℕ, length, get_or, Option, Some, None, codes, refl, sym, ap, arith}
use Rattle.base_line.specs.Line.{IsNumber, Text}
use Rattle.cmd_words.specs.Words.{AreLevels, GivesJob, IsCount, IsForm, IsSourceCount, IsStart, IsUndriven, JobValues, form_number, levels_word, start_word, undriven_word}
use Rattle.cmd_words.specs.declared.words.Form.{Form}
use Rattle.cmd_words.specs.declared.words.Form.TheVariants.{Lines, Turns}
use Rattle.cmd_words.specs.declared.words.Levels.{Levels}
use Rattle.cmd_words.specs.declared.words.Levels.TheVariants.{Change, Hold}
use Rattle.cmd_words.specs.declared.words.Start.{Start}
use Rattle.cmd_words.specs.declared.words.Start.TheVariants.{Cold, Recorded}
use Rattle.cmd_words.specs.declared.words.Undriven.{Undriven}
use Rattle.cmd_words.specs.declared.words.Undriven.TheVariants as named

pub one_source_count : (o : Option Text) (m n : ℕ) → IsSourceCount o m → IsSourceCount o n → m ≡ n
one_source_count None m n first second = first ∙ sym second
one_source_count (Some text) m n first second = first.0.value ∙ sym second.0.value

pub one_count : (o : Option Text) (absent most m n : ℕ) → IsCount o absent most m → IsCount o absent most n → m ≡ n
one_count None absent most m n first second = first ∙ sym second
one_count (Some text) absent most m n first second = first.0.value ∙ sym second.0.value

two_starts : codes "cold" ≡ codes "recorded" → ⊥
two_starts same = let long : ◌≡◌ {A = ℕ} 4 8 = ap (λ (l : Text). length l) same in omega (arith, long)

one_word : (text : Text) (a b : Start) → text ≡ start_word a → text ≡ start_word b → a ≡ b
one_word text Cold Cold first second = refl
one_word text Cold Recorded first second = absurd (two_starts (sym first ∙ second))
one_word text Recorded Cold first second = absurd (two_starts (sym second ∙ first))
one_word text Recorded Recorded first second = refl

one_start : (o : Option Text) (a b : Start) → IsStart o a → IsStart o b → a ≡ b
one_start None a b first second = first ∙ sym second
one_start (Some text) a b first second = one_word text a b first second

two_levels : codes "change" ≡ codes "hold" → ⊥
two_levels same = let long : ◌≡◌ {A = ℕ} 6 4 = ap (λ (l : Text). length l) same in omega (arith, long)

one_levels_word : (text : Text) (a b : Levels) → text ≡ levels_word a → text ≡ levels_word b → a ≡ b
one_levels_word text Change Change first second = refl
one_levels_word text Change Hold first second = absurd (two_levels (sym first ∙ second))
one_levels_word text Hold Change first second = absurd (two_levels (sym second ∙ first))
one_levels_word text Hold Hold first second = refl

one_levels : (o : Option Text) (a b : Levels) → AreLevels o a → AreLevels o b → a ≡ b
one_levels None a b first second = first ∙ sym second
one_levels (Some text) a b first second = one_levels_word text a b first second

two_rules : codes "released" ≡ codes "recorded" → ⊥
two_rules same = let third : ◌≡◌ {A = ℕ} 108 99 = ap (λ (l : Text). get_or l 2 0) same in omega (arith, third)

one_rule : (text : Text) (a b : Undriven) → text ≡ undriven_word a → text ≡ undriven_word b → a ≡ b
one_rule text named.Released named.Released first second = refl
one_rule text named.Released named.Recorded first second = absurd (two_rules (sym first ∙ second))
one_rule text named.Recorded named.Released first second = absurd (two_rules (sym second ∙ first))
one_rule text named.Recorded named.Recorded first second = refl

one_undriven : (o : Option Text) (a b : Undriven) → IsUndriven o a → IsUndriven o b → a ≡ b
one_undriven None a b first second = first ∙ sym second
one_undriven (Some text) a b first second = one_rule text a b first second

two_forms : (text : Text) → IsNumber text 1 → IsNumber text 2 → ⊥
two_forms text first second = let same : ◌≡◌ {A = ℕ} 1 2 = first.value ∙ sym second.value in omega (arith, same)

one_number_form : (text : Text) (a b : Form) → IsNumber text (form_number a) → IsNumber text (form_number b) → a ≡ b
one_number_form text Lines Lines first second = refl
one_number_form text Lines Turns first second = absurd (two_forms text first second)
one_number_form text Turns Lines first second = absurd (two_forms text second first)
one_number_form text Turns Turns first second = refl

pub one_form : (o : Option Text) (a b : Form) → IsForm o a → IsForm o b → a ≡ b
one_form None a b first second = first ∙ sym second
one_form (Some text) a b first second = one_number_form text a b first second

pub some_same : (a b : Text) (o : Option Text) → o ≡ Some a → o ≡ Some b → a ≡ b
some_same a b o first second = let both : Some a ≡ Some b = sym first ∙ second in cc

pub one_job : (option : Text → Option Text) (a b : JobValues) → GivesJob option a → GivesJob option b → a.netlists ≡ b.netlists → a ≡ b
one_job option a b first second netlists =
    let recording = some_same a.recording b.recording (option (codes "record")) first.recording second.recording in
    let scope = some_same a.scope b.scope (option (codes "scope")) first.scope second.scope in
    let top = some_same a.top b.top (option (codes "top")) first.top second.top in
    let rounds = one_count (option (codes "rounds")) 4 16 a.rounds b.rounds first.rounds second.rounds in
    let places = one_count (option (codes "places")) 134217728 1099511627776 a.places b.places first.places second.places in
    let start = one_start (option (codes "start")) a.start b.start first.start second.start in
    let levels = one_levels (option (codes "levels")) a.levels b.levels first.levels second.levels in
    let undriven = one_undriven (option (codes "undriven")) a.undriven b.undriven first.undriven second.undriven in
    λ i. record { recording = recording i; scope = scope i; top = top i; rounds = rounds i; places = places i; start = start i; levels = levels i; undriven = undriven i; netlists = netlists i }
