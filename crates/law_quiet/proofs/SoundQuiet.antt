-- Quiet places of sound waveforms: their roots, and their bits in every world.
use Rattle.std.proofs.Common.{◌≡◌, ℕ, ◌<◌, ◌≤◌, Bool, true, false, List, length, refl, sym, ap, ◌∙◌, arith, subst}
use Rattle.design_cell.specs.declared.value.Value.{Value}
use Rattle.design_cell.specs.Value.{bit_value, is_unknown}
use Rattle.design_circuit.specs.declared.place.Place.{Place}
use Rattle.design_circuit.specs.declared.waveform.Mark.{Mark}
use Rattle.design_circuit.specs.declared.waveform.Mark.TheVariants.{Certain, Unknown, Undecided}
use Rattle.design_circuit.specs.declared.waveform.Written.{Written}
use Rattle.design_circuit.specs.Filling.{IsFilling, bit_of}
use Rattle.design_circuit.specs.Fits.{Fits}
use Rattle.design_circuit.specs.Job.{Job, places_of}
use Rattle.design_circuit.specs.Waveform.{certain, certain_by, written_at}
use Rattle.law_model.specs.Class.{before, class_of, flipped}
use Rattle.law_model.specs.Laws.{InReach, world_over}
use Rattle.law_model.specs.Root.{Root, root_of}
use Rattle.law_model.specs.Sound.{FollowsClass, Sound}
use Rattle.law_model.specs.Yields.{flipped_value}
use Rattle.law_model.specs.declared.class.ClassByNumber.{ClassByNumber}
use Rattle.law_model.specs.declared.class.ClassByNumber.TheVariants.{Local, Free, Carried, Line}
use Rattle.law_model.specs.declared.line.Line.{Line as ALine}
use Rattle.law_model.proofs.CarryLaw.{back_of, local_world}
use Rattle.law_model.proofs.ClassFromClasses.{class_is}
use Rattle.law_model.proofs.Classes.{ClassSays, class_says}
use Rattle.law_model.proofs.LawProofs.{carry_law}
use Rattle.law_model.proofs.Roots.{root_carried}
use Rattle.law_model.proofs.SoundWorlds.{certain_settles, true_world}
use Rattle.law_model.specs.declared.limits.Limits.{Limits}
use Rattle.wave_class.specs.Facts.{AgreeBefore, AgreesWith}
use Rattle.law_quiet.specs.Laws.{RootsLaw, SaysTheSame, WorldsLaw}
use Rattle.law_quiet.proofs.QuietClasses.{quiet_law}
use Rattle.law_quiet.proofs.QuietTests.{quiet_later}

-- In a sound waveform the certain values agree with the classes.
carried_value : (inverted : Bool) (mark : Mark) (v u : Value) → (mark ≡ Certain → v ≡ flipped_value inverted u)
    → certain_by mark v ≡ flipped_value inverted (certain_by mark u)
carried_value inverted Certain v u value = value refl
carried_value inverted Unknown v u value = refl
carried_value inverted Undecided v u value = refl

follows_agrees : (waveform : List Written) (class : ClassByNumber) (k : ℕ)
    → FollowsClass (written_at waveform) class (written_at waveform k)
    → AgreesWith (certain waveform) class (certain waveform k)
unfolding certain
follows_agrees waveform (Local bit) k follows = ap (λ (w : Written). certain_by w.mark w.value) follows
follows_agrees waveform Free k follows = ap (λ mark. certain_by mark (written_at waveform k).value) follows
follows_agrees waveform (Carried from inverted) k follows =
    ap (λ mark. certain_by mark (written_at waveform k).value) follows.mark
    ∙ carried_value inverted (written_at waveform from).mark (written_at waveform k).value
    (written_at waveform from).value follows.value
follows_agrees waveform Line k follows = tt

pub sound_agrees : (j : Job) (limits : Limits) (shown : ℕ → Value) (waveform : List Written) (lines : List ALine)
    → Sound j limits shown waveform lines → (k : ℕ) → k < length waveform
    → AgreesWith (certain waveform) (class_of j (certain waveform) k) (certain waveform k)
sound_agrees j limits shown waveform lines sound =
    λ k less. follows_agrees waveform (class_of j (certain waveform) k) k (sound.classes k less)

pub agrees_before : (j : Job) (limits : Limits) (shown : ℕ → Value) (waveform : List Written) (lines : List ALine)
    → Sound j limits shown waveform lines → (place : ℕ) → place ≤ length waveform
    → AgreeBefore j (certain waveform) place
agrees_before j limits shown waveform lines sound place up =
    λ k less. sound_agrees j limits shown waveform lines sound k (omega arith)

-- A place whose class says the same has the root of the place before where that isn't certain.
bit_certain : (bit : Bool) (v : Value) → v ≡ bit_value bit → is_unknown v ≡ true → ⊥
bit_certain false v is unknown = cc
bit_certain true v is unknown = cc

as_root : (from inverted_root : Root) (k : ℕ) (inverted : Bool) → inverted ≡ false
    → inverted_root ≡ record { place = from.place; inverted = flipped inverted from.inverted } → inverted_root ≡ from
as_root from root k inverted none is = is ∙ (rw none refl)

root_by : (j : Job) → Fits j → (c : ℕ → Value) (place : ℕ) (class : ClassByNumber) → place < places_of j
    → class_of j c place ≡ class → SaysTheSame j c place class → is_unknown (c (before j place)) ≡ true
    → root_of j c place ≡ root_of j c (before j place)
root_by j fits c place (Local bit) within is says unknown = absurd (bit_certain bit (c (before j place)) says unknown)
root_by j fits c place Free within is says unknown = absurd says
root_by j fits c place (Carried from inverted) within is says unknown =
    as_root (root_of j c from) (root_of j c place) from inverted says.1
    (root_carried j fits c place from inverted within is)
    ∙ ap (root_of j c) says.0
root_by j fits c place Line within is says unknown = absurd says

pub roots_law : RootsLaw
roots_law j c place fits within agree rests unknown =
    root_by j fits c place (class_of j c place) within refl (quiet_law j c place fits within agree rests) unknown

-- It has its bit in every world.
local_by : (j : Job) → Fits j → (c : ℕ → Value) (place : ℕ) (bit : Bool) → place < places_of j
    → class_of j c place ≡ Local bit → ClassSays j c (class_of j c) place (Local bit)
local_by j fits c place bit within is = subst (ClassSays j c (class_of j c) place)
    (sym (class_is j fits c place within) ∙ is) (class_says j c (class_of j c) place)

world_by : (j : Job) (limits : Limits) (shown : ℕ → Value) (waveform : List Written) (lines : List ALine) → Fits j
    → Sound j limits shown waveform lines → (place : ℕ) (filling : List Place) (class : ClassByNumber)
    → InReach j waveform place → before j place < length waveform → IsFilling j filling
    → class_of j (certain waveform) place ≡ class → SaysTheSame j (certain waveform) place class
    → world_over j waveform filling place ≡ world_over j waveform filling (before j place)
world_by j limits shown waveform lines fits sound place filling (Local bit) reach less filled is says =
    local_world j fits (certain waveform) (bit_of j filling) (world_over j waveform filling) place bit
    (true_world j limits fits shown waveform lines sound place reach.written reach.within filling filled)
    (local_by j fits (certain waveform) place bit reach.within is)
    ∙ sym (certain_settles j limits shown waveform lines sound (before j place) bit less says filling filled)
world_by j limits shown waveform lines fits sound place filling Free reach less filled is says = absurd says
world_by j limits shown waveform lines fits sound place filling (Carried from inverted) reach less filled is says =
    carry_law j limits shown waveform lines fits sound place from inverted filling reach filled is
    ∙ ap (λ turn. flipped turn (world_over j waveform filling from)) says.1
    ∙ ap (world_over j waveform filling) says.0
world_by j limits shown waveform lines fits sound place filling Line reach less filled is says = absurd says

pub worlds_law : WorldsLaw
worlds_law j limits shown waveform lines fits sound place filling reach rests filled =
    let less = back_of j fits place reach.within (quiet_later j (certain waveform) (class_of j (certain waveform)) place
    rests) in
    let up = reach.written in
    world_by j limits shown waveform lines fits sound place filling (class_of j (certain waveform) place) reach
    (omega (arith, less, up)) filled refl
    (quiet_law j (certain waveform) place fits reach.within
    (agrees_before j limits shown waveform lines sound place reach.written) rests)
