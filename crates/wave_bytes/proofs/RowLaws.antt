-- Rows that are as wide as the steps of a job.
use Rattle.std.proofs.Common.{◌≡◌, ℕ, ◌+◌, ◌-◌, ◌*◌, ◌/◌, ◌≤◌, ◌<◌, drop, length, map, take, ◌∙◌, ◌++◌, ap, sym}
use Rattle.std.proofs.Common.{arith, subst}
use Rattle.design_circuit.specs.Job.{Job, places_of}
use Rattle.wave_bytes.specs.Byte.{repeated_byte}
use Rattle.wave_bytes.specs.Kept.{AreRowsOf}
use Rattle.wave_bytes.specs.Repeat.{AreRepeated, IsStretch}
use Rattle.wave_bytes.specs.Roots.{HasRoot}
use Rattle.wave_bytes.specs.Rows.{HasRoom, IsRowStretch, RowsView, and_again, and_byte}

-- They have room for all places.
pub room_is : (j : Job) (rows : RowsView) → AreRowsOf j rows → rows.steps * rows.width ≡ places_of j
room_is j rows are = ap (λ s. s * rows.width) are.steps ∙ ap (λ w. (j.moments * j.rounds) * w) are.width
    ∙ commuted (j.moments * j.rounds) j.width
  where
    commuted : (s w : ℕ) → s * w ≡ w * s
    commuted s w = omega arith

pub room_for_one : (j : Job) (rows : RowsView) → AreRowsOf j rows → length rows.bytes < places_of j → HasRoom rows 1
room_for_one j rows are less = (let room = room_is j rows are in omega (arith, room, less))

-- A stretch of places is one of a row.
pub row_stretch : (j : Job) (rows : RowsView) (many : ℕ) → AreRowsOf j rows → IsStretch j (length rows.bytes) many
    → IsRowStretch rows many
row_stretch j rows many are stretch = record {
  later = subst (λ w. w ≤ length rows.bytes) (sym are.width) stretch.later;
  room = (let room = room_is j rows are in let within = stretch.within in omega (arith, room, within));
  one_row = subst (λ w. length rows.bytes + many ≤ (length rows.bytes / w + 1) * w) (sym are.width) stretch.one_step;
}

pub again_repeated : (j : Job) (old new : RowsView) (many : ℕ) → AreRowsOf j old → new ≡ and_again old many
    → AreRepeated j old.bytes new.bytes many
again_repeated j old new many are is = ap (λ (v : RowsView). v.bytes) is
    ∙ ap (λ w. old.bytes ++ map repeated_byte (take many (drop (length old.bytes - w) old.bytes))) are.width

pub rows_again : (j : Job) (old new : RowsView) (many : ℕ) → AreRowsOf j old → new ≡ and_again old many
    → AreRowsOf j new
rows_again j old new many are is = record {
  width = ap (λ (v : RowsView). v.width) is ∙ are.width;
  steps = ap (λ (v : RowsView). v.steps) is ∙ are.steps;
  roots = λ p low. subst (λ rs. HasRoot j rs p) (sym (ap (λ (v : RowsView). v.roots) is)) (are.roots p low);
}

pub rows_one : (j : Job) (old new : RowsView) (byte : ℕ) → AreRowsOf j old → new ≡ and_byte old byte → AreRowsOf j new
rows_one j old new byte are is = record {
  width = ap (λ (v : RowsView). v.width) is ∙ are.width;
  steps = ap (λ (v : RowsView). v.steps) is ∙ are.steps;
  roots = λ p low. subst (λ rs. HasRoot j rs p) (sym (ap (λ (v : RowsView). v.roots) is)) (are.roots p low);
}
