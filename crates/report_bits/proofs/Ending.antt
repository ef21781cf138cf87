-- Ends of the places of a step that follow those of the step before, and how many there are of each.
use Rattle.std.proofs.Common.{◌≡◌, ℕ, zero, suc, ◌+◌, ◌-◌, ◌*◌, ◌<◌, ◌≤◌, Bool, List, length, take, set, refl, sym, ap, ◌∙◌, arith, add-one, ⊎_elim, inl, inr}
use Rattle.std.specs.Prelude.{count_by}
use Rattle.std.proofs.lemmas.Bool.{cases_eq}
use Rattle.std.proofs.lemmas.List.{get_or-set_other, get_or-set_same, length-set, take_all, take_more}
use Rattle.std.proofs.lemmas.List.Sums.{sum_by-set, sum_by_push}
use Rattle.design_cell.specs.declared.value.Value.{Value}
use Rattle.design_cell.specs.declared.value.Value.TheVariants.{Zero, One, X, Z}
use Rattle.design_circuit.specs.Waveform.{written_at}
use Rattle.design_circuit.specs.declared.waveform.Mark.{Mark}
use Rattle.design_circuit.specs.declared.waveform.Mark.TheVariants as mark
use Rattle.report_bits.specs.Counts.{count_among, counts_in, is_known_place, is_repaired, is_undecided, is_unknown_mark, one_if, with_place}
use Rattle.report_bits.specs.Ends.{AreBrought, AreEndsAt, HasEnd, IsShownIn, IsWrittenIn, counts_of_ends, end_at, end_in, end_of, is_known_end, is_repaired_end, is_undecided_end, is_unknown_end, nth_end, with_end}
use Rattle.report_bits.specs.declared.counts.Counts.{Counts}
use Rattle.report_bits.specs.declared.ends.End.{End}
use Rattle.report_bits.specs.declared.ends.End.TheVariants.{Known, Repaired, Unknown, Undecided}
use Rattle.report_bits.proofs.Counting.{among_more}
use Rattle.wave_proved.specs.Contents.{Contents, shown_in}

-- ---- counts of ends

abbrev made : ℕ → ℕ → ℕ → ℕ → Counts
made known repaired unknown undecided =
    record { known = known; repaired = repaired; unknown = unknown; undecided = undecided }

pub counts_equal : (a b : Counts) → a.known ≡ b.known → a.repaired ≡ b.repaired → a.unknown ≡ b.unknown
    → a.undecided ≡ b.undecided → a ≡ b
counts_equal a b known repaired unknown undecided =
    ap (λ (n : ℕ). made n a.repaired a.unknown a.undecided) known
    ∙ ap (λ (n : ℕ). made b.known n a.unknown a.undecided) repaired
    ∙ ap (λ (n : ℕ). made b.known b.repaired n a.undecided) unknown
    ∙ ap (λ (n : ℕ). made b.known b.repaired b.unknown n) undecided

-- A place more is an end more.
pub place_is_end : (counts : Counts) (m : Mark) (shown : Value)
    → with_end counts (end_of m shown) ≡ with_place counts m shown
place_is_end counts mark.Certain Zero = refl
place_is_end counts mark.Certain One = refl
place_is_end counts mark.Certain X = refl
place_is_end counts mark.Certain Z = refl
place_is_end counts mark.Unknown shown = refl
place_is_end counts mark.Undecided shown = refl

-- One end in the place of another.
turned : (is : End → Bool) (ends : List End) (position : ℕ) (end : End) (taken grown : ℕ) → position < length ends
    → taken + one_if (is (nth_end ends position)) ≡ count_by is ends → grown ≡ taken + one_if (is end)
    → grown ≡ count_by is (set ends position end)
turned is ends position end taken grown within was now =
    let both = sum_by-set (λ e. one_if (is e)) ends position end Unknown within in
    omega (arith, both, was, now)

pub end_put : (ends : List End) (position : ℕ) (end : End) (taken grown : Counts) → position < length ends
    → with_end taken (nth_end ends position) ≡ counts_of_ends ends → grown ≡ with_end taken end
    → grown ≡ counts_of_ends (set ends position end)
end_put ends position end taken grown within was now =
    counts_equal grown (counts_of_ends (set ends position end))
    (turned is_known_end ends position end taken.known grown.known within (ap (λ (k : Counts). k.known) was)
    (ap (λ (k : Counts). k.known) now))
    (turned is_repaired_end ends position end taken.repaired grown.repaired within
    (ap (λ (k : Counts). k.repaired) was) (ap (λ (k : Counts). k.repaired) now))
    (turned is_unknown_end ends position end taken.unknown grown.unknown within (ap (λ (k : Counts). k.unknown) was)
    (ap (λ (k : Counts). k.unknown) now))
    (turned is_undecided_end ends position end taken.undecided grown.undecided within
    (ap (λ (k : Counts). k.undecided) was) (ap (λ (k : Counts). k.undecided) now))

-- There is one of each end that stands somewhere.
counted : (is : End → Bool) (ends : List End) (position : ℕ) (other : End) → position < length ends
    → one_if (is other) ≡ 0 → one_if (is (nth_end ends position)) ≤ count_by is ends
counted is ends position other within none =
    let both = sum_by-set (λ e. one_if (is e)) ends position other Unknown within in
    omega (arith, both, none)

pub has_end : (ends : List End) (position : ℕ) (end : End) → position < length ends → end ≡ nth_end ends position
    → HasEnd (counts_of_ends ends) end
has_end ends position Known within is =
    let some = counted is_known_end ends position Unknown within refl in
    let one : one_if (is_known_end (nth_end ends position)) ≡ 1 = ap (λ e. one_if (is_known_end e)) (sym is) in
    omega (arith, some, one)
has_end ends position Repaired within is =
    let some = counted is_repaired_end ends position Unknown within refl in
    let one : one_if (is_repaired_end (nth_end ends position)) ≡ 1 = ap (λ e. one_if (is_repaired_end e)) (sym is) in
    omega (arith, some, one)
has_end ends position Unknown within is =
    let some = counted is_unknown_end ends position Known within refl in
    let one : one_if (is_unknown_end (nth_end ends position)) ≡ 1 = ap (λ e. one_if (is_unknown_end e)) (sym is) in
    omega (arith, some, one)
has_end ends position Undecided within is =
    let some = counted is_undecided_end ends position Known within refl in
    let one : one_if (is_undecided_end (nth_end ends position)) ≡ 1 = ap (λ e. one_if (is_undecided_end e)) (sym is) in
    omega (arith, some, one)

-- The counts of the ends of a step are those of its places.
known_agrees : (m : Mark) (shown : Value) → is_known_end (end_of m shown) ≡ is_known_place m shown
known_agrees mark.Certain Zero = refl
known_agrees mark.Certain One = refl
known_agrees mark.Certain X = refl
known_agrees mark.Certain Z = refl
known_agrees mark.Unknown shown = refl
known_agrees mark.Undecided shown = refl

repaired_agrees : (m : Mark) (shown : Value) → is_repaired_end (end_of m shown) ≡ is_repaired m shown
repaired_agrees mark.Certain Zero = refl
repaired_agrees mark.Certain One = refl
repaired_agrees mark.Certain X = refl
repaired_agrees mark.Certain Z = refl
repaired_agrees mark.Unknown shown = refl
repaired_agrees mark.Undecided shown = refl

unknown_agrees : (m : Mark) (shown : Value) → is_unknown_end (end_of m shown) ≡ is_unknown_mark m
unknown_agrees mark.Certain Zero = refl
unknown_agrees mark.Certain One = refl
unknown_agrees mark.Certain X = refl
unknown_agrees mark.Certain Z = refl
unknown_agrees mark.Unknown shown = refl
unknown_agrees mark.Undecided shown = refl

undecided_agrees : (m : Mark) (shown : Value) → is_undecided_end (end_of m shown) ≡ is_undecided m
undecided_agrees mark.Certain Zero = refl
undecided_agrees mark.Certain One = refl
undecided_agrees mark.Certain X = refl
undecided_agrees mark.Certain Z = refl
undecided_agrees mark.Unknown shown = refl
undecided_agrees mark.Undecided shown = refl

module _ (c : Contents) (first : ℕ) (ends : List End) where
  ends_among : (is : End → Bool) (test : Mark → Value → Bool)
      → ((m : Mark) (shown : Value) → is (end_of m shown) ≡ test m shown) → (n : ℕ) → n ≤ length ends
      → ((p : ℕ) → p < n → nth_end ends p ≡ end_at c (first + p))
      → count_by is (take n ends) ≡ count_among test c first n
  ends_among is test agrees zero few each = refl
  ends_among is test agrees (suc n) few each =
      let here = ap (λ (e : End). one_if (is e)) (each n (omega arith))
      ∙ ap one_if (agrees (written_at c.written (first + n)).mark (shown_in c (first + n))) in
      let rest = ends_among is test agrees n (omega (arith, few)) (λ p less. each p (omega (arith, less))) in
      ap (λ (m : ℕ). count_by is (take m ends)) (sym (add-one n))
      ∙ ap (count_by is) (take_more ends n Unknown (omega (arith, few)))
      ∙ sum_by_push (λ e. one_if (is e)) (take n ends) (nth_end ends n)
      ∙ ap (λ (k : ℕ). k + one_if (is (nth_end ends n))) rest ∙ ap (λ (k : ℕ). count_among test c first n + k) here
      ∙ sym (ap (count_among test c first) (sym (add-one n)) ∙ among_more test c first n)

  ends_counted : (is : End → Bool) (test : Mark → Value → Bool)
      → ((m : Mark) (shown : Value) → is (end_of m shown) ≡ test m shown) → (n : ℕ) → length ends ≡ n
      → ((p : ℕ) → p < n → nth_end ends p ≡ end_at c (first + p)) → count_by is ends ≡ count_among test c first n
  ends_counted is test agrees n long each =
      ap (count_by is) (sym (take_all n ends (omega (arith, long)))) ∙ ends_among is test agrees n (omega (arith, long)) each

pub counts_are : (c : Contents) (step : ℕ) (ends : List End) → AreEndsAt c step ends
    → counts_of_ends ends ≡ counts_in c step
counts_are c step ends are =
    let w = length c.design.nets in
    counts_equal (counts_of_ends ends) (counts_in c step)
    (ends_counted c (step * w) ends is_known_end is_known_place known_agrees w are.long are.each)
    (ends_counted c (step * w) ends is_repaired_end is_repaired repaired_agrees w are.long are.each)
    (ends_counted c (step * w) ends is_unknown_end (λ m shown. is_unknown_mark m) unknown_agrees w are.long are.each)
    (ends_counted c (step * w) ends is_undecided_end (λ m shown. is_undecided m) undecided_agrees w are.long are.each)

-- ---- ends that follow those of a step before

module _ (c : Contents) (step : ℕ) where
  pub put_here : (ends : List End) (position : ℕ) → position < length ends
      → nth_end (set ends position (end_in c step position)) position ≡ end_in c step position
  put_here ends position within = get_or-set_same ends position (end_in c step position) Unknown within

  pub put_other : (ends : List End) (position other : ℕ) → (other ≡ position → ⊥)
      → nth_end (set ends position (end_in c step position)) other ≡ nth_end ends other
  put_other ends position other differ =
      get_or-set_other ends position other (end_in c step position) Unknown differ

  pub brought_none : (ends : List End) → AreBrought c step ends ends
  brought_none ends = record { long = refl; each = λ position low. inl refl }

  pub brought_on : (old mid new : List End) → AreBrought c step old mid → AreBrought c step mid new
      → AreBrought c step old new
  brought_on old mid new first second = record {
    long = second.long ∙ first.long;
    each = λ position low. ⊎_elim (λ same. ⊎_elim (λ again. inl (same ∙ again)) (λ is. inr (same ∙ is))
        (first.each position low)) (λ is. inr is) (second.each position low);
  }

  pub brought_put : (ends : List End) (position : ℕ) → position < length ends
      → AreBrought c step ends (set ends position (end_in c step position))
  brought_put ends position within = record {
    long = length-set ends position (end_in c step position);
    each = λ other low. ⊎_elim (λ same. inr (at_other other same))
        (λ differ. inl (put_other ends position other differ)) (cases_eq other position);
  }
    where
      at_other : (other : ℕ) → other ≡ position
          → nth_end (set ends position (end_in c step position)) other ≡ end_in c step other
      at_other other same =
          ap (nth_end (set ends position (end_in c step position))) same ∙ put_here ends position within
          ∙ ap (end_in c step) (sym same)

  pub brought_all : (old new : List End) → length old ≡ length c.design.nets → AreEndsAt c step new
      → AreBrought c step old new
  brought_all old new long are = record {
    long = are.long ∙ sym long;
    each = λ position low. inr (are.each position low);
  }

  -- An end that is the step's stays so.
  pub end_kept : (mid new : List End) (position : ℕ) → position < length c.design.nets → AreBrought c step mid new
      → nth_end mid position ≡ end_in c step position → nth_end new position ≡ end_in c step position
  end_kept mid new position low brought is =
      ⊎_elim (λ same. same ∙ is) (λ at. at) (brought.each position low)

  pub shown_kept : (mid new : List End) (position : ℕ) → position < length c.design.nets → AreBrought c step mid new
      → IsShownIn c step mid position → IsShownIn c step new position
  shown_kept mid new position low brought shown =
      ⊎_elim (λ is. inl (end_kept mid new position low brought is)) (λ same. inr same) shown

  pub written_kept : (mid new : List End) (position : ℕ) → position < length c.design.nets
      → AreBrought c step mid new → IsWrittenIn c step mid position → IsWrittenIn c step new position
  written_kept mid new position low brought written =
      ⊎_elim (λ is. inl (end_kept mid new position low brought is)) (λ same. inr same) written

  -- Where neither changed, the end is the one before.
  pub ends_brought : (old mid new : List End) → length old ≡ length c.design.nets → AreEndsAt c (step - 1) old
      → AreBrought c step old mid → AreBrought c step mid new
      → ((position : ℕ) → position < length c.design.nets → IsShownIn c step mid position)
      → ((position : ℕ) → position < length c.design.nets → IsWrittenIn c step new position)
      → AreEndsAt c step new
  ends_brought old mid new long before first second shown written = record {
    long = second.long ∙ first.long ∙ long;
    each = each;
  }
    where
      still : (position : ℕ) → position < length c.design.nets → nth_end new position ≡ nth_end old position
          → shown_in c (step * length c.design.nets + position) ≡ shown_in c ((step - 1) * length c.design.nets + position)
          → written_at c.written (step * length c.design.nets + position)
          ≡ written_at c.written ((step - 1) * length c.design.nets + position)
          → nth_end new position ≡ end_in c step position
      still position low same show write =
          same ∙ before.each position low
          ∙ ap (λ m. end_of m (shown_in c ((step - 1) * length c.design.nets + position)))
          (ap (λ w. w.mark) (sym write))
          ∙ ap (end_of (written_at c.written (step * length c.design.nets + position)).mark) (sym show)

      each : (position : ℕ) → position < length c.design.nets → nth_end new position ≡ end_in c step position
      each position low =
          ⊎_elim (λ same.
          ⊎_elim (λ is. is) (λ write.
          ⊎_elim (λ is. is) (λ show. still position low same show write)
          (shown_kept mid new position low second (shown position low))) (written position low))
          (λ is. is) ((brought_on old mid new first second).each position low)
