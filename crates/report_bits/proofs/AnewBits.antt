-- Bits of the nets at whose places a wave was written anew.
use Rattle.std.proofs.Common.{◌≡◌, ℕ, ◌+◌, ◌*◌, ◌<◌, ◌≤◌, true, false, List, length, slice_index, sym, ◌∙◌, arith, subst, ⊎_elim, inl, inr}
use Rattle.std.specs.Prelude.{Contains}
use Rattle.std.proofs.Math.Nat.{mul-le-mul_right, mul_comm}
use Rattle.std.proofs.lemmas.Bool.{cases_eq, cases_lt}
use Rattle.design_circuit.specs.Fits.{Fits}
use Rattle.design_circuit.specs.Job.{Job}
use Rattle.design_circuit.specs.Order.{position_of}
use Rattle.design_circuit.proofs.OrderLemmas.{net_at_position}
use Rattle.design_circuit.proofs.Rules.{position_in}
use Rattle.replay_fans.specs.Marks.{OnlyMore}
use Rattle.replay_history.specs.Watched.{AreReadersDue}
use Rattle.replay_history.proofs.Watching.{gains_due, gains_more}
use Rattle.replay_due.specs.Due.{GainsAll, is_due}
use Rattle.replay_due.specs.Readers.{readers_of}
use Rattle.report_bits.specs.Marked.{AreBitNets, IsMarkedAt, WrittenUnlessDue}
use Rattle.report_bits.specs.declared.nets.BitNets.{BitNets}
use Rattle.report_bits.proofs.Anew.{behind_more, next_end, next_place}
use Rattle.wave_proved.specs.Contents.{Contents, IsFinished, job}
use Rattle.wave_proved.specs.Row.{AreAnewAt, IsWholeLater, anew_behind, anew_position}
use Rattle.wave_bytes.specs.declared.anew.Anew.{Anew}

-- The net at the position of a net is the net.
net_again : (j : Job) → Fits j → (net : ℕ) → net < j.width → slice_index j.order (position_of j.order net) ≡ net
net_again j fits net within =
    let all = fits.all in
    let at = fits.ordering.each net (omega (arith, all, within)) in
    net_at_position j.order net at.0 at.1 at.2

-- In a finished wave all places of a step are written.
pub whole_later : (c : Contents) (step : ℕ) → IsFinished c → 0 < step → step < length c.stim.times * c.stim.rounds
    → IsWholeLater (job c) c.written step
whole_later c step finished later less =
    let j = job c in
    let steps = j.moments * j.rounds in
    let most : (step + 1) * j.width ≤ steps * j.width = mul-le-mul_right j.width (omega (arith, less)) in
    let turned = mul_comm steps j.width in
    record { later = later; whole = omega (arith, most, turned, finished) }

module _ (c : Contents) (bits : BitNets) (step : ℕ) where
  -- What is marked stays so.
  marked_kept : (old new : List ℕ) (p : ℕ) → OnlyMore old new → IsMarkedAt c bits step old p
      → IsMarkedAt c bits step new p
  marked_kept old new p more marked =
      ⊎_elim (λ due. inl (λ reader has. more reader (due reader has))) (λ same. inr same) marked

  module _ (places : List Anew) (are : AreAnewAt (job c) c.written step places) where
    -- Each position behind the first so many places is marked.
    abbrev pub AreMarkedTo : ℕ → List ℕ → Type 0
    AreMarkedTo n due = (p : ℕ) → p < anew_behind (job c) step places n → IsMarkedAt c bits step due p

    pub marked_more : (old new : List ℕ) (n position : ℕ) → n < length places
        → position ≡ anew_position (job c) step places n
        → GainsAll old new (readers_of bits.readers (slice_index c.order position)) → AreMarkedTo n old
        → AreMarkedTo (n + 1) new
    marked_more old new n position less at gains before p early =
        let readers = readers_of bits.readers (slice_index c.order position) in
        let more = behind_more (job c) step places n in
        let next = next_place (job c) step places n less in
        ⊎_elim (λ same. inl (λ reader has. gains_due old new readers reader gains
        (subst (λ (q : ℕ). Contains (readers_of bits.readers (slice_index c.order q)) reader) same has)))
        (λ differ.
        ⊎_elim (λ first. marked_kept old new p (gains_more old new readers gains) (before p first))
        (λ late. inr (are.same n (omega (arith, less)) p late (omega (arith, early, more, differ, at, next))))
        (cases_lt p (anew_behind (job c) step places n)))
        (cases_eq p position)

    -- So is each position of the step in the end.
    marked_all : (due : List ℕ) → AreMarkedTo (length places) due → (p : ℕ) → p < length c.design.nets
        → IsMarkedAt c bits step due p
    marked_all due before p low =
        let end = next_end (job c) step places (length places) (omega arith) in
        ⊎_elim (λ first. before p first)
        (λ late. inr (are.same (length places) (omega arith) p late (omega (arith, low, end))))
        (cases_lt p (anew_behind (job c) step places (length places)))

    pub written_kept : (due : List ℕ) → Fits (job c) → AreBitNets (length c.design.nets) bits
        → AreMarkedTo (length places) due → WrittenUnlessDue c bits.nets.items step due
    written_kept due fits of_nets marked number within clear =
        let net = slice_index bits.nets.items number in
        let low = of_nets.low number 0 within in
        let p = position_of c.order net in
        ⊎_elim (λ (readers : AreReadersDue bits.readers (slice_index c.order p) due). absurd
        (let some : is_due due number ≡ true = readers number
        (subst (λ (n : ℕ). Contains (readers_of bits.readers n) number) (sym (net_again (job c) fits net low))
        (of_nets.has number within)) in
        let no : true ≡ false = sym some ∙ clear in cc))
        (λ same. same) (marked_all due marked p (position_in (job c) fits net low))
