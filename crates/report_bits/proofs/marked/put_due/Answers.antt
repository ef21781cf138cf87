-- What isn't due between two bits that are has no line.
use Rattle.std.proofs.Common.{◌+◌, ◌++◌, ◌≤◌, ◌∙◌, List, ℕ, ap, arith, length, refl, sym}
use Rattle.std.proofs.lemmas.List.{append-nil}
use Rattle.report_bits.specs.Lines.{step_in}
use Rattle.report_bits.proofs.BitLines.{bit_put, lines_past, to_next, unknown_all, unknown_next}
use Rattle.report_bits.proofs.marked.put_due.Goals as goal

pub bits-init : goal.bits-init
bits-init c =
    let here = c.args.here.now in
    let from = here.from in
    let first = c.first_from-number in
    record {
      lines = ap (λ (l : List ℕ). c.args.writer.now.text.items ++ l)
          (sym (to_next from.wave.now from.lines here.moment here.nets.now c.args.due.now c.requires.due 0 first.result
          (omega arith) first.ensures.none));
      writer = c.requires.writer;
      long = refl;
      unknown = λ known. unknown_next from.wave.now here.nets.now (step_in from here.moment)
          c.args.due.now c.args.unknown.now 0 first.result known first.ensures.none
          (λ number less. absurd (omega (arith, less)));
    }

pub bits-preserved : goal.bits-preserved
bits-preserved c =
    let here = c.args.here.now in
    let from = here.from in
    let number = c.bits.number in
    let next = c.first_from-number-in-bits in
    record {
      lines = bit_put from.wave.now from.lines here.moment here.nets.now c.args.due.now c.requires.due number
          next.result c.bits.writer.text.items _ c.put_number.new.writer.text.items _ c.bits-test.true refl next.ensures.forward
          next.ensures.none c.bits.invariant.lines c.in_ok-put_number.ensures.text;
      writer = c.in_ok-put_number.ensures.writer;
      long = c.in_ok-put_number.ensures.long ∙ c.bits.invariant.long;
      unknown = λ known. unknown_next from.wave.now here.nets.now (step_in from here.moment)
          c.args.due.now c.put_number.new.unknown (number + 1) next.result known next.ensures.none
          (c.in_ok-put_number.ensures.unknown (c.bits.invariant.unknown known));
    }

pub returns-clause-text : goal.returns-clause-text
returns-clause-text c =
    let here = c.args.here.now in
    let from = here.from in
    let test = c.bits-test.false in
    let past : length here.nets.now ≤ c.bits.number = omega (arith, test) in
    let text = c.bits.writer.text.items in
    sym (ap (λ (l : List ℕ). text ++ l)
    (lines_past from.wave.now from.lines here.moment here.nets.now c.args.due.now c.requires.due c.bits.number past)
    ∙ append-nil text) ∙ c.bits.invariant.lines

pub returns-clause-unknown : goal.returns-clause-unknown
returns-clause-unknown c =
    let here = c.args.here.now in
    let from = here.from in
    let test = c.bits-test.false in
    λ known. unknown_all from.wave.now here.nets.now (step_in from here.moment) c.bits.unknown
    c.bits.number (omega (arith, test)) (c.bits.invariant.unknown known)
