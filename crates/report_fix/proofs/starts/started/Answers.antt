-- One piece more, or the first at fault.
use Rattle.std.proofs.Common.{◌≡◌, ◌<◌, ◌∙◌, List, [], ◌∷◌, ◌++◌, ℕ, length, ap, rules, not, slice_set, if◌then◌else◌}
use Rattle.design_cell.specs.declared.value.Value.{Value}
use Rattle.design_cell.specs.Value.{bit_value}
use Rattle.design_circuit.specs.declared.design.Design.{Design}
use Rattle.elab_names.specs.Sets.{has}
use Rattle.report_fix.specs.Registers.{register_named}
use Rattle.report_fix.specs.Started.{IsFirstFault, Piece, piece_at}
use Rattle.report_fix.proofs.SetStarts.{IsInHand, IsSetTo, first_fault, piece_is, piece_set, refused_by}
use Rattle.report_fix.proofs.starts.started.Goals as goal

pub pieces-preserved : goal.pieces-preserved
pieces-preserved c =
    let design = c.args.design.now in
    let starts = c.args.starts.now in
    let sets = c.args.sets.now in
    let n = c.pieces.index in
    let within : n < length sets = search rules in
    let at = piece_is sets n c.index-sets-index.result within in
    let name : c.as_slice-name.result.now ≡ (piece_at sets n).0 =
    c.as_slice-name.ensures ∙ ap (λ (piece : Piece). piece.0) at in
    let hand : IsInHand design sets n c.pieces.names c.in_ok-fresh.fresh c.find.result = record {
      within = within;
      names = c.pieces.invariant.names;
      fresh = c.in_ok-fresh.ensures.new ∙ ap (λ (l : List ℕ). not (has c.pieces.names l)) name;
      found = c.find.ensures.named
          ∙ ap (λ (d : Design). register_named d.nets c.as_slice-name.result.now) c.in_ok-registers.ensures
          ∙ ap (register_named design.nets) name;
    } in
    let before : IsSetTo design starts sets n c.pieces.names c.pieces.new.items = record {
      names = c.pieces.invariant.names;
      fine = c.pieces.invariant.fine;
      starts = c.pieces.invariant.starts;
      long = c.pieces.invariant.long;
    } in
    let grown = c.in_ok-fresh.ensures.names
    ∙ ap (λ (l : List ℕ). if c.in_ok-fresh.fresh then c.pieces.names ++ l ∷ [] else c.pieces.names) name in
    let bit : c.from_bit.result ≡ bit_value (piece_at sets n).1 = c.from_bit.ensures
    ∙ ap (λ (piece : Piece). bit_value piece.1) (piece_is sets n c.index-sets-index-in-pieces.result within) in
    let set = piece_set design starts sets n c.pieces.names c.add.new.self c.in_ok-fresh.fresh c.find.result
    c.in_ok-net.net c.pieces.new.items hand before c.in_ok-net.ensures.register c.in_ok-net.ensures.fine grown in
    record {
      names = set.names;
      fine = set.fine;
      starts = ap (slice_set c.pieces.new.items c.in_ok-net.net) bit ∙ set.starts;
      long = ap (λ (v : Value). length (slice_set c.pieces.new.items c.in_ok-net.net v)) bit ∙ set.long;
    }

pub returns-in_err-net-clause-refused : goal.returns-in_err-net-clause-refused
returns-in_err-net-clause-refused c =
    let design = c.args.design.now in
    let starts = c.args.starts.now in
    let sets = c.args.sets.now in
    let n = c.pieces.index in
    let within : n < length sets = search rules in
    let at = piece_is sets n c.index-sets-index.result within in
    let name : c.as_slice-name.result.now ≡ (piece_at sets n).0 =
    c.as_slice-name.ensures ∙ ap (λ (piece : Piece). piece.0) at in
    let hand : IsInHand design sets n c.pieces.names c.in_ok-fresh.fresh c.find.result = record {
      within = within;
      names = c.pieces.invariant.names;
      fresh = c.in_ok-fresh.ensures.new ∙ ap (λ (l : List ℕ). not (has c.pieces.names l)) name;
      found = c.find.ensures.named
          ∙ ap (λ (d : Design). register_named d.nets c.as_slice-name.result.now) c.in_ok-registers.ensures
          ∙ ap (register_named design.nets) name;
    } in
    let first : IsFirstFault design starts sets c.in_err-net.field-0.0 =
    first_fault design starts sets n c.pieces.names c.in_ok-fresh.fresh c.find.result c.in_err-net.field-0.0 hand
    c.pieces.invariant.fine c.in_err-net.ensures.fault in
    refused_by c.from_residual-in_err-net.result c.in_err-net.field-0.0 c.from_residual-in_err-net.ensures.1 first
