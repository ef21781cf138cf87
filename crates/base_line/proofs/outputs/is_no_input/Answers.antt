-- None of the inputs, and none of the FILEs.
use Rattle.std.proofs.Common.{◌≢◌, map}
use Rattle.std.specs.Prelude.{string_bytes}
use Rattle.std.specs.Borrow.{Bor}
use Rattle.base_line.specs.Line.{Text}
use Rattle.base_line.proofs.Apart.{all_append, all_back, all_front, none_from, none_to}
use Rattle.base_line.proofs.outputs.is_no_input.Goals as goal

pub returns : goal.returns
returns c =
    let output = c.args.output.now in
    let inputs = c.args.inputs.now in
    let files = c.args.files.now in
    let P = λ (name : Text). name ≢ output in
    let xs = map (λ (s : Bor Text). s.now) inputs in
    let ys = map string_bytes files in (
      λ yes. (
          let parts = c.both.ensures.0 yes in
          all_append P xs ys (none_to (λ s. s.now) output inputs (c.is_none_of.ensures.0 parts.0)) (none_to string_bytes output files (c.is_no_file.ensures.0 parts.1))),
      λ all. c.both.ensures.1 (
        c.is_none_of.ensures.1 (none_from (λ s. s.now) output inputs (all_front P xs ys all)),
        c.is_no_file.ensures.1 (none_from string_bytes output files (all_back P xs ys all)),
      ),
    )
