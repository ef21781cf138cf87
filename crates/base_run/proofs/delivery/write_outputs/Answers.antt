-- An output more is written; or one isn't.
use Rattle.std.proofs.Common.{rules, ◌≡◌, ◌<◌, ◌∙◌, ℕ, Err, Some, length, map, inl, inr, refl, ap, subst, arith}
use Rattle.std.specs.Prelude.{slice_get, option_map}
use Rattle.std.proofs.lemmas.List.{length-map}
use Rattle.std.proofs.lemmas.Option.{slice_get_read, slice_get-map}
use Rattle.base_run.specs.Outputs.{WrittenTo, file_of}
use Rattle.base_run.proofs.Files.{none_written, one_written}
use Rattle.base_run.proofs.Steps.{later_here, later_twice, same_here, same_twice, unwritten_after}
use Rattle.base_run.proofs.delivery.write_outputs.Goals as goal

pub outputs-init : goal.outputs-init
outputs-init g c =
    let old = g.S.Shelf.view c.args.shelf.now in
    record {
      before = none_written g.S.Shelf.told (map file_of c.args.outputs.now) old.written;
      files = refl;
      later = later_here old;
      kept = same_here old;
      closed = inr refl;
    }

pub outputs-preserved : goal.outputs-preserved
outputs-preserved g c =
    let inv = c.outputs.invariant in
    let step = c.in_ok-write_output.ensures in
    let old = g.S.Shelf.view c.args.shelf.now in
    let mid = g.S.Shelf.view c.outputs.shelf in
    let new = g.S.Shelf.view c.write_output.new.shelf in
    let outputs = c.args.outputs.now in
    let i = c.outputs.output-index in
    let within : i < length outputs = search rules in
    let is : slice_get (map file_of outputs) i ≡ Some (file_of c.output-item.result) =
    slice_get-map file_of outputs i ∙ ap (option_map file_of) (slice_get_read outputs (length outputs) i c.output-item.result refl within c.output-item.is) in
    record {
      before = one_written g.S.Shelf.told i (map file_of outputs) (file_of c.output-item.result) old.written mid.written new.written c.requires inv.before is step.others step.ends.0;
      files = step.same ∙ inv.files;
      later = later_twice old mid new inv.later step.later;
      kept = same_twice old mid new inv.kept step.ends.1;
      closed = inl step.ends.2;
    }

pub returns-in_err-write_output : goal.returns-in_err-write_output
returns-in_err-write_output g c =
    let inv = c.outputs.invariant in
    let step = c.in_err-write_output.ensures in
    let old = g.S.Shelf.view c.args.shelf.now in
    let mid = g.S.Shelf.view c.outputs.shelf in
    let new = g.S.Shelf.view c.write_output.new.shelf in
    let outputs = c.args.outputs.now in
    let i = c.outputs.output-index in
    let within : i < length outputs = search rules in
    let e = c.in_err-write_output.field-0.0 in
    let file = file_of c.output-item.result in
    let is : slice_get (map file_of outputs) i ≡ Some file =
    slice_get-map file_of outputs i ∙ ap (option_map file_of) (slice_get_read outputs (length outputs) i c.output-item.result refl within c.output-item.is) in
    let told : c.from_residual.result ≡ Err e = search rules in
    rw told record {
      later = later_twice old mid new inv.later step.later;
      same = step.same ∙ inv.files;
      ends = (i, record { file = file; is = is; cause = unwritten_after file old mid new e inv.later inv.kept step.ends });
    }

pub returns : goal.returns
returns g c =
    let inv = c.outputs.invariant in
    let old = g.S.Shelf.view c.args.shelf.now in
    let new = g.S.Shelf.view c.outputs.shelf in
    let files = map file_of c.args.outputs.now in
    let long : length files ≡ length c.args.outputs.now = length-map c.args.outputs.now file_of in
    let all : c.outputs.output-index ≡ length files = omega (arith, long) in
    record {
      later = inv.later;
      same = inv.files;
      ends = (subst (λ (k : ℕ). WrittenTo g.S.Shelf.told k files old.written new.written) all inv.before, inv.kept, inv.closed);
    }
