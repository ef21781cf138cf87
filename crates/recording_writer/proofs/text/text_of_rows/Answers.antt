-- The parts are put one behind the other.
use Rattle.std.proofs.Common.{◌∙◌, ◌++◌, List, ℕ, [], ap, codes}
use Rattle.base_lists.specs.Text.{line}
use Rattle.recording_binding.specs.declared.binding.Bound.{Bound}
use Rattle.recording_writer.specs.Declarations.{declaration_lines}
use Rattle.recording_writer.specs.Moments.{lines_from}
use Rattle.recording_writer.specs.Text.{timescale_line, vcd_text}
use Rattle.recording_writer.proofs.Grown.{five_put}
use Rattle.recording_writer.proofs.text.text_of_rows.Goals as goal

pub returns : goal.returns
unfolding vcd_text
returns g c =
    let design = c.args.design.now in
    let binding = c.args.bound.now in
    let stim = c.args.stim.now in
    five_put (line (codes "$version xrepair $end")) (timescale_line binding.timescale) (declaration_lines design [] 0 binding.bound)
    (line (codes "$enddefinitions $end")) (lines_from c.args.rows.history stim.rounds binding.bound 0 stim.times)
    c.put.new.text.items c.put_timescale.new.text.items c.put_declarations.new.text.items c.put-2.new.text.items
    c.put_moments.new.text.items
    (c.in_ok-put.ensures ∙ ap (λ (t : List ℕ). t ++ line (codes "$version xrepair $end")) c.new-text.ensures.items)
    c.in_ok-put_timescale.ensures
    (c.in_ok-put_declarations.ensures
    ∙ ap (λ (bs : List Bound). c.put_timescale.new.text.items ++ declaration_lines design [] 0 bs) c.as_slice.ensures)
    c.in_ok-put-2.ensures c.in_ok-put_moments.ensures
