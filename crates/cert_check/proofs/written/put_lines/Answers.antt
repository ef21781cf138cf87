-- A line with its turns.
use Rattle.std.proofs.Common.{◌∙◌, sym}
use Rattle.cert_writer.specs.Text.{line_text}
use Rattle.cert_check.proofs.PutEntries.{line_counted, line_few, line_put, parts_of}
use Rattle.cert_check.proofs.written.put_lines.Goals as goal

pub lines-preserved-in_ok-count : goal.lines-preserved-in_ok-count
lines-preserved-in_ok-count c =
    let line = parts_of c.lines.left.now c.line-item.result c.line-item.is c.in-len1-up.len_at_least in
    let condition = parts_of c.lines.unused.now c.condition-item.result c.condition-item.is
    c.in-len1-up-unused.len_at_least in
    let gives = sym c.gives_bit.ensures ∙ c.if-gives_bit.true in
    record {
      text = line_put c.lines.text.items c.put_turns.new.text.items _ c.line-item.result c.condition-item.result _
          c.lines.left.now _
          c.lines.unused.now c.put_line.new.text.items line condition gives c.in_ok-put_line.ensures
          c.in_ok-count.ensures.text
          c.lines.invariant.text;
      count = line_counted c.lines.count c.in_ok-count.field-0 _ c.line-item.result c.condition-item.result _
          c.lines.left.now _
          c.lines.unused.now line condition gives c.in_ok-count.ensures.count c.lines.invariant.count;
      few = line_few c.lines.count c.in_ok-count.field-0 c.lines.text.items c.put_line.new.text.items
          c.put_turns.new.text.items
          (line_text c.line-item.result) c.lines.invariant.few c.in_ok-put_line.ensures c.in_ok-count.ensures.few;
    }
