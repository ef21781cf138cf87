-- The digits so far and those of the values that are left are all.
use Rattle.std.proofs.Common.{◌≡◌, ◌++◌, drop}
use Rattle.cert_writer.specs.Text.{model_word}
use Rattle.cert_writer.proofs.write_turn.put_values.Given as goal

abbrev pub invariant-values : goal.invariant-values
invariant-values l = l.text.items ++ model_word (drop l.value-index l.values) ≡ l.fn.text.items ++ model_word l.values
