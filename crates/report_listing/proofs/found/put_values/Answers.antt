-- The values with their words, one after another.
use Rattle.std.proofs.Common.{◌∙◌, ◌++◌, ℕ, [], ◌∷◌, codes, ap}
use Rattle.std.proofs.lemmas.Result.{on_ok_weaker}
use Rattle.design_cell.specs.Value.{letter_of}
use Rattle.report_listing.specs.Audit.{values_text}
use Rattle.report_listing.proofs.Appended.{four_put}
use Rattle.report_listing.proofs.found.put_values.Goals as goal

pub returns : goal.returns
unfolding values_text
returns c =
    on_ok_weaker c.put-4.result (λ last.
    four_put c.args.text.now.items c.put.new.text.items c.put-2.new.text.items c.put-3.new.text.items c.put-4.new.text.items
    (codes " replayed ") (letter_of c.args.replayed ∷ []) (codes " found ") (letter_of c.args.found ∷ [])
    c.in_ok-put.ensures
    (c.in_ok-put-2.ensures ∙ ap (λ (n : ℕ). c.put.new.text.items ++ n ∷ []) c.letter.ensures)
    c.in_ok-put-3.ensures
    (last ∙ ap (λ (n : ℕ). c.put-3.new.text.items ++ n ∷ []) c.letter-2.ensures)) c.put-4.ensures
