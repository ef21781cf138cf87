-- The numbers with their words, one after another.
use Rattle.std.proofs.Common.{◌∙◌, ◌++◌, ℕ, [], ◌∷◌, codes, ap}
use Rattle.std.proofs.lemmas.Result.{on_ok_weaker}
use Rattle.report_bits.specs.Counts.{counts_of}
use Rattle.report_bits.specs.declared.counts.Counts.{Counts}
use Rattle.report_listing.specs.Audit.{counted_text}
use Rattle.report_listing.proofs.Appended.{five_put}
use Rattle.report_listing.proofs.found.put_audit_head.Goals as goal

pub returns : goal.returns
returns c =
    let wave = c.args.wave.now in
    let told = c.in_ok-undecided.ensures.counts in
    on_ok_weaker c.put.result (λ last.
    five_put c.args.text.now.items c.put_counted.new.text.items c.put_counted-2.new.text.items c.put_counted-3.new.text.items
    c.put_counted-4.new.text.items c.put.new.text.items (counted_text (codes "audit places ") _)
    (counted_text (codes " listed ") c.args.listed) (counted_text (codes " open ") c.args.unsure)
    (counted_text (codes " undecided ") (counts_of wave).undecided) (10 ∷ [])
    (c.in_ok-put_counted.ensures ∙ ap (λ (n : ℕ). c.args.text.now.items ++ counted_text (codes "audit places ") n) c.count.ensures.count)
    c.in_ok-put_counted-2.ensures c.in_ok-put_counted-3.ensures
    (c.in_ok-put_counted-4.ensures
    ∙ ap (λ (n : ℕ). c.put_counted-3.new.text.items ++ counted_text (codes " undecided ") n) (ap (λ (k : Counts). k.undecided) told))
    last) c.put.ensures
