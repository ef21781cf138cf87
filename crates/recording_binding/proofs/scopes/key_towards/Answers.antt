-- The next name of the scope path.
use Rattle.std.proofs.Common.{◌≡◌, [], true, List, ℕ, get_or, bytes_eq, sym, ap, ◌∙◌}
use Rattle.std.proofs.lemmas.Bool.{not-false}
use Rattle.recording_binding.proofs.ScopeLemmas.{towards, text_at}
use Rattle.recording_binding.proofs.scopes.key_towards.Goals as goal

pub returns-then-depth-scope-2 : goal.returns-then-depth-scope-2
returns-then-depth-scope-2 c = λ design left a.
    (let scope = c.args.scope.now in
    let name = c.args.name.now in
    let own = c.as_slice.result.now in
    let is : get_or scope c.args.depth [] ≡ own = sym (text_at scope c.args.depth c.index-scope-depth.result a.within) ∙ sym c.index-scope-depth.is ∙ sym c.as_slice.ensures in
    let same : bytes_eq own name ≡ true = not-false (bytes_eq own name) (sym c.ne.ensures ∙ c.if-ne.false) in
    towards design scope left c.args.depth name a (ap (λ (t : List ℕ). bytes_eq t name) is ∙ same) c.if-depth-scope-2.true)
