-- The list of the key has one net more.
use Rattle.std.proofs.Common.{◌≡◌, ℕ, List, [], ◌++◌, Some, None, bytes_eq, if◌then◌else◌, sym, ap, ◌∙◌}
use Rattle.std.specs.Map.{lookup}
use Rattle.indexmap.proofs.CallerLemmas.{insert_entry-new}
use Rattle.recording_binding.specs.Keys.{Entries, nets_at}
use Rattle.recording_binding.proofs.KeyLemmas.{is_key, pushed, replaced, grown}
use Rattle.recording_binding.proofs.naming.add_net.Goals as goal

pub returns-in_ok-push-in-Some : goal.returns-in_ok-push-in-Some
returns-in_ok-push-in-Some c = λ q.
    (let es = c.args.lists.now.entries in
    let key = c.args.key.items in
    let old = c.in-Some.nets.now in
    let w = c.push.new.self in
    let text : c.as_slice.result.now ≡ key = c.as_slice.ensures.value in
    let there : lookup (is_key key) es ≡ Some old = sym (c.in-Some.ensures.value ∙ ap (λ (l : List ℕ). lookup (is_key l) es) text) in
    let seen : lookup (is_key c.as_slice.result.now) es ≡ Some old = sym c.in-Some.ensures.value in
    ap (λ (x : Entries). nets_at x q) (c.get_mut.follows.holds w).0 ∙ replaced es c.as_slice.result.now w old q seen
    ∙ ap (λ (l : List ℕ). if bytes_eq q l then w.items else nets_at es q) text ∙ grown es key w old c.args.net q there c.in_ok-push-in-Some.ensures.items)

pub returns-in_ok-insert-in-None : goal.returns-in_ok-insert-in-None
returns-in_ok-insert-in-None c = λ q.
    (let es = c.args.lists.now.entries in
    let v = c.in_ok-nets-in-None.nets in
    let absent : lookup (is_key c.args.key.items) es ≡ None = sym (c.in-None.ensures.value ∙ ap (λ (l : List ℕ). lookup (is_key l) es) c.as_slice.ensures.value) in
    let made = rw c.get_mut.follows.holds-at-none at c.in_ok-insert-in-None.ensures.entries in
    ap (λ (x : Entries). nets_at x q) (made ∙ insert_entry-new _ c.args.lists.now c.args.key v absent) ∙ pushed es c.args.key v q absent
    ∙ ap (λ (l : List ℕ). nets_at es q ++ (if bytes_eq q c.args.key.items then l else [])) c.in_ok-nets-in-None.ensures)
