-- One scope more.
use Rattle.std.proofs.Common.{◌≡◌, ◌∷◌, [], ◌++◌, ◌+◌, ℕ, List, sym, ap, subst, ◌∙◌, add-one}
use Rattle.recording_reader.specs.Recording.{path_at}
use Rattle.recording_binding.specs.Scopes.{KeepsAll}
use Rattle.recording_binding.specs.declared.scopes.ScopeKey.{ScopeKey}
use Rattle.recording_binding.proofs.ScopeLemmas.{kept_more, first_kept}
use Rattle.recording_binding.proofs.scopes.keys_of.Goals as goal

pub scopes-init : goal.scopes-init
scopes-init c = first_kept c.args.names.now c.args.scope.now c.args.recording.now.scopes c.in_ok-keys.keys.items c.requires.some c.scope_count-count.ensures.outside c.in_ok-keys.ensures

pub scopes-preserved : goal.scopes-preserved
scopes-preserved c =
    let paths = c.args.recording.now.scopes in
    let number = c.scopes.number in
    let parent = c.scope_parent.result in
    let name = c.scope_name.result.now in
    let all = c.scopes.keys.items ++ c.in_ok-key.key ∷ [] in
    let path : path_at paths number ≡ path_at paths parent ++ name ∷ [] = c.scope_parent.ensures.path ∙ ap (λ (n : List ℕ). path_at paths parent ++ n ∷ []) (sym c.scope_name.ensures) in
    let pushed : c.push.new.self.items ≡ all = c.in_ok-push.ensures.items in
    let next : KeepsAll c.args.names.now c.args.scope.now paths all (number + 1) =
    subst (λ (n : ℕ). KeepsAll c.args.names.now c.args.scope.now paths all n) (sym (add-one number))
    (kept_more c.args.names.now c.args.scope.now paths c.scopes.keys.items number parent name c.index-above.result.now c.in_ok-key.key c.scopes.invariant c.scope_parent.ensures.before c.index-above.ensures path c.in_ok-key.ensures) in
    subst (λ (l : List ScopeKey). KeepsAll c.args.names.now c.args.scope.now paths l (number + 1)) (sym pushed) next
