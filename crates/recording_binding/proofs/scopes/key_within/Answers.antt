-- A scope with a space in its name, or with too long a key, binds nothing; any other has its key.
use Rattle.std.proofs.Common.{◌≡◌, ◌<◌, ◌+◌, ◌∷◌, [], ◌++◌, List, ℕ, true, false, length, map, sym, subst, ap, ◌∙◌}
use Rattle.recording_binding.specs.Keys.{IsKey, is_solid}
use Rattle.recording_binding.specs.Naming.{Texts}
use Rattle.recording_binding.specs.Scopes.{BindsNothing}
use Rattle.recording_binding.specs.Telling.{bare}
use Rattle.recording_binding.proofs.SolidLemmas.{spaced, lengthy, key_more, bare_more}
use Rattle.recording_binding.proofs.ScopeLemmas.{some_below}
use Rattle.recording_binding.proofs.scopes.key_within.Goals as goal

pub returns-then-not-is_solid : goal.returns-then-not-is_solid
returns-then-not-is_solid c = λ scope below k.
    (let name = c.args.name.now in
    let no : is_solid (bare name) ≡ false = ap is_solid (sym c.bare-text.ensures) ∙ sym c.is_solid.ensures ∙ c.if-not-is_solid.true in
    record { below = some_below below name; nothing = subst (λ (t : Texts). BindsNothing c.args.names.now t) (sym (bare_more below name)) (spaced c.args.names.now (map bare below) (bare name) c.requires no) })

pub returns-then-is_longer : goal.returns-then-is_longer
returns-then-is_longer c = λ scope below k.
    (let name = c.args.name.now in
    let key = c.args.key.now in
    let above : c.longest.result < length key + length (bare name) + 1 = subst (λ (t : List ℕ). c.longest.result < length key + length t + 1) c.bare-text.ensures (c.is_longer.ensures c.if-is_longer.true) in
    record { below = some_below below name; nothing = subst (λ (t : Texts). BindsNothing c.args.names.now t) (sym (bare_more below name)) (lengthy c.args.names.now (map bare below) key (bare name) c.longest.result k above c.longest.ensures) })

pub returns : goal.returns
returns c = λ scope below k.
    (let name = c.args.name.now in
    let key = c.args.key.now in
    let text = c.bare-text.result.now in
    let solid : is_solid text ≡ true = sym c.is_solid.ensures ∙ c.if-not-is_solid.false in
    let own : c.from_vec.result ≡ (key ++ text) ++ 32 ∷ [] = c.from_vec.ensures ∙ c.in_ok-put_text.ensures ∙ ap (λ (l : List ℕ). (l ++ text) ++ 32 ∷ []) c.in_ok-own.ensures.items in
    let below_all : map bare below ++ text ∷ [] ≡ map bare (below ++ name ∷ []) = ap (λ (t : List ℕ). map bare below ++ t ∷ []) c.bare-text.ensures ∙ sym (bare_more below name) in
    subst (λ (l : List ℕ). IsKey (map bare (below ++ name ∷ [])) l) (sym own) (subst (λ (t : Texts). IsKey t ((key ++ text) ++ 32 ∷ [])) below_all (key_more (map bare below) key text k solid)))
