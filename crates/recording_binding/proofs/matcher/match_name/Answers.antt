-- A name with a space has no nets; the key of another finds them.
use Rattle.std.proofs.Common.{◌≡◌, List, [], ◌∷◌, ◌++◌, ℕ, true, false, sym, ap, subst, ◌∙◌, IfOk}
use Rattle.design_circuit.specs.declared.design.Design.{Design}
use Rattle.recording_binding.specs.Bits.{matched_by}
use Rattle.recording_binding.specs.Keys.{IsKey, is_solid}
use Rattle.recording_binding.specs.Naming.{nets_of}
use Rattle.recording_binding.specs.Telling.{bare}
use Rattle.recording_binding.proofs.SolidLemmas.{spaced_none, key_more}
use Rattle.recording_binding.proofs.matcher.match_name.Goals as goal

pub returns-then-not-is_solid : goal.returns-then-not-is_solid
returns-then-not-is_solid c = λ below k.
    (let text = bare c.args.reference.now in
    let no : is_solid text ≡ false = ap is_solid (sym c.bare-text.ensures) ∙ sym c.is_solid.ensures ∙ c.if-not-is_solid.true in
    sym (ap (λ (nets : List ℕ). matched_by c.args.names.now nets c.args.range c.args.width) (spaced_none c.args.names.now below text c.requires.fits no)))

pub returns : goal.returns
returns c = λ below k.
    (let names = c.args.names.now in
    let key = c.args.key.now in
    let text = c.bare-text.result.now in
    let own = bare c.args.reference.now in
    let nets = c.nets-nets.result.now in
    let range = c.args.range in
    let width = c.args.width in
    let solid : is_solid text ≡ true = sym c.is_solid.ensures ∙ c.if-not-is_solid.false in
    let whole : c.as_slice.result.now ≡ (key ++ text) ++ 32 ∷ [] = c.as_slice.ensures.value ∙ c.in_ok-put_text.ensures ∙ ap (λ (l : List ℕ). (l ++ text) ++ 32 ∷ []) c.in_ok-own.ensures.items in
    let is : IsKey (below ++ text ∷ []) c.as_slice.result.now = subst (λ (l : List ℕ). IsKey (below ++ text ∷ []) l) (sym whole) (key_more below key text k solid) in
    let found : nets ≡ nets_of names (below ++ own ∷ []) = c.nets-nets.ensures.named (below ++ text ∷ []) is ∙ ap (λ (t : List ℕ). nets_of names (below ++ t ∷ [])) c.bare-text.ensures in
    subst (λ (l : List ℕ). IfOk c.match_nets.result (λ m. m ≡ matched_by names l range width)) found
    (subst (λ (d : Design). IfOk c.match_nets.result (λ m. m ≡ matched_by d nets range width)) c.design.ensures.is c.match_nets.ensures))
