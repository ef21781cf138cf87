-- One net more.
use Rattle.std.proofs.Common.{rules, ◌≡◌, ◌≤◌, ◌<◌, ℕ, List, length, get_or, map, sym, ap, subst, ◌∙◌, arith, add-one}
use Rattle.design_circuit.specs.declared.name.NamePart.{NamePart}
use Rattle.recording_binding.specs.Keys.{Lists, key_of}
use Rattle.recording_binding.specs.Naming.{texts_of}
use Rattle.recording_binding.proofs.KeyLemmas.{texts_at, lists_more}
use Rattle.recording_binding.proofs.naming.Names.new.Goals as goal

pub nets-preserved : goal.nets-preserved
nets-preserved c =
    let d = c.args.design.now in
    let number = c.nets.number in
    let net = c.net-item.result in
    let key = c.in_ok-key.key in
    let within : number < length d.nets = search rules in
    let is : net ≡ get_or d.nets number net = search rules in
    let key_is : key.items ≡ key_of (texts_of d number) = c.in_ok-key.ensures ∙ ap (λ (ps : List NamePart). key_of (map (λ (p : NamePart). p.text) ps)) c.as_slice.ensures ∙ ap key_of (sym (texts_at d number net within is)) in
    let long : length key.items ≤ c.greater-longest.result = omega (arith, c.greater-longest.ensures.second, c.len.ensures, key.ok.0) in
    subst (λ (n : ℕ). Lists c.add_net.new.lists.entries c.greater-longest.result d n) (sym (add-one number))
    (lists_more d c.nets.lists.entries c.add_net.new.lists.entries c.nets.longest c.greater-longest.result number key.items c.nets.invariant key_is c.in_ok-add_net.ensures c.greater-longest.ensures.first long)
