-- The map has the nets of each key.
use Rattle.std.proofs.Common.{◌≡◌, ◌<◌, ℕ, List, [], Some, None, length, All, sym, subst, ◌∙◌}
use Rattle.design_circuit.specs.declared.design.Design.{Design}
use Rattle.recording_binding.specs.Bits.{AreApart}
use Rattle.recording_binding.specs.Keys.{keyed_below}
use Rattle.recording_binding.specs.Naming.{nets_of}
use Rattle.recording_binding.proofs.KeyLemmas.{found_is, keyed_within, keyed_apart}
use Rattle.recording_binding.proofs.NameLemmas.{keyed_named}
use Rattle.recording_binding.proofs.naming.Names.nets.Goals as goal

pub returns-in-Some-clause-named : goal.returns-in-Some-clause-named
returns-in-Some-clause-named c = λ name is.
    (let d = c.self.inside.design.now in
    let key = c.args.key.now in
    let nets = c.as_slice.result.now in
    let e : nets ≡ keyed_below d key (length d.nets) = c.as_slice.ensures.value ∙ sym (found_is c.self.inside.lists.entries key (Some c.in-Some.nets.now) c.in-Some.ensures.value) ∙ c.self.invariant.1.nets key in
    subst (λ (x : Design). nets ≡ nets_of x name) c.self.view_is (e ∙ keyed_named d name key c.self.invariant.0 is))

pub returns-in-Some-clause-within : goal.returns-in-Some-clause-within
returns-in-Some-clause-within c =
    let d = c.self.inside.design.now in
    let key = c.args.key.now in
    let nets = c.as_slice.result.now in
    let e : nets ≡ keyed_below d key (length d.nets) = c.as_slice.ensures.value ∙ sym (found_is c.self.inside.lists.entries key (Some c.in-Some.nets.now) c.in-Some.ensures.value) ∙ c.self.invariant.1.nets key in
    subst (λ (x : Design). All (λ net. net < length x.nets) nets) c.self.view_is (subst (λ (l : List ℕ). All (λ net. net < length d.nets) l) (sym e) (keyed_within d key (length d.nets)))

pub returns-in-Some-clause-apart : goal.returns-in-Some-clause-apart
returns-in-Some-clause-apart c =
    let d = c.self.inside.design.now in
    let key = c.args.key.now in
    let nets = c.as_slice.result.now in
    let e : nets ≡ keyed_below d key (length d.nets) = c.as_slice.ensures.value ∙ sym (found_is c.self.inside.lists.entries key (Some c.in-Some.nets.now) c.in-Some.ensures.value) ∙ c.self.invariant.1.nets key in
    subst (λ (x : Design). AreApart x nets) c.self.view_is (subst (λ (l : List ℕ). AreApart d l) (sym e) (keyed_apart d key c.self.invariant.0))

pub returns-in-None-clause-named : goal.returns-in-None-clause-named
returns-in-None-clause-named c = λ name is.
    (let d = c.self.inside.design.now in
    let key = c.args.key.now in
    let none : List ℕ = [] in
    let e : none ≡ keyed_below d key (length d.nets) = sym (found_is c.self.inside.lists.entries key None c.in-None.ensures.value) ∙ c.self.invariant.1.nets key in
    subst (λ (x : Design). none ≡ nets_of x name) c.self.view_is (e ∙ keyed_named d name key c.self.invariant.0 is))
