-- What is found among the nets of the texts is the net of the name.
use Rattle.std.proofs.Common.{subst, sym}
use Rattle.design_circuit.specs.declared.design.Design.{Design}
use Rattle.recording_binding.specs.Keys.{IsKey}
use Rattle.replay_code.specs.Found.{IsFoundNet, IsKeyOf, items_in, texts_in}
use Rattle.replay_code.proofs.Lookups.{found_is, unsolid_is}
use Rattle.replay_code.proofs.lookup.net_of.Goals as goal

pub returns-in-Some-clause-named : goal.returns-in-Some-clause-named
returns-in-Some-clause-named c =
    let design = c.args.names.now in
    let texts = texts_in c.args.texts.now in
    let key : IsKey texts c.in-Some.key.items = subst (λ k. IsKeyOf texts (items_in k)) c.in-Some.is c.in_ok-key.ensures in
    let nets = c.nets.ensures.named texts (subst (IsKey texts) (sym c.as_slice.ensures.value) key) in
    let fits = c.design-design.ensures.fits in
    let found = subst (λ (d : Design). IsFoundNet d c.nets.result.now c.args.index c.net_with.result) c.design-design.ensures.is c.net_with.ensures in
    found_is design texts c.args.index c.nets.result.now c.net_with.result fits nets found

pub returns-in-None-clause-named : goal.returns-in-None-clause-named
returns-in-None-clause-named c =
    let texts = texts_in c.args.texts.now in
    let spaced = subst (λ k. IsKeyOf texts (items_in k)) c.in-None.is c.in_ok-key.ensures in
    unsolid_is c.args.names.now texts c.args.index c.design-design.ensures.fits spaced
