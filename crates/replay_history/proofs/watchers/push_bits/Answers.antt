-- One bit more.
use Rattle.std.proofs.Common.{◌++◌, ◌∙◌, ◌<◌, [], ◌∷◌, ℕ, List, append_assoc, ap, arith, length, slice_index_or, sym, take}
use Rattle.replay_due.specs.declared.readings.Reading.{Reading}
use Rattle.replay_fans.specs.Readings.{readings_of}
use Rattle.replay_history.proofs.Bindings.{bit_more}
use Rattle.replay_history.proofs.watchers.push_bits.Goals as goal

pub nets-preserved : goal.nets-preserved
nets-preserved c =
    let bits = c.args.variable.now.bits in
    let same = ap length c.as_slice-net-items.ensures in
    let less : c.nets.net-index < length c.args.variable.now.bits = (let test = c.nets-test.true in omega (arith, same, test)) in
    c.in_ok-push_net.ensures
    ∙ ap (λ (nets : List ℕ). c.nets.readings.items ++ readings_of c.args.number (slice_index_or nets c.nets.net-index 0 ∷ [])) c.as_slice-net-items.ensures
    ∙ ap (λ (rs : List Reading). rs ++ readings_of c.args.number (slice_index_or c.args.variable.now.bits c.nets.net-index 0 ∷ [])) c.nets.invariant
    ∙ append_assoc c.args.readings.now.items (readings_of c.args.number (take c.nets.net-index bits)) (readings_of c.args.number (slice_index_or bits c.nets.net-index 0 ∷ []))
    ∙ ap (λ (rs : List Reading). c.args.readings.now.items ++ rs) (sym (bit_more c.args.number bits c.nets.net-index 0 less))
