-- The net at the guessed place is the one with the index.
use Rattle.std.proofs.Common.{◌≡◌, ◌≤◌, ◌-◌, true, get_or, length, drop, sym, ◌∙◌, arith}
use Rattle.std.proofs.lemmas.List.{take_all, length-drop}
use Rattle.recording_binding.specs.Bits.{has_index}
use Rattle.recording_binding.proofs.BitLemmas.{rest_is}
use Rattle.recording_binding.proofs.bits.rest_from.Goals as goal

pub returns-then-has_index-clause-is : goal.returns-then-has_index-clause-is
returns-then-has_index-clause-is c =
    let nets = c.args.nets.now in
    let guess = c.guessed_place-guess.result in
    let has : has_index c.args.design.now c.args.index (get_or nets guess 0) ≡ true = sym c.has_index.ensures ∙ c.if-has_index.true in
    let short : length (drop guess nets) ≤ length nets - guess = omega (arith, length-drop guess nets) in
    take_all _ _ short ∙ rest_is c.args.design.now c.args.index guess nets c.requires.apart c.if-guess-nets.true has
