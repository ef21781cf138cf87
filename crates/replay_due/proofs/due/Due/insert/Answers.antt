-- The bit of the position is set.
use Rattle.std.proofs.Common.{◌≡◌, ◌/◌, ◌<◌, ◌∙◌, List, ℕ, length, slice_index, arith, ap}
use Rattle.std.proofs.lemmas.List.{get_or_default}
use Rattle.replay_due.specs.Due.{is_due}
use Rattle.replay_due.proofs.Words.{levels_insert, set_here, set_elsewhere}
use Rattle.replay_due.proofs.due.Due.insert.Goals as goal

pub returns-clause-here : goal.returns-clause-here
returns-clause-here c =
    let view : c.self.inside.words.items ≡ c.args.self.now = c.self.view_is in
    let room : c.args.position / 64 < length c.self.inside.words.items = rw view c.requires in
    set_here c.self.inside.words.items c.args.position c.index-word.result.now room

pub returns-clause-others : goal.returns-clause-others
returns-clause-others c = λ other differ.
    (let view : c.self.inside.words.items ≡ c.args.self.now = c.self.view_is in
    let room : c.args.position / 64 < length c.self.inside.words.items = rw view c.requires in
    let word : c.index-word.result.now ≡ slice_index c.self.inside.words.items (c.args.position / 64) = c.index-word.ensures ∙ get_or_default c.self.inside.words.items (c.args.position / 64) c.index-word.result.now 0 room in
    set_elsewhere c.self.inside.words.items c.args.position c.index-word.result.now other room word differ ∙ ap (λ (ws : List ℕ). is_due ws other) view)

pub invariant_of-self : goal.invariant_of-self
invariant_of-self c =
    let view : c.self.inside.words.items ≡ c.args.self.now = c.self.view_is in
    let less : c.args.position / 64 < length c.self.inside.words.items = rw view c.requires in
    let room = c.self.invariant.room in
    let inside : c.args.position / 64 / 64 < length c.self.inside.groups.items = omega (arith, less, room) in
    let group : c.index-group.result.now ≡ slice_index c.self.inside.groups.items (c.args.position / 64 / 64) = c.index-group.ensures ∙ get_or_default c.self.inside.groups.items (c.args.position / 64 / 64) c.index-group.result.now 0 inside in
    levels_insert c.self.inside.words.items c.self.inside.groups.items (c.args.position / 64) c.index-group.result.now _ less group c.self.invariant
