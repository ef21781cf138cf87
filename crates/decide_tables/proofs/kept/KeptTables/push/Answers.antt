-- The table is seen after those that were, which stay.
use Rattle.std.proofs.Common.{rules, ◌≡◌, ◌∷◌, ◌++◌, [], List, ℕ, length, ap, ◌∙◌}
use Rattle.decide_tables.specs.Kept.{seen_tables}
use Rattle.decide_tables.specs.Tables.{NodeTable}
use Rattle.decide_tables.proofs.KeptBlocks.{seen_next}
use Rattle.decide_tables.proofs.kept.KeptTables.push.Goals as goal

pub returns : goal.returns
returns c =
    let long : c.len.result ≡ length c.self.inside.blocks.items = search rules in
    rw (c.in_ok-push.ensures.items, c.in_ok-extend_from_slice.ensures.items)
    (seen_next c.self.inside.blocks.items c.args.blocks.now c.self.inside.entries.items c.len.result
    c.in_ok-narrow.field-0 c.in_ok-narrow-2.field-0 c.self.invariant long c.in_ok-narrow-2.ensures
    ∙ ap (λ (n : ℕ). seen_tables c.self.inside.blocks.items c.self.inside.entries.items
    ++ record { node = n; blocks = c.args.blocks.now } ∷ []) c.in_ok-narrow.ensures
    ∙ ap (λ (ts : List NodeTable). ts ++ record { node = c.args.node; blocks = c.args.blocks.now } ∷ []) c.self.view_is)
