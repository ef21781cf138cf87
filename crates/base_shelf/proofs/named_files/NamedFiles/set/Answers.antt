-- The map of the code is set at the name, which the key copies.
use Rattle.std.proofs.Common.{◌≡◌, rules, string_bytes}
use Rattle.base_shelf.proofs.Lookups.{sets}
use Rattle.base_shelf.proofs.named_files.NamedFiles.set.Goals as goal

pub returns-clause-ok : goal.returns-clause-ok
returns-clause-ok c =
    let key : string_bytes c.in_ok-key.key ≡ c.args.name.now = search rules in
    rw (← key) (sets _ c.self.inside.files c.insert.new.self (string_bytes c.in_ok-key.key) c.args.bytes c.self.view_is c.in_ok-insert.ensures.updates)
