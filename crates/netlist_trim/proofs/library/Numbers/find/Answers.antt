-- The map means the list.
use Rattle.std.proofs.Common.{◌∙◌, List, ℕ, sym, ap, bytes_eq}
use Rattle.std.specs.Map.{lookup}
use Rattle.netlist_trim.proofs.Numbering.{found_is}
use Rattle.netlist_trim.proofs.library.Numbers.find.Goals as goal

pub returns : goal.returns
returns c =
    c.copied.ensures ∙ c.get.ensures.value ∙ sym (found_is c.self.inside.numbers.entries c.args.name.now)
    ∙ ap (λ (ns : List (List ℕ × ℕ)). lookup (bytes_eq c.args.name.now) ns) c.self.view_is
