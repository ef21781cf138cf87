-- The map means the list.
use Rattle.std.proofs.Common.{◌≡◌, ◌∙◌, List, ℕ, true, false, sym, ap, bytes_eq, is_some}
use Rattle.std.specs.Map.{lookup}
use Rattle.netlist_trim.specs.Library.{numbers_in}
use Rattle.base_scan.proofs.FirstNumbers.{number_known, number_new}
use Rattle.netlist_trim.proofs.Numbering.{found_is, inserted_is}
use Rattle.netlist_trim.proofs.library.Numbers.add.Goals as goal

pub returns-in_ok-insert : goal.returns-in_ok-insert
returns-in_ok-insert c =
    let entries = c.self.inside.numbers.entries in
    let name = c.args.name.now in
    let absent : is_some (lookup (bytes_eq name) (numbers_in entries)) ≡ false = ap is_some (found_is entries name) ∙ sym c.contains_key.ensures ∙ c.if-not-contains_key.true in
    let there : is_some (lookup (bytes_eq name) c.args.self.now) ≡ false = ap (λ (ns : List (List ℕ × ℕ)). is_some (lookup (bytes_eq name) ns)) (sym c.self.view_is) ∙ absent in
    ap numbers_in c.in_ok-insert.ensures.entries ∙ inserted_is entries c.args.name c.args.number absent
    ∙ number_new (numbers_in entries) c.args.self.now name c.args.number c.self.view_is there

pub returns-else-not-contains_key : goal.returns-else-not-contains_key
returns-else-not-contains_key c =
    let entries = c.self.inside.numbers.entries in
    let name = c.args.name.now in
    let there : is_some (lookup (bytes_eq name) c.args.self.now) ≡ true =
    ap (λ (ns : List (List ℕ × ℕ)). is_some (lookup (bytes_eq name) ns)) (sym c.self.view_is) ∙ ap is_some (found_is entries name) ∙ sym c.contains_key.ensures ∙ c.if-not-contains_key.false in
    number_known c.args.self.now name c.args.number there
