-- One net more, and all of them.
use Rattle.std.proofs.Common.{◌≡◌, ◌∙◌, ℕ, ◌+◌, ◌<◌, List, length, set, sym, ap, subst, arith, slice_index, length-set}
use Rattle.design_circuit.specs.Job.{driver_in}
use Rattle.design_circuit.specs.declared.design.Net.{Net}
use Rattle.recording_binding.specs.Originals.{listed_original, original_of}
use Rattle.recording_binding.proofs.CopiedHolders.{copied_within}
use Rattle.recording_binding.proofs.Copying.{listed_all, listed_more}
use Rattle.recording_binding.proofs.originals.originals_of.Goals as goal

pub net-net-requires : goal.net-net-requires
net-net-requires c =
    let all = c.requires.order.all in
    let many = ap (λ (l : List Net). length l) c.as_slice-count.ensures in
    let test = c.positions-test.true in
    omega (arith, all, many, test)

pub original_by-original-requires-clause-net : goal.original_by-original-requires-clause-net
original_by-original-requires-clause-net c =
    let is = c.requires.order in
    let all = is.all in
    let many = ap (λ (l : List Net). length l) c.as_slice-count.ensures in
    let test = c.positions-test.true in
    let there = (is.next c.positions.position (omega (arith, all, many, test))).within in
    let same = c.net-net.ensures in
    omega (arith, there, same)

pub original_by-original-requires-clause-known : goal.original_by-original-requires-clause-known
original_by-original-requires-clause-known c =
    let d = c.args.design.now in
    let is = c.requires.order in
    let all = is.all in
    let many = ap (λ (l : List Net). length l) c.as_slice-count.ensures in
    let test = c.positions-test.true in
    let there = (is.next c.positions.position (omega (arith, all, many, test))).within in
    let same = c.net-net.ensures in
    let low = copied_within d c.requires.design c.net-net.result (omega (arith, there, same)) in
    let long = ap (λ (l : List ℕ). length l) c.as_slice.ensures.value in
    let as_many = c.positions.invariant.as_many in
    omega (arith, low, long, as_many)

pub positions-preserved : goal.positions-preserved
positions-preserved c =
    let d = c.args.design.now in
    let order = c.args.order.now in
    let is = c.requires.order in
    let old = c.positions.originals.items in
    let p = c.positions.position in
    let net = c.net-net.result in
    let v = c.original_by-original.result in
    let all = is.all in
    let many = ap (λ (l : List Net). length l) c.as_slice-count.ensures in
    let test = c.positions-test.true in
    let inside : p < length order = omega (arith, all, many, test) in
    let same : net ≡ slice_index order p = c.net-net.ensures in
    let is_v : v ≡ listed_original old (slice_index order p) (driver_in d (slice_index order p)) =
    c.original_by-original.ensures ∙ ap (λ (l : List ℕ). listed_original l net (driver_in d net)) c.as_slice.ensures.value
    ∙ ap (λ (n : ℕ). listed_original old n (driver_in d n)) same in
    record {
      as_many = length-set old net v ∙ c.positions.invariant.as_many;
      each = subst (λ (n : ℕ). (q : ℕ) → q < p + 1 → slice_index (set old n v) (slice_index order q) ≡ original_of d (slice_index order q)) (sym same)
          (listed_more d order is p v old inside c.positions.invariant.as_many c.positions.invariant.each is_v);
    }

pub returns : goal.returns
returns c =
    let all = c.requires.order.all in
    let many = ap (λ (l : List Net). length l) c.as_slice-count.ensures in
    let test = c.positions-test.false in
    listed_all c.args.design.now c.args.order.now c.requires.order c.positions.originals.items c.positions.invariant.as_many
    (λ q less. c.positions.invariant.each q (omega (arith, less, all, many, test)))
