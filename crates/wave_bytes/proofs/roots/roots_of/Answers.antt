-- At first there is none, and then one more.
use Rattle.std.proofs.Common.{◌≡◌, ◌+◌, ◌++◌, ◌∷◌, [], rules, subst, sym}
use Rattle.design_circuit.specs.Circuit.{job_in}
use Rattle.wave_bytes.specs.Roots.{AreRootsTo}
use Rattle.wave_bytes.proofs.GrownRoots.{roots_grown, roots_none}
use Rattle.wave_bytes.proofs.roots.roots_of.Goals as goal

pub positions-init : goal.positions-init
positions-init c =
    let none : c.in_ok-roots.roots.items ≡ [] = search rules in
    subst (AreRootsTo (job_in c.args.circuit.now) 0) (sym none) (roots_none (job_in c.args.circuit.now))

pub positions-preserved : goal.positions-preserved
positions-preserved c =
    let is : c.push.new.self.items ≡ c.positions.roots.items ++ c.root_behind-root.result ∷ [] =
    c.in_ok-push.ensures.items in
    subst (AreRootsTo (job_in c.args.circuit.now) (c.positions.position + 1)) (sym is)
    (roots_grown (job_in c.args.circuit.now) c.positions.position c.root_behind-root.result c.positions.roots.items
    c.positions.invariant (rw c.as_slice.ensures.value at c.root_behind-root.ensures))

pub returns : goal.returns
returns c =
    let all : c.positions.position ≡ (job_in c.args.circuit.now).width = search rules in
    subst (λ n. AreRootsTo (job_in c.args.circuit.now) n c.positions.roots.items) all c.positions.invariant
