-- The step's first place is one of the wave's.
use Rattle.std.proofs.Common.{◌≡◌, ℕ, ◌+◌, ◌*◌, ◌<◌, ◌≤◌, length, arith, subst, sym, ◌^◌, ◌-◌}
use Rattle.wave_proved.specs.Contents.{Contents, job}
use Rattle.replay_forces.proofs.wave.PlaceRow.go_to.Goals as goal

pub overflow_add-self : goal.overflow_add-self
overflow_add-self c =
    let w = (job c.steps.self.row.wave).width in
    let begins = c.steps.self.begins in
    let wide = c.steps.self.wide in
    let test = c.steps-test.true in
    let step = c.step.ensures in
    let whole : (c.args.step + 1) * w ≤ length c.steps.self.row.wave.written =
    subst (λ (v : Contents). (c.args.step + 1) * (job v).width ≤ length v.written) (sym c.steps.invariant.wave)
    c.requires.whole in
    let few : length c.steps.self.row.wave.written < 2 ^ 64 =
    subst (λ (v : Contents). length v.written < 2 ^ 64) (sym c.steps.invariant.wave) c.requires.few in
    let up = rows_up c.steps.self.row.step c.args.step w (omega (arith, test, step)) in
    omega (arith, begins, wide, whole, few, up)
  where
    rows_up : (a b w : ℕ) → a < b → a * w + w ≤ (b + 1) * w
    rows_up a b w less =
        let split : b ≡ a + 1 + (b - (a + 1)) = omega (arith, less) in
        subst (λ n. a * w + w ≤ (n + 1) * w) (sym split) (more a (b - (a + 1)) w)
      where
        more : (a d w : ℕ) → a * w + w ≤ (a + 1 + d + 1) * w
        more a d w = omega arith
