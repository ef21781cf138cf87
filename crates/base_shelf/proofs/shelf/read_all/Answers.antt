-- The turns of `read_all`, and its ways out.
use Rattle.std.proofs.Common.{rules, ◌≡◌, ◌<◌, ◌≤◌, ◌-◌, ◌++◌, Err, sym, ◌∙◌, subst, List, ℕ, Ok, length, take, arith}
use Rattle.base_shelf.proofs.ReadSteps.{read_starts, read_fails, read_long, read_memory, close_fails, read_done, read_grows}
use Rattle.base_shelf.proofs.Failed.{later_trans, same_trans}
use Rattle.base_shelf.specs.Shelf.{ReadStep}
use Rattle.base_shelf.proofs.Turns.{ReadTurn}
use Rattle.base_shelf.specs.Errors.{read_err}
use Rattle.base_shelf.specs.declared.fault.ReadErr.TheVariants.{Memory as ReadMemory}
use Rattle.base_shelf.proofs.shelf.read_all.Goals as goal

pub turns-init : goal.turns-init
turns-init g c =
    let starts = read_starts _ _ c.args.limit _ _ c.in_ok-open_file.ensures in
    let P : List ℕ → Type 0 = λ l. ReadTurn g.S.Shelf.told c.args.name.now l c.args.limit (g.S.Shelf.view c.args.shelf.now) (g.S.Shelf.view c.open_file.new.self) in
    (subst P (sym c.new-text.ensures.items) starts, search rules)

pub returns-in_err-count : goal.returns-in_err-count
returns-in_err-count g c =
    let is : c.from_residual-in_err-count.result ≡ Err (read_err c.in_err-count.field-0.0) = search rules in
    rw is (read_fails _ _ _ _ _ _ _ _ _ c.turns.invariant.0 c.in_err-count.ensures)

pub returns-then-count-limit : goal.returns-then-count-limit
returns-then-count-limit g c =
    read_long _ _ _ _ _ _ _ _ _ c.turns.invariant.0 c.in_ok-count.ensures (omega arith)

pub turns-preserved : goal.turns-preserved
turns-preserved g c =
    let fits : c.in_ok-count.count ≤ c.args.limit - length c.turns.text.items = omega arith in
    let grows = read_grows _ _ _ _ _ _ _ _ _ c.turns.invariant.0 c.in_ok-count.ensures fits in
    let same : c.extend_from_slice.new.self.items ≡ c.turns.text.items ++ take c.in_ok-count.count c.read.new.buffer = c.in_ok-extend_from_slice.ensures.items in
    let P : List ℕ → Type 0 = λ l. ReadTurn g.S.Shelf.told c.args.name.now l c.args.limit (g.S.Shelf.view c.args.shelf.now) (g.S.Shelf.view c.read.new.self) in
    (subst P (sym same) grows, search rules)

pub returns-in_err-extend_from_slice : goal.returns-in_err-extend_from_slice
returns-in_err-extend_from_slice g c =
    let is : c.from_residual-in_err-extend_from_slice.result ≡ Err ReadMemory = search rules in
    let turn = c.turns.invariant.0 in
    let step = c.in_ok-count.ensures in
    rw is (read_memory _ _ c.turns.text.items _ _ _ (later_trans _ _ _ turn.later step.later) (same_trans _ _ _ turn.kept step.counts) (step.files ∙ turn.files) (step.written ∙ turn.written))

pub returns-in_err-close_file : goal.returns-in_err-close_file
returns-in_err-close_file g c =
    let is : c.from_residual-in_err-close_file.result ≡ Err (read_err c.in_err-close_file.field-0.0) = search rules in
    let turn = c.turns.invariant.0 in
    let step = c.in_ok-count.ensures in
    rw is (close_fails _ _ c.turns.text.items _ _ _ _ _ (later_trans _ _ _ turn.later step.later) (same_trans _ _ _ turn.kept step.counts) (step.files ∙ turn.files) (step.written ∙ turn.written) (step.hand ∙ turn.hand) c.in_err-close_file.ensures)

pub returns : goal.returns
returns g c =
    let none : c.in_ok-count.count ≡ 0 = search rules in
    let P : ℕ → Type 0 = λ n. ReadStep g.S.Shelf.told (g.S.Shelf.view c.turns.shelf) (g.S.Shelf.view c.read.new.self) c.read.new.buffer (Ok n) in
    let room : 0 < length c.read.new.buffer = search rules in
    read_done _ _ _ _ _ _ _ _ _ c.turns.invariant.0 (subst P none c.in_ok-count.ensures) room c.in_ok-close_file.ensures
