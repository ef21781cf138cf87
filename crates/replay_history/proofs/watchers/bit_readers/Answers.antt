-- The readings of all bits make the table.
use Rattle.std.proofs.Common.{◌≡◌, ◌<◌, ◌++◌, ◌∙◌, List, ℕ, ap, arith, length, subst, sym}
use Rattle.std.proofs.lemmas.List.{get_or_default}
use Rattle.recording_binding.specs.declared.binding.Bound.{Bound}
use Rattle.replay_due.specs.Readers.{AreReadersWithin, HasReadings}
use Rattle.replay_due.specs.declared.readings.Reading.{Reading}
use Rattle.replay_fans.specs.Readings.{readings_of}
use Rattle.replay_history.specs.Fault.{bound_at, no_variable}
use Rattle.replay_history.specs.Watched.{bit_readings}
use Rattle.replay_history.proofs.Bindings.{bits_among, readings_in, variable_more}
use Rattle.replay_history.proofs.watchers.bit_readers.Goals as goal

pub variables-preserved : goal.variables-preserved
variables-preserved c =
    let same = ap length c.as_slice-variable-items.ensures in
    let less : c.variables.number < length c.args.bound.now.bound = (let test = c.variables-test.true in omega (arith, same, test)) in
    let item : c.variable-item.result ≡ bound_at c.args.bound.now c.variables.number = rw c.as_slice-variable-items.ensures at c.variable-item.is ∙ get_or_default c.args.bound.now.bound c.variables.number c.variable-item.result no_variable less in
    c.in_ok-push_bits.ensures
    ∙ ap (λ (b : Bound). c.variables.readings.items ++ readings_of c.variables.number b.bits) item
    ∙ ap (λ (rs : List Reading). rs ++ readings_of c.variables.number (bound_at c.args.bound.now c.variables.number).bits) c.variables.invariant ∙ sym (variable_more c.args.bound.now c.variables.number)

pub new-requires-clause-within : goal.new-requires-clause-within
new-requires-clause-within c =
    let binding = c.args.bound.now in
    let same = ap length c.as_slice-variable-items.ensures in
    let test = c.variables-test.false in
    let last = c.variables.auto.number-end in
    let all : c.variables.number ≡ length c.args.bound.now.bound = omega (arith, test, last, same) in
    let whole : c.as_slice.result.now ≡ bit_readings c.args.bound.now (length c.args.bound.now.bound) = c.as_slice.ensures.value ∙ c.variables.invariant ∙ ap (bit_readings c.args.bound.now) all in
    let P = λ (rs : List Reading). AreReadersWithin c.args.room rs in
    subst P (sym whole) (readings_in binding c.args.room c.requires.few c.requires.within)

pub returns-clause-has : goal.returns-clause-has
returns-clause-has c =
    let same = ap length c.as_slice-variable-items.ensures in
    let test = c.variables-test.false in
    let last = c.variables.auto.number-end in
    let all : c.variables.number ≡ length c.args.bound.now.bound = omega (arith, test, last, same) in
    let whole : c.as_slice.result.now ≡ bit_readings c.args.bound.now (length c.args.bound.now.bound) = c.as_slice.ensures.value ∙ c.variables.invariant ∙ ap (bit_readings c.args.bound.now) all in
    let P = λ (rs : List Reading). HasReadings rs c.in_ok-new.field-0 in
    bits_among c.args.bound.now c.in_ok-new.field-0 (subst P whole c.in_ok-new.ensures.has)
