-- One test decides whether the place is local or free.
use Rattle.std.proofs.Common.{◌∙◌, sym}
use Rattle.design_circuit.specs.Circuit.{job_in}
use Rattle.wave_class.proofs.EndClasses.{later_is, mixed_by_end, mixed_by_ends, plain_by_end}
use Rattle.wave_class.proofs.tried.first_class.Goals as goal

pub returns-then-are_mixed : goal.returns-then-are_mixed
returns-then-are_mixed g c =
    let asked = c.args.uncertain.now.asked.now in
    let j = job_in asked.circuit.now in
    let certain = g.E.Source.reads asked.earlier.now in
    let ends = c.ends_of-ends.result in
    c.later_class.ensures ∙ later_is j certain asked.place
    (mixed_by_ends j certain asked.place c.args.uncertain.now.places.now ends c.ends_of-ends.ensures
    (sym c.are_mixed.ensures ∙ c.if-are_mixed.true))

pub returns-then-passes_every : goal.returns-then-passes_every
returns-then-passes_every g c =
    let asked = c.args.uncertain.now.asked.now in
    let j = job_in asked.circuit.now in
    c.plain_class.ensures ∙ plain_by_end j (g.E.Source.reads asked.earlier.now) asked.place
    c.args.uncertain.now.places.now c.ends_of-ends.result.first c.ends_of-ends.ensures.first
    (sym (rw c.test.ensures at c.passes_every.ensures) ∙ c.if-passes_every.true)

pub returns-else-passes_every : goal.returns-else-passes_every
returns-else-passes_every g c =
    let asked = c.args.uncertain.now.asked.now in
    let j = job_in asked.circuit.now in
    let certain = g.E.Source.reads asked.earlier.now in
    c.later_class-else-passes_every.ensures ∙ later_is j certain asked.place
    (mixed_by_end j certain asked.place c.args.uncertain.now.places.now c.ends_of-ends.result.first
    c.ends_of-ends.ensures.first
    (sym (rw c.test.ensures at c.passes_every.ensures) ∙ c.if-passes_every.false))
