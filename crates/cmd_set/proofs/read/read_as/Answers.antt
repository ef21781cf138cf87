-- A line of the command, and what it gives; or none.
use Rattle.std.proofs.Common.{map, subst, Bool}
use Rattle.std.specs.Prelude.{string_bytes}
use Rattle.base_line.specs.Line.{IsOutside}
use Rattle.base_line.specs.Read.{HasOnly}
use Rattle.cmd_set.proofs.Lines.{gives_none, none_then, outside}
use Rattle.cmd_set.proofs.read.read_as.Goals as goal

pub returns-in-Some-clause-none : goal.returns-in-Some-clause-none
returns-in-Some-clause-none g c =
    let rest = map string_bytes c.args.rest.now in
    let options = c.form-form.result.options.now in
    let line = c.in-Some.line in
    let read = rw c.in-Some.is at c.in_ok-line.ensures.only in
    let only = subst (λ (b : Bool). HasOnly options b rest line) c.form-form.ensures.files read in
    none_then c.of_line.result (gives_none g.C.Run.command rest options c.form-form.ensures.table line only (map string_bytes c.files_in-files.result.now) c.files_in-files.ensures) c.of_line.ensures.none

pub returns-in-None-clause-none : goal.returns-in-None-clause-none
returns-in-None-clause-none g c =
    let rest = map string_bytes c.args.rest.now in
    let options = c.form-form.result.options.now in
    let read = rw c.in-None.is at c.in_ok-line.ensures.none in
    outside g.C.Run.command rest options c.form-form.ensures.table (subst (λ (b : Bool). IsOutside options b rest) c.form-form.ensures.files read)
