-- A definition more; or one that isn't closed.
use Rattle.std.proofs.Common.{◌≡◌, [], Option, None, Ok, ◌∙◌, sym, subst}
use Rattle.std.proofs.lemmas.List.{append-nil}
use Rattle.netlist_trim.specs.Shown.{seen}
use Rattle.netlist_trim.specs.Definition.{Defines}
use Rattle.netlist_trim.specs.Reads.{Opens}
use Rattle.netlist_trim.specs.declared.spelled.Spelled.{Spelled}
use Rattle.netlist_trim.proofs.Reading.{added, definition_shortens, next_unclosed, refused_with}
use Rattle.netlist_trim.proofs.definition.read_definitions.Goals as goal

pub returns-in_err-read_definition : goal.returns-in_err-read_definition
returns-in_err-read_definition c =
    let o = subst (λ (r : Option Spelled). Opens c.definitions.tokens (Ok r) c.next_opening.new.self) c.in-Some.is c.in_ok-opening.ensures in
    refused_with c.args.tokens.now c.definitions.tokens c.next_opening.new.self (seen c.in-Some.opening) c.from_residual-in_err-read_definition.result c.in_err-read_definition.field-0.0 o.0 (o.1 ∙ c.definitions.invariant.fault) c.definitions.invariant.unclosed
    c.from_residual-in_err-read_definition.ensures.1 c.in_err-read_definition.ensures

pub definitions-smaller : goal.definitions-smaller
definitions-smaller c =
    let o = subst (λ (r : Option Spelled). Opens c.definitions.tokens (Ok r) c.next_opening.new.self) c.in-Some.is c.in_ok-opening.ensures in
    definition_shortens c.definitions.tokens.tokens (seen c.in-Some.opening) c.next_opening.new.self c.read_definition.new.tokens c.in_ok-read_definition.field-0 o.0 c.in_ok-read_definition.ensures

pub definitions-preserved : goal.definitions-preserved
definitions-preserved c =
    let o = subst (λ (r : Option Spelled). Opens c.definitions.tokens (Ok r) c.next_opening.new.self) c.in-Some.is c.in_ok-opening.ensures in
    let read = c.in_ok-read_definition.ensures in
    record {
      defined = λ ds rest. added c.args.tokens.now.tokens c.definitions.tokens.tokens c.definitions.found.items c.push.new.self.items (seen c.in-Some.opening) c.next_opening.new.self c.read_definition.new.tokens c.in_ok-read_definition.field-0 ds o.0 read c.in_ok-push.ensures.items c.definitions.invariant.defined rest;
      unclosed = λ at rest. c.definitions.invariant.unclosed at (next_unclosed c.definitions.tokens.tokens (seen c.in-Some.opening) c.next_opening.new.self c.read_definition.new.tokens c.in_ok-read_definition.field-0 at o.0 read rest);
      fault = read.fault ∙ o.1 ∙ c.definitions.invariant.fault;
    }

pub returns : goal.returns
returns c =
    let none : c.in_ok-opening.field-0 ≡ None = search in
    let o = subst (λ (r : Option Spelled). Opens c.definitions.tokens (Ok r) c.next_opening.new.self) none c.in_ok-opening.ensures in
    (sym c.definitions.invariant.fault ∙ o.1, subst (Defines c.args.tokens.now.tokens) (append-nil c.definitions.found.items) (c.definitions.invariant.defined [] (Defines.none o.0)))
