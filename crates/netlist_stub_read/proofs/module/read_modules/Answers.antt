-- A definition more; or one that isn't closed.
use Rattle.std.proofs.Common.{◌≡◌, [], Option, None, Ok, ◌∙◌, sym, subst}
use Rattle.std.proofs.lemmas.List.{append-nil}
use Rattle.netlist_trim.specs.Shown.{seen}
use Rattle.netlist_stub_read.specs.Modules.{Holds}
use Rattle.netlist_trim.specs.Reads.{Opens}
use Rattle.netlist_trim.specs.declared.spelled.Spelled.{Spelled}
use Rattle.netlist_stub_read.proofs.Reading.{added, module_shortens, next_unclosed, refused_with}
use Rattle.netlist_stub_read.proofs.module.read_modules.Goals as goal

pub returns-in_err-read_module : goal.returns-in_err-read_module
returns-in_err-read_module c =
    let o = subst (λ (r : Option Spelled). Opens c.modules.tokens (Ok r) c.next_opening.new.self) c.in-Some.is c.in_ok-opening.ensures in
    refused_with c.args.tokens.now c.modules.tokens c.next_opening.new.self (seen c.in-Some.opening) c.from_residual-in_err-read_module.result c.in_err-read_module.field-0.0 o.0 (o.1 ∙ c.modules.invariant.fault) c.modules.invariant.unclosed
    c.from_residual-in_err-read_module.ensures.1 c.in_err-read_module.ensures

pub modules-smaller : goal.modules-smaller
modules-smaller c =
    let o = subst (λ (r : Option Spelled). Opens c.modules.tokens (Ok r) c.next_opening.new.self) c.in-Some.is c.in_ok-opening.ensures in
    module_shortens c.modules.tokens.tokens (seen c.in-Some.opening) c.next_opening.new.self c.read_module.new.tokens c.in_ok-read_module.field-0 o.0 c.in_ok-read_module.ensures

pub modules-preserved : goal.modules-preserved
modules-preserved c =
    let o = subst (λ (r : Option Spelled). Opens c.modules.tokens (Ok r) c.next_opening.new.self) c.in-Some.is c.in_ok-opening.ensures in
    let read = c.in_ok-read_module.ensures in
    record {
      held = λ ds rest. added c.args.tokens.now.tokens c.modules.tokens.tokens c.modules.found.items c.push.new.self.items (seen c.in-Some.opening) c.next_opening.new.self c.read_module.new.tokens c.in_ok-read_module.field-0 ds o.0 read c.in_ok-push.ensures.items c.modules.invariant.held rest;
      unclosed = λ at rest. c.modules.invariant.unclosed at (next_unclosed c.modules.tokens.tokens (seen c.in-Some.opening) c.next_opening.new.self c.read_module.new.tokens c.in_ok-read_module.field-0 at o.0 read rest);
      fault = read.fault ∙ o.1 ∙ c.modules.invariant.fault;
    }

pub returns : goal.returns
returns c =
    let none : c.in_ok-opening.field-0 ≡ None = search in
    let o = subst (λ (r : Option Spelled). Opens c.modules.tokens (Ok r) c.next_opening.new.self) none c.in_ok-opening.ensures in
    (sym c.modules.invariant.fault ∙ o.1, subst (Holds c.args.tokens.now.tokens) (append-nil c.modules.found.items) (c.modules.invariant.held [] (Holds.none o.0)))
