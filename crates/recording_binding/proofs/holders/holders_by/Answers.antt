-- What is found by each rule holds, and is known.
use Rattle.std.proofs.Common.{List, Option, Result, Ok, Err, IfOk, All, sym, subst}
use Rattle.std.specs.Prelude.{Vec}
use Rattle.std.specs.declared.alloc.Global.{Global}
use Rattle.base_lists.specs.declared.memory.Memory.{Memory}
use Rattle.design_circuit.specs.declared.design.Design.{Design}
use Rattle.recording_binding.specs.Bounds.{IsOf}
use Rattle.recording_binding.specs.Holding.{FitsHeld, HoldsBy}
use Rattle.recording_binding.specs.JobDesign.{holder_by}
use Rattle.recording_binding.specs.StimOf.{AreHolders}
use Rattle.recording_binding.specs.declared.binding.Bound.{Bound}
use Rattle.recording_binding.specs.declared.inputs.Holder.{Holder}
use Rattle.recording_binding.specs.declared.rule.UndrivenRule.{UndrivenRule}
use Rattle.recording_binding.specs.declared.rule.UndrivenRule.TheVariants.{Released, Recorded}
use Rattle.recording_binding.proofs.HolderLemmas.{are_holders, held_fit}
use Rattle.recording_binding.proofs.holders.holders_by.Goals as goal
use Rattle.recording_reader.specs.Recording.{Recording}

known_by : (rule : UndrivenRule) (design : Design) (bound : List Bound) (result : Result (Vec (Option Holder) Global) Memory)
    → IfOk result (λ (h : Vec (Option Holder) Global). HoldsBy (holder_by rule design bound) design h.items)
    → IfOk result (λ (h : Vec (Option Holder) Global). (recording : Recording) → All (IsOf recording) bound → AreHolders recording h.items)
known_by rule design bound (Ok h) holds = λ recording all. are_holders rule design recording bound h.items holds all
known_by rule design bound (Err e) holds = tt

pub holders_of-requires : goal.holders_of-requires
holders_of-requires c =
    subst (λ (l : List Bound). All (FitsHeld c.args.design.now) l) (sym c.as_slice-bound.ensures) (held_fit c.args.design.now c.args.bound.now.bound c.requires.fits.each)

pub recorded_holders-requires-clause-fits : goal.recorded_holders-requires-clause-fits
recorded_holders-requires-clause-fits c =
    subst (λ (l : List Bound). All (FitsHeld c.args.design.now) l) (sym c.as_slice-bound.ensures) (held_fit c.args.design.now c.args.bound.now.bound c.requires.fits.each)

pub returns-in-Released-clause-holds : goal.returns-in-Released-clause-holds
returns-in-Released-clause-holds c =
    subst (λ (r : UndrivenRule). IfOk c.holders_of.result (λ (h : Vec (Option Holder) Global). HoldsBy (holder_by r c.args.design.now c.args.bound.now.bound) c.args.design.now h.items))
    (sym c.in-Released.is)
    (subst (λ (l : List Bound). IfOk c.holders_of.result (λ (h : Vec (Option Holder) Global). HoldsBy (holder_by Released c.args.design.now l) c.args.design.now h.items))
    c.as_slice-bound.ensures c.holders_of.ensures)

pub returns-in-Released-clause-known : goal.returns-in-Released-clause-known
returns-in-Released-clause-known c =
    known_by Released c.args.design.now c.args.bound.now.bound c.holders_of.result
    (subst (λ (l : List Bound). IfOk c.holders_of.result (λ (h : Vec (Option Holder) Global). HoldsBy (holder_by Released c.args.design.now l) c.args.design.now h.items))
    c.as_slice-bound.ensures c.holders_of.ensures)

pub returns-in-Recorded-clause-holds : goal.returns-in-Recorded-clause-holds
returns-in-Recorded-clause-holds c =
    subst (λ (r : UndrivenRule). IfOk c.recorded_holders.result (λ (h : Vec (Option Holder) Global). HoldsBy (holder_by r c.args.design.now c.args.bound.now.bound) c.args.design.now h.items))
    (sym c.in-Recorded.is)
    (subst (λ (l : List Bound). IfOk c.recorded_holders.result (λ (h : Vec (Option Holder) Global). HoldsBy (holder_by Recorded c.args.design.now l) c.args.design.now h.items))
    c.as_slice-bound.ensures c.recorded_holders.ensures)

pub returns-in-Recorded-clause-known : goal.returns-in-Recorded-clause-known
returns-in-Recorded-clause-known c =
    known_by Recorded c.args.design.now c.args.bound.now.bound c.recorded_holders.result
    (subst (λ (l : List Bound). IfOk c.recorded_holders.result (λ (h : Vec (Option Holder) Global). HoldsBy (holder_by Recorded c.args.design.now l) c.args.design.now h.items))
    c.as_slice-bound.ensures c.recorded_holders.ensures)
