-- What the definition computes.
use Rattle.std.proofs.Common.{refl}
use Rattle.design_cell.specs.Clock.{is_clock, acts_at}
use Rattle.design_cell.specs.Symbol.{is_edge, fits}
use Rattle.design_cell.specs.Table.{change}
use Rattle.elab_nets.specs.State.{made}
use Rattle.elab_tree.specs.Elaborate.{body, design_of}
use Rattle.elab_tree.specs.Worked as worked

pub computes_instance_names : worked.InstanceNames
unfolding design_of body made
computes_instance_names = refl

pub computes_instance_drivers : worked.InstanceDrivers
unfolding design_of body made
computes_instance_drivers = refl

pub computes_no_top : worked.NoTop
unfolding design_of body made
computes_no_top = refl

pub computes_primitive_top : worked.PrimitiveTop
unfolding design_of body made
computes_primitive_top = refl

pub computes_of_itself : worked.OfItself
unfolding design_of body made
computes_of_itself = refl

pub computes_driven_twice : worked.DrivenTwice
unfolding design_of body made
computes_driven_twice = refl

pub computes_register_terminal : worked.RegisterTerminal
unfolding design_of body made
computes_register_terminal = refl

pub computes_constants : worked.Constants
unfolding design_of body made
computes_constants = refl

pub computes_widths_differ : worked.WidthsDiffer
unfolding design_of body made
computes_widths_differ = refl

pub computes_primitive_cell : worked.PrimitiveCell
unfolding design_of body made
computes_primitive_cell = refl

pub computes_primitive_register : worked.PrimitiveRegister
unfolding design_of body made is_clock acts_at change is_edge fits
computes_primitive_register = refl
