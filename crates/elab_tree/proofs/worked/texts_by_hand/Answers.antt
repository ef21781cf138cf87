-- What the definition computes stands in the lemmas.
use Rattle.elab_tree.proofs.WorkedTexts.{computes_instance_names, computes_instance_drivers, computes_no_top, computes_primitive_top, computes_of_itself, computes_driven_twice, computes_register_terminal, computes_constants, computes_widths_differ, computes_primitive_cell, computes_primitive_register}
use Rattle.elab_tree.proofs.worked.texts_by_hand.Goals as goal

pub returns-clause-instance_names : goal.returns-clause-instance_names
returns-clause-instance_names c = computes_instance_names

pub returns-clause-instance_drivers : goal.returns-clause-instance_drivers
returns-clause-instance_drivers c = computes_instance_drivers

pub returns-clause-no_top : goal.returns-clause-no_top
returns-clause-no_top c = computes_no_top

pub returns-clause-primitive_top : goal.returns-clause-primitive_top
returns-clause-primitive_top c = computes_primitive_top

pub returns-clause-of_itself : goal.returns-clause-of_itself
returns-clause-of_itself c = computes_of_itself

pub returns-clause-driven_twice : goal.returns-clause-driven_twice
returns-clause-driven_twice c = computes_driven_twice

pub returns-clause-register_terminal : goal.returns-clause-register_terminal
returns-clause-register_terminal c = computes_register_terminal

pub returns-clause-constants : goal.returns-clause-constants
returns-clause-constants c = computes_constants

pub returns-clause-widths_differ : goal.returns-clause-widths_differ
returns-clause-widths_differ c = computes_widths_differ

pub returns-clause-primitive_cell : goal.returns-clause-primitive_cell
returns-clause-primitive_cell c = computes_primitive_cell

pub returns-clause-primitive_register : goal.returns-clause-primitive_register
returns-clause-primitive_register c = computes_primitive_register
