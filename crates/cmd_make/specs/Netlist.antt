-- The text of a made netlist, drawn from a number.
use Rattle.std.specs.Prelude.{ℕ, zero, suc, ◌++◌, List, [], ◌∷◌, codes, decimal, slice_index_or}
use Rattle.base_lists.specs.Text.{line}
use Rattle.cmd_make.specs.Draw.{after_draw, after_draws, draw}
use Rattle.cmd_make.specs.Pool.{drawn_member, gate_name, output_name, pool_of}

-- The rows of a register that takes its data at an edge of its clock from 0 to 1.
unfoldable pub dff_rows : List ℕ
dff_rows =
    line (codes "    0 r : ? : 0 ;") ++ line (codes "    1 r : ? : 1 ;")
    ++ line (codes "    ? n : ? : - ;") ++ line (codes "    * ? : ? : - ;")

unfoldable pub dff_table : List ℕ
dff_table = line (codes "  table") ++ dff_rows ++ line (codes "  endtable")

unfoldable pub dff_ports : List ℕ
dff_ports = line (codes "primitive dff(q, d, ck);") ++ line (codes "  output q; reg q; input d, ck;")

-- The primitive of the registers.
unfoldable pub dff_text : List ℕ
dff_text = dff_ports ++ dff_table ++ line (codes "endprimitive")

-- The module's ports, and the nets of its registers.
unfoldable pub head_text : List ℕ
head_text =
    line (codes "module made(ck, i0, i1, i2, i3, i4, i5, i6, i7);")
    ++ line (codes "  input ck, i0, i1, i2, i3, i4, i5, i6, i7;")
    ++ line (codes "  wire q0, q1, q2, q3;")

-- A net for each gate.
abbrev pub wire_line : ℕ → List ℕ
wire_line gate = line (codes "  wire " ++ gate_name gate ++ codes ";")

unfoldable pub wire_lines : ℕ → List ℕ
wire_lines zero = []
wire_lines (suc gate) = wire_lines gate ++ wire_line gate

abbrev pub kind_word : ℕ → List ℕ
kind_word kind = slice_index_or (codes "and" ∷ codes "nand" ∷ codes "or" ∷ codes "nor" ∷ []) kind []

-- `KIND (OUTPUT, FIRST, SECOND);`
unfoldable pub gate_text : List ℕ → List ℕ → List ℕ → List ℕ → List ℕ
gate_text kind output first second =
    line (codes "  " ++ kind ++ codes " (" ++ output ++ codes ", " ++ first ++ codes ", " ++ second ++ codes ");")

-- A gate draws its kind, its first pin and its second pin, these from the pool of the gates before it.
unfoldable pub gate_line : ℕ → ℕ → List ℕ
gate_line gate state =
    gate_text (kind_word (draw 4 state)) (gate_name gate) (drawn_member (pool_of gate) (after_draw state))
    (drawn_member (pool_of gate) (after_draw (after_draw state)))

-- the state after so many gates
unfoldable pub after_gates : ℕ → ℕ → ℕ
after_gates state zero = state
after_gates state (suc gate) = after_draw (after_draw (after_draw (after_gates state gate)))

-- So many gates, one after the other, from a state on.
unfoldable pub gate_lines : ℕ → ℕ → List ℕ
gate_lines state zero = []
gate_lines state (suc gate) = gate_lines state gate ++ gate_line gate (after_gates state gate)

-- `dff rJ (qJ, PIN, ck);`
unfoldable pub register_text : ℕ → List ℕ → List ℕ
register_text register pin =
    codes "  dff r" ++ decimal register ++ codes " (" ++ output_name register ++ codes ", " ++ pin
    ++ line (codes ", ck);")

-- So many registers, each of which draws its data from a pool, from a state on.
unfoldable pub register_lines : List (List ℕ) → ℕ → ℕ → List ℕ
register_lines pool state zero = []
register_lines pool state (suc register) =
    register_lines pool state register ++ register_text register (drawn_member pool (after_draws register state))

-- The netlist of a number: a primitive, and a module of so many gates and of four registers.
unfoldable pub netlist_text : ℕ → ℕ → List ℕ
netlist_text number gates =
    dff_text ++ head_text ++ wire_lines gates ++ gate_lines number gates
    ++ register_lines (pool_of gates) (after_gates number gates) 4 ++ line (codes "endmodule")

-- The state after all draws of a netlist.
unfoldable pub after_netlist : ℕ → ℕ → ℕ
after_netlist number gates = after_draws 4 (after_gates number gates)
