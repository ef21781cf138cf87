-- A variable and a bit in one number.
use Rattle.std.specs.Prelude.{ℕ, ◌+◌, ◌-◌, ◌*◌, ◌/◌, ◌%◌, ◌==◌, Bool, true, false, if◌then◌else◌, min}
use Rattle.std.specs.Prelude.{ℤ, pos, neg_ℤ, unsigned_abs, int_lt}
use Rattle.sat_watches.specs.declared.literal.Literal.{Literal}

abbrev pub number_of_bit : Bool → ℕ
number_of_bit false = 0
number_of_bit true = 1

-- The literal that a variable has a bit: twice the variable's number, and 1 more where the bit is 1.
abbrev pub literal_of : ℕ → Bool → Literal
literal_of number bit = record { code = number * 2 + number_of_bit bit }

-- The literal that stands where there is none: variable 0 has the bit 0.
abbrev pub no_literal : Literal
no_literal = literal_of 0 false

-- The number of its variable.
abbrev pub variable_of : Literal → ℕ
variable_of literal = literal.code / 2

-- Its bit.
abbrev pub bit_of : Literal → Bool
bit_of literal = literal.code % 2 == 1

-- A formula's variables are numbered from 1, and its literals are positive where their bit is 1.
abbrev pub of_formula : ℤ → Literal
of_formula literal = literal_of (unsigned_abs literal - 1) (int_lt (pos 0) literal)

-- The highest variable that a formula can name, from 0.
abbrev pub highest_variable : ℕ
highest_variable = 2147483646

-- The literal in a formula; a variable past the highest is named as that one.
abbrev pub in_formula : Literal → ℤ
in_formula literal =
    let variable = pos (min (variable_of literal) highest_variable + 1) in
    if bit_of literal then variable else neg_ℤ variable
