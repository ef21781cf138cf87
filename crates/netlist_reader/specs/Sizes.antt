-- Parts of literals (IEEE 1364-2005, clause 3.5.1).
use Rattle.std.specs.Prelude.{ℕ, ◌^◌, List, ◌==◌, ◌&&◌, nat_le, nat_lt, if◌then◌else◌, Option, Some, None}
use Rattle.netlist_grammar.specs.Bytes.{are_digits, number_from}
use Rattle.netlist_grammar.specs.Numbers.{are_spaced_digits, spaced_number}

-- the size of a literal, 1 to 128, where a quotation mark stands after it
abbrev pub size_in : List ℕ → ℕ → Option ℕ
size_in text quote =
    let n = number_from 10 0 text in if are_digits text && (quote == 39) && nat_le 1 n && nat_le n 128 then Some n else None

-- the number that digits of a base give, with `_` between, where it is below 2^128
abbrev pub narrow_number : ℕ → List ℕ → Option ℕ
narrow_number base text = if are_spaced_digits base text
    && nat_lt (spaced_number base text) (2 ^ 128) then Some (spaced_number base text) else None
