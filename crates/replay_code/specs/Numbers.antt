-- Numbers of any number of digits, as the code has them.
use Rattle.std.specs.Prelude.{◌≡◌, ℕ, ◌≤◌, ◌^◌, Option, None, Some, List}
use Rattle.base_scan.specs.Numbers.{number_from}

-- The number of the digits, or none where it is 2^64 or more.
abbrev pub IsNumber : List ℕ → Option ℕ → Type 0
IsNumber digits None = 2 ^ 64 ≤ number_from 0 digits
IsNumber digits (Some number) = number ≡ number_from 0 digits
