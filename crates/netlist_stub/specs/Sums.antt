-- Constant expressions of numbers, parameters, `+`, `-`, `*` and parentheses (IEEE 1364-2005, clause 5), by tokens.
-- What is worked out on the way lies from 0 to 2^31 - 1, so that it is the same with and without a sign; all else isn't
-- worked out (profile).
use Rattle.std.specs.Prelude.{◌≡◌, ℕ, ◌+◌, ◌-◌, ◌*◌, List, [], ◌∷◌, Bool, true, false, ◌||◌, if◌then◌else◌, codes}
use Rattle.std.specs.Prelude.{Option, Some, None, nat_lt, nat_le, bytes_eq}
use Rattle.std.specs.Map.{lookup}
use Rattle.std.specs.Option.{option_and_then}
use Rattle.netlist_tokens.specs.declared.token.Kind.{Kind}
use Rattle.netlist_tokens.specs.declared.token.Kind.TheVariants.{Name, Escaped, Number, Text, Mark}
use Rattle.netlist_trim.specs.Shown.{Shown}
use Rattle.netlist_trim.specs.Definition.{is, spelled_name}
use Rattle.netlist_stub.specs.declared.sum.Frame.{Frame}

abbrev pub within : ℕ → Option ℕ
within n = if nat_lt n 2147483648 then Some n else None

-- A number with a digit more.
abbrev pub with_digit : ℕ → ℕ → Option ℕ
with_digit n b = if nat_lt b 48 || nat_lt 57 b then None else within (n * 10 + (b - 48))

-- The number of digits, after those that give n.
abbrev pub number_from : ℕ → List ℕ → Option ℕ
number_from n [] = Some n
number_from n (b ∷ bs) = option_and_then (λ m. number_from m bs) (with_digit n b)

-- Parameters with their values.
abbrev pub Values : Type 0
Values = List (List ℕ × ℕ)

abbrev pub operand_in : Values → Kind → Shown → Option ℕ
operand_in values Name t = lookup (bytes_eq (spelled_name t)) values
operand_in values Escaped t = lookup (bytes_eq (spelled_name t)) values
operand_in values Number t = number_from 0 t.bytes
operand_in values Text t = None
operand_in values Mark t = None

-- What a number or a parameter's name stands for.
abbrev pub operand_of : Values → Shown → Option ℕ
operand_of values t = operand_in values t.token.kind t

-- ---- within one pair of parentheses

-- Nothing so far.
abbrev pub begun : Frame
begun = record { total = 0; minus = false; factor = 1; awaits = true }

-- the terms, up to the last
abbrev pub total_of : Frame → Option ℕ
total_of f =
    if f.minus then (if nat_le f.factor f.total then Some (f.total - f.factor) else None)
    else within (f.total + f.factor)

abbrev pub sum_of : Frame → Option ℕ
sum_of f = if f.awaits then None else total_of f

abbrev pub with_factor : Frame → Option ℕ → Option Frame
with_factor f None = None
with_factor f (Some product) =
    Some (record { total = f.total; minus = f.minus; factor = product; awaits = false })

abbrev pub multiplied : Frame → ℕ → Option Frame
multiplied f v = if f.awaits then with_factor f (within (f.factor * v)) else None

abbrev pub times : Frame → Option Frame
times f =
    if f.awaits then None else Some (record { total = f.total; minus = f.minus; factor = f.factor; awaits = true })

abbrev pub next_term : Bool → Option ℕ → Option Frame
next_term minus None = None
next_term minus (Some total) = Some (record { total = total; minus = minus; factor = 1; awaits = true })

abbrev pub added : Bool → Frame → Option Frame
added minus f = next_term minus (sum_of f)

-- ---- with parentheses, the innermost first; none where it isn't worked out

abbrev pub put_back : Option Frame → List Frame → List Frame
put_back None fs = []
put_back (Some f) fs = f ∷ fs

abbrev pub with_operand : Option ℕ → List Frame → List Frame
with_operand None fs = []
with_operand (Some v) [] = []
with_operand (Some v) (f ∷ fs) = put_back (multiplied f v) fs

abbrev pub with_times : List Frame → List Frame
with_times [] = []
with_times (f ∷ fs) = put_back (times f) fs

abbrev pub with_sign : Bool → List Frame → List Frame
with_sign minus [] = []
with_sign minus (f ∷ fs) = put_back (added minus f) fs

abbrev pub nested : List Frame → List Frame
nested [] = []
nested (f ∷ fs) = if f.awaits then begun ∷ f ∷ fs else []

abbrev pub closed : List Frame → List Frame
closed [] = []
closed (f ∷ fs) = with_operand (sum_of f) fs

abbrev pub with_token : Values → Shown → List Frame → List Frame
with_token values t fs =
    if is (codes "+") t then with_sign false fs else if is (codes "-") t then with_sign true fs
    else if is (codes "*") t then with_times fs else if is (codes "(") t then nested fs
    else if is (codes ")") t then closed fs else with_operand (operand_of values t) fs

-- What is worked out.
abbrev pub value_of : List Frame → Option ℕ
value_of [] = None
value_of (f ∷ []) = sum_of f
value_of (f ∷ g ∷ fs) = None

-- ---- a stack

-- The innermost is taken, if any.
abbrev pub Pops : List Frame → Option Frame → List Frame → Type 0
Pops old None new = (old ≡ []) × (new ≡ [])
Pops old (Some f) new = old ≡ f ∷ new
