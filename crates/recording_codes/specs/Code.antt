-- Codes in the order of their declaration.
use Rattle.std.specs.Prelude.{ℕ, zero, suc, ◌+◌, List, [], ◌∷◌, Bool, not, ◌||◌, Option, Some, None, cond, bytes_eq}
use Rattle.recording_codes.specs.declared.codes.Found.{Found}

-- A code, its width, and two facts: some variable with it is skipped by its kind, as a real or an event is, and some is
-- listed.
pub record Code : Type 0 where
  pub text : List ℕ
  pub width : ℕ
  pub skipped : Bool
  pub listed : Bool

-- the code of one variable
abbrev pub code : List ℕ → ℕ → Bool → Code
code text width skipped = record { text = text; width = width; skipped = skipped; listed = not skipped }

-- The code of one more variable. The facts hang on no order.
abbrev pub with_kind : Code → Bool → Code
with_kind c skipped = record c { skipped = c.skipped || skipped; listed = c.listed || not skipped }

-- one more variable of the code with this number
abbrev pub with_kind_at : List Code → ℕ → Bool → List Code
with_kind_at [] number skipped = []
with_kind_at (c ∷ cs) zero skipped = with_kind c skipped ∷ cs
with_kind_at (c ∷ cs) (suc number) skipped = c ∷ with_kind_at cs number skipped

-- what is told of a code with this number
abbrev pub found : ℕ → Code → Found
found number c = record { number = number; width = c.width; skipped = c.skipped; listed = c.listed }

-- The number, the width and the facts of the code with this text, where the first of the list has this number.
abbrev pub find_from : ℕ → List Code → List ℕ → Option Found
find_from n [] t = None
find_from n (c ∷ cs) t = cond (bytes_eq t c.text) (Some (found n c)) (find_from (n + 1) cs t)

abbrev pub find : List Code → List ℕ → Option Found
find cs t = find_from 0 cs t
