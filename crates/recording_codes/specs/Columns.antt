-- How the codes stand in columns.
use Rattle.std.specs.Prelude.{ℕ, List, [], ◌∷◌, Bool, not, ◌||◌}
use Rattle.recording_codes.specs.Code.{Code}
use Rattle.recording_codes.specs.declared.columns.Mark.{Mark}
use denote.Ref.{Bor}

-- the code that a text and a mark stand for
abbrev pub code_of : List ℕ → Mark → Code
code_of text m = record { text = text; width = m.width; skipped = m.skipped; listed = m.listed }

-- the codes that texts and marks stand for
abbrev pub codes_of : List (Bor (List ℕ)) → List Mark → List Code
codes_of [] marks = []
codes_of (t ∷ texts) [] = []
codes_of (t ∷ texts) (m ∷ marks) = code_of t.now m ∷ codes_of texts marks

-- the mark of a code with one more variable
abbrev pub marked : Mark → Bool → Mark
marked m skipped = record m { skipped = m.skipped || skipped; listed = m.listed || not skipped }
