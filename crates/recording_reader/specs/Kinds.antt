-- What a word is, by its bytes.
use Rattle.std.specs.Prelude.{ℕ, List, [], ◌∷◌, cond, ◌==◌, ◌||◌, bytes_eq, codes}
use Rattle.recording_reader.specs.Bytes.{is_end, is_value}
use Rattle.recording_reader.specs.declared.kinds.Kind.{Kind}
use Rattle.recording_reader.specs.declared.kinds.Kind.TheVariants as kind

-- The words that open a declaration.
abbrev pub declaration_kind : List ℕ → Kind
declaration_kind t =
    cond (bytes_eq t (codes "$var")) kind.Var
    (cond (bytes_eq t (codes "$scope")) kind.Scope
    (cond (bytes_eq t (codes "$upscope")) kind.Upscope
    (cond (bytes_eq t (codes "$timescale")) kind.Timescale
    (cond (bytes_eq t (codes "$date") || bytes_eq t (codes "$version")) kind.Note
    (cond (bytes_eq t (codes "$enddefinitions")) kind.Definitions kind.Other)))))

-- The words that begin with a dollar sign.
abbrev pub keyword_kind : List ℕ → Kind
keyword_kind t =
    cond (is_end t) kind.End
    (cond (bytes_eq t (codes "$comment")) kind.Comment
    (cond (bytes_eq t (codes "$dumpvars") || bytes_eq t (codes "$dumpall")) kind.Dump
    (cond (bytes_eq t (codes "$dumpoff") || bytes_eq t (codes "$dumpon")) kind.Off
    (declaration_kind t))))

-- A word is told by its first byte: `$` a keyword, `#` a time, a digit a scalar change, `b` a vector change, `r` a real
-- one.
abbrev pub kind_of : List ℕ → Kind
kind_of [] = kind.Other
kind_of (b ∷ bs) =
    cond (is_value b) kind.Scalar
    (cond (b == 35) kind.Time
    (cond ((b == 98) || (b == 66)) kind.Vector
    (cond (b == 36) (keyword_kind (b ∷ bs))
    (cond ((b == 114) || (b == 82)) kind.Real kind.Other))))
