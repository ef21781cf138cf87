-- The options that commands share, as a table to read.
use Rattle.std.specs.Prelude.{List, [], ◌∷◌, ◌++◌, codes}
use Rattle.base_line.specs.Tables.{Plain, Reads, Module, Scope, Number, Either, needs, takes}

abbrev pub places : Plain
places = takes (codes "places") (Number 1 1099511627776)

-- The options of a command with a job: those of every job, and its own between them.
abbrev pub job : List Plain → List Plain
job own = needs (codes "record") Reads ∷ needs (codes "scope") Scope ∷ needs (codes "top") Module ∷ (own
    ++ takes (codes "rounds") (Number 1 16) ∷ places
    ∷ takes (codes "start") (Either (codes "cold") (codes "recorded"))
    ∷ takes (codes "levels") (Either (codes "change") (codes "hold"))
    ∷ takes (codes "undriven") (Either (codes "released") (codes "recorded")) ∷ [])

abbrev pub conflicts : Plain
conflicts = takes (codes "conflicts") (Number 1 100000)

abbrev pub enumerate : Plain
enumerate = takes (codes "enumerate") (Number 12 16)

abbrev pub report : Plain
report = takes (codes "report") (Either (codes "all") (codes "changes"))
