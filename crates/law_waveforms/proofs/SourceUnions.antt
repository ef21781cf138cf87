-- Where the sources of a place come from.
use Rattle.std.proofs.Common.{◌≡◌, ℕ, ◌==◌, ◌&&◌, ◌||◌, Bool, true, false, List, [], ◌∷◌, refl, sym, ap, ◌∙◌}
use Rattle.std.specs.List.{list_any}
use Rattle.std.proofs.lemmas.Bool.{eqb-true}
use Rattle.law_model.specs.Class.{class_of}
use Rattle.law_model.specs.Cone.{essentials, in_cone, reads_filling}
use Rattle.law_model.proofs.Cones.{cone_is}
use Rattle.law_model.proofs.ConeWorlds.{free_supports}
use Rattle.law_model.proofs.RootSources.{root_sources, sources_carried}
use Rattle.law_waveforms.specs.Sources.{CarriedLaw, RootLaw, UnionLaw}

-- Whether something is there and reads the filling, for each of some.
reads_each : (inside : ℕ → Bool) (reads : Bool) (xs : List ℕ)
    → list_any inside xs && reads ≡ list_any (λ x. inside x && reads) xs
reads_each inside reads [] = refl
reads_each inside reads (x ∷ xs) = spread (inside x) (list_any inside xs) reads (reads_each inside reads xs)
  where
    spread : (a b reads : Bool) {rest : Bool} → b && reads ≡ rest → (a || b) && reads ≡ (a && reads) || rest
    spread true b true h = refl
    spread true b false h = none b h
      where
        none : (b : Bool) {rest : Bool} → b && false ≡ rest → false ≡ rest
        none true h = h
        none false h = h
    spread false b reads h = h

split_reads : (here : Bool) (there reads own : Bool) → (here ≡ true → reads ≡ own)
    → (here || there) && reads ≡ (here && own) || (there && reads)
split_reads true there reads own same = rw (same refl) (absorbs own there)
  where
    absorbs : (own there : Bool) → own ≡ own || (there && own)
    absorbs true there = refl
    absorbs false true = refl
    absorbs false false = refl
split_reads false there reads own same = refl

pub union_law : UnionLaw
union_law j c place k fits within free =
    ap (λ inside. inside && reads_filling j c k) (cone_is j fits c place k within
    ∙ ap (λ xs. (place == k) || list_any (λ s. in_cone j c s k) xs)
    (free_supports (essentials j c place) (class_of j c place) free))
    ∙ split_reads (place == k) (list_any (λ s. in_cone j c s k) (essentials j c place)) (reads_filling j c k)
    (reads_filling j c place) (λ same. ap (reads_filling j c) (sym (eqb-true place k same)))
    ∙ ap (λ rest. ((place == k) && reads_filling j c place) || rest)
    (reads_each (λ s. in_cone j c s k) (reads_filling j c k) (essentials j c place))

pub carried_law : CarriedLaw
carried_law j c place from inverted fits within is = sources_carried j fits c place from inverted within is

pub root_law : RootLaw
root_law j c place fits within = root_sources j fits c place within
