-- The walk along all lines of a certificate.
use Rattle.std.proofs.Common.{◌≡◌, None, Some, List, [], ◌∷◌, ◌++◌, sym, ap, ◌∙◌}
use Rattle.std.specs.Iterator.{Yields}
use Rattle.std.specs.Vec.Iter.{into_iter_items, into_iter_steps}
use Rattle.std.specs.declared.vec.IntoIter.{IntoIter}
use Rattle.std.proofs.lemmas.List.{append-nil, nil_from_length}

-- What the iterator of a vector has given is a front of its items.
pub taken_front : {X A : Type 0} (s : IntoIter X A) (xs : List X) (t : IntoIter X A) → Yields into_iter_steps s xs t
    → into_iter_items s ≡ xs ++ into_iter_items t
taken_front s [] t y = ap into_iter_items y
taken_front s (x ∷ xs) t y = y.1.0 ∙ ap (λ ys. x ∷ ys) (taken_front y.0 xs t y.2)

pub line_left : {X A : Type 0} (all : List X) (s now after : IntoIter X A) (yielded : List X) (x : X)
    → into_iter_items s ≡ all
    → Yields into_iter_steps s yielded now → into_iter_steps now (Some x) after
    → all ≡ yielded ++ x ∷ into_iter_items after
line_left all s now after yielded x is so_far steps =
    sym is ∙ (taken_front s yielded now so_far ∙ ap (λ xs. yielded ++ xs) steps.0)

pub none_left : {X A : Type 0} (all : List X) (s now after : IntoIter X A) (yielded : List X) → into_iter_items s ≡ all
    → Yields into_iter_steps s yielded now → into_iter_steps now None after → all ≡ yielded
none_left all s now after yielded is so_far steps =
    sym is ∙ (taken_front s yielded now so_far ∙ (ap (λ xs. yielded ++ xs) (nil_from_length (into_iter_items now)
    (sym now.rest.ok.0 ∙ steps.0))
    ∙ append-nil yielded))
