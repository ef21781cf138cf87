-- A table is a list of options in order.
use Rattle.std.proofs.Common.{◌≡◌, ◌∙◌, List, [], ◌∷◌, map, Bool, true, refl, ap, ap₂}
use Rattle.std.specs.Prelude.{◌&&◌, ◌^◌, nat_lt, not}
use Rattle.std.specs.List.{list_all, list_any}
use Rattle.std.specs.Str.{bytes_eq}
use Rattle.clap.proofs.WalkLemmas.{list_any-map}
use Rattle.base_line.specs.declared.option.Kind.{Kind}
use Rattle.base_line.specs.declared.option.Kind.TheVariants as kind
use Rattle.base_line.specs.declared.option.Opt.{Opt}
use Rattle.base_line.specs.Tables.{Plain, PlainKind, Number, plain, plain_kind}
use Rattle.base_line.specs.Line.{are_apart, are_options, is_kind, is_name}

abbrev pub is_plain_kind : PlainKind → Bool
is_plain_kind (Number least most) = nat_lt most (2 ^ 64)
is_plain_kind _ = true

abbrev pub is_plain_option : Plain → Bool
is_plain_option p = is_name p.name && is_plain_kind p.values

abbrev pub apart_plain : List Plain → Bool
apart_plain [] = true
apart_plain (p ∷ ps) = not (list_any (λ (q : Plain). bytes_eq q.name p.name) ps) && apart_plain ps

abbrev pub all_plain : List Plain → Bool
all_plain [] = true
all_plain (p ∷ ps) = is_plain_option p && all_plain ps

same_kind : (k : Kind) → is_kind k ≡ is_plain_kind (plain_kind k)
same_kind (kind.Number least most) = refl
same_kind _ = refl

same_all : (os : List Opt) → list_all (λ o. is_name o.name.now && is_kind o.kind) os ≡ all_plain (map plain os)
same_all [] = refl
same_all (o ∷ os) = ap₂ (λ (a b : Bool). a && b) (ap (λ (b : Bool). is_name o.name.now && b) (same_kind o.kind)) (same_all os)

same_apart : (os : List Opt) → are_apart os ≡ apart_plain (map plain os)
same_apart [] = refl
same_apart (o ∷ os) = ap₂ (λ (a b : Bool). not a && b) (list_any-map (λ (q : Plain). bytes_eq q.name o.name.now) plain os) (same_apart os)

-- Names and numbers are ones that may be declared, and no two options have one name.
abbrev pub IsTable : List Plain → Type 0
IsTable ps = (all_plain ps && apart_plain ps) ≡ true

pub in_order : (ps : List Plain) → IsTable ps → (os : List Opt) → map plain os ≡ ps → are_options os ≡ true
in_order ps is os table =
    ap₂ (λ (a b : Bool). a && b) (same_all os) (same_apart os)
    ∙ ap (λ (ps : List Plain). all_plain ps && apart_plain ps) table
    ∙ is
