-- Two functions that give each option the same value give the same options.
use Rattle.std.proofs.Common.{◌≡◌, Bool, true, false, Option, None, codes, cond, refl}
use Rattle.std.specs.Str.{bytes_eq}
use Rattle.base_line.specs.Line.{Text}
use Rattle.base_line.specs.Read.{options_by}

abbrev pub AreAlike : (Text → Option Text) → (Text → Option Text) → Type 0
AreAlike option other = (name : Text) → bytes_eq name (codes "FILE") ≡ false → option name ≡ other name

hidden_alike : (b : Bool) (x y : Option Text) → (b ≡ false → x ≡ y) → cond b None x ≡ cond b None y
hidden_alike true x y same = refl
hidden_alike false x y same = same refl

pub same_options : (option other : Text → Option Text) → AreAlike option other → options_by option ≡ options_by other
same_options option other each = λ i. λ name. hidden_alike (bytes_eq name (codes "FILE")) (option name) (other name) (each name) i
