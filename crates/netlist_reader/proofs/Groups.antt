-- The keywords that the grammar quotes, and those that the profile leaves out, are those of their groups.
use Rattle.std.proofs.Common.{◌≡◌, ◌∙◌, sym, ap, refl, ℕ, List, [], ◌∷◌, ◌++◌, Bool, true, false, ◌||◌, if◌then◌else◌}
use Rattle.std.specs.List.{list_any}
use Rattle.std.specs.Str.{bytes_eq}
use Rattle.netlist_grammar.specs.Lexemes.{Lexeme, named, entry_or, name_lexeme, is_keyword_left_out}
use Rattle.netlist_reader.specs.Groups.{head_keywords, item_keywords, gate_keywords, block_keywords, is_among, general}
use Rattle.netlist_reader.specs.Groups.{behavioral, wired_nets, switches, pass_switches}

or_assoc : (a b c : Bool) → ((a || b) || c) ≡ (a || (b || c))
or_assoc true b c = refl
or_assoc false b c = refl

or_right : (a b c : Bool) → b ≡ c → (a || b) ≡ (a || c)
or_right a b c h = ap (λ x. a || x) h

joined : {X : Type 0} (p : X → Bool) (xs ys : List X) → list_any p (xs ++ ys) ≡ (list_any p xs || list_any p ys)
joined p [] ys = refl
joined p (x ∷ xs) ys = or_right (p x) _ _ (joined p xs ys) ∙ sym (or_assoc (p x) (list_any p xs) (list_any p ys))

among : (xs ys : List (List ℕ)) (text : List ℕ) → is_among (xs ++ ys) text ≡ (is_among xs text || is_among ys text)
among xs ys text = joined (λ keyword. bytes_eq text keyword) xs ys

pub by_groups : (text : List ℕ)
    → is_keyword_left_out text ≡ (is_among general text || (is_among behavioral text || (is_among wired_nets text || (is_among switches text || is_among pass_switches text))))
unfolding is_keyword_left_out
by_groups text =
    among general (behavioral ++ (wired_nets ++ (switches ++ pass_switches))) text
    ∙ or_right (is_among general text) _ _ (among behavioral (wired_nets ++ (switches ++ pass_switches)) text
    ∙ or_right (is_among behavioral text) _ _ (among wired_nets (switches ++ pass_switches) text
    ∙ or_right (is_among wired_nets text) _ _ (among switches pass_switches text)))

cond_over : (b : Bool) (x y z : Lexeme) → y ≡ z → (if b then x else y) ≡ (if b then x else z)
cond_over true x y z h = refl
cond_over false x y z h = h

-- what two tables have at a name, one after the other
behind : (xs ys : List (List ℕ × Lexeme)) (text : List ℕ) (otherwise : Lexeme)
    → entry_or (xs ++ ys) text otherwise ≡ entry_or xs text (entry_or ys text otherwise)
behind [] ys text otherwise = refl
behind (x ∷ xs) ys text otherwise = cond_over (bytes_eq text x.0) x.1 _ _ (behind xs ys text otherwise)

pub name_by_groups : (text : List ℕ)
    → name_lexeme text ≡ entry_or head_keywords text (entry_or item_keywords text (entry_or gate_keywords text (entry_or block_keywords text (named text false))))
unfolding name_lexeme
name_by_groups text =
    behind head_keywords (item_keywords ++ (gate_keywords ++ block_keywords)) text (named text false)
    ∙ ap (entry_or head_keywords text) (behind item_keywords (gate_keywords ++ block_keywords) text (named text false))
    ∙ ap (λ l. entry_or head_keywords text (entry_or item_keywords text l)) (behind gate_keywords block_keywords text (named text false))
