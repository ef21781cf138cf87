-- The declarations of a primitive, one by one.
use Rattle.std.proofs.Common.{◌≡◌, ℕ, ◌+◌, ◌-◌, ◌≤◌, ◌<◌, Bool, true, false, List, [], ◌∷◌, ◌++◌, length, take, get_or, refl, sym, ap, ◌∙◌, if◌then◌else◌, arith}
use Rattle.std.proofs.lemmas.List.{take_more}
use Rattle.netlist_grammar.specs.declared.tree.PrimKind.{PrimKind}
use Rattle.netlist_grammar.specs.declared.tree.PrimKind.TheVariants.{Output, Input, Reg, Initial}
use Rattle.netlist_grammar.specs.declared.tree.PrimDeclare.{PrimDeclare}
use Rattle.netlist_grammar.specs.declared.tree.Primitive.{Primitive}
use Rattle.netlist_grammar.specs.declared.tree.Word.{Word}
use Rattle.netlist_grammar.specs.Trees.{is_reg, prim_declare}
use Rattle.elab_prims.specs.Names.{names_of}
use Rattle.elab_prims.specs.Ports.{is_output, is_input, is_start, declared_as, declared, by_kind, with_declared, Declared, matches_ports, ports_match}

kept_by : (b : Bool) (name : List ℕ) (names more rest : List (List ℕ)) → names ≡ rest ++ more → (if b then name ∷ names else names) ≡ (if b then name ∷ rest else rest) ++ more
kept_by true name names more rest is = ap (λ (l : List (List ℕ)). name ∷ l) is
kept_by false name names more rest is = is

-- one declaration more
as_more : (kind : PrimKind → Bool) (ds : List PrimDeclare) (d : PrimDeclare) → declared_as kind (ds ++ d ∷ []) ≡ declared_as kind ds ++ declared_as kind (d ∷ [])
as_more kind [] d = refl
as_more kind (e ∷ ds) d = kept_by (kind e.what) e.name.text _ _ _ (as_more kind ds d)

-- one that isn't of the kind
as_before : (names : List (List ℕ)) → names ++ [] ≡ names
as_before [] = refl
as_before (n ∷ ns) = ap (λ (l : List (List ℕ)). n ∷ l) (as_before ns)

same_parts : (os is rs ss os' is' rs' ss' : List (List ℕ)) → os ≡ os' → is ≡ is' → rs ≡ rs' → ss ≡ ss' → by_kind os is rs ss ≡ by_kind os' is' rs' ss'
same_parts os is rs ss os' is' rs' ss' o i r s = λ k. by_kind (o k) (i k) (r k) (s k)

one_more : (ds : List PrimDeclare) (what : PrimKind) (name : Word) → declared (ds ++ prim_declare what name ∷ []) ≡ with_declared what name.text (declared ds)
one_more ds Output name = same_parts _ _ _ _ _ _ _ _ (as_more is_output ds _) (as_more is_input ds _ ∙ as_before _) (as_more is_reg ds _ ∙ as_before _) (as_more is_start ds _ ∙ as_before _)
one_more ds Input name = same_parts _ _ _ _ _ _ _ _ (as_more is_output ds _ ∙ as_before _) (as_more is_input ds _) (as_more is_reg ds _ ∙ as_before _) (as_more is_start ds _ ∙ as_before _)
one_more ds Reg name = same_parts _ _ _ _ _ _ _ _ (as_more is_output ds _ ∙ as_before _) (as_more is_input ds _ ∙ as_before _) (as_more is_reg ds _) (as_more is_start ds _ ∙ as_before _)
one_more ds (Initial value) name = same_parts _ _ _ _ _ _ _ _ (as_more is_output ds _ ∙ as_before _) (as_more is_input ds _ ∙ as_before _) (as_more is_reg ds _ ∙ as_before _) (as_more is_start ds _)

-- the declarations up to one
pub declared_more : (ds : List PrimDeclare) (k : ℕ) (d : PrimDeclare) (more : Declared) (text : List ℕ) → k < length ds → d ≡ get_or ds k d → text ≡ d.name.text
    → more ≡ with_declared d.what text (declared (take k ds)) → more ≡ declared (take (k + 1) ds)
declared_more ds k d more text within is named grown =
    grown ∙ ap (λ (t : List ℕ). with_declared d.what t (declared (take k ds))) named ∙ sym (one_more (take k ds) d.what d.name)
    ∙ ap (λ (e : PrimDeclare). declared (take k ds ++ e ∷ [])) is ∙ ap declared (sym (take_more ds k d within))

input_by : (ports : List Word) (d : Declared) → ports_match (names_of ports) d ≡ true → 1 ≤ length ports - 1
input_by [] d matches = absurd cc
input_by (w ∷ []) d matches = absurd cc
input_by (w ∷ v ∷ ports) d matches = omega arith

-- Where the ports match there is an input.
pub has_input : (p : Primitive) → matches_ports p ≡ true → 1 ≤ length p.ports - 1
has_input p matches = input_by p.ports (declared p.declarations) matches
