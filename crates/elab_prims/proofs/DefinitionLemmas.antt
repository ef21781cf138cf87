-- The map of the definitions' names means what the names define.
use Rattle.std.proofs.Common.{◌≡◌, ℕ, ◌+◌, ◌<◌, Bool, true, false, cond, List, [], ◌∷◌, ◌++◌, length, Option, Some, None, refl, sym, ap, ◌∙◌, bytes_eq, Bor, if◌then◌else◌, is_some, position, arith, take, get_or, subst, IfSome}
use Rattle.std.proofs.lemmas.List.{length-take-le, take_more}
use Rattle.std.specs.Map.{lookup}
use Rattle.std.specs.Option.{option_or, option_map}
use Rattle.indexmap.specs.IndexMap.{insert_entry}
use Rattle.netlist_grammar.specs.declared.tree.Module.{Module}
use Rattle.netlist_grammar.specs.declared.tree.Primitive.{Primitive}
use Rattle.netlist_grammar.specs.declared.tree.Source.{Source}
use Rattle.elab_prims.specs.declared.definitions.Definition.{Definition}
use Rattle.elab_prims.specs.declared.definitions.Definition.TheVariants as definition
use Rattle.elab_prims.specs.Definitions.{numbers_in, with_number, definition_in, Finds, definition_of, IsThere}
use Rattle.base_scan.proofs.FirstNumbers.{number_more, only, or_none, position_push, position_within}

-- ---- the map

pub found_is : (es : List (Bor (List ℕ) × Definition)) (name : List ℕ) → lookup (bytes_eq name) (numbers_in es) ≡ lookup (λ (k : Bor (List ℕ)). bytes_eq name k.now) es
found_is [] name = refl
found_is (e ∷ es) name = ap (cond (bytes_eq name e.0.now) (Some e.1)) (found_is es name)

inserted_by : (b : Bool) (e : Bor (List ℕ) × Definition) (k : Bor (List ℕ)) (v : Definition) (es more : List (Bor (List ℕ) × Definition)) (r : Option Definition)
    → is_some (cond b (Some e.1) r) ≡ false → (is_some r ≡ false → numbers_in more ≡ numbers_in es ++ (k.now, v) ∷ []) → numbers_in (if b then (e.0, v) ∷ es else (e ∷ more)) ≡ numbers_in (e ∷ es) ++ (k.now, v) ∷ []
inserted_by true e k v es more r absent rest = absurd cc
inserted_by false e k v es more r absent rest = ap (λ (l : List (List ℕ × Definition)). (e.0.now, e.1) ∷ l) (rest absent)

pub inserted_is : (es : List (Bor (List ℕ) × Definition)) (k : Bor (List ℕ)) (v : Definition) → is_some (lookup (bytes_eq k.now) (numbers_in es)) ≡ false
    → numbers_in (insert_entry (λ (a b : Bor (List ℕ)). bytes_eq a.now b.now) es k v) ≡ numbers_in es ++ (k.now, v) ∷ []
inserted_is [] k v absent = refl
inserted_is (e ∷ es) k v absent = inserted_by (bytes_eq k.now e.0.now) e k v es _ (lookup (bytes_eq k.now) (numbers_in es)) absent (inserted_is es k v)

-- ---- one more

map_or : {A B : Type 0} (f : A → B) (o : Option A) (b : Bool) (x : A) → option_map f (option_or o (only b x)) ≡ option_or (option_map f o) (only b (f x))
map_or f (Some y) b x = refl
map_or f None true x = refl
map_or f None false x = refl

or_assoc : {A : Type 0} (a b c : Option A) → option_or a (option_or b c) ≡ option_or (option_or a b) c
or_assoc None b c = refl
or_assoc (Some x) b c = refl

modules_more : (ms : List Module) (m : Module) (q : List ℕ) → definition_in (ms ++ m ∷ []) [] q ≡ option_or (definition_in ms [] q) (only (bytes_eq q m.name.text) (definition.Module (length ms)))
modules_more ms m q =
    or_none _ ∙ ap (option_map definition.Module) (position_push (λ (n : Module). bytes_eq q n.name.text) ms m)
    ∙ map_or definition.Module (position (λ (n : Module). bytes_eq q n.name.text) ms) (bytes_eq q m.name.text) (length ms)
    ∙ ap (λ (o : Option Definition). option_or o (only (bytes_eq q m.name.text) (definition.Module (length ms)))) (sym (or_none _))

primitives_more : (ms : List Module) (ps : List Primitive) (p : Primitive) (q : List ℕ)
    → definition_in ms (ps ++ p ∷ []) q ≡ option_or (definition_in ms ps q) (only (bytes_eq q p.name.text) (definition.Primitive (length ps)))
primitives_more ms ps p q =
    let first = option_map definition.Module (position (λ (m : Module). bytes_eq q m.name.text) ms) in
    ap (option_or first) (ap (option_map definition.Primitive) (position_push (λ (n : Primitive). bytes_eq q n.name.text) ps p)
    ∙ map_or definition.Primitive (position (λ (n : Primitive). bytes_eq q n.name.text) ps) (bytes_eq q p.name.text) (length ps))
    ∙ or_assoc first _ _

pub finds_nothing : Finds [] [] []
finds_nothing = record { same = λ name. refl }

pub finds_module : (numbers more : List (List ℕ × Definition)) (ms : List Module) (m : Module) → more ≡ with_number m.name.text (definition.Module (length ms)) numbers
    → Finds numbers ms [] → Finds more (ms ++ m ∷ []) []
finds_module numbers more ms m is finds = record {
  same = λ q.
      ap (lookup (bytes_eq q)) is ∙ number_more numbers q m.name.text (definition.Module (length ms))
      ∙ ap (λ (o : Option Definition). option_or o (only (bytes_eq q m.name.text) (definition.Module (length ms)))) (finds.same q) ∙ sym (modules_more ms m q);
}

pub finds_primitive : (numbers more : List (List ℕ × Definition)) (ms : List Module) (ps : List Primitive) (p : Primitive) → more ≡ with_number p.name.text (definition.Primitive (length ps)) numbers
    → Finds numbers ms ps → Finds more ms (ps ++ p ∷ [])
finds_primitive numbers more ms ps p is finds = record {
  same = λ q.
      ap (lookup (bytes_eq q)) is ∙ number_more numbers q p.name.text (definition.Primitive (length ps))
      ∙ ap (λ (o : Option Definition). option_or o (only (bytes_eq q p.name.text) (definition.Primitive (length ps)))) (finds.same q) ∙ sym (primitives_more ms ps p q);
}

-- ---- up to one of a list

pub finds_module_at : (ms : List Module) (k : ℕ) (m : Module) (numbers more : List (List ℕ × Definition)) (text : List ℕ) → k < length ms → m ≡ get_or ms k m → text ≡ m.name.text
    → more ≡ with_number text (definition.Module k) numbers → Finds numbers (take k ms) [] → Finds more (take (k + 1) ms) []
finds_module_at ms k m numbers more text within is named grown finds =
    let all : take (k + 1) ms ≡ take k ms ++ m ∷ [] = take_more ms k m within ∙ ap (λ (x : Module). take k ms ++ x ∷ []) (sym is) in
    let long : length (take k ms) ≡ k = length-take-le k ms (omega arith) in
    let same : more ≡ with_number m.name.text (definition.Module (length (take k ms))) numbers =
    grown ∙ ap (λ (t : List ℕ). with_number t (definition.Module k) numbers) named ∙ ap (λ (n : ℕ). with_number m.name.text (definition.Module n) numbers) (sym long) in
    subst (λ (l : List Module). Finds more l []) (sym all) (finds_module numbers more (take k ms) m same finds)

pub finds_primitive_at : (ms : List Module) (ps : List Primitive) (k : ℕ) (p : Primitive) (numbers more : List (List ℕ × Definition)) (text : List ℕ) → k < length ps → p ≡ get_or ps k p → text ≡ p.name.text
    → more ≡ with_number text (definition.Primitive k) numbers → Finds numbers ms (take k ps) → Finds more ms (take (k + 1) ps)
finds_primitive_at ms ps k p numbers more text within is named grown finds =
    let all : take (k + 1) ps ≡ take k ps ++ p ∷ [] = take_more ps k p within ∙ ap (λ (x : Primitive). take k ps ++ x ∷ []) (sym is) in
    let long : length (take k ps) ≡ k = length-take-le k ps (omega arith) in
    let same : more ≡ with_number p.name.text (definition.Primitive (length (take k ps))) numbers =
    grown ∙ ap (λ (t : List ℕ). with_number t (definition.Primitive k) numbers) named ∙ ap (λ (n : ℕ). with_number p.name.text (definition.Primitive n) numbers) (sym long) in
    subst (λ (l : List Primitive). Finds more ms l) (sym all) (finds_primitive numbers more ms (take k ps) p same finds)

-- ---- what an addition does

-- ---- a definition is there

there_by : (s : Source) (m p : Option ℕ) → IfSome m (λ (k : ℕ). k < length s.modules) → IfSome p (λ (k : ℕ). k < length s.primitives)
    → IfSome (option_or (option_map definition.Module m) (option_map definition.Primitive p)) (λ (d : Definition). IsThere s d)
there_by s (Some k) p one two = one
there_by s None (Some k) one two = two
there_by s None None one two = tt

pub there : (s : Source) (name : List ℕ) → IfSome (definition_of s name) (λ (d : Definition). IsThere s d)
there s name = there_by s _ _ (position_within (λ (m : Module). bytes_eq name m.name.text) s.modules) (position_within (λ (p : Primitive). bytes_eq name p.name.text) s.primitives)

pub found_there : (s : Source) (name : List ℕ) (found : Option Definition) (numbers : List (List ℕ × Definition)) → Finds numbers s.modules s.primitives → found ≡ lookup (bytes_eq name) numbers
    → IfSome found (λ (d : Definition). IsThere s d)
found_there s name found numbers finds is = subst (λ (o : Option Definition). IfSome o (λ (d : Definition). IsThere s d)) (sym (is ∙ finds.same name)) (there s name)
