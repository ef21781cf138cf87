-- Nets that are made fit, and so do their drivers.
use Rattle.std.proofs.Common.{◌≡◌, ℕ, ◌+◌, ◌<◌, ◌≤◌, ◌^◌, Bool, true, false, ◌&&◌, List, [], ◌∷◌, ◌++◌, length, refl, sym, ◌∙◌, ap, ap₂, arith, Option, Some, None, nat_le, length-append, length-set, leb-true, IfOk}
use Rattle.std.specs.List.{AllByRecursion, list_all}
use Rattle.std.proofs.lemmas.List.{map-append}
use Rattle.std.proofs.lemmas.List.Folds.{list_all-append}
use Rattle.design_cell.specs.Table.{Table}
use Rattle.netlist_grammar.specs.Trees.{Range}
use Rattle.netlist_grammar.specs.Whole.{IsName, IsRange}
use Rattle.netlist_grammar.specs.declared.tree.Word.{Word}
use Rattle.netlist_grammar.specs.declared.tree.NetKind.{NetKind}
use Rattle.netlist_grammar.specs.declared.tree.NetKind.TheVariants as kind
use Rattle.design_circuit.specs.Design.{FitsName, Spelling, is_part, has_parts, no_name, spelling_of}
use Rattle.design_circuit.specs.Fits.{FitsDriver}
use Rattle.design_circuit.specs.declared.design.Driver.{Driver}
use Rattle.design_circuit.specs.declared.design.Driver.TheVariants.{Input, Undriven, Constant, Copy, Cell, Register}
use Rattle.design_circuit.specs.declared.name.Name.{Name}
use Rattle.design_circuit.specs.declared.name.NamePart.{NamePart}
use Rattle.elab_nets.specs.Ranges.{upto, width_of, bit_at}
use Rattle.elab_nets.specs.State.{State, net_count, first_driver, part_of, name_under, with_nets, made, has_driver, with_driver, driven}
use Rattle.elab_tree.specs.Sound.{texts_at, part_texts, Within, DriverFits, MaybeFits, IsSound}
use Rattle.elab_tree.proofs.Steps.{chosen, Drives}
use Rattle.elab_tree.proofs.Lists.{all_append, all_upto, all_set, all_more, length_upto, at_upto, AreApart, distinct_append, distinct_upto, bits_apart, bits_fit}

-- ---- drivers

nets_more : (n m : ℕ) → n ≤ m → (nets : List ℕ) → AllByRecursion (λ a. a < n) nets → AllByRecursion (λ a. a < m) nets
nets_more n m more nets h = all_more _ _ (λ (net : ℕ) (less : net < n). omega (arith, more)) nets h

fits_more : (tables : List Table) (n m : ℕ) (d : Driver) → n ≤ m → FitsDriver tables n d → FitsDriver tables m d
fits_more tables n m Input more h = h
fits_more tables n m Undriven more h = h
fits_more tables n m (Constant bit) more h = h
fits_more tables n m (Copy net) more h = h
fits_more tables n m (Cell table pins) more h = h
fits_more tables n m (Register r) more h = record { primitive = h.primitive; live = h.live; nets = nets_more n m more _ h.nets; clocks = h.clocks; start = h.start }

pub driver_more : (tables : List Table) (n m : ℕ) (d : Driver) → n ≤ m → DriverFits tables n d → DriverFits tables m d
driver_more tables n m d more h = record { pins = fits_more tables n m d more h.pins; arguments = nets_more n m more _ h.arguments }

maybe_more : (tables : List Table) (n m : ℕ) → n ≤ m → (d : Option Driver) → MaybeFits tables n d → MaybeFits tables m d
maybe_more tables n m more None h = tt
maybe_more tables n m more (Some d) h = driver_more tables n m d more h

input_fits : (tables : List Table) (n : ℕ) → DriverFits tables n Input
input_fits tables n = record { pins = tt; arguments = tt }

pub undriven_fits : (tables : List Table) (n : ℕ) → DriverFits tables n Undriven
undriven_fits tables n = record { pins = tt; arguments = tt }

pub constant_fits : (tables : List Table) (n : ℕ) (bit : Bool) → DriverFits tables n (Constant bit)
constant_fits tables n bit = record { pins = tt; arguments = tt }

first_fits : (tables : List Table) (n : ℕ) (prefix : List NamePart) (what : NetKind) → MaybeFits tables n (first_driver prefix what)
first_fits tables n [] kind.Input = input_fits tables n
first_fits tables n [] kind.Output = tt
first_fits tables n [] kind.Wire = tt
first_fits tables n [] kind.Supply0 = constant_fits tables n false
first_fits tables n [] kind.Supply1 = constant_fits tables n true
first_fits tables n [] kind.Reg = tt
first_fits tables n (_ ∷ _) kind.Input = undriven_fits tables n
first_fits tables n (_ ∷ _) kind.Output = tt
first_fits tables n (_ ∷ _) kind.Wire = tt
first_fits tables n (_ ∷ _) kind.Supply0 = constant_fits tables n false
first_fits tables n (_ ∷ _) kind.Supply1 = constant_fits tables n true
first_fits tables n (_ ∷ _) kind.Reg = tt

-- A driver that fits is taken.
pub with_driver_drives : (tables : List Table) (net : ℕ) (d : Driver) (s : State) → IsSound tables s → DriverFits tables (length s.names) d → Drives tables s (with_driver net d s)
with_driver_drives tables net d s sound fits = record {
  sound = record { as_many = length-set s.drivers net (Some d) ∙ sound.as_many; few = sound.few; drivers = all_set _ s.drivers net (Some d) sound.drivers fits; names = sound.names; distinct = sound.distinct };
  same = refl;
}

pub driven_drives : (tables : List Table) (at net : ℕ) (d : Driver) (s : State) → IsSound tables s → DriverFits tables (length s.names) d → IfOk (driven at net d s) (Drives tables s)
driven_drives tables at net d s sound fits = chosen _ (has_driver s net) _ _ (λ _. tt) (λ _. with_driver_drives tables net d s sound fits)

-- ---- names

some_parts : (prefix : List NamePart) (p : NamePart) → has_parts (prefix ++ p ∷ []) ≡ true
some_parts [] p = refl
some_parts (_ ∷ _) p = refl

both_true : (b c : Bool) → b ≡ true → c ≡ true → (b && c) ≡ true
both_true b c h g = ap₂ ◌&&◌ h g

word_is_part : (w : Word) → IsName w → list_all is_part (part_of w ∷ []) ≡ true
word_is_part w name = both_true _ true name refl

pub parts_more : (prefix : List NamePart) (w : Word) → list_all is_part prefix ≡ true → IsName w → list_all is_part (prefix ++ part_of w ∷ []) ≡ true
parts_more prefix w parts name = list_all-append is_part prefix (part_of w ∷ []) ∙ both_true _ _ parts (word_is_part w name)

pub texts_of_name : (prefix : List NamePart) (w : Word) (bit : Option ℕ) → (spelling_of (name_under prefix w bit)).texts ≡ part_texts prefix ++ w.text ∷ []
texts_of_name prefix w bit = map-append (λ (part : NamePart). part.text) prefix (part_of w ∷ [])

count_below : (what : NetKind) (range : Range) (k : ℕ) → k < net_count what range → k < width_of range
count_below kind.Input range k within = within
count_below kind.Output range k within = within
count_below kind.Wire range k within = within
count_below kind.Supply0 range k within = within
count_below kind.Supply1 range k within = within
count_below kind.Reg range k within = absurd (omega arith)

-- the names of a word's nets
abbrev new_names : List NamePart → NetKind → Range → Word → List Name
new_names prefix what range w = upto (λ bit. name_under prefix w (bit_at range bit)) (net_count what range)

new_fit : (prefix : List NamePart) (what : NetKind) (range : Range) (w : Word) → list_all is_part prefix ≡ true → IsName w → IsRange range → AllByRecursion FitsName (new_names prefix what range w)
new_fit prefix what range w parts name fits = all_upto FitsName _ _
    (λ k less. record { some_part = some_parts prefix (part_of w); parts = parts_more prefix w parts name; index = bits_fit range k fits (count_below what range k less) })

new_within : (prefix : List NamePart) (what : NetKind) (range : Range) (w : Word) → AllByRecursion (λ (n : Name). Within prefix (spelling_of n).texts) (new_names prefix what range w)
new_within prefix what range w = all_upto _ _ (net_count what range) (λ k less. (w.text, texts_of_name prefix w (bit_at range k)))

-- No net has a name of this word in the module.
pub record IsNew (prefix : List NamePart) (w : Word) (names : List Name) : Type 0 where
  pub free : (net : ℕ) → net < length names → texts_at names net ≡ part_texts prefix ++ w.text ∷ [] → ⊥

index_same : (prefix : List NamePart) (w : Word) (a b : Option ℕ) → spelling_of (name_under prefix w a) ≡ spelling_of (name_under prefix w b) → a ≡ b
index_same prefix w a b same = ap (λ (s : Spelling). s.index) same

new_apart : (prefix : List NamePart) (what : NetKind) (range : Range) (w : Word) (names : List Name) → IsNew prefix w names → AreApart names (new_names prefix what range w)
new_apart prefix what range w names new net other net_in other_in same =
    let other_less : other < net_count what range = let long = length_upto (λ (bit : ℕ). name_under prefix w (bit_at range bit)) (net_count what range) in omega (arith, long, other_in) in
    new.free net net_in (ap (λ (s : Spelling). s.texts) same ∙ ap (λ (n : Name). (spelling_of n).texts) (at_upto _ (net_count what range) other no_name other_less) ∙ texts_of_name prefix w (bit_at range other))

pub count_made : (prefix : List NamePart) (what : NetKind) (range : Range) (w : Word) (s : State) → length (with_nets prefix what range w s).names ≡ length s.names + net_count what range
count_made prefix what range w s = length-append s.names _ ∙ ap (λ (n : ℕ). length s.names + n) (length_upto _ (net_count what range))

pub made_sound : (tables : List Table) (prefix : List NamePart) (what : NetKind) (range : Range) (w : Word) (s : State) → IsSound tables s → list_all is_part prefix ≡ true → IsName w → IsRange range
    → IsNew prefix w s.names → length s.names + net_count what range ≤ 2 ^ 20 → IsSound tables (with_nets prefix what range w s)
made_sound tables prefix what range w s sound parts name fits new few = record {
  as_many = length-append s.drivers _ ∙ ap₂ ◌+◌ sound.as_many (length_upto _ (net_count what range)) ∙ sym many;
  few = (let many = many in omega (arith, many, few));
  drivers = all_append _ s.drivers _ (all_more _ _ (maybe_more tables _ _ (let many = many in omega (arith, many))) s.drivers sound.drivers) (all_upto _ _ (net_count what range) (λ k less. first_fits tables _ prefix what));
  names = all_append FitsName s.names _ sound.names (new_fit prefix what range w parts name fits);
  distinct = distinct_append s.names _ sound.distinct
      (distinct_upto _ (net_count what range) (λ k j k_in j_in same. bits_apart range k j (count_below what range k k_in) (count_below what range j j_in) (index_same prefix w _ _ same)))
      (new_apart prefix what range w s.names new);
}
  where
    many : length (with_nets prefix what range w s).names ≡ length s.names + net_count what range
    many = count_made prefix what range w s

-- What comes of nets that are made: the next free number, and nets that stand in the module.
pub record AreMade (prefix : List NamePart) (what : NetKind) (range : Range) (w : Word) (s : State) (m : ℕ × State) : Type 0 where
  pub base : m.0 ≡ length s.names
  pub state : m.1 ≡ with_nets prefix what range w s
  pub few : length s.names + net_count what range ≤ 2 ^ 20

pub made_are : (prefix : List NamePart) (what : NetKind) (range : Range) (w : Word) (s : State) → IfOk (made prefix what range w s) (AreMade prefix what range w s)
unfolding made
made_are prefix what range w s =
    chosen _ (nat_le (length s.names + net_count what range) (2 ^ 20)) _ _ (λ fits. record { base = refl; state = refl; few = leb-true _ _ fits }) (λ _. tt)
