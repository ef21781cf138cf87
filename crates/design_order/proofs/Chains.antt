-- Chains of readers.
use Rattle.std.proofs.Common.{◌≡◌, ◌≢◌, ℕ, zero, suc, ◌+◌, ◌<◌, ◌≤◌, Option, Some, None, List, [], ◌∷◌, ◌++◌, Bool, true, not, length, take, drop, replicate, slice_index_or, slice_set, refl, sym, ap, ◌∙◌, arith, ◌⊎◌, inl, inr, subst, length-append, length-set, add-one}
use Rattle.std.specs.List.{Contains, AllByRecursion}
use Rattle.std.specs.Option.{option_or}
use Rattle.std.proofs.lemmas.List.Folds.{find-append}
use Rattle.std.proofs.lemmas.Bool.{cases_eq, cases_lt}
use Rattle.std.proofs.lemmas.List.{get_or-set_same, get_or-set_other, get_or-map, get_or-replicate, get_or_past, length-replicate}
use Rattle.std.proofs.Math.ListN.{get_or-append}
use Rattle.std.proofs.Math.Seq.{get_or-append_seam}
use Rattle.std.proofs.lemmas.List.Elements.{Contains-append_cases}
use Rattle.design_circuit.specs.Order.{arguments_of_driver, net_pins}
use Rattle.design_circuit.specs.Job.{driver_in}
use Rattle.design_circuit.specs.declared.design.Driver.{Driver}
use Rattle.design_circuit.specs.declared.design.Driver.TheVariants.{Undriven}
use Rattle.design_circuit.specs.declared.design.Design.{Design}
use Rattle.design_circuit.specs.declared.design.Net.{Net as Item}
use Rattle.design_circuit.specs.declared.design.Pin.{Pin}
use Rattle.design_circuit.specs.declared.design.Pin.TheVariants.{Net, Bit, Dead}
use Rattle.design_order.specs.declared.readers.Link.{Link}
use Rattle.design_order.specs.declared.readers.Readers.{Readers}
use Rattle.design_order.specs.Progress.{flag_at, first_open, open_pin, can_come, Offers}
use Rattle.design_order.specs.Pending.{Pending, rest_of}
use Rattle.design_order.specs.Readers.{no_link, link_at, head_at, InChain, here, there, IsReaderLinks, AreReaders, Adds, AddsTo}
use Rattle.design_order.proofs.Finds.{contains_cases, contains_none}

link_before : (links : List Link) (l : Link) (e : ℕ) → e < length links → link_at (links ++ l ∷ []) e ≡ link_at links e
link_before links l e lt = get_or-append links (l ∷ []) no_link e lt

link_last : (links : List Link) (l : Link) → link_at (links ++ l ∷ []) (length links) ≡ l
link_last links l = get_or-append_seam links l [] no_link

longer : (links : List Link) (l : Link) → length (links ++ l ∷ []) ≡ length links + 1
longer links l = length-append links (l ∷ [])

chain_more : (links : List Link) (l : Link) (at : Option ℕ) (net : ℕ) → InChain links at net → InChain (links ++ l ∷ []) at net
chain_more links l at net (here e lt) =
    let long = longer links l in
    subst (λ (k : Link). InChain (links ++ l ∷ []) (Some e) k.reader) (link_before links l e lt) (here e (omega (arith, long, lt)))
chain_more links l at net (there e net' lt rest) =
    let long = longer links l in
    there e net (omega (arith, long, lt)) (subst (λ (k : Link). InChain (links ++ l ∷ []) k.next net) (sym (link_before links l e lt)) (chain_more links l (link_at links e).next net rest))

last_or : (p n : ℕ) → p < n + 1 → (p < n) ⊎ (p ≡ n)
last_or p n h = elim (cases_lt p n) as (λ _. (p < n) ⊎ (p ≡ n)) [ inl lt ↦ inl lt | inr ge ↦ inr (omega arith) ]

head_same : (heads : List (Option ℕ)) (a : ℕ) (v : Option ℕ) → a < length heads → head_at (slice_set heads a v) a ≡ v
head_same heads a v lt = get_or-set_same heads a v None lt

head_other : (heads : List (Option ℕ)) (a q : ℕ) (v : Option ℕ) → q ≢ a → head_at (slice_set heads a v) q ≡ head_at heads q
head_other heads a q v ne = get_or-set_other heads a q v None ne

pub adds_one : (heads : List (Option ℕ)) (links : List Link) (a n : ℕ) → IsReaderLinks (length heads) heads links → n < length heads → a < length heads → Adds heads links (slice_set heads a (Some (length links))) (links ++ (record { reader = n; next = head_at heads a }) ∷ []) (a ∷ []) n
adds_one heads links a n table n_in a_in =
    let l : Link = record { reader = n; next = head_at heads a } in
    let long : length (links ++ l ∷ []) ≡ length links + 1 = longer links l in
    let top : head_at (slice_set heads a (Some (length links))) a ≡ Some (length links) = head_same heads a (Some (length links)) a_in in
    record {
      table = record {
        long = length-set heads a (Some (length links));
        head = λ q e h. elim (cases_eq q a) as (λ _. e < length (links ++ l ∷ [])) [
          | inl same ↦ (let f : Some (length links) ≡ Some e = sym top ∙ ap (head_at (slice_set heads a (Some (length links)))) (sym same) ∙ h in let g : length links ≡ e = cc in omega (arith, long, g))
          | inr ne ↦ (let f = table.head q e (sym (head_other heads a q (Some (length links)) ne) ∙ h) in omega (arith, long, f))
        ];
        back = λ e f lt h. elim (last_or e (length links) (omega (arith, long, lt))) as (λ _. f < e) [
          | inl before ↦ table.back e f before (ap (λ (k : Link). k.next) (sym (link_before links l e before)) ∙ h)
          | inr last ↦ (let g = table.head a f (ap (λ (k : Link). k.next) (sym (ap (link_at (links ++ l ∷ [])) last ∙ link_last links l)) ∙ h) in omega (arith, g, last))
        ];
        reader = λ e lt. elim (last_or e (length links) (omega (arith, long, lt))) as (λ _. (link_at (links ++ l ∷ []) e).reader < length heads) [
          | inl before ↦ subst (λ (k : Link). k.reader < length heads) (sym (link_before links l e before)) (table.reader e before)
          | inr last ↦ subst (λ (k : Link). k.reader < length heads) (sym (ap (link_at (links ++ l ∷ [])) last ∙ link_last links l)) n_in
        ];
      };
      keeps = λ q m chain. elim (cases_eq q a) as (λ _. InChain (links ++ l ∷ []) (head_at (slice_set heads a (Some (length links))) q) m) [
        | inl same ↦
            let old = subst (λ k. InChain links (head_at heads k) m) same chain in
            let step = there (length links) m (omega (arith, long)) (subst (λ (k : Link). InChain (links ++ l ∷ []) k.next m) (sym (link_last links l)) (chain_more links l (head_at heads a) m old)) in
            subst (λ o. InChain (links ++ l ∷ []) o m) (sym top ∙ ap (head_at (slice_set heads a (Some (length links)))) (sym same)) step
        | inr ne ↦ subst (λ o. InChain (links ++ l ∷ []) o m) (sym (head_other heads a q (Some (length links)) ne)) (chain_more links l (head_at heads q) m chain)
      ];
      added = λ q c.
          let same : a ≡ q = elim (contains_cases a [] q c) as (λ _. a ≡ q) [ inl e ↦ e | inr d ↦ absurd (contains_none q d) ] in
          let first = subst (λ (k : Link). InChain (links ++ l ∷ []) (Some (length links)) k.reader) (link_last links l) (here (length links) (omega (arith, long))) in
          subst (λ o. InChain (links ++ l ∷ []) o n) (sym top ∙ ap (head_at (slice_set heads a (Some (length links)))) same) first;
    }

pub adds_none : (heads : List (Option ℕ)) (links : List Link) (n : ℕ) → IsReaderLinks (length heads) heads links → Adds heads links heads links [] n
adds_none heads links n table = record { table = table; keeps = λ a m h. h; added = λ a c. absurd (contains_none a c) }

pub adds_then : (h0 : List (Option ℕ)) (l0 : List Link) (h1 : List (Option ℕ)) (l1 : List Link) (h2 : List (Option ℕ)) (l2 : List Link) (xs ys : List ℕ) (n : ℕ) → Adds h0 l0 h1 l1 xs n → Adds h1 l1 h2 l2 ys n → Adds h0 l0 h2 l2 (xs ++ ys) n
adds_then h0 l0 h1 l1 h2 l2 xs ys n first second = record {
  table = subst (λ w. IsReaderLinks w h2 l2) first.table.long second.table;
  keeps = λ a m chain. second.keeps a m (first.keeps a m chain);
  added = λ a c. elim (Contains-append_cases xs ys a c) as (λ _. InChain l2 (head_at h2 a) n) [
    | inl d ↦ second.keeps a n (first.added a d)
    | inr d ↦ second.added a d
  ];
}

pub pins_more : (pins : List Pin) (i : ℕ) (d : Pin) → i < length pins → net_pins (take (i + 1) pins) ≡ net_pins (take i pins) ++ open_pin (slice_index_or pins i d)
pins_more [] i d lt = absurd (omega arith)
pins_more (Net net ∷ pins) zero d lt = refl
pins_more (Bit bit ∷ pins) zero d lt = refl
pins_more (Dead ∷ pins) zero d lt = refl
pins_more (Net net ∷ pins) (suc i) d lt = rw add-one (let e = rw add-one at (pins_more pins i d (omega arith)) in ap (λ ns. net ∷ ns) e)
pins_more (Bit bit ∷ pins) (suc i) d lt = rw add-one (rw add-one at (pins_more pins i d (omega arith)))
pins_more (Dead ∷ pins) (suc i) d lt = rw add-one (rw add-one at (pins_more pins i d (omega arith)))

pub pin_bound : (P : ℕ → Type 0) (pins : List Pin) (i : ℕ) (d : Pin) → i < length pins → AllByRecursion P (net_pins pins) → AllByRecursion P (open_pin (slice_index_or pins i d))
pin_bound P [] i d lt all = absurd (omega arith)
pin_bound P (Net net ∷ pins) zero d lt all = (all.0, tt)
pin_bound P (Bit bit ∷ pins) zero d lt all = tt
pin_bound P (Dead ∷ pins) zero d lt all = tt
pin_bound P (Net net ∷ pins) (suc i) d lt all = pin_bound P pins i d (omega arith) all.1
pin_bound P (Bit bit ∷ pins) (suc i) d lt all = pin_bound P pins i d (omega arith) all
pin_bound P (Dead ∷ pins) (suc i) d lt all = pin_bound P pins i d (omega arith) all

pub readers_more : (driver : ℕ → Driver) (old new : Readers) (n : ℕ) → AreReaders driver n old → AddsTo old new (arguments_of_driver (driver n)) n → AreReaders driver (n + 1) new
readers_more driver old new n before adds net argument within c = elim (last_or net n within) as (λ _. InChain new.links.items (head_at new.heads.items argument) net) [
  | inl lt ↦ adds.keeps argument net (before net argument lt c)
  | inr e ↦ subst (λ k. InChain new.links.items (head_at new.heads.items argument) k) (sym e) (adds.added argument (subst (λ k. Contains (arguments_of_driver (driver k)) argument) e c))
]

pub adds_by : (heads new_heads : List (Option ℕ)) (links new_links : List Link) (a n k : ℕ) (next : Option ℕ) → IsReaderLinks (length heads) heads links → n < length heads → a < length heads → k ≡ length links → next ≡ head_at heads a → new_heads ≡ slice_set heads a (Some k) → new_links ≡ links ++ (record { reader = n; next = next }) ∷ [] → Adds heads links new_heads new_links (a ∷ []) n
adds_by heads new_heads links new_links a n k next table n_in a_in k_is next_is heads_are links_are =
    let h = heads_are ∙ ap (λ i. slice_set heads a (Some i)) k_is in
    let l = links_are ∙ ap (λ (o : Option ℕ). links ++ (let link : Link = record { reader = n; next = o } in link) ∷ []) next_is in
    subst (λ hs. Adds heads links hs new_links (a ∷ []) n) (sym h) (subst (λ ls. Adds heads links (slice_set heads a (Some (length links))) ls (a ∷ []) n) (sym l) (adds_one heads links a n table n_in a_in))

pub adds_table : (heads new_heads : List (Option ℕ)) (links new_links : List Link) (arguments : List ℕ) (n : ℕ) → Adds heads links new_heads new_links arguments n → IsReaderLinks (length new_heads) new_heads new_links
adds_table heads new_heads links new_links arguments n adds = subst (λ w. IsReaderLinks w new_heads new_links) (sym adds.table.long) adds.table

pub pins_from : (pins : List Pin) (i : ℕ) (d : Pin) → i < length pins → net_pins (drop i pins) ≡ open_pin (slice_index_or pins i d) ++ net_pins (drop (i + 1) pins)
pins_from [] i d lt = absurd (omega arith)
pins_from (Net net ∷ pins) zero d lt = refl
pins_from (Bit bit ∷ pins) zero d lt = refl
pins_from (Dead ∷ pins) zero d lt = refl
pins_from (p ∷ pins) (suc i) d lt = rw add-one (rw add-one at (pins_from pins i d (omega arith)))

pub pins_end : (pins : List Pin) (i : ℕ) → length pins ≤ i → net_pins (drop i pins) ≡ []
pins_end [] zero h = refl
pins_end [] (suc i) h = refl
pins_end (p ∷ pins) zero h = absurd (omega arith)
pins_end (p ∷ pins) (suc i) h = pins_end pins i (omega arith)

pub open_found : (flags : List Bool) (pins : List Pin) (i net : ℕ) (d : Pin) → i < length pins → first_open flags (net_pins pins) ≡ first_open flags (net_pins (drop i pins)) → first_open flags (open_pin (slice_index_or pins i d)) ≡ Some net → first_open flags (net_pins pins) ≡ Some net
open_found flags pins i net d lt before found =
    before ∙ ap (first_open flags) (pins_from pins i d lt) ∙ find-append (λ n. not (flag_at flags n)) (open_pin (slice_index_or pins i d)) (net_pins (drop (i + 1) pins)) ∙ ap (λ o. option_or o (first_open flags (net_pins (drop (i + 1) pins)))) found

pub open_passed : (flags : List Bool) (pins : List Pin) (i : ℕ) (d : Pin) → i < length pins → first_open flags (net_pins pins) ≡ first_open flags (net_pins (drop i pins)) → first_open flags (open_pin (slice_index_or pins i d)) ≡ None → first_open flags (net_pins pins) ≡ first_open flags (net_pins (drop (i + 1) pins))
open_passed flags pins i d lt before found =
    before ∙ ap (first_open flags) (pins_from pins i d lt) ∙ find-append (λ n. not (flag_at flags n)) (open_pin (slice_index_or pins i d)) (net_pins (drop (i + 1) pins)) ∙ ap (λ o. option_or o (first_open flags (net_pins (drop (i + 1) pins)))) found

-- the driver of a net, as the net's item has it
pub driver_is : (design : Design) (net : ℕ) (item : Item) → net < length design.nets → item ≡ slice_index_or design.nets net item → item.driver ≡ driver_in design net
driver_is design net item lt is = ap (λ (n : Item). n.driver) is ∙ sym (get_or-map (λ (n : Item). n.driver) design.nets net item Undriven lt)

new_table : (n : ℕ) (net e : ℕ) → head_at (replicate n None) net ≡ Some e → ⊥
new_table n net e h = elim (cases_lt net n) as (λ _. ⊥) [
  | inl lt ↦ (let f = sym (get_or-replicate n net None None lt) ∙ h in let no : None ≡ Some e = f in cc)
  | inr ge ↦ (let f = sym (get_or_past (replicate n None) net None (omega (arith, length-replicate {A = Option ℕ} n None))) ∙ h in let no : None ≡ Some e = f in cc)
]

pub no_readers : (driver : ℕ → Driver) (n : ℕ) (readers : Readers) → readers.heads.items ≡ replicate n None → readers.links.items ≡ [] → IsReaderLinks n readers.heads.items readers.links.items
no_readers driver n readers heads_are links_are = record {
  long = ap length heads_are ∙ length-replicate {A = Option ℕ} n None;
  head = λ net e h. absurd (new_table n net e (sym (ap (λ hs. head_at hs net) heads_are) ∙ h));
  back = λ e f lt h. absurd (let long : length readers.links.items ≡ 0 = ap length links_are in omega arith);
  reader = λ e lt. absurd (let long : length readers.links.items ≡ 0 = ap length links_are in omega arith);
}

pub item_driver : (design : Design) (nets : List Item) (net : ℕ) (d : Item) → nets ≡ design.nets → net < length design.nets → (slice_index_or nets net d).driver ≡ driver_in design net
item_driver design nets net d are lt = ap (λ (ns : List Item). (slice_index_or ns net d).driver) are ∙ sym (get_or-map (λ (n : Item). n.driver) design.nets net d Undriven lt)

pub chain_cases : (links : List Link) (e net : ℕ) → InChain links (Some e) net → (net ≡ (link_at links e).reader) ⊎ InChain links (link_at links e).next net
chain_cases links e net (here e' lt) = inl refl
chain_cases links e net (there e' net' lt rest) = inr rest

pub rest_less : (at next : Option ℕ) (e : ℕ) → at ≡ Some e → ((f : ℕ) → next ≡ Some f → f < e) → rest_of next < rest_of at
rest_less at None e is back = subst (λ o. 0 < rest_of o) (sym is) (omega arith)
rest_less at (Some f) e is back = subst (λ o. f + 1 < rest_of o) (sym is) (let h = back f refl in omega arith)

pub pending_step : (driver : ℕ → Driver) (width : ℕ) (flags : List Bool) (readers : Readers) (at next : Option ℕ) (e r : ℕ) (ready now : ℕ → Bool) → at ≡ Some e → next ≡ (link_at readers.links.items e).next → r ≡ (link_at readers.links.items e).reader → Pending driver width flags readers at ready → Offers (can_come driver flags) ready now r → Pending driver width flags readers next now
pending_step driver width flags readers at next e r ready now at_is next_is r_is pending offer net within can = elim (pending net within can) as (λ _. (now net ≡ true) ⊎ InChain readers.links.items next net) [
  | inl was ↦ inl (offer.kept net was)
  | inr chain ↦ elim (chain_cases readers.links.items e net (subst (λ o. InChain readers.links.items o net) at_is chain)) as (λ _. (now net ≡ true) ⊎ InChain readers.links.items next net) [
    | inl is ↦ (let same : net ≡ r = is ∙ sym r_is in inl (subst (λ k. now k ≡ true) (sym same) (offer.joined (subst (λ k. can_come driver flags k ≡ true) same can))))
    | inr rest ↦ inr (subst (λ o. InChain readers.links.items o net) (sym next_is) rest)
  ]
]
