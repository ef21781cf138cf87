-- What holds after one step holds after several.
use Rattle.std.proofs.Common.{◌≡◌, ℕ, ◌<◌, ◌≤◌, ltb, Bool, true, false, List, [], length, refl, sym, ◌∙◌, subst, arith, Ok, Err, IfOk, IfSome, Option, Some, None, if◌then◌else◌, ltb-true, ltb-false}
use Rattle.design_cell.specs.Table.{Table}
use Rattle.design_circuit.specs.Design.{spelling_of}
use Rattle.design_circuit.specs.declared.name.Name.{Name}
use Rattle.design_circuit.specs.declared.name.NamePart.{NamePart}
use Rattle.elab_nets.specs.declared.fault.ElabErr.{ElabErr}
use Rattle.elab_nets.specs.Outcome.{Outcome, after, or_refuse}
use Rattle.elab_nets.specs.State.{State}
use Rattle.elab_names.specs.Here.{Here, here_of}
use Rattle.elab_tree.specs.Sound.{texts_at, Within, Under, IsSound, Knows, StandsWell, Grows, Keeps}

-- ---- outcomes

-- What holds after the first step and after the second.
pub also : {A B : Type 0} (P : A → Type 0) (Q : B → Type 0) (r : Outcome A) (k : A → Outcome B) → IfOk r P → ((x : A) → P x → IfOk (k x) Q) → IfOk (after r k) Q
also P Q (Ok x) k h next = next x h
also P Q (Err e) k h next = tt

pub there_or : {A : Type 0} (P : A → Type 0) (o : Option A) (e : ElabErr) → IfSome o P → IfOk (or_refuse o e) P
there_or P (Some x) e h = h
there_or P None e h = tt

pub chosen : {A : Type 0} (P : A → Type 0) (b : Bool) (r q : Outcome A) → (b ≡ true → IfOk r P) → (b ≡ false → IfOk q P) → IfOk (if b then r else q) P
chosen P true r q h g = h refl
chosen P false r q h g = g refl

pub any_ok : {A : Type 0} (r : Outcome A) → IfOk r (λ _. Unit {0})
any_ok (Ok x) = tt
any_ok (Err e) = tt

-- What holds of an answer holds as what follows from it.
pub weaker : {A : Type 0} (P Q : A → Type 0) (r : Outcome A) → ((x : A) → P x → Q x) → IfOk r P → IfOk r Q
weaker P Q (Ok x) more h = more x h
weaker P Q (Err e) more h = tt

-- ---- names

pub grows_same : (kind : List (List ℕ) → Type 0) (names : List Name) → Grows kind names names
grows_same kind names = record { longer = omega arith; same = λ net old. refl; made = λ net new within. absurd (omega arith) }

pub grows_both : (kind : List (List ℕ) → Type 0) (a b c : List Name) → Grows kind a b → Grows kind b c → Grows kind a c
grows_both kind a b c g h = record {
  longer = omega (arith, g.longer, h.longer);
  same = λ net old. h.same net (omega (arith, g.longer)) ∙ g.same net old;
  made = λ net new within. by net new within (ltb net (length b)) refl;
}
  where
    by : (net : ℕ) → length a ≤ net → net < length c → (o : Bool) → ltb net (length b) ≡ o → kind (texts_at c net)
    by net new within true is =
        let less = ltb-true net (length b) is in subst (λ (n : Name). kind (spelling_of n).texts) (sym (h.same net less)) (g.made net new less)
    by net new within false is = h.made net (ltb-false net (length b) is) within

pub grows_more : (kind other : List (List ℕ) → Type 0) (a b : List Name) → ((texts : List (List ℕ)) → kind texts → other texts) → Grows kind a b → Grows other a b
grows_more kind other a b more g = record { longer = g.longer; same = g.same; made = λ net new within. more (texts_at b net) (g.made net new within) }

pub within_under : (prefix : List NamePart) (texts : List (List ℕ)) → Within prefix texts → Under prefix texts
within_under prefix texts h = (h.0, [], h.1)

-- ---- steps

-- Elaboration stands well again, and what was there is kept.
pub record Stays (tables : List Table) (kind : List NamePart → List (List ℕ) → Type 0) (old new : Here) : Type 0 where
  pub well : StandsWell tables new
  pub keeps : Keeps kind old new

pub keeps_same : (kind : List NamePart → List (List ℕ) → Type 0) (here : Here) → Keeps kind here here
keeps_same kind here = record { prefix = refl; instances = λ name h. h; grows = grows_same _ here.state.names }

pub keeps_both : (kind : List NamePart → List (List ℕ) → Type 0) (a b c : Here) → Keeps kind a b → Keeps kind b c → Keeps kind a c
keeps_both kind a b c g h = record {
  prefix = h.prefix ∙ g.prefix;
  instances = λ name there. h.instances name (g.instances name there);
  grows = grows_both (kind a.scope.prefix) _ _ _ g.grows (subst (λ (p : List NamePart). Grows (kind p) b.state.names c.state.names) g.prefix h.grows);
}

pub keeps_under : (a b : Here) → Keeps Within a b → Keeps Under a b
keeps_under a b k = record { prefix = k.prefix; instances = k.instances; grows = grows_more _ _ _ _ (within_under a.scope.prefix) k.grows }

pub stays_same : (tables : List Table) (kind : List NamePart → List (List ℕ) → Type 0) (here : Here) → StandsWell tables here → Stays tables kind here here
stays_same tables kind here well = record { well = well; keeps = keeps_same kind here }

pub stays_both : (tables : List Table) (kind : List NamePart → List (List ℕ) → Type 0) (a b c : Here) → Stays tables kind a b → Stays tables kind b c → Stays tables kind a c
stays_both tables kind a b c g h = record { well = h.well; keeps = keeps_both kind a b c g.keeps h.keeps }

pub stays_under : (tables : List Table) (a b : Here) → Stays tables Within a b → Stays tables Under a b
stays_under tables a b s = record { well = s.well; keeps = keeps_under a b s.keeps }

-- After a step the outcome of the next ones counts from before it.
pub still : (tables : List Table) (kind : List NamePart → List (List ℕ) → Type 0) (a b : Here) → Stays tables kind a b → (r : Outcome Here) → IfOk r (Stays tables kind b) → IfOk r (Stays tables kind a)
still tables kind a b s r h = weaker _ _ r (λ (c : Here) (t : Stays tables kind b c). stays_both tables kind a b c s t) h

-- ---- states

-- The nets are the same, and fit still.
pub record Drives (tables : List Table) (old new : State) : Type 0 where
  pub sound : IsSound tables new
  pub same : new.names ≡ old.names

pub drives_same : (tables : List Table) (s : State) → IsSound tables s → Drives tables s s
drives_same tables s sound = record { sound = sound; same = refl }

pub drives_both : (tables : List Table) (a b c : State) → Drives tables a b → Drives tables b c → Drives tables a c
drives_both tables a b c g h = record { sound = h.sound; same = h.same ∙ g.same }

-- Where only drivers change, elaboration stands well.
pub stays_driven : (tables : List Table) (kind : List NamePart → List (List ℕ) → Type 0) (here : Here) (s : State) → StandsWell tables here → Drives tables here.state s → Stays tables kind here (here_of here.scope s)
stays_driven tables kind here s well d = record {
  well = record { sound = d.sound; knows = subst (Knows here.scope) (sym d.same) well.knows };
  keeps = record { prefix = refl; instances = λ name h. h; grows = subst (Grows (kind here.scope.prefix) here.state.names) (sym d.same) (grows_same _ here.state.names) };
}
