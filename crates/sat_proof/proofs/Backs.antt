-- What leads back, step by step.
use Rattle.std.proofs.Common.{◌≡◌, Bool, true, List, ap, sym, ◌∙◌, refl, subst}
use Rattle.std.specs.Prelude.{ℤ}
use Rattle.sat_proof.specs.Code.{code_of, is_false, IsMarkedWithin}
use Rattle.sat_proof.specs.Guard.{AreSafe, Watches}
use Rattle.sat_proof.specs.Propagator.{LeadsBack}
use Rattle.sat_proof.specs.Trail.{StaysOver}
use Rattle.sat_proof.specs.Watch.{IsLaced}
use Rattle.sat_proof.specs.declared.propagator.Propagator.{Propagator}
use Rattle.sat_proof.specs.declared.trail.Trail.{Trail}
use Rattle.sat_proof.proofs.Trails.{over_none}

-- watches that served marks serve them still
pub serves_back : (old new : Propagator) (clauses : List (List ℤ)) → LeadsBack old new clauses → (base : List Bool) → IsMarkedWithin base (is_false old.trail.marks.items)
    → Watches old.watch base clauses → Watches new.watch base clauses
serves_back old new clauses back base within serve on = record {
  laced = back.laced on;
  safe = back.stays base within (serve (sym back.on ∙ on)).safe;
}

-- marks that the trail was over are still on it
pub marks_stay : (old new : Trail) → StaysOver old new → IsMarkedWithin old.marks.items (is_false new.marks.items)
marks_stay old new over l on = (over old.marks.items old.len (over_none old)).kept (code_of l) on

pub leads_none : (p : Propagator) (clauses : List (List ℤ)) → (p.watch.on ≡ true → IsLaced p.watch clauses 0 0) → LeadsBack p p clauses
leads_none p clauses laced = record { over = λ base b o. o; laced = laced; stays = λ base within safe. safe; on = refl }

pub leads_more : (old mid new : Propagator) (clauses : List (List ℤ)) → LeadsBack old mid clauses → LeadsBack mid new clauses → LeadsBack old new clauses
leads_more old mid new clauses a b = record {
  over = λ base n o. b.over base n (a.over base n o);
  laced = b.laced;
  stays = λ base within safe. b.stays base (λ l on. marks_stay old.trail mid.trail a.over l (within l on)) (a.stays base within safe);
  on = b.on ∙ a.on;
}

-- a step that leaves the watches alone, and what comes after it
pub leads_after : (old mid new : Propagator) (clauses : List (List ℤ)) → StaysOver old.trail mid.trail → mid.watch ≡ old.watch → LeadsBack mid new clauses → LeadsBack old new clauses
leads_after old mid new clauses over same b = record {
  over = λ base n o. b.over base n (over base n o);
  laced = b.laced;
  stays = λ base within safe. b.stays base (λ l on. marks_stay old.trail mid.trail over l (within l on)) (subst (λ x. AreSafe x base clauses) (sym same) safe);
  on = b.on ∙ ap (λ x. x.on) same;
}

-- a step that leaves the watches alone
pub leads_grown : (old new : Propagator) (clauses : List (List ℤ)) → StaysOver old.trail new.trail → new.watch ≡ old.watch
    → (old.watch.on ≡ true → IsLaced old.watch clauses 0 0) → LeadsBack old new clauses
leads_grown old new clauses over same laced = leads_after old new new clauses over same (leads_none new clauses (λ on. subst (λ x. IsLaced x clauses 0 0) (sym same) (laced (ap (λ x. x.on) (sym same) ∙ on))))
