-- Places that are told behind others.
use Rattle.std.proofs.Common.{◌≡◌, Bool, true, false, List, [], ◌∷◌, ◌++◌, sym, subst, append-nil}
use Rattle.design_circuit.specs.History.{HistoryView}
use Rattle.design_circuit.specs.declared.place.Place.{Place}
use Rattle.wave_proved.specs.Contents.{Contents}
use Rattle.report_audit.specs.Found.{Adds, AreFound, IsFoundPlace, listed_if}
use Rattle.report_audit.specs.declared.found.Found.{Found}

pub one_added : (c : Contents) (replay : HistoryView) (old : List Found) (place : Place) (found : Found)
    → IsFoundPlace c replay place found → Adds c replay old (place ∷ []) (old ++ found ∷ [])
one_added c replay [] place found is [] are = (is, tt)
one_added c replay [] place found is (b ∷ before) are = absurd are
one_added c replay (first ∷ old) place found is [] are = absurd are
one_added c replay (first ∷ old) place found is (b ∷ before) are = (are.0, one_added c replay old place found is before are.1)

pub listed_added : (c : Contents) (replay : HistoryView) (listed : Bool) (place : Place) (old new : List Found)
    → listed ≡ true → Adds c replay old (place ∷ []) new → Adds c replay old (listed_if listed place) new
listed_added c replay listed place old new is adds = rw is adds

pub skipped_added : (c : Contents) (replay : HistoryView) (listed : Bool) (place : Place) (old : List Found)
    → listed ≡ false → Adds c replay old (listed_if listed place) old
skipped_added c replay listed place old is =
    rw is (λ before are. subst (λ (places : List Place). AreFound c replay places old) (sym (append-nil before)) are)

pub more_added : (c : Contents) (replay : HistoryView) (mid new : List Found) (places more : List Place)
    → AreFound c replay places mid → Adds c replay mid more new → AreFound c replay (places ++ more) new
more_added c replay mid new places more are adds = adds places are
