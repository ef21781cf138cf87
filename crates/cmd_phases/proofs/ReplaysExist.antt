-- A job has a replay under forces: the history that has at each place what the replay makes of those before it.
use Rattle.std.proofs.Common.{◌≡◌, ◌∙◌, ℕ, zero, suc, ◌+◌, ◌*◌, ◌/◌, ◌%◌, ◌<◌, List, [], ◌∷◌, ◌++◌, length, length-append, Option, slice_index_or, refl, sym, ap, subst, arith, ⊎_elim}
use Rattle.std.proofs.Math.ListN.{get_or-append}
use Rattle.std.proofs.Math.Seq.{get_or-append_seam}
use Rattle.std.proofs.lemmas.Bool.{cases_eq}
use Rattle.std.proofs.lemmas.Nat.{div-mul-add, mod-mul-add, mul-add-lt}
use Rattle.design_cell.specs.declared.value.Value.{Value}
use Rattle.design_circuit.specs.Filling.{IsPlace}
use Rattle.design_circuit.specs.Fits.{Fits, place_at}
use Rattle.design_circuit.specs.Handed.{IsReplayUnder}
use Rattle.design_circuit.specs.History.{HistoryView}
use Rattle.design_circuit.specs.Job.{Job, number_of, places_of}
use Rattle.design_circuit.specs.Replay.{Held, blank, replay_under}
use Rattle.design_circuit.proofs.Numbers.{is_place_at, number_of_place_at}

-- ---- a list by its positions

up_to : (ℕ → Held) → ℕ → List Held
up_to f zero = []
up_to f (suc n) = up_to f n ++ f n ∷ []

up_to_long : (f : ℕ → Held) (n : ℕ) → length (up_to f n) ≡ n
unfolding up_to
up_to_long f zero = refl
up_to_long f (suc n) = let ih = up_to_long f n in simp length-append (omega arith)

up_to_at : (f : ℕ → Held) (n k : ℕ) → k < n → slice_index_or (up_to f n) k blank ≡ f k
unfolding up_to
up_to_at f zero k less = absurd (omega (arith, less))
up_to_at f (suc n) k less =
    let long = up_to_long f n in
    ⊎_elim
    (λ (same : k ≡ n). subst (λ i. slice_index_or (up_to f n ++ f n ∷ []) i blank ≡ f i) (sym same)
    (subst (λ i. slice_index_or (up_to f n ++ f n ∷ []) i blank ≡ f n) long (get_or-append_seam (up_to f n) (f n) [] blank)))
    (λ differ. (let low : k < n = omega (arith, less, differ) in
    get_or-append (up_to f n) (f n ∷ []) blank k (omega (arith, low, long)) ∙ up_to_at f n k low))
    (cases_eq k n)

-- ---- the history

module _ (j : Job) (fits : Fits j) (forced : ℕ → Option Value) where
  -- By step, and within a step by net.
  there : ℕ → Held
  there k = slice_index_or (replay_under j forced (places_of j))
      (number_of j (record { step = k / j.width; net = k % j.width })) blank

  replay_of : HistoryView
  replay_of = record { nets = j.width; places = up_to there (places_of j) }

  module _ (place : ℕ) (within : place < places_of j) where
    is_place : IsPlace j (place_at j place)
    is_place = is_place_at j place fits.ordering fits.all within

    abbrev index : ℕ
    index = (place_at j place).step * j.width + (place_at j place).net

    index_within : index < places_of j
    index_within = mul-add-lt (place_at j place).step j.width (place_at j place).net (j.moments * j.rounds) is_place.step is_place.net

    number_back : number_of j (record { step = index / j.width; net = index % j.width }) ≡ place
    number_back =
        let step = div-mul-add (place_at j place).step j.width (place_at j place).net is_place.net in
        let net = mod-mul-add (place_at j place).step j.width (place_at j place).net is_place.net in
        (λ t. number_of j (record { step = step t; net = net t })) ∙ number_of_place_at j place fits.ordering fits.all within

  replay_there : IsReplayUnder j forced replay_of
  unfolding replay_of there
  replay_there = record {
    places = record { nets = refl; all = up_to_long there (places_of j) };
    held = λ place within. up_to_at there (places_of j) (index place within) (index_within place within)
        ∙ ap (λ (k : ℕ). slice_index_or (replay_under j forced (places_of j)) k blank) (number_back place within);
  }

  pub replays_exist : (history : HistoryView) × IsReplayUnder j forced history
  replays_exist = (replay_of, replay_there)
