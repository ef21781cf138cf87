-- Laws of the replay.
use Rattle.std.proofs.Common.{◌≡◌, ℕ, zero, suc, ◌+◌, ◌<◌, None, [], ◌∷◌, ◌++◌, length, slice_index_or, refl, ap, ◌∙◌, arith, add-one, length-append, subst}
use Rattle.std.proofs.Math.ListN.{get_or-append}
use Rattle.std.proofs.Math.Seq.{get_or-append_seam}
use Rattle.design_circuit.specs.Job.{Job, step_of, net_of}
use Rattle.design_circuit.specs.Replay.{Held, blank, driven, held_at, replay_under, replay, shown_at}
use Rattle.design_circuit.proofs.Prefix.{prefix}

-- The replay up to n has n places.
pub replay_length : (j : Job) (n : ℕ) → length (replay j n) ≡ n
unfolding replay_under
replay_length j zero = refl
replay_length j (suc n) = let ih = replay_length j n in simp length-append (omega arith)

kept : (j : Job) (n i : ℕ) → i < n → slice_index_or (replay j (suc n)) i blank ≡ slice_index_or (replay j n) i blank
unfolding replay_under
kept j n i within = let len = replay_length j n in get_or-append (replay j n) _ blank i (omega (arith, len))

-- The replay up to n has at i what the replay up to i has.
pub replay_held : (j : Job) (n i : ℕ) → i < n → slice_index_or (replay j n) i blank ≡ slice_index_or (replay j (i + 1)) i blank
replay_held j n i within = prefix (replay j) blank (kept j) n i within

-- The replay up to n shows at i what the place i shows.
pub replay_prefix : (j : Job) (n i : ℕ) → i < n → (slice_index_or (replay j n) i blank).shown ≡ shown_at j i
replay_prefix j n i within = ap (λ (held : Held). held.shown) (replay_held j n i within)

-- A place shows what its driver gives from the places before.
pub replay_rule : (j : Job) (place : ℕ) → shown_at j place ≡ driven j (λ k. slice_index_or (replay j place) k blank) (step_of j place) (net_of j place) (j.driver (net_of j place))
unfolding replay_under held_at
replay_rule j place =
    let earlier = replay j place in
    let held = held_at j (λ k. None) (λ k. slice_index_or earlier k blank) place in
    let here : length earlier ≡ place = replay_length j place in
    let seam : slice_index_or (earlier ++ held ∷ []) place blank ≡ held = subst (λ n. slice_index_or (earlier ++ held ∷ []) n blank ≡ held) here (get_or-append_seam earlier held [] blank) in
    let shown : (slice_index_or (earlier ++ held ∷ []) place blank).shown ≡ held.shown = ap (λ (h : Held). h.shown) seam in
    ap (λ n. (slice_index_or (replay j n) place blank).shown) (add-one place) ∙ shown
