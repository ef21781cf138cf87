-- The bytes still say the facts of their places.
use Rattle.std.proofs.Common.{◌≡◌, ◌+◌, ◌<◌, ◌∙◌, ◌++◌, ◌∷◌, [], length, map, ap, sym, subst, arith}
use Rattle.std.proofs.lemmas.List.{length-map}
use Rattle.design_circuit.specs.Circuit.{job_in}
use Rattle.design_circuit.specs.Job.{places_of}
use Rattle.law_quiet.specs.Copies.{CopiesAgree}
use Rattle.wave_bytes.specs.Byte.{written_of_byte}
use Rattle.wave_bytes.specs.Front.{StandsAt}
use Rattle.wave_bytes.specs.Kept.{ValuesAgree}
use Rattle.wave_bytes.specs.View.{WaveformView, job, next_class}
use Rattle.wave_bytes.proofs.KeptBytes.{keep_next}
use Rattle.wave_bytes.proofs.waveform.Waveform.push.Goals as goal

pub push_place-requires-clause-within : goal.push_place-requires-clause-within
push_place-requires-clause-within c =
    let long = length-map c.self.inside.rows.bytes written_of_byte in
    let less : length (map written_of_byte c.self.inside.rows.bytes) < places_of (job_in c.self.inside.circuit) =
    subst (λ (v : WaveformView). length v.written < places_of (job v)) (sym c.self.view_is) c.requires.next in
    omega (arith, long, less)

pub push_place-requires-clause-next : goal.push_place-requires-clause-next
push_place-requires-clause-next c =
    subst (λ (v : WaveformView). c.next_class-next.result ≡ next_class (job v) v.written) (sym c.self.view_is)
    c.next_class-next.ensures

pub push_place-requires-clause-agrees : goal.push_place-requires-clause-agrees
push_place-requires-clause-agrees c =
    subst (λ (v : WaveformView). ValuesAgree (job v) (v.written ++ c.args.written ∷ [])) (sym c.self.view_is)
    c.requires.agrees

pub push_place-requires-clause-copies : goal.push_place-requires-clause-copies
push_place-requires-clause-copies c =
    subst (λ (v : WaveformView). CopiesAgree (job v) (v.written ++ c.args.written ∷ [])) (sym c.self.view_is)
    c.requires.copies

pub keep_behind-all_keep-requires-clause-before : goal.keep_behind-all_keep-requires-clause-before
keep_behind-all_keep-requires-clause-before c =
    keep_next (job_in c.self.inside.circuit) c.self.inside.rows.bytes c.push_place.new.rows.bytes c.args.written
    c.self.inside.front.position c.front_behind-front.result.position c.self.inside.all_keep
    c.in_ok-push_place.ensures.ok c.front_behind-front.ensures.next c.self.invariant.keep

pub invariant_of-self-2 : goal.invariant_of-self-2
invariant_of-self-2 c =
    let circuit = c.self.inside.circuit in
    let old = c.self.inside.rows.bytes in
    let long = length-map old written_of_byte in
    let is = c.in_ok-push_place.ensures.ok in
    let more = is.more in
    let less : length (map written_of_byte old) < places_of (job_in circuit) =
    subst (λ (v : WaveformView). length v.written < places_of (job v)) (sym c.self.view_is) c.requires.next in
    record {
      wired = c.self.invariant.wired;
      within = omega (arith, long, more, less);
      rows = c.push_place.ensures.rows;
      kept = record { told = is.told; agrees = is.agrees };
      next = tt;
      front = subst (λ n. StandsAt (job_in circuit) n c.front_behind-front.result)
          (ap (λ n. n + 1) c.count.ensures ∙ sym more) c.front_behind-front.ensures.stands;
      keep = c.keep_behind-all_keep.ensures;
    }
