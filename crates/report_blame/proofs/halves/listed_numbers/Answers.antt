-- The numbers of both fillings, sorted.
use Rattle.std.proofs.Common.{refl}
use Rattle.std.proofs.lemmas.List.Sorted.{IsNonDecreasingBy-from_sort}
use Rattle.wave_proved.specs.Contents.{job}
use Rattle.report_blame.proofs.ListedNumbers.{are_listed}
use Rattle.report_blame.proofs.halves.listed_numbers.Goals as goal

pub returns : goal.returns
returns c =
    let j = job c.args.way.now.wave.now in
    let zeros = c.args.way.now.zero.now in
    let ones = c.args.way.now.one.now in
    are_listed j c.circuit-circuit.ensures.wave.fits.fits_job zeros ones _ c.sort.new.self.items
    c.requires.zero_filling c.requires.one_filling
    (rw (c.in_ok-add_numbers-2.ensures, c.in_ok-add_numbers.ensures, c.new-numbers.ensures.items, c.circuit-circuit.ensures.job) refl)
    c.sort.ensures.permutation (IsNonDecreasingBy-from_sort (λ n. n) c.sort.new.self.items c.in_ok-sort.ensures.sorted)
