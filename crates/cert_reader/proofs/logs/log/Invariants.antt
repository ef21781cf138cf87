-- What was to come comes after the clauses so far and the literals of the open one, none of which is 0.
use Rattle.std.proofs.Common.{◌≡◌, length}
use Rattle.std.specs.List.{All}
use Rattle.sat_proof.specs.Assignment.{HasNoZero}
use Rattle.cert_reader.specs.Machine.{log_of_words, log_from}
use Rattle.cert_reader.proofs.logs.log.Given as goal

abbrev pub invariant-words : goal.invariant-words
invariant-words l = record {
  reads : log_of_words l.fn.words ≡ log_from l.clauses.items l.literals.items l.words;
  open_clause : HasNoZero l.literals.items;
  clauses : All HasNoZero l.clauses.items;
}

abbrev pub decreases-words : goal.decreases-words
decreases-words l = length l.words
