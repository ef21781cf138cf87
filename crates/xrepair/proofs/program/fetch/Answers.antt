-- The files of the words were fetched; and none, where they mean nothing.
use Rattle.std.proofs.Common.{◌∙◌, map, string_bytes}
use Rattle.base_files.proofs.Others.{none_fetched}
use Rattle.xrepair.proofs.Fetching.{fetched_for, fetched_none}
use Rattle.xrepair.proofs.program.fetch.Goals as goal

pub returns-in_ok-fetch_inputs-in-Some : goal.returns-in_ok-fetch_inputs-in-Some
returns-in_ok-fetch_inputs-in-Some g c =
    let reads = rw c.in-Some.is at c.in_ok-inputs.ensures in
    fetched_for (map string_bytes c.args.words.now) c.in-Some.inputs c.new-fetched.result c.fetch_inputs.new.fetched reads c.new-fetched.ensures.texts c.fetch_inputs.ensures.fetched
    (c.fetch_inputs.ensures.limit ∙ c.new-fetched.ensures.limit) c.fetch_inputs.ensures.among

pub returns-in-None : goal.returns-in-None
returns-in-None g c =
    let outside = rw c.in-None.is at c.in_ok-inputs.ensures in
    fetched_none (map string_bytes c.args.words.now) c.new.result outside (none_fetched c.new.result c.new.ensures.texts)
