-- The files of the words were fetched.
use Rattle.std.proofs.Common.{◌∙◌, map, string_bytes}
use Rattle.cmd_trim.specs.Words.{trim_values}
use Rattle.xrtrim.proofs.Laws.{fetched_for}
use Rattle.xrtrim.proofs.ship.fetch.Goals as goal

pub returns-in_ok-fetch_all-in-Some : goal.returns-in_ok-fetch_all-in-Some
returns-in_ok-fetch_all-in-Some g c =
    let only = rw c.in-Some.is at c.in_ok-words.ensures.only in
    fetched_for (map string_bytes c.args.words.now) (trim_values c.in-Some.words) c.new-fetched.result c.fetch_all.new.self only c.new-fetched.ensures.texts c.fetch_all.ensures.fetched
    (c.fetch_all.ensures.limit ∙ c.new-fetched.ensures.limit) c.fetch_all.ensures.among
