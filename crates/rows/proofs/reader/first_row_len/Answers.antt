use Rattle.std.proofs.Common.{◌≡◌, ◌+◌, length, MatchOption, rules}
use Rattle.rows.proofs.Paged.{row_len}
use Rattle.rows.proofs.reader.first_row_len.Goals as goal

pub returns-clause-first : goal.returns-clause-first
returns-clause-first c =
    let rest = c.args.rest.now in
    let is : MatchOption c.first_feed.result (c.map_or.result ≡ length rest) (λ i. c.map_or.result ≡ i + 1) = search rules in
    (row_len rest c.first_feed.result c.map_or.result c.first_feed.ensures is c.requires).first
