use Rattle.std.proofs.Common.{◌≡◌, length, arith}
use Rattle.rows.proofs.Paged.{nothing_taken}
use Rattle.rows.proofs.reader.Reader.next_row.Goals as goal

pub returns-then-is_empty : goal.returns-then-is_empty
returns-then-is_empty c =
    let inside = c.self.inside in
    let none : length inside.rest.now ≡ 0 = grind arith in
    let taken = nothing_taken c.args.self.now inside.row inside.rest.now c.self.view_is none in
    record { moved = taken.0; row = taken.1 }
