use Rattle.std.proofs.Common.{◌+◌, ◌^◌, ◌<◌, length, subst, arith}
use Rattle.rows.specs.Pages.{Reading}
use Rattle.rows.proofs.Paged.{rows_fewer}
use Rattle.rows.proofs.reader.Reader.rows_can_be_counted.Goals as goal

pub returns : goal.returns
returns c = subst (λ (reading : Reading). reading.row + length reading.left < 2 ^ 63) c.self.view_is (omega (arith, rows_fewer c.self.inside.rest.now, c.self.invariant))
