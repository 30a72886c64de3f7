-- The rows of a short list.
use Rattle.std.specs.Prelude.{List, take}
use Rattle.edition.specs.declared.row_list.RowList.{RowList}
use Rattle.edition.specs.declared.table.Row.{Row}

-- its rows, as they came
abbrev pub listed : RowList → List Row
listed l = take l.count l.rows
