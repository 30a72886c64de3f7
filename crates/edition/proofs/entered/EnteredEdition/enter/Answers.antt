use Rattle.std.proofs.Common.{◌≡◌, ◌<◌, true, length, sym, subst, arith, rules}
use Rattle.std.proofs.lemmas.List.{length_push}
use Rattle.edition.specs.declared.table.Row.{Row}
use Rattle.edition.specs.Entered.{fits_table}
use Rattle.edition.specs.RowLists.{listed}
use Rattle.edition.proofs.Entering.{Sound, sound_push}
use Rattle.edition.proofs.entered.EnteredEdition.enter.Goals as goal

pub invariant_of-self : goal.invariant_of-self
invariant_of-self c =
    let old = c.args.self.now in
    let rows = listed old.rows in
    let row : Row = record { category = c.args.category; percentages = c.args.percentages } in
    let fits : fits_table rows row ≡ true = search rules in
    let few : length rows < 8 = search rules in
    let sound : Sound rows = (old.whole, old.categories, old.once) in
    let new = subst Sound (sym c.push.ensures) (sound_push rows row fits sound) in
    record { within = rw c.push.ensures (omega (arith, length_push rows row)); whole = new.0; categories = new.1; once = new.2 }
