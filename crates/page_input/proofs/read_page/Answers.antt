use Rattle.std.proofs.Common.{rules, ap, length, take, ◌∙◌}
use Rattle.std.proofs.lemmas.List.{take_at}
use Rattle.page_input.proofs.Filling.{front_kept}
use Rattle.page_input.proofs.read_page.Goals as goal

pub returns-clause-first : goal.returns-clause-first
returns-clause-first g c =
    front_kept _ 60001 (length c.deref_mut.result.now) _ _ c.fill.new.page c.in_ok-filled.ensures.first (search rules)
    (c.truncate.ensures.items ∙ ap (take c.in_ok-filled.filled) (take_at c.fill.new.page _ _ (search rules)))
