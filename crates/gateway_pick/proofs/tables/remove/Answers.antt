use Rattle.std.proofs.Common.{ap, ◌∙◌}
use Rattle.gateway_pick.proofs.Searching.{place_in}
use Rattle.gateway_pick.proofs.Placed.{removed, removed_not}
use Rattle.gateway_pick.proofs.tables.remove.Goals as goal

pub returns-in-Ok-clause-tables : goal.returns-in-Ok-clause-tables
returns-in-Ok-clause-tables c =
    c.remove-table.ensures.items ∙ removed c.args.tables.now.items c.args.name c.in-Ok.place c.requires.ordered (c.in-Ok.ensures.place ∙ ap (place_in c.args.name) c.deref.ensures.value)

pub returns-clause-tables : goal.returns-clause-tables
returns-clause-tables c =
    removed_not c.args.tables.now.items c.args.name c.in_default.field-0 c.requires.ordered (c.in_default.ensures.place ∙ ap (place_in c.args.name) c.deref.ensures.value)
