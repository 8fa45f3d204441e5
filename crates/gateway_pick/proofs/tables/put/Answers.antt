use Rattle.std.proofs.Common.{ap, ◌∙◌}
use Rattle.gateway_pick.proofs.Searching.{place_in}
use Rattle.gateway_pick.proofs.Placed.{put_over, put_new}
use Rattle.gateway_pick.proofs.tables.put.Goals as goal

pub returns-in-Ok-clause-tables : goal.returns-in-Ok-clause-tables
returns-in-Ok-clause-tables c =
    put_over c.args.tables.now.items c.args.table c.in-Ok.place (c.in-Ok.ensures.place ∙ ap (place_in c.args.table.name) c.deref.ensures.value)

pub returns-in-Ok-insert-clause-tables : goal.returns-in-Ok-insert-clause-tables
returns-in-Ok-insert-clause-tables c =
    c.in-Ok-insert.ensures.items ∙ put_new c.args.tables.now.items c.args.table c.in-Err.place (c.in-Err.ensures.place ∙ ap (place_in c.args.table.name) c.deref.ensures.value)
