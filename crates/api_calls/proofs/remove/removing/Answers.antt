use Rattle.api_calls.proofs.Asking.{removal_of_client}
use Rattle.api_calls.proofs.remove.removing.Goals as goal

pub returns-clause-fits : goal.returns-clause-fits
returns-clause-fits c =
    c.in_ok-removal_of.ensures.fits c.args.store.now.entries
    (removal_of_client c.args.store.now.entries c.args.kind c.args.space.now c.args.name.now c.in_ok-object.object.now c.is_removable.result _ c.is_removable.ensures c.in_ok-require.ensures.answer c.in_ok-object.ensures.stands
    c.in_ok-require_unused.ensures)
