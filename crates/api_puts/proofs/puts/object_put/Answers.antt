use Rattle.std.specs.Option.{option_copied}
use Rattle.api_puts.proofs.ClientPuts.{put_is_client}
use Rattle.api_puts.proofs.DuePuts.{object_is_due}
use Rattle.api_puts.proofs.puts.object_put.Goals as goal

pub returns-clause-value : goal.returns-clause-value
returns-clause-value c =
    object_is_due c.args.store.now.entries c.args.moment c.args.place.kind c.args.place.space.now c.args.place.name.now c.kind-of_kind.result c.in_ok-key.key (option_copied c.args.old) c.args.manifest c.in_ok-made.made c.with_stamp.result
    c.kind-of_kind.ensures c.in_ok-key.ensures c.in_ok-made.ensures c.with_stamp.ensures

pub returns-clause-client : goal.returns-clause-client
returns-clause-client c =
    put_is_client c.args.store.now.entries c.args.place.kind c.args.place.space.now c.args.place.name.now c.kind-of_kind.result c.in_ok-key.key (option_copied c.args.old) c.args.manifest c.in_ok-made.made c.with_stamp.result _
    c.requires.asks c.requires.over c.kind-of_kind.ensures c.in_ok-key.ensures c.in_ok-made.ensures c.with_stamp.ensures
