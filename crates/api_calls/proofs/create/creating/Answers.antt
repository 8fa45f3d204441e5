use Rattle.std.specs.Option.{option_copied}
use Rattle.std.proofs.Common.{◌∙◌}
use Rattle.api_calls.proofs.Asking.{asks_new, stands_free}
use Rattle.api_calls.proofs.Made.{comes_made}
use Rattle.api_calls.proofs.create.creating.Goals as goal

pub make-requires-clause-asks : goal.make-requires-clause-asks
make-requires-clause-asks c =
    asks_new c.args.kind c.args.space.now c.as_str.result.now c.in_ok-manifest.manifest c.in_ok-manifest.ensures.accepted c.requires.label (c.as_str.ensures ∙ c.in_ok-name.ensures)

pub make-requires-clause-free : goal.make-requires-clause-free
make-requires-clause-free c =
    stands_free c.args.store.now.entries c.args.kind c.kind-of_kind.result c.args.space.now c.as_str.result.now (option_copied c.object_at-found.result)
    c.kind-of_kind.ensures c.object_at-found.ensures.value c.in_ok-not_there.ensures

pub returns-clause-answer : goal.returns-clause-answer
returns-clause-answer c =
    comes_made c.args.store.now.entries c.args.moment c.args.kind c.args.space.now c.as_str.result.now c.args.json.now c.in_ok-manifest.manifest c.kind-of_kind.result (option_copied c.object_at-found.result) c.in_ok-make.field-0
    c.in_ok-manifest.ensures.value c.kind-of_kind.ensures (c.as_str.ensures ∙ c.in_ok-name.ensures) c.object_at-found.ensures.value c.in_ok-not_there.ensures c.in_ok-make.ensures.value
