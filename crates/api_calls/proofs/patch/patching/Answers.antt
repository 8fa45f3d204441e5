use Rattle.api_calls.proofs.Patchable.{patchable, stands_of_kind}
use Rattle.api_calls.proofs.Versioned.{over_as_put}
use Rattle.api_calls.proofs.patch.patching.Goals as goal

pub patch_over-requires-clause-old : goal.patch_over-requires-clause-old
patch_over-requires-clause-old c =
    stands_of_kind c.args.store.now.entries c.args.place.kind c.kind-of_kind.result c.args.place.space.now c.args.place.name.now c.in_ok-old.old.now c.kind-of_kind.ensures c.in_ok-old.ensures.stands

pub patched-requires-clause-old : goal.patched-requires-clause-old
patched-requires-clause-old c =
    patchable c.args.store.now.entries c.args.place.kind c.args.place.space.now c.args.place.name.now c.in_ok-old.old.now
    (stands_of_kind c.args.store.now.entries c.args.place.kind c.kind-of_kind.result c.args.place.space.now c.args.place.name.now c.in_ok-old.old.now c.kind-of_kind.ensures c.in_ok-old.ensures.stands)

pub returns-clause-as_put : goal.returns-clause-as_put
returns-clause-as_put c =
    over_as_put c.patch_over.result c.args.store.now.entries c.args.moment c.args.place.kind c.kind-of_kind.result c.args.place.space.now c.args.place.name.now c.args.patch.now c.in_ok-old.old.now c.in_ok-document.document
    c.kind-of_kind.ensures c.in_ok-old.ensures.stands.stands c.in_ok-document.ensures.value c.patch_over.ensures.answer
