use Rattle.api_calls.specs.Calls.{creating, replacing, patching}
use Rattle.api_server.proofs.Replies.{of_value}
use Rattle.api_server.proofs.requests.make_call.Goals as goal

pub returns-in_ok-json-in-Create-clause-answer : goal.returns-in_ok-json-in-Create-clause-answer
returns-in_ok-json-in-Create-clause-answer c =
    rw c.in-Create.is (of_value c.args.bytes.now (creating c.args.store.now.entries c.args.moment c.in-Create.kind c.in-Create.space.now)
    c.in_ok-json-in-Create.json c.creating.result c.in_ok-json-in-Create.ensures.body c.creating.ensures.answer)

pub returns-in_ok-json-in-Replace-clause-answer : goal.returns-in_ok-json-in-Replace-clause-answer
returns-in_ok-json-in-Replace-clause-answer c =
    rw c.in-Replace.is (of_value c.args.bytes.now (replacing c.args.store.now.entries c.args.moment c.in-Replace.kind c.in-Replace.space.now c.in-Replace.name.now)
    c.in_ok-json-in-Replace.json c.replacing.result c.in_ok-json-in-Replace.ensures.body c.replacing.ensures.answer)

pub returns-in_ok-json-in-Patch-clause-answer : goal.returns-in_ok-json-in-Patch-clause-answer
returns-in_ok-json-in-Patch-clause-answer c =
    rw c.in-Patch.is (of_value c.args.bytes.now (patching c.args.store.now.entries c.args.moment c.in-Patch.kind c.in-Patch.space.now c.in-Patch.name.now)
    c.in_ok-json-in-Patch.json c.patching.result c.in_ok-json-in-Patch.ensures.body c.patching.ensures.answer)
