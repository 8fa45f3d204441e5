use Rattle.std.specs.Option.{option_copied}
use Rattle.json_tree.specs.Tree.{data_of}
use Rattle.resource_codec.specs.Views.{poll_of}
use Rattle.api_calls.proofs.reads.polled.Goals as goal

pub returns-clause-value : goal.returns-clause-value
returns-clause-value c =
    c.reply_in_bytes.ensures.value (data_of (poll_of c.args.store.now.entries c.args.kind (option_copied c.args.space) c.args.after)) c.in_ok-text.ensures.text
