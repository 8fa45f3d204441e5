use Rattle.std.proofs.Common.{ap, ◌∙◌}
use Rattle.serde_json.specs.Read.{read}
use Rattle.json_tree.proofs.RoundTrip.{read_again}
use Rattle.json_tree.proofs.write.reads_back.Goals as goal

pub returns-clause-same : goal.returns-clause-same
returns-clause-same c =
    read_again c.deref.result.now c.args.json.now c.read_json.result (ap read c.deref.ensures.value ∙ c.in_ok-bytes.ensures.reads_back) c.read_json.ensures.value
