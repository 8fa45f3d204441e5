use Rattle.std.proofs.Common.{◌≡◌, ap, ◌∙◌, subst, rules, arith}
use Rattle.json.specs.Lex.{tokens}
use Rattle.json.specs.Print.{print}
use Rattle.serde_json.specs.Written.{WritesValue}
use Rattle.json_tree.specs.Tree.{data_of}
use Rattle.json_tree.proofs.Whole.{has_float-data_of}
use Rattle.json_tree.proofs.Printed.{read_back, is_compact}
use Rattle.json_tree.proofs.write.write_json.Goals as goal

pub returns-clause-text : goal.returns-clause-text
returns-clause-text c =
    let ts = c.write_value.new.out.tokens in
    let printed : c.into_inner.result.items ≡ print ts = search rules in
    let written = subst (λ old. WritesValue (data_of c.args.json.now) old ts) c.new-out.ensures.tokens c.in_ok-write_value.ensures.ok in
    is_compact _ ts _ written (ap tokens printed ∙ c.into_inner.ensures.reads_back) printed (has_float-data_of c.args.json.now)

pub returns-clause-reads_back : goal.returns-clause-reads_back
returns-clause-reads_back c =
    let ts = c.write_value.new.out.tokens in
    let printed : c.into_inner.result.items ≡ print ts = search rules in
    let written = subst (λ old. WritesValue (data_of c.args.json.now) old ts) c.new-out.ensures.tokens c.in_ok-write_value.ensures.ok in
    read_back _ ts _ written (ap tokens printed ∙ c.into_inner.ensures.reads_back) (omega arith)

pub returns-clause-whole : goal.returns-clause-whole
returns-clause-whole c = has_float-data_of c.args.json.now
