use Rattle.std.proofs.Common.{◌∙◌, ap, sym, cond, Bool, List, ℕ}
use Rattle.serde_json.specs.Data.{Members, put}
use Rattle.json_tree.specs.Tree.{data_of, table_data}
use Rattle.merge_patch.proofs.Tables.{put-table_data}
use Rattle.merge_patch.proofs.patch.put_unless_null.Goals as goal

pub returns : goal.returns
returns c =
    let ms : Members = table_data c.args.members.entries in
    let some = sym c.is_null.ensures ∙ c.if-is_null.false in
    ap table_data c.in_ok-put.ensures.ok ∙ put-table_data c.in_ok-copy.field-0 c.args.value c.args.members.entries
    ∙ ap (λ (n : List ℕ). put n (data_of c.args.value) ms) c.in_ok-copy.ensures
    ∙ ap (λ (t : Bool). cond t ms (put c.args.name.now (data_of c.args.value) ms)) (sym some)
