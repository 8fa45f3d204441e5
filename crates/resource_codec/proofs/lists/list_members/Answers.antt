use Rattle.std.proofs.Common.{◌≡◌, ◌∙◌, ℕ, Bool, true, false, List, sym, ap}
use Rattle.std.specs.Prelude.{if◌then◌else◌}
use Rattle.std.proofs.lemmas.Result.{IfOk-weaker}
use Rattle.json_tree.specs.declared.value.Json.{Json}
use Rattle.json_tree.specs.declared.members.Table.{Table}
use Rattle.resource_types.specs.Objects.{same_kind}
use Rattle.resource_types.specs.declared.names.Kind.{Kind}
use Rattle.resource_types.specs.declared.names.Kind.TheVariants as kind
use Rattle.resource_codec.specs.Reading.{Member}
use Rattle.resource_codec.specs.Lists.{object_list, table_list, list_members}
use Rattle.resource_codec.proofs.lists.list_members.Goals as goal

-- the list of the kind's own form
list_is : (table : Bool) (k : Kind) (items : List Json) (version : ℕ) (es : List Member) → same_kind k kind.Table ≡ table
    → es ≡ (if table then table_list items version else object_list k items version) → es ≡ list_members k items version
list_is table k items version es is e = e ∙ ap (λ (b : Bool). if b then table_list items version else object_list k items version) (sym is)

pub returns-then-eq : goal.returns-then-eq
returns-then-eq c =
    IfOk-weaker c.table_list.result (λ (m : Table Json). m.entries ≡ table_list c.args.items c.args.version) (λ (m : Table Json). m.entries ≡ list_members c.args.kind c.args.items c.args.version)
    (λ m e. list_is true c.args.kind c.args.items c.args.version m.entries (sym c.eq.ensures ∙ c.if-eq.true) e)
    c.table_list.ensures

pub returns-else-eq : goal.returns-else-eq
returns-else-eq c =
    IfOk-weaker c.object_list.result (λ (m : Table Json). m.entries ≡ object_list c.args.kind c.args.items c.args.version) (λ (m : Table Json). m.entries ≡ list_members c.args.kind c.args.items c.args.version)
    (λ m e. list_is false c.args.kind c.args.items c.args.version m.entries (sym c.eq.ensures ∙ c.if-eq.false) e)
    c.object_list.ensures
