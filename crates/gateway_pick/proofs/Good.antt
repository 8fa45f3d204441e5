-- What is read of a poll has the rows of Tables alone, and so has a gateway that follows it.
use Rattle.std.proofs.Common.{◌≡◌, ℕ, List, [], ◌∷◌, codes, Bool, true, false, cond, ◌||◌, Option, Some, None, All, nat_le, refl, subst}
use Rattle.std.specs.Str.{bytes_eq}
use Rattle.std.specs.Option.{IfSome}
use Rattle.std.specs.Ordering.{is_eq}
use Rattle.std.specs.declared.cmp.Ordering.{Ordering}
use Rattle.std.specs.declared.cmp.Ordering.TheVariants.{Less, Equal, Greater}
use Rattle.std.proofs.lemmas.List.Elements.{All-nil, All-cons, All-head, All-tail}
use Rattle.json_tree.specs.declared.value.Json.{Json}
use Rattle.json_tree.specs.declared.value.Json.TheViews.{out-Json}
use Rattle.version_store.specs.State.{put, placed, without}
use Rattle.resource_types.specs.declared.names.Name.{Name}
use Rattle.resource_types.specs.declared.specification.Row.{Row}
use Rattle.resource_codec.specs.Reading.{Member, under}
use Rattle.gateway_pick.specs.declared.tables.Published.{Published}
use Rattle.gateway_pick.specs.declared.tables.Change.{Change}
use Rattle.gateway_pick.specs.declared.tables.Change.TheVariants.{Put, Remove}
use Rattle.gateway_pick.specs.Reading.{◌>>=◌, when, object, items, word, version}
use Rattle.gateway_pick.specs.Rules.{are_rows}
use Rattle.gateway_pick.specs.Tables.{name_cmp, name_of, changed, all_changed, IsTable, AreTables}
use Rattle.gateway_pick.specs.Polls.{must_be, rows_in, name_in, table_in, put_in, removal_in, change_of, change_in, changes_in, poll_in}
use Rattle.gateway_pick.specs.Gateway.{told_in}
use Rattle.gateway_pick.proofs.Placed.{order_changed}

-- what is read behind something has the property, whatever that is
on_way : {A B : Type 0} (Q : A → Type 0) (P : B → Type 0) (o : Option A) (f : A → Option B) → IfSome o Q → ((x : A) → Q x → IfSome (f x) P) → IfSome (o >>= f) P
on_way Q P (Some x) f q h = h x q
on_way Q P None f q h = tt

whatever : {A B : Type 0} (P : B → Type 0) (o : Option A) (f : A → Option B) → ((x : A) → IfSome (f x) P) → IfSome (o >>= f) P
whatever P (Some x) f h = h x
whatever P None f h = tt

-- a change puts a Table, if any
pub IsGood : Change → Type 0
IsGood (Put table) = IsTable table
IsGood (Remove name) = Unit {0}

module _ (members : List Member) where
  abbrev with_rows : Name → List Row → Option Published
  with_rows name rows = when (are_rows rows) (record { name = name; rows = rows })

  abbrev with_name : List Json → Name → Option Published
  with_name jsons name = rows_in jsons >>= λ rows. with_rows name rows

  abbrev with_items : List Json → Option Published
  with_items jsons = name_in members >>= λ name. with_name jsons name

  abbrev with_kind : List ℕ → Option Published
  with_kind kind = must_be kind (codes "Table") >>= λ is_table. items (under (codes "rows") members) >>= λ jsons. with_items jsons

  good_rows : (name : Name) (rows : List Row) (b : Bool) → are_rows rows ≡ b → IfSome (when b (record { name = name; rows = rows })) IsTable
  good_rows name rows true e = e
  good_rows name rows false e = tt

  good_table : IfSome (table_in members) IsTable
  unfolding table_in
  good_table =
      whatever IsTable (word (under (codes "kind") members)) with_kind
      (λ kind. whatever IsTable (must_be kind (codes "Table")) (λ is_table. items (under (codes "rows") members) >>= λ jsons. with_items jsons)
      (λ is_table. whatever IsTable (items (under (codes "rows") members)) with_items
      (λ jsons. whatever IsTable (name_in members) (with_name jsons)
      (λ name. whatever IsTable (rows_in jsons) (with_rows name) (λ rows. good_rows name rows (are_rows rows) refl)))))

good_put : (members : List Member) → IfSome (put_in members) IsGood
unfolding IsGood
good_put members =
    whatever IsGood (object (under (codes "object") members)) (λ table. table_in table >>= λ t. Some (Put t))
    (λ table. on_way IsTable IsGood (table_in table) (λ t. Some (Put t)) (good_table table) (λ t good. good))

good_removal : (members : List Member) → IfSome (removal_in members) IsGood
unfolding IsGood
good_removal members = whatever IsGood (name_in members) (λ name. Some (Remove name)) (λ name. tt)

good_of : (members : List Member) (a b : Bool) → IfSome (cond a (put_in members) (cond b (removal_in members) None)) IsGood
good_of members true b = good_put members
good_of members false true = good_removal members
good_of members false false = tt

good_change : (json : Json) → IfSome (change_in json) IsGood
unfolding change_in
good_change json =
    whatever IsGood (object (out-Json json)) (λ members. word (under (codes "type") members) >>= λ type. change_of type members)
    (λ members. whatever IsGood (word (under (codes "type") members)) (λ type. change_of type members)
    (λ type. good_of members (bytes_eq type (codes "ADDED") || bytes_eq type (codes "MODIFIED")) (bytes_eq type (codes "DELETED"))))

good_changes : (jsons : List Json) → IfSome (changes_in jsons) (All IsGood)
good_changes [] = All-nil IsGood
good_changes (json ∷ jsons) =
    on_way IsGood (All IsGood) (change_in json) (λ change. changes_in jsons >>= λ changes. Some (change ∷ changes)) (good_change json)
    (λ change good. on_way (All IsGood) (All IsGood) (changes_in jsons) (λ changes. Some (change ∷ changes)) (good_changes jsons) (λ changes rest. All-cons IsGood change changes good rest))

abbrev Poll : Type 0
Poll = List Change × ℕ

good_poll : (json : Json) → IfSome {T = Poll} (poll_in json) (λ p. All IsGood p.0)
unfolding poll_in
good_poll json =
    let P : Poll → Type 0 = λ p. All IsGood p.0 in
    let last = λ (v : ℕ) (events : List Json). changes_in events >>= λ changes. Some (changes, v) in
    let behind = λ (members : List Member) (v : ℕ). items (under (codes "events") members) >>= λ events. last v events in
    let kinds = λ (members : List Member) (kind : List ℕ). must_be kind (codes "Poll") >>= λ is_poll. version (under (codes "resourceVersion") members) >>= λ v. behind members v in
    whatever P (object (out-Json json)) (λ members. word (under (codes "kind") members) >>= λ kind. kinds members kind)
    (λ members. whatever P (word (under (codes "kind") members)) (kinds members)
    (λ kind. whatever P (must_be kind (codes "Poll")) (λ is_poll. version (under (codes "resourceVersion") members) >>= λ v. behind members v)
    (λ is_poll. whatever P (version (under (codes "resourceVersion") members)) (behind members)
    (λ v. whatever P (items (under (codes "events") members)) (last v)
    (λ events. on_way (All IsGood) P (changes_in events) (λ changes. Some (changes, v)) (good_changes events) (λ changes good. good))))))

pub good_told : (json : Json) (least : ℕ) (changes : List Change) (v : ℕ) → told_in json least ≡ Some (changes, v) → All IsGood changes
unfolding told_in
good_told json least changes v e =
    let P : Poll → Type 0 = λ p. All IsGood p.0 in
    let all : IfSome {T = Poll} (poll_in json >>= λ p. when (nat_le least p.1) p) P =
    on_way P P (poll_in json) (λ p. when (nat_le least p.1) p) (good_poll json) (λ p good. kept p (nat_le least p.1) good) in
    subst (λ o. IfSome {T = Poll} o P) e all
  where
    kept : (p : Poll) (b : Bool) → All IsGood p.0 → IfSome {T = Poll} (when b p) (λ q. All IsGood q.0)
    kept p true good = good
    kept p false good = tt

-- ---- the gateway

all_put : (table : Published) (tables : List Published) → IsTable table → All IsTable tables → All IsTable (put name_of name_cmp table tables)
all_put table [] one all = All-cons IsTable table [] one (All-nil IsTable)
all_put table (t ∷ ts) one all = go (all_put table ts one (All-tail IsTable t ts all)) (name_cmp table.name t.name) (All-head IsTable t ts all) (All-tail IsTable t ts all)
  where
    go : All IsTable (put name_of name_cmp table ts) → (r : Ordering) → IsTable t → All IsTable ts → All IsTable (placed r table t ts (put name_of name_cmp table ts))
    go more Less first rest = All-cons IsTable table (t ∷ ts) one all
    go more Equal first rest = All-cons IsTable table ts one rest
    go more Greater first rest = All-cons IsTable t (put name_of name_cmp table ts) first more

all_without : (name : Name) (tables : List Published) → All IsTable tables → All IsTable (without name_of name_cmp name tables)
all_without name [] all = all
all_without name (t ∷ ts) all = go (is_eq (name_cmp t.name name)) (All-head IsTable t ts all) (all_without name ts (All-tail IsTable t ts all))
  where
    go : (b : Bool) → IsTable t → All IsTable (without name_of name_cmp name ts) → All IsTable (cond b (without name_of name_cmp name ts) (t ∷ without name_of name_cmp name ts))
    go true first rest = rest
    go false first rest = All-cons IsTable t (without name_of name_cmp name ts) first rest

all_after : (change : Change) (tables : List Published) → IsGood change → All IsTable tables → All IsTable (changed change tables)
unfolding IsGood
all_after (Put table) tables good all = all_put table tables good all
all_after (Remove name) tables good all = all_without name tables all

pub tables_kept : (changes : List Change) (tables : List Published) → All IsGood changes → AreTables tables → AreTables (all_changed changes tables)
tables_kept [] tables good kept = kept
tables_kept (change ∷ changes) tables good kept =
    tables_kept changes (changed change tables) (All-tail IsGood change changes good) (record {
      ordered = order_changed change tables kept.ordered;
      good = all_after change tables (All-head IsGood change changes good) kept.good;
    })
