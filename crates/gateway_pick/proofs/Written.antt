-- What is read of a poll of Tables that was written is what was written.
use Rattle.std.proofs.Common.{◌≡◌, ◌≢◌, ℕ, ◌^◌, ◌<◌, List, [], ◌∷◌, map, codes, Bool, true, false, cond, Option, Some, None, All, refl, sym, ap, ◌∙◌}
use Rattle.std.specs.Str.{bytes_eq}
use Rattle.std.specs.Fmt.{decimal}
use Rattle.std.proofs.lemmas.List.Elements.{All-head, All-tail}
use Rattle.std.proofs.lemmas.Slice.Eq.{bytes_eq-Decides}
use Rattle.json_tree.specs.declared.value.Json.{Json, Arr}
use Rattle.json_tree.specs.declared.value.Json.TheViews.{out-Json}
use Rattle.serve_names.specs.Uids.{uid_bytes}
use Rattle.resource_types.specs.declared.names.Kind.TheVariants as kind
use Rattle.resource_types.specs.declared.names.Name.{Name}
use Rattle.resource_types.specs.declared.names.Key.{Key}
use Rattle.resource_types.specs.declared.specification.Row.{Row}
use Rattle.resource_types.specs.declared.specification.Target.{Target}
use Rattle.resource_types.specs.declared.objects.Body.TheVariants as body
use Rattle.resource_types.specs.declared.objects.Object.{Object}
use Rattle.resource_types.specs.Objects.{same_kind}
use Rattle.resource_codec.specs.Reading.{Member, layer, under}
use Rattle.resource_codec.specs.Written.{Field, put_fields, object_of, text_field, array_field, number_field}
use Rattle.resource_codec.specs.Objects.{row_fields, row_members, row_json, other_namespace, table_fields, table_members, body_json, encoded}
use Rattle.resource_codec.specs.Lists.{put_type, put_event_fields, put_event, removal_namespace, removal_event_fields, removal_event, poll_fields, poll_members}
use Rattle.resource_codec.proofs.PutLemmas.{or_else, looked, find_fields}
use Rattle.resource_codec.proofs.Texts.{out_str}
use Rattle.resource_codec.proofs.Again.{out_obj, out_arr, out_nat}
use Rattle.gateway_pick.specs.declared.tables.Published.{Published}
use Rattle.gateway_pick.specs.declared.tables.Change.{Change}
use Rattle.gateway_pick.specs.declared.tables.Change.TheVariants.{Put, Remove}
use Rattle.gateway_pick.specs.Rules.{are_rows}
use Rattle.gateway_pick.specs.Reading.{◌>>=◌, when, object, items, word, word_or, number, uid, version}
use Rattle.gateway_pick.specs.Polls.{row_in, rows_in, name_in, table_in, put_in, removal_in, change_of, change_in, changes_in, poll_in}
use Rattle.gateway_pick.proofs.UidBytes.{uid_read}

-- ---- one member

-- what stands under a name
at : (k : List ℕ) (fs : List Field) (o : Option Json) → looked k fs None ≡ o → under k (put_fields fs []) ≡ layer o
at k fs o e = ap layer (find_fields k fs [] ∙ e)

or_none : (o : Option Json) → or_else o None ≡ o
or_none None = refl
or_none (Some j) = refl

object_back : (ms : List Member) → object (out-Json (object_of ms)) ≡ Some ms
object_back ms = ap object (out_obj (record { entries = ms }))

items_back : (js : List Json) → items (layer (Some (Arr js))) ≡ Some js
items_back js = ap items (out_arr js)

-- a text that is read as a word is that text
word_back : (s t : List ℕ) → word (layer (text_field s)) ≡ Some t → s ≡ t
unfolding text_field
word_back [] t e = cc
word_back (b ∷ bs) t e = let same : Some (b ∷ bs) ≡ Some t = sym (ap word (out_str (b ∷ bs))) ∙ e in cc

-- what is read of an array that is left out where it is empty
array_back : (js ks : List Json) → items (layer (array_field js)) ≡ Some ks → js ≡ ks
unfolding array_field
array_back [] ks e = cc
array_back (j ∷ js) ks e = let same : Some (j ∷ js) ≡ Some ks = sym (items_back (j ∷ js)) ∙ e in cc

tag_back : (s : List ℕ) → word_or [] (layer (text_field s)) ≡ Some s
unfolding text_field
tag_back [] = refl
tag_back (b ∷ bs) = ap (word_or []) (out_str (b ∷ bs))

number_back : (n : ℕ) → number (layer (number_field (Some n))) ≡ Some n
unfolding number_field
number_back n = ap number (out_nat n)

uid_back : (n : ℕ) → n < 2 ^ 64 → uid (layer (text_field (uid_bytes n))) ≡ Some n
unfolding text_field uid_bytes
uid_back n small = ap uid (out_str (uid_bytes n)) ∙ uid_read (uid_bytes n) n small refl

-- a namespace, which isn't empty
space_back : (s : List ℕ) → s ≢ [] → word_or (codes "default") (layer (text_field (other_namespace s))) ≡ Some s
unfolding text_field
space_back s some = go (bytes_eq s (codes "default")) refl s refl
  where
    go : (b : Bool) → bytes_eq s (codes "default") ≡ b → (t : List ℕ) → t ≡ s → word_or (codes "default") (layer (text_field (cond b [] t))) ≡ Some s
    go true e t f = ap Some (sym ((bytes_eq-Decides s (codes "default")).0 e))
    go false e [] f = absurd (some (sym f))
    go false e (b ∷ bs) f = ap (word_or (codes "default")) (out_str (b ∷ bs)) ∙ ap Some f

-- what was found on the way to something
pub bound : {A B : Type 0} (o : Option A) (f : A → Option B) (y : B) → (o >>= f) ≡ Some y → (x : A) × (o ≡ Some x) × (f x ≡ Some y)
bound (Some x) f y e = (x, refl, e)
bound None f y e = cc

pub given : {A : Type 0} (b : Bool) (x y : A) → when b x ≡ Some y → x ≡ y
given true x y e = cc
given false x y e = cc

-- ---- rows

module _ (r : Row) where
  host_at : under (codes "host") (row_members r) ≡ layer (text_field r.host)
  unfolding row_members
  host_at = at (codes "host") (row_fields r) _ (or_none (text_field r.host))

  percent_at : number (under (codes "percent") (row_members r)) ≡ Some r.percent
  unfolding row_members
  percent_at = ap number (at (codes "percent") (row_fields r) _ (or_none (number_field (Some r.percent)))) ∙ number_back r.percent

  revision_at : under (codes "revisionName") (row_members r) ≡ layer (text_field r.revision)
  unfolding row_members
  revision_at = at (codes "revisionName") (row_fields r) _ (or_none (text_field r.revision))

  uid_at : r.uid < 2 ^ 64 → uid (under (codes "revisionUid") (row_members r)) ≡ Some r.uid
  unfolding row_members
  uid_at small = ap uid (at (codes "revisionUid") (row_fields r) _ (or_none (text_field (uid_bytes r.uid)))) ∙ uid_back r.uid small

  tag_at : word_or [] (under (codes "tag") (row_members r)) ≡ Some r.tag
  unfolding row_members
  tag_at = ap (word_or []) (at (codes "tag") (row_fields r) _ (or_none (text_field r.tag))) ∙ tag_back r.tag

  row_written : r.uid < 2 ^ 64 → row_in (row_json r) ≡ (word (layer (text_field r.host)) >>= λ host. word (layer (text_field r.revision)) >>= λ revision.
      Some (record { tag = r.tag; host = host; revision = revision; uid = r.uid; percent = r.percent }))
  unfolding row_in
  row_written small = rw (object_back (row_members r), host_at, percent_at, revision_at, uid_at small, tag_at) refl

  row_back : (x : Row) → r.uid < 2 ^ 64 → row_in (row_json r) ≡ Some x → x ≡ r
  row_back x small e =
      let made = λ (h v : List ℕ). Some (record { tag = r.tag; host = h; revision = v; uid = r.uid; percent = r.percent }) in
      let host = bound (word (layer (text_field r.host))) (λ h. word (layer (text_field r.revision)) >>= λ v. made h v) x (sym (row_written small) ∙ e) in
      let revision = bound (word (layer (text_field r.revision))) (made host.0) x host.2 in
      let same_host : r.host ≡ host.0 = word_back r.host host.0 host.1 in
      let same_revision : r.revision ≡ revision.0 = word_back r.revision revision.0 revision.1 in
      let is : Some (record { tag = r.tag; host = r.host; revision = r.revision; uid = r.uid; percent = r.percent }) ≡ Some x =
      ap (λ h. Some (record { tag = r.tag; host = h; revision = r.revision; uid = r.uid; percent = r.percent })) same_host
      ∙ ap (λ v. Some (record { tag = r.tag; host = host.0; revision = v; uid = r.uid; percent = r.percent })) same_revision ∙ revision.2 in
      cc

rows_back : (rows found : List Row) → All (λ (r : Row). r.uid < 2 ^ 64) rows → rows_in (map row_json rows) ≡ Some found → found ≡ rows
rows_back [] found small e = cc
rows_back (r ∷ rs) found small e =
    let first = bound (row_in (row_json r)) (λ x. rows_in (map row_json rs) >>= λ xs. Some (x ∷ xs)) found e in
    let rest = bound (rows_in (map row_json rs)) (λ xs. Some (first.0 ∷ xs)) found first.2 in
    let one : first.0 ≡ r = row_back r first.0 (All-head (λ (r : Row). r.uid < 2 ^ 64) r rs small) first.1 in
    let more : rest.0 ≡ rs = rows_back rs rest.0 (All-tail (λ (r : Row). r.uid < 2 ^ 64) r rs small) rest.1 in
    let is : Some (first.0 ∷ rest.0) ≡ Some found = rest.2 in
    cc

-- ---- Tables

-- what is read of a name that was written, whose namespace isn't empty
named : List ℕ → List ℕ → Option Name
named space name = word (layer (text_field name)) >>= λ n. Some (record { space = space; name = n })

name_back : (space name : List ℕ) (n : Name) → named space name ≡ Some n → n ≡ record { space = space; name = name }
unfolding named
name_back space name n e =
    let found = bound (word (layer (text_field name))) (λ x. Some (record { space = space; name = x })) n e in
    let same : name ≡ found.0 = word_back name found.0 found.1 in
    let is : Some (record { space = space; name = found.0 }) ≡ Some n = found.2 in
    cc

module _ (o : Object) (route : ℕ) (rows : List Row) (targets : List Target) where
  abbrev members : List Member
  members = table_members o route rows targets

  kind_at : word (under (codes "kind") members) ≡ Some (codes "Table")
  unfolding table_members text_field
  kind_at = ap word (at (codes "kind") (table_fields o route rows targets) _ refl) ∙ ap word (out_str (codes "Table"))

  rows_at : under (codes "rows") members ≡ layer (array_field (map row_json rows))
  unfolding table_members
  rows_at = at (codes "rows") (table_fields o route rows targets) _ (or_none (array_field (map row_json rows)))

  table_name : o.key.name.space ≢ [] → name_in members ≡ named o.key.name.space o.key.name.name
  unfolding name_in table_members named
  table_name some =
      let name : under (codes "name") members ≡ layer (text_field o.key.name.name) = at (codes "name") (table_fields o route rows targets) _ (or_none (text_field o.key.name.name)) in
      let space : word_or (codes "default") (under (codes "namespace") members) ≡ Some o.key.name.space =
      ap (word_or (codes "default")) (at (codes "namespace") (table_fields o route rows targets) _ (or_none (text_field (other_namespace o.key.name.space)))) ∙ space_back o.key.name.space some in
      rw (name, space) refl

  table_written : o.key.name.space ≢ [] → table_in members ≡ (items (layer (array_field (map row_json rows))) >>= λ jsons. named o.key.name.space o.key.name.name >>= λ name.
      rows_in jsons >>= λ found. when (are_rows found) (record { name = name; rows = found }))
  unfolding table_in
  table_written some = rw (kind_at, rows_at, table_name some) refl

  table_back : (t : Published) → o.key.name.space ≢ [] → All (λ (r : Row). r.uid < 2 ^ 64) rows → table_in members ≡ Some t → t ≡ record { name = o.key.name; rows = rows }
  table_back t some small e =
      let made = λ (n : Name) (rs : List Row). when (are_rows rs) (record { name = n; rows = rs }) in
      let jsons = bound (items (layer (array_field (map row_json rows)))) (λ js. named o.key.name.space o.key.name.name >>= λ n. rows_in js >>= λ rs. made n rs) t (sym (table_written some) ∙ e) in
      let name = bound (named o.key.name.space o.key.name.name) (λ n. rows_in jsons.0 >>= λ rs. made n rs) t jsons.2 in
      let found = bound (rows_in jsons.0) (made name.0) t name.2 in
      let written : map row_json rows ≡ jsons.0 = array_back (map row_json rows) jsons.0 jsons.1 in
      let same_name : name.0 ≡ o.key.name = name_back o.key.name.space o.key.name.name name.0 name.1 in
      let same_rows : found.0 ≡ rows = rows_back rows found.0 small (ap rows_in written ∙ found.1) in
      let is : record { name = name.0; rows = found.0 } ≡ t = given (are_rows found.0) (record { name = name.0; rows = found.0 }) t found.2 in
      sym is ∙ ap (λ n. record { name = n; rows = found.0 }) same_name ∙ ap (λ rs. record { name = o.key.name; rows = rs }) same_rows

-- ---- events

type_at : (o : Object) (made : Bool) → word (under (codes "type") (put_event o made)) ≡ Some (put_type made)
unfolding put_event text_field
type_at o true = ap word (at (codes "type") (put_event_fields o true) _ refl) ∙ ap word (out_str (codes "ADDED"))
type_at o false = ap word (at (codes "type") (put_event_fields o false) _ refl) ∙ ap word (out_str (codes "MODIFIED"))

object_at : (o : Object) (made : Bool) → object (under (codes "object") (put_event o made)) ≡ object (out-Json (encoded o))
unfolding put_event
object_at o made = ap object (at (codes "object") (put_event_fields o made) (Some (encoded o)) refl)

put_type_puts : (made : Bool) (ms : List Member) → change_of (put_type made) ms ≡ put_in ms
put_type_puts true ms = refl
put_type_puts false ms = refl

put_written : (o : Object) (made : Bool) → change_in (object_of (put_event o made)) ≡ put_in (put_event o made)
unfolding change_in
put_written o made = rw (object_back (put_event o made), type_at o made) (put_type_puts made (put_event o made))

-- what is read of the event of a Table that was put
pub put_back : (o : Object) (made : Bool) (route : ℕ) (rows : List Row) (targets : List Target) (c : Change) → o.body ≡ body.Table route rows targets → o.key.name.space ≢ []
    → All (λ (r : Row). r.uid < 2 ^ 64) rows → change_in (object_of (put_event o made)) ≡ Some c → c ≡ Put (record { name = o.key.name; rows = rows })
put_back o made route rows targets c is some small e =
    let shown : encoded o ≡ object_of (table_members o route rows targets) = encoded_is in
    let inner : object (under (codes "object") (put_event o made)) ≡ Some (table_members o route rows targets) = object_at o made ∙ ap (λ j. object (out-Json j)) shown ∙ object_back (table_members o route rows targets) in
    let all : (object (under (codes "object") (put_event o made)) >>= λ ms. table_in ms >>= λ t. Some (Put t)) ≡ Some c = sym (put_written o made) ∙ e in
    let some_table : (table_in (table_members o route rows targets) >>= λ t. Some (Put t)) ≡ Some c = sym (ap (λ ms. ms >>= λ m. table_in m >>= λ t. Some (Put t)) inner) ∙ all in
    let table = bound (table_in (table_members o route rows targets)) (λ t. Some (Put t)) c some_table in
    let same = table_back o route rows targets table.0 some small table.1 in
    let put : Some (Put table.0) ≡ Some c = table.2 in
    let put' : Put table.0 ≡ c = cc in
    sym put' ∙ ap Put same
  where
    encoded_is : encoded o ≡ object_of (table_members o route rows targets)
    encoded_is = ap (body_json o) is

module _ (key : Key) (version : ℕ) where
  removal_type : word (under (codes "type") (removal_event key version)) ≡ Some (codes "DELETED")
  unfolding removal_event text_field
  removal_type = ap word (at (codes "type") (removal_event_fields key version) _ refl) ∙ ap word (out_str (codes "DELETED"))

  removal_name : key.kind ≡ kind.Table → key.name.space ≢ [] → name_in (removal_event key version) ≡ named key.name.space key.name.name
  unfolding name_in removal_event named
  removal_name is some =
      let name : under (codes "name") (removal_event key version) ≡ layer (text_field key.name.name) = at (codes "name") (removal_event_fields key version) _ (or_none (text_field key.name.name)) in
      let shown : removal_namespace key ≡ other_namespace key.name.space = ap (λ k. cond (same_kind k kind.Table) (other_namespace key.name.space) []) is in
      let space : word_or (codes "default") (under (codes "namespace") (removal_event key version)) ≡ Some key.name.space =
      ap (word_or (codes "default")) (at (codes "namespace") (removal_event_fields key version) _ (or_none (text_field (removal_namespace key))) ∙ ap (λ s. layer (text_field s)) shown) ∙ space_back key.name.space some in
      rw (name, space) refl

  removal_written : change_in (object_of (removal_event key version)) ≡ removal_in (removal_event key version)
  unfolding change_in
  removal_written = rw (object_back (removal_event key version), removal_type) refl

  -- what is read of the event of a Table that was removed
  pub removal_back : (c : Change) → key.kind ≡ kind.Table → key.name.space ≢ [] → change_in (object_of (removal_event key version)) ≡ Some c → c ≡ Remove key.name
  removal_back c is some e =
      let name = bound (name_in (removal_event key version)) (λ n. Some (Remove n)) c (sym removal_written ∙ e) in
      let same = name_back key.name.space key.name.name name.0 (sym (removal_name is some) ∙ name.1) in
      let removed : Some (Remove name.0) ≡ Some c = name.2 in
      let removed' : Remove name.0 ≡ c = cc in
      sym removed' ∙ ap Remove same

-- ---- the poll

module _ (events : List Json) (told : ℕ) where
  poll_kind : word (under (codes "kind") (poll_members events told)) ≡ Some (codes "Poll")
  unfolding poll_members text_field
  poll_kind = ap word (at (codes "kind") (poll_fields events told) _ refl) ∙ ap word (out_str (codes "Poll"))

  poll_version : under (codes "resourceVersion") (poll_members events told) ≡ layer (text_field (decimal told))
  unfolding poll_members
  poll_version = at (codes "resourceVersion") (poll_fields events told) _ (or_none (text_field (decimal told)))

  poll_events : items (under (codes "events") (poll_members events told)) ≡ Some events
  unfolding poll_members
  poll_events = ap items (at (codes "events") (poll_fields events told) (Some (Arr events)) refl) ∙ items_back events

  pub poll_written : poll_in (object_of (poll_members events told)) ≡ (version (layer (text_field (decimal told))) >>= λ v. changes_in events >>= λ changes. Some (changes, v))
  unfolding poll_in
  poll_written = rw (object_back (poll_members events told), poll_kind, poll_version, poll_events) refl
