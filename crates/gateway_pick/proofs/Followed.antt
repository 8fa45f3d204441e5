-- A gateway that follows the polls of a journal knows its Tables.
use Rattle.std.proofs.Common.{◌≡◌, ◌≢◌, ℕ, zero, suc, ◌+◌, ◌-◌, ◌^◌, ◌<◌, ◌≤◌, List, [], ◌∷◌, map, take, drop, length, filter, Bool, true, false, cond, ◌&&◌, Option, Some, None, All, Ordering, refl, sym, ap, subst, ◌∙◌, inl, inr, arith, zero-add, option_map}
use Rattle.std.specs.Prelude.{slice_get, unwrap_or, nat_le}
use Rattle.std.specs.List.{enumerate_from}
use Rattle.std.specs.Option.{IfSome}
use Rattle.std.specs.Fmt.{decimal}
use Rattle.std.specs.Str.Parse.{digits_value}
use Rattle.std.specs.Ordering.{is_eq, ordering_then}
use Rattle.std.specs.declared.cmp.Ordering.TheVariants.{Equal}
use Rattle.std.proofs.lemmas.Bool.{cases_lt}
use Rattle.std.proofs.lemmas.Bool.Decides.{nat_tests}
use Rattle.std.proofs.lemmas.Fmt.{decimal_is_IsNumeral}
use Rattle.std.proofs.lemmas.List.{drop_all, length-drop}
use Rattle.std.proofs.lemmas.List.Elements.{All-head, All-tail, All-drop}
use Rattle.json_tree.specs.declared.value.Json.{Json}
use Rattle.json_tree.proofs.RoundTrip.{same_read}
use Rattle.version_store.specs.State as store
use Rattle.version_store.specs.Index.{AreInOrder}
use Rattle.version_store.proofs.Keyed.{is_eq-true, order-changed}
use Rattle.resource_types.specs.declared.names.Kind.{Kind}
use Rattle.resource_types.specs.declared.names.Kind.TheVariants as kind
use Rattle.resource_types.specs.declared.names.Key.{Key}
use Rattle.resource_types.specs.declared.objects.Body.{Body}
use Rattle.resource_types.specs.declared.objects.Body.TheVariants as body
use Rattle.resource_types.specs.declared.objects.Object.{Object}
use Rattle.resource_types.specs.contracts.names.KindOrd.TheImpl as kind_order
use Rattle.resource_types.specs.contracts.names.KeyOrd.TheImpl as key_order
use Rattle.resource_types.specs.contracts.names.KeyOrd.TheImpl.Laws as key_laws
use Rattle.resource_types.specs.Objects.{same_kind, kind_of_body}
use Rattle.resource_types.specs.Lookups.{Journal, State}
use Rattle.resource_types.specs.Journal.{Entry, state_at}
use Rattle.resource_types.proofs.Exact.{kind-exact, key-exact}
use Rattle.resource_types.proofs.Ordered.{state-order}
use Rattle.resource_codec.specs.Written.{text_field}
use Rattle.resource_codec.specs.Reading.{layer}
use Rattle.resource_codec.specs.Views.{Place, is_asked, event_json, event_of, changes_after, told_version, poll_of}
use Rattle.resource_codec.proofs.Texts.{out_str}
use Rattle.gateway_pick.specs.declared.tables.Change.{Change}
use Rattle.gateway_pick.specs.declared.tables.Change.TheVariants.{Put, Remove}
use Rattle.gateway_pick.specs.Reading.{◌>>=◌, version, version_of, when}
use Rattle.gateway_pick.specs.Tables.{name_cmp, name_of, changed, all_changed}
use Rattle.gateway_pick.specs.Polls.{change_in, changes_in, poll_in}
use Rattle.gateway_pick.specs.Gateway.{View, told_in, follow_of, Follows}
use Rattle.gateway_pick.specs.Journals.{rows_in, published, tables_in, tables_at, IsPutBy, IsTold, IsWhole, Knows, IsPollAfter, told_to}
use Rattle.gateway_pick.proofs.ShownInOrder.{hidden_put, shown_put, hidden_without, shown_without}
use Rattle.gateway_pick.proofs.Written.{bound, given, put_back, removal_back, poll_written}

-- ---- one entry

abbrev key_of : Object → Key
key_of o = o.key

abbrev key_cmp : Key → Key → Ordering
key_cmp = key_order.ghosts.cmp

-- the object is a Table
abbrev is_table : Object → Bool
is_table o = same_kind o.key.kind kind.Table

kinds_tie : (a b : Kind) → a ≡ kind.Table → b ≡ kind.Table → kind_order.ghosts.cmp a b ≡ Equal
kinds_tie a b e f = rw (e, f) refl

-- keys of Tables are in the order of their names
by_name : (a b : Key) → a.kind ≡ kind.Table → b.kind ≡ kind.Table → key_cmp a b ≡ name_cmp a.name b.name
by_name a b e f = ap (λ t. ordering_then t (name_cmp a.name b.name)) (kinds_tie a.kind b.kind e f)

-- what an entry does to the Tables
abbrev change_by : Key → Option Object → Change
change_by key (Some o) = Put (published o)
change_by key None = Remove key.name

-- what stands behind an entry
abbrev after : Key → Option Object → State → State
after key object st = store.changed key_of key_cmp key object st

kind_of_table : (o : Object) → is_table o ≡ true → o.key.kind ≡ kind.Table
kind_of_table o e = kind-exact o.key.kind kind.Table e

tie : (new x : Object) → key_cmp new.key x.key ≡ Equal → is_table x ≡ is_table new
tie new x e = ap (λ (k : Key). same_kind k.kind kind.Table) (sym (key-exact new.key x.key e))

-- an entry on a Table
table_step : (key : Key) (object : Option Object) (st : State) → key.kind ≡ kind.Table → IfSome object (λ o. o.key ≡ key) → AreInOrder key_of key_cmp st
    → tables_in (after key object st) ≡ changed (change_by key object) (tables_in st)
table_step key (Some o) st is own order =
    let of_table : o.key.kind ≡ kind.Table = ap (λ (k : Key). k.kind) own ∙ is in
    let shown : is_table o ≡ true = ap (λ k. same_kind k kind.Table) of_table in
    shown_put key_of key_cmp key_laws.total-law name_of name_cmp is_table published o (tie o) shown (λ x e. by_name o.key x.key of_table (kind_of_table x e)) st order
table_step key None st is own order =
    shown_without key_of key_cmp key_laws.total-law name_of name_cmp is_table published key key.name st (λ x e. by_name x.key key (kind_of_table x e) is)

-- an entry on anything else
other_step : (key : Key) (object : Option Object) (st : State) → same_kind key.kind kind.Table ≡ false → IfSome object (λ o. o.key ≡ key) → tables_in (after key object st) ≡ tables_in st
other_step key (Some o) st other own =
    let hidden : is_table o ≡ false = ap (λ (k : Key). same_kind k.kind kind.Table) own ∙ other in
    hidden_put key_of key_cmp key_laws.total-law name_of name_cmp is_table published o (tie o) st hidden
other_step key None st other own = hidden_without key_of key_cmp key_laws.total-law name_of name_cmp is_table published key st apart
  where
    apart : (x : Object) → is_table x ≡ true → is_eq (key_cmp x.key key) ≡ false
    apart x e = go (is_eq (key_cmp x.key key)) refl
      where
        go : (b : Bool) → is_eq (key_cmp x.key key) ≡ b → b ≡ false
        go false f = refl
        go true f =
            let same : x.key ≡ key = key-exact x.key key (is_eq-true _ f) in
            let no : is_table x ≡ false = ap (λ (k : Key). same_kind k.kind kind.Table) same ∙ other in
            cc

-- what is read of the event of an entry on a Table
event_back : (key : Key) (object : Option Object) (entry : Entry) (version : ℕ) (made : Bool) (c : Change) → entry.key ≡ key → entry.object ≡ object → IsTold entry → key.kind ≡ kind.Table
    → change_in (event_json key version made object) ≡ Some c → c ≡ change_by key object
event_back key None entry version made c k o told is e = removal_back key version c is (subst (λ (x : Key). x.name.space ≢ []) k (told.space (ap (λ (x : Key). x.kind) k ∙ is))) e
event_back key (Some x) entry version made c k o told is e = by_body x.body refl
  where
    put : IsPutBy entry x
    put = let some : IfSome (Some x) (IsPutBy entry) = subst (λ y. IfSome y (IsPutBy entry)) o told.puts in some

    space : x.key.name.space ≢ []
    space = subst (λ (y : Key). y.name.space ≢ []) (sym put.key) (told.space (ap (λ (y : Key). y.kind) k ∙ is))

    of_table : kind_of_body x.body ≡ kind.Table
    of_table = put.kind ∙ ap (λ (y : Key). y.kind) (put.key ∙ k) ∙ is

    by_body : (b : Body) → x.body ≡ b → c ≡ Put (published x)
    by_body (body.Table route rows targets) f =
        let small : All (λ row. row.uid < 2 ^ 64) rows = subst (λ b. All (λ row. row.uid < 2 ^ 64) (rows_in b)) f put.uids in
        put_back x made route rows targets c f space small e ∙ ap (λ b. Put (record { name = x.key.name; rows = rows_in b })) (sym f)
    by_body (body.Service template traffic status) f = let no : kind_of_body (body.Service template traffic status) ≡ kind.Table = subst (λ b. kind_of_body b ≡ kind.Table) f of_table in cc
    by_body (body.Configuration template status) f = let no : kind_of_body (body.Configuration template status) ≡ kind.Table = subst (λ b. kind_of_body b ≡ kind.Table) f of_table in cc
    by_body (body.Revision pod generation pins active status) f = let no : kind_of_body (body.Revision pod generation pins active status) ≡ kind.Table = subst (λ b. kind_of_body b ≡ kind.Table) f of_table in cc
    by_body (body.Route traffic status) f = let no : kind_of_body (body.Route traffic status) ≡ kind.Table = subst (λ b. kind_of_body b ≡ kind.Table) f of_table in cc
    by_body (body.Health uid resources container ever) f = let no : kind_of_body (body.Health uid resources container ever) ≡ kind.Table = subst (λ b. kind_of_body b ≡ kind.Table) f of_table in cc

-- ---- the entries of a poll

abbrev asked : Place → Bool
asked p = is_asked kind.Table None p.1.key

-- the version up to which the first `suc most` of these places tell, where all tell up to `total`
abbrev told_by : ℕ → List Place → ℕ → ℕ
told_by most places total = unwrap_or (option_map (λ p. p.0 + 1) (slice_get places most)) total

abbrev from : State → List Entry → State
from st entries = store.state_from key_of key_cmp st entries

take-nil : {X : Type 0} (n : ℕ) → take {A = X} n [] ≡ []
take-nil zero = refl
take-nil (suc n) = refl

-- The changes are those of the first `suc most` places on Tables among these entries, before which k stand. The version up to which
-- they tell lies between, and they lead to the Tables there.
pub record Leads (st : State) (entries : List Entry) (k total : ℕ) (changes : List Change) (version : ℕ) : Type 0 where
  pub low : k ≤ version
  pub high : version ≤ total
  pub tables : all_changed changes (tables_in st) ≡ tables_in (from st (take (version - k) entries))

own_key : (entry : Entry) (object : Option Object) → IfSome object (IsPutBy entry) → IfSome object (λ o. o.key ≡ entry.key)
own_key entry None told = tt
own_key entry (Some o) told = told.key

module _ (journal : Journal) (total : ℕ) where
  leads : (entries : List Entry) (st : State) (k most : ℕ) (changes : List Change) → All IsTold entries → AreInOrder key_of key_cmp st → k + length entries ≡ total
      → changes_in (map (event_of journal) (take (suc most) (filter asked (enumerate_from k entries)))) ≡ Some changes
      → Leads st entries k total changes (told_by most (filter asked (enumerate_from k entries)) total)
  leads [] st k most changes told order all e =
      let none : [] ≡ changes = cc in record {
        low = omega arith;
        high = omega arith;
        tables = ap (λ cs. all_changed cs (tables_in st)) (sym none) ∙ ap (λ es. tables_in (from st es)) (sym (take-nil (total - k)));
      }
  leads (entry ∷ entries) st k most changes told order all e =
      go (λ m cs f. leads entries (after entry.key entry.object st) (k + 1) m cs (All-tail IsTold entry entries told) (order-changed key_of key_cmp key_laws.total-law entry.key entry.object st order) (omega (arith, all)) f) (same_kind entry.key.kind kind.Table) refl
    where
      one : IsTold entry
      one = All-head IsTold entry entries told

      own : IfSome entry.object (λ o. o.key ≡ entry.key)
      own = own_key entry entry.object one.puts

      -- one entry more before these
      one_more : (cs ds : List Change) (version : ℕ) → all_changed cs (tables_in st) ≡ all_changed ds (tables_in (after entry.key entry.object st))
          → Leads (after entry.key entry.object st) entries (k + 1) total ds version → Leads st (entry ∷ entries) k total cs version
      one_more cs ds version same rest =
          let first : version - k ≡ suc (version - (k + 1)) = omega (arith, rest.low) in record {
            low = omega (arith, rest.low);
            high = rest.high;
            tables = same ∙ rest.tables ∙ ap (λ n. tables_in (from st (take n (entry ∷ entries)))) (sym first);
          }

      go : ((m : ℕ) (cs : List Change) → changes_in (map (event_of journal) (take (suc m) (filter asked (enumerate_from (k + 1) entries)))) ≡ Some cs → Leads (after entry.key entry.object st) entries (k + 1) total cs (told_by m (filter asked (enumerate_from (k + 1) entries)) total))
          → (b : Bool) → same_kind entry.key.kind kind.Table ≡ b → Leads st (entry ∷ entries) k total changes (told_by most (filter asked (enumerate_from k (entry ∷ entries))) total)
      go again false other =
          let passed : filter asked (enumerate_from k (entry ∷ entries)) ≡ filter asked (enumerate_from (k + 1) entries) = ap (λ b. cond (b && true) ((k, entry) ∷ filter asked (enumerate_from (k + 1) entries)) (filter asked (enumerate_from (k + 1) entries))) other in
          let e' : changes_in (map (event_of journal) (take (suc most) (filter asked (enumerate_from (k + 1) entries)))) ≡ Some changes = ap (λ ps. changes_in (map (event_of journal) (take (suc most) ps))) (sym passed) ∙ e in
          let rest = again most changes e' in
          subst (λ ps. Leads st (entry ∷ entries) k total changes (told_by most ps total)) (sym passed)
          (one_more changes changes (told_by most (filter asked (enumerate_from (k + 1) entries)) total) (ap (all_changed changes) (sym (other_step entry.key entry.object st other own))) rest)
      go again true is =
          let met : filter asked (enumerate_from k (entry ∷ entries)) ≡ (k, entry) ∷ filter asked (enumerate_from (k + 1) entries) = ap (λ b. cond (b && true) ((k, entry) ∷ filter asked (enumerate_from (k + 1) entries)) (filter asked (enumerate_from (k + 1) entries))) is in
          let e' : changes_in (event_of journal (k, entry) ∷ map (event_of journal) (take most (filter asked (enumerate_from (k + 1) entries)))) ≡ Some changes = ap (λ ps. changes_in (map (event_of journal) (take (suc most) ps))) (sym met) ∙ e in
          subst (λ ps. Leads st (entry ∷ entries) k total changes (told_by most ps total)) (sym met) (met_leads most (bound (change_in (event_of journal (k, entry))) (λ c. changes_in (map (event_of journal) (take most (filter asked (enumerate_from (k + 1) entries)))) >>= λ cs. Some (c ∷ cs)) changes e'))
        where
          of_table : entry.key.kind ≡ kind.Table
          of_table = kind-exact entry.key.kind kind.Table is

          met_leads : (m : ℕ) → (c : Change) × (change_in (event_of journal (k, entry)) ≡ Some c)
              × ((changes_in (map (event_of journal) (take m (filter asked (enumerate_from (k + 1) entries)))) >>= λ cs. Some (c ∷ cs)) ≡ Some changes)
              → Leads st (entry ∷ entries) k total changes (told_by m ((k, entry) ∷ filter asked (enumerate_from (k + 1) entries)) total)
          met_leads m (c, read, more) = by_count m more
            where
              stepped : changed c (tables_in st) ≡ tables_in (after entry.key entry.object st)
              stepped = ap (λ x. changed x (tables_in st)) (event_back entry.key entry.object entry (k + 1) _ c refl refl one of_table read) ∙ sym (table_step entry.key entry.object st of_table own order)

              by_count : (m : ℕ) → (changes_in (map (event_of journal) (take m (filter asked (enumerate_from (k + 1) entries)))) >>= λ cs. Some (c ∷ cs)) ≡ Some changes
                  → Leads st (entry ∷ entries) k total changes (told_by m ((k, entry) ∷ filter asked (enumerate_from (k + 1) entries)) total)
              by_count zero more =
                  let only : c ∷ [] ≡ changes = cc in
                  let count : k + 1 - k ≡ 1 = omega arith in record {
                    low = omega arith;
                    high = omega (arith, all);
                    tables = ap (λ cs. all_changed cs (tables_in st)) (sym only) ∙ stepped ∙ ap (λ n. tables_in (from st (take n (entry ∷ entries)))) (sym count);
                  }
              by_count (suc m) more =
                  let rest_read = bound (changes_in (map (event_of journal) (take (suc m) (filter asked (enumerate_from (k + 1) entries))))) (λ cs. Some (c ∷ cs)) changes more in
                  let whole : c ∷ rest_read.0 ≡ changes = let s : Some (c ∷ rest_read.0) ≡ Some changes = rest_read.2 in cc in
                  let rest = again m rest_read.0 rest_read.1 in
                  one_more changes rest_read.0 (told_by m (filter asked (enumerate_from (k + 1) entries)) total) (ap (λ cs. all_changed cs (tables_in st)) (sym whole) ∙ ap (all_changed rest_read.0) stepped) rest

-- ---- the whole poll

-- to go on in a journal
goes_on : (st : State) (a n : ℕ) (entries : List Entry) → from (from st (take a entries)) (take n (drop a entries)) ≡ from st (take (a + n) entries)
goes_on st zero n entries = ap (λ m. from st (take m entries)) (sym (zero-add n))
goes_on st (suc a) n [] = ap (from st) (take-nil n ∙ sym (take-nil (suc a + n)))
goes_on st (suc a) n (entry ∷ entries) =
    goes_on (after entry.key entry.object st) a n entries ∙ ap (λ m. from st (take m (entry ∷ entries))) {x = suc (a + n)} {y = suc a + n} (omega arith)

-- the version that is read is the one that was written
version_back : (n v : ℕ) → n < 2 ^ 64 → version (layer (text_field (decimal n))) ≡ Some v → v ≡ n
unfolding text_field
version_back n v small e = go (decimal n) refl e
  where
    go : (ds : List ℕ) → decimal n ≡ ds → version (layer (text_field ds)) ≡ Some v → v ≡ n
    go [] f e = cc
    go (d ∷ ds) f e =
        let read : version_of (d ∷ ds) ≡ Some v = sym (ap version (out_str (d ∷ ds))) ∙ e in
        sym (given _ (digits_value 10 (d ∷ ds)) v read) ∙ ap (digits_value 10) (sym f) ∙ (decimal_is_IsNumeral n small).1

one_poll : (a b : List Change × ℕ) → Some a ≡ Some b → a ≡ b
one_poll a b e = cc

-- what a poll of a journal tells leads from the Tables at its position to those at its version
pub record IsLed (journal : Journal) (a : ℕ) (changes : List Change) (v : ℕ) : Type 0 where
  pub version : v ≡ told_to journal a
  pub tables : all_changed changes (tables_at journal a) ≡ tables_at journal (told_to journal a)

module _ (journal : Journal) (whole : IsWhole journal) (a : ℕ) (changes : List Change) (v : ℕ) where
  abbrev places : List Place
  places = changes_after journal kind.Table None a

  abbrev events : List Json
  events = map (event_of journal) (take 256 places)

  abbrev Read : Type 0
  Read = (version (layer (text_field (decimal (told_to journal a)))) ≡ Some v) × (changes_in events ≡ Some changes)

  led : Read → a ≤ length journal → IsLed journal a changes v
  led read within =
      let count : a + length (drop a journal) ≡ length journal = omega (arith, length-drop a journal, within) in
      let order = state-order (take a journal) in
      let leads = leads journal (length journal) (drop a journal) (state_at journal a) a 255 changes (All-drop IsTold a journal whole.told) order count read.1 in
      let same : v ≡ told_to journal a = version_back (told_to journal a) v (omega (arith, leads.high, whole.few)) read.0 in
      let end : a + (told_to journal a - a) ≡ told_to journal a = omega (arith, leads.low) in record {
        version = same;
        tables = leads.tables ∙ ap tables_in (goes_on [] a (told_to journal a - a) journal ∙ ap (λ n. from [] (take n journal)) end);
      }

  past : Read → length journal < a → a ≤ v → IsLed journal a changes v
  past read behind low =
      let none : places ≡ [] = ap (λ es. filter asked (enumerate_from a es)) (drop_all a journal (omega (arith, behind))) in
      let end : told_to journal a ≡ length journal = ap (told_version journal) none in
      let same : v ≡ told_to journal a = version_back (told_to journal a) v (omega (arith, end, whole.few)) read.0 in
      absurd (omega (arith, low, same, end, behind))

  pub polled : poll_in (poll_of journal kind.Table None a) ≡ Some (changes, v) → a ≤ v → IsLed journal a changes v
  polled e low =
      let made = λ (x : ℕ) (cs : List Change). Some (cs, x) in
      let found = bound (version (layer (text_field (decimal (told_to journal a))))) (λ x. changes_in events >>= made x) (changes, v) (sym (poll_written events (told_to journal a)) ∙ e) in
      let inner = bound (changes_in events) (made found.0) (changes, v) found.2 in
      let pair : (inner.0, found.0) ≡ (changes, v) = one_poll (inner.0, found.0) (changes, v) inner.2 in
      let same_changes : inner.0 ≡ changes = ap (λ p. p.0) pair in
      let same_version : found.0 ≡ v = ap (λ p. p.1) pair in
      let read : Read = (found.1 ∙ ap Some same_version, inner.1 ∙ ap Some same_changes) in
      elim (cases_lt (length journal) a) [
        | inl behind ↦ past read behind low
        | inr within ↦ led read (omega (arith, within))
      ]

-- a gateway that knows the Tables at its version and follows the journal's poll knows them at the poll's
pub followed_knows : (journal : Journal) (body : List ℕ) (old new : View) → IsWhole journal → Knows old journal old.version → IsPollAfter body journal old.version → Follows body old new
    → Knows new journal (told_to journal old.version)
unfolding follow_of told_in
followed_knows journal body old new whole knows poll follows =
    let same : follows.json ≡ poll_of journal kind.Table None old.version = same_read body follows.json (poll_of journal kind.Table None old.version) follows.read.reading.1 poll.1 in
    let told = bound (told_in follows.json old.version) (λ p. Some (record { tables = all_changed p.0 old.tables; version = p.1 })) new follows.followed in
    let read = bound (poll_in follows.json) (λ p. when (nat_le old.version p.1) p) told.0 told.1 in
    let kept = both_kept (nat_le old.version read.0.1) read.0 told.0 read.2 in
    let whole_read : poll_in (poll_of journal kind.Table None old.version) ≡ Some told.0 = ap poll_in (sym same) ∙ read.1 ∙ ap Some kept.1 in
    let least : nat_le old.version told.0.1 ≡ true = ap (λ p. nat_le old.version p.1) (sym kept.1) ∙ kept.0 in
    let is = polled journal whole old.version told.0.0 told.0.1 whole_read (grind (arith, nat_tests)) in
    let made : record { tables = all_changed told.0.0 old.tables; version = told.0.1 } ≡ new = one_view _ new told.2 in record {
      tables = ap (λ w. w.tables) (sym made) ∙ ap (all_changed told.0.0) knows.tables ∙ is.tables;
      version = ap (λ w. w.version) (sym made) ∙ is.version;
    }
  where
    both_kept : {A : Type 0} (b : Bool) (x y : A) → when b x ≡ Some y → (b ≡ true) × (x ≡ y)
    both_kept true x y e = (refl, given true x y e)
    both_kept false x y e = cc

    one_view : (x y : View) → Some x ≡ Some y → x ≡ y
    one_view x y e = cc
