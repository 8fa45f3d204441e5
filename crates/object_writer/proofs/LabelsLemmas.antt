-- Texts under names, as members: what is put among them, and what is written of them.
use Rattle.std.proofs.Common.{◌≡◌, ◌≢◌, ℕ, ◌-◌, Bool, true, false, cond, Option, Some, List, [], ◌∷◌, ◌++◌, map, take, drop, length, codes, nat_cmp, Ordering, Less, Equal, Greater, refl, sym, ap, ◌∙◌, subst}
use Rattle.std.proofs.lemmas.List.{map-append, take_rest, take-append-drop}
use Rattle.std.specs.Cmp.Lexicographic.{slice_cmp}
use Rattle.std.specs.Ordering.{match_ordering}
use Rattle.std.specs.Str.{bytes_eq}
use Rattle.json.specs.Token.{Token}
use Rattle.json_tree.specs.Tree.{put_entry, names_of, is_after_all}
use Rattle.json_tree.specs.declared.value.Json.{Str}
use Rattle.json_tree.specs.declared.members.Table.{Table}
use Rattle.resource_types.specs.declared.specification.PodSpec.{PodSpec}
use Rattle.resource_types.specs.declared.status.ObjectStatus.{ObjectStatus}
use Rattle.resource_types.specs.declared.objects.Body.{Body}
use Rattle.resource_types.specs.declared.objects.Body.TheVariants.{Service, Configuration, Revision, Route, Health, Table as Published}
use Rattle.resource_types.specs.declared.objects.Object.{Object}
use Rattle.resource_codec.specs.Reading.{Member}
use Rattle.resource_codec.specs.Written.{put_field, text_member}
use Rattle.resource_codec.specs.Objects.{shown_moment, joined, routing_state, shown_labels, with_routes, shown_annotations}
use Rattle.object_writer.specs.Places.{begins_before, entries_behind}
use Rattle.object_writer.specs.Tokens.{with_field, with_members, WritesUpTo}
use Rattle.object_writer.specs.Documents.{routes_field, body_labels, body_annotations}
use Rattle.object_writer.proofs.Splits.{put_between, nothing_put}
use Rattle.object_writer.proofs.Puts.{either_order}

-- a text under its name
abbrev Pair : Type 0
Pair = List ℕ × List ℕ

-- ---- the same places

same_names : (es : List Pair) → names_of (map text_member es) ≡ names_of es
same_names [] = refl
same_names (e ∷ es) = ap (λ ns. e.0 ∷ ns) (same_names es)

same_start : (k : List ℕ) (es : List Pair) → begins_before k (map text_member es) ≡ begins_before k es
same_start k [] = refl
same_start k (e ∷ es) = refl

same_choice : (b : Bool) (e : Pair) (es : List Pair) → cond b (map text_member es) (map text_member (e ∷ es)) ≡ map text_member (cond b es (e ∷ es))
same_choice true e es = refl
same_choice false e es = refl

same_behind : (k : List ℕ) (es : List Pair) → entries_behind k (map text_member es) ≡ map text_member (entries_behind k es)
same_behind k [] = refl
same_behind k (e ∷ es) = same_choice (bytes_eq e.0 k) e es

same_parts : (i : ℕ) (es : List Pair) → map text_member (take i es) ++ map text_member (drop i es) ≡ map text_member es
same_parts i es = sym (map-append text_member (take i es) (drop i es)) ∙ ap (map text_member) (take-append-drop i es)

-- ---- a text that is put

same_put_at : (o : Ordering) (k v : List ℕ) (e : Pair) (es : List Pair) → put_entry k (Str v) (map text_member es) ≡ map text_member (put_entry k v es)
    → match_ordering o ((k, Str v) ∷ map text_member (e ∷ es)) ((k, Str v) ∷ map text_member es) (text_member e ∷ put_entry k (Str v) (map text_member es))
    ≡ map text_member (match_ordering o ((k, v) ∷ e ∷ es) ((k, v) ∷ es) (e ∷ put_entry k v es))
same_put_at Less k v e es rest = refl
same_put_at Equal k v e es rest = refl
same_put_at Greater k v e es rest = ap (λ (xs : List Member). text_member e ∷ xs) rest

same_put : (k v : List ℕ) (es : List Pair) → put_entry k (Str v) (map text_member es) ≡ map text_member (put_entry k v es)
same_put k v [] = refl
same_put k v (e ∷ es) = same_put_at (slice_cmp nat_cmp k e.0) k v e es (same_put k v es)

some_put_at : (o : Ordering) (k v : List ℕ) (e : Pair) (es : List Pair) → match_ordering o ((k, v) ∷ e ∷ es) ((k, v) ∷ es) (e ∷ put_entry k v es) ≢ []
some_put_at Less k v e es is = cc
some_put_at Equal k v e es is = cc
some_put_at Greater k v e es is = cc

some_put : (k v : List ℕ) (es : List Pair) → put_entry k v es ≢ []
some_put k v [] is = cc
some_put k v (e ∷ es) is = some_put_at (slice_cmp nat_cmp k e.0) k v e es is

-- ---- texts that are written up to a name

pub text_put : (k v : List ℕ) (es left : List Pair) (i : ℕ) (ts mid end : List Token)
    → mid ≡ with_members (map text_member (take i es)) ts → is_after_all k (names_of (take i es)) ≡ true → begins_before k (drop i es) ≡ false
    → end ≡ with_field k (Some (Str v)) mid → left ≡ entries_behind k (take (length es - i) (drop i es))
    → WritesUpTo k (Some (Str v)) (map text_member es) (map text_member left) ts end
text_put k v es left i ts mid end before after not behind rest =
    let w = map text_member (take i es) in
    let r = map text_member (drop i es) in
    let is_left : map text_member left ≡ entries_behind k r = ap (map text_member) (rest ∙ ap (entries_behind k) (take_rest es i)) ∙ sym (same_behind k (drop i es)) in
    let is_end : end ≡ with_field k (Some (Str v)) (with_members w ts) = behind ∙ ap (with_field k (Some (Str v))) before in
    let put : WritesUpTo k (Some (Str v)) (w ++ r) (entries_behind k r) ts (with_field k (Some (Str v)) (with_members w ts)) =
    put_between k (Str v) w r ts (ap (is_after_all k) (same_names (take i es)) ∙ after) (same_start k (drop i es) ∙ not) in
    subst (λ (xs : List Member). WritesUpTo k (Some (Str v)) xs (map text_member left) ts end) (same_parts i es)
    (subst (λ (xs : List Member). WritesUpTo k (Some (Str v)) (w ++ r) xs ts end) (sym is_left)
    (subst (λ (xs : List Token). WritesUpTo k (Some (Str v)) (w ++ r) (entries_behind k r) ts xs) (sym is_end) put))

-- no names are written where there are no pins
pub no_routes : (pins : List (List ℕ)) (es : List Pair) (ts : List Token) → pins ≡ []
    → WritesUpTo (codes "serving.knative.dev/routes") (routes_field pins) (map text_member es) (map text_member es) ts ts
unfolding routes_field
no_routes [] es ts none = nothing_put (codes "serving.knative.dev/routes") (map text_member es) ts
no_routes (p ∷ ps) es ts none = absurd cc

-- where there are some, they are the names joined by commas
pub some_routes : (pins : List (List ℕ)) → pins ≢ [] → routes_field pins ≡ Some (Str (joined pins))
unfolding routes_field
some_routes [] some = absurd (some refl)
some_routes (p ∷ ps) some = refl

-- ---- what is shown of a Revision

pub labels_put : (pins : List (List ℕ)) (t : Table (List ℕ))
    → put_field (codes "serving.knative.dev/routingState") (Some (Str (routing_state pins))) (map text_member t.entries) ≡ map text_member (shown_labels pins t).entries
unfolding put_field shown_labels
labels_put pins t = same_put (codes "serving.knative.dev/routingState") (routing_state pins) t.entries

pub labels_some : (pins : List (List ℕ)) (t : Table (List ℕ)) → (shown_labels pins t).entries ≢ []
unfolding shown_labels
labels_some pins t = some_put (codes "serving.knative.dev/routingState") (routing_state pins) t.entries

routes_put : (pins : List (List ℕ)) (m : List ℕ) (es : List Pair)
    → put_field (codes "serving.knative.dev/routingStateModified") (Some (Str m)) (put_field (codes "serving.knative.dev/routes") (routes_field pins) (map text_member es))
    ≡ map text_member (with_routes pins (put_entry (codes "serving.knative.dev/routingStateModified") m es))
unfolding put_field routes_field
routes_put [] m es = same_put (codes "serving.knative.dev/routingStateModified") m es
routes_put (p ∷ ps) m es =
    let routes = codes "serving.knative.dev/routes" in
    let modified = codes "serving.knative.dev/routingStateModified" in
    let names = joined (p ∷ ps) in
    ap (put_entry modified (Str m)) (same_put routes names es)
    ∙ same_put modified m (put_entry routes names es)
    ∙ ap (map text_member) (either_order routes modified refl names m es)

pub annotations_put : (pins : List (List ℕ)) (modified : ℕ) (t : Table (List ℕ))
    → put_field (codes "serving.knative.dev/routingStateModified") (Some (Str (shown_moment modified))) (put_field (codes "serving.knative.dev/routes") (routes_field pins) (map text_member t.entries))
    ≡ map text_member (shown_annotations pins modified t).entries
unfolding shown_annotations
annotations_put pins modified t = routes_put pins (shown_moment modified) t.entries

routes_some : (pins : List (List ℕ)) (es : List Pair) → es ≢ [] → with_routes pins es ≢ []
routes_some [] es some = some
routes_some (p ∷ ps) es some = some_put (codes "serving.knative.dev/routes") (joined (p ∷ ps)) es

pub annotations_some : (pins : List (List ℕ)) (modified : ℕ) (t : Table (List ℕ)) → (shown_annotations pins modified t).entries ≢ []
unfolding shown_annotations
annotations_some pins modified t =
    let k = codes "serving.knative.dev/routingStateModified" in
    routes_some pins (put_entry k (shown_moment modified) t.entries) (some_put k (shown_moment modified) t.entries)

-- ---- what is shown of another object

-- a body that isn't a Revision's
abbrev NotRevision : Body → Type 0
NotRevision b = (pod : PodSpec) (generation : ℕ) (pins : List (List ℕ)) (active : Option ℕ) (status : ObjectStatus) → b ≡ Revision pod generation pins active status → ⊥

pub own_labels : (o : Object) (b : Body) → NotRevision b → body_labels o b ≡ o.meta.labels
unfolding body_labels
own_labels o (Service template traffic status) not = refl
own_labels o (Configuration template status) not = refl
own_labels o (Revision pod generation pins active status) not = absurd (not pod generation pins active status refl)
own_labels o (Route traffic status) not = refl
own_labels o (Health uid resources container ever) not = refl
own_labels o (Published route rows targets) not = refl

pub own_annotations : (o : Object) (b : Body) → NotRevision b → body_annotations o b ≡ o.meta.annotations
unfolding body_annotations
own_annotations o (Service template traffic status) not = refl
own_annotations o (Configuration template status) not = refl
own_annotations o (Revision pod generation pins active status) not = absurd (not pod generation pins active status refl)
own_annotations o (Route traffic status) not = refl
own_annotations o (Health uid resources container ever) not = refl
own_annotations o (Published route rows targets) not = refl
