-- The namespace of a call on an object is a label of at most 63 bytes, since its path is none without it.
use Rattle.std.proofs.Common.{◌≡◌, ℕ, Bool, true, false, List, [], ◌∷◌, Option, Some, None, Result, Ok, Err, refl, sym, subst}
use Rattle.std.specs.Prelude.{bytes_eq, codes, IfOk, if◌then◌else◌}
use Rattle.serve_names.specs.Labels.{is_label_of}
use Rattle.resource_types.specs.declared.names.Kind.{Kind}
use Rattle.resource_types.specs.declared.names.ClientKind.{ClientKind}
use Rattle.resource_types.specs.Manifests.{client_kind}
use Rattle.api_paths.specs.declared.calls.Call.{Call as Spoken}
use Rattle.api_paths.specs.declared.calls.PathError.{PathError}
use Rattle.api_paths.specs.declared.calls.PathError.TheVariants.{BadQuery}
use Rattle.api_paths.specs.Paths.{Call, list, poll, create, read, replace, patch, remove, report, set_clock, step, settle, summary, Resource, collection, one, reports, clock, steps, settling, overview, beside, at_slash, behind, control_paths, plurals, collection_of, is_segment, one_of, kind_path, space_path, path_from, resource_of, methods_of, collection_methods, object_methods, HasLabel}
use Rattle.api_paths.specs.Queries.{has_dry_run, is_good_list, is_watching, version_after}
use Rattle.api_paths.specs.Route.{path_of, query_of, listed, with_query, asked, call_on, call_at, call_of}
use Rattle.api_paths.specs.Seen.{call_seen, answer_seen}

-- ---- rows of a table

abbrev IfSome : {A : Type 0} → Option A → (A → Type 0) → Type 0
IfSome None P = Unit {0}
IfSome (Some x) P = P x

abbrev Rows : {A : Type 0} → (A → Type 0) → List (List ℕ × A) → Type 0
Rows P [] = Unit {0}
Rows P (row ∷ rows) = P row.1 × Rows P rows

-- what holds of each row holds of the one that is found
found : {A : Type 0} (P : A → Type 0) (text : List ℕ) (rows : List (List ℕ × A)) → Rows P rows → IfSome (beside text rows) P
found P text [] h = tt
found P text (row ∷ rows) h = go (bytes_eq text row.0) (found P text rows h.1)
  where
    go : (b : Bool) → IfSome (beside text rows) P → IfSome (if b then Some row.1 else beside text rows) P
    go true ih = h.0
    go false ih = ih

-- ---- what paths name

-- the objects of a kind that clients write stand in a namespace that is a label, and so does each object
abbrev IsLabelled : Resource → Type 0
IsLabelled (collection k space) = (c : ClientKind) → client_kind k ≡ Some c → is_label_of space 63 ≡ true
IsLabelled (one k space name) = is_label_of space 63 ≡ true
IsLabelled other = Unit {0}

collection_labelled : (k : Option Kind) (space : List ℕ) → is_label_of space 63 ≡ true → IfSome (collection_of k space) IsLabelled
collection_labelled None space h = tt
collection_labelled (Some k) space h = λ c e. h

one_labelled : (k : Option Kind) (space name : List ℕ) → is_label_of space 63 ≡ true → IfSome (one_of k space name) IsLabelled
one_labelled None space name h = tt
one_labelled (Some k) space name h = go (is_segment name)
  where
    go : (b : Bool) → IfSome (if b then Some (one k space name) else None) IsLabelled
    go true = h
    go false = tt

kind_labelled : (space rest : List ℕ) (parts : Option (List ℕ × List ℕ)) → is_label_of space 63 ≡ true → IfSome (kind_path space rest parts) IsLabelled
kind_labelled space rest None h = collection_labelled (beside rest plurals) space h
kind_labelled space rest (Some parts) h = one_labelled (beside parts.0 plurals) space parts.1 h

space_labelled : (parts : Option (List ℕ × List ℕ)) → IfSome (space_path parts) IsLabelled
space_labelled None = tt
space_labelled (Some parts) = go (is_label_of parts.0 63) refl
  where
    go : (b : Bool) → is_label_of parts.0 63 ≡ b → IfSome (if b then kind_path parts.0 parts.1 (at_slash parts.1) else None) IsLabelled
    go true e = kind_labelled parts.0 parts.1 (at_slash parts.1) e
    go false e = tt

control_labelled : Rows IsLabelled control_paths
control_labelled = (tt, (tt, (tt, (tt, ((λ c e. absurd cc), (tt, tt))))))

path_labelled : (path : List ℕ) (rest : Option (List ℕ)) → IfSome (path_from path rest) IsLabelled
path_labelled path None = found IsLabelled path control_paths control_labelled
path_labelled path (Some rest) = space_labelled (at_slash rest)

resource_labelled : (path : List ℕ) → IfSome (resource_of path) IsLabelled
unfolding resource_of
resource_labelled path = path_labelled path (behind (codes "/apis/serving.knative.dev/v1/namespaces/") path)

-- ---- what their methods call

collection_calls : (k : Kind) (space : List ℕ) (c : Option ClientKind) → client_kind k ≡ c → IsLabelled (collection k space) → Rows HasLabel (collection_methods k space c)
collection_calls k space None e h = (tt, tt)
collection_calls k space (Some c) e h = (tt, (h c e, tt))

object_calls : (k : Kind) (space name : List ℕ) (c : Option ClientKind) → is_label_of space 63 ≡ true → Rows HasLabel (object_methods k space name c)
object_calls k space name None h = (h, (h, tt))
object_calls k space name (Some c) h = (h, (h, (h, (h, tt))))

methods_labelled : (r : Resource) → IsLabelled r → Rows HasLabel (methods_of r)
methods_labelled (collection k space) h = collection_calls k space (client_kind k) refl h
methods_labelled (one k space name) h = object_calls k space name (client_kind k) h
methods_labelled reports h = (tt, tt)
methods_labelled clock h = (tt, tt)
methods_labelled steps h = (tt, tt)
methods_labelled settling h = (tt, tt)
methods_labelled overview h = (tt, tt)

listed_labelled : (k : Kind) (space query : List ℕ) → IfOk (listed k space query) HasLabel
listed_labelled k space query = go (is_good_list query) (is_watching query)
  where
    either : (b : Bool) → HasLabel (if b then poll k space (version_after query) else list k space)
    either true = tt
    either false = tt

    go : (b d : Bool) → IfOk (if b then Ok (if d then poll k space (version_after query) else list k space) else Err BadQuery) HasLabel
    go true d = either d
    go false d = tt

query_labelled : (call : Call) (query : List ℕ) → HasLabel call → IfOk (with_query call query) HasLabel
query_labelled (list k space) query h = listed_labelled k space query
query_labelled (poll k space after) query h = h
query_labelled (create c space) query h = h
query_labelled (read k space name) query h = h
query_labelled (replace c space name) query h = h
query_labelled (patch c space name) query h = h
query_labelled (remove k space name) query h = h
query_labelled report query h = h
query_labelled set_clock query h = h
query_labelled step query h = h
query_labelled settle query h = h
query_labelled summary query h = h

asked_labelled : (call : Call) (query : List ℕ) → HasLabel call → IfOk (asked call query) HasLabel
unfolding asked
asked_labelled call query h = go (has_dry_run query)
  where
    go : (b : Bool) → IfOk (if b then Err BadQuery else with_query call query) HasLabel
    go true = tt
    go false = query_labelled call query h

on_labelled : (r : Resource) (call : Option Call) (query : List ℕ) → IfSome call HasLabel → IfOk (call_on r call query) HasLabel
on_labelled r None query h = tt
on_labelled r (Some call) query h = asked_labelled call query h

at_labelled : (r : Option Resource) (method query : List ℕ) → IfSome r IsLabelled → IfOk (call_at r method query) HasLabel
at_labelled None method query h = tt
at_labelled (Some r) method query h = on_labelled r (beside method (methods_of r)) query (found HasLabel method (methods_of r) (methods_labelled r h))

-- a method and a target make no call on an object, and none that makes one, but in a namespace that is a label
pub call_labelled : (method target : List ℕ) → IfOk (call_of method target) HasLabel
unfolding call_of
call_labelled method target = at_labelled (resource_of (path_of target)) method (query_of target) (resource_labelled (path_of target))

-- ---- the same as the code has it

seen_labelled : (r : Result Spoken PathError) → IfOk (answer_seen r) HasLabel → IfOk r (λ (c : Spoken). HasLabel (call_seen c))
seen_labelled (Ok c) h = h
seen_labelled (Err e) h = tt

pub answer_labelled : (r : Result Spoken PathError) (method target : List ℕ) → answer_seen r ≡ call_of method target → IfOk r (λ (c : Spoken). HasLabel (call_seen c))
answer_labelled r method target e =
    seen_labelled r (subst (λ (x : Result Call PathError). IfOk x HasLabel) (sym e) (call_labelled method target))
