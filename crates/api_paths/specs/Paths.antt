-- What paths name, and the calls of their methods.
use Rattle.std.specs.Prelude.{◌≡◌, ℕ, Bool, true, not, ◌&&◌, ◌==◌, nat_lt, List, [], ◌∷◌, length, take, drop, codes, Option, Some, None, if◌then◌else◌}
use Rattle.std.specs.List.{list_all, before_first, after_first, position_or_len}
use Rattle.std.specs.Str.{bytes_eq}
use Rattle.serve_names.specs.Labels.{is_label_of}
use Rattle.resource_types.specs.declared.names.Kind.{Kind}
use Rattle.resource_types.specs.declared.names.Kind.TheVariants as kind
use Rattle.resource_types.specs.declared.names.ClientKind.{ClientKind}
use Rattle.resource_types.specs.Manifests.{client_kind}
use Rattle.http_session.specs.declared.message.Allow.{Allow}
use Rattle.http_session.specs.declared.message.Allow.TheVariants as allow

-- a call, with its texts as lists of bytes
pub data Call : Type 0 where
  list : Kind → List ℕ → Call
  poll : Kind → List ℕ → ℕ → Call
  create : ClientKind → List ℕ → Call
  read : Kind → List ℕ → List ℕ → Call
  replace : ClientKind → List ℕ → List ℕ → Call
  patch : ClientKind → List ℕ → List ℕ → Call
  remove : Kind → List ℕ → List ℕ → Call
  report : Call
  set_clock : Call
  step : Call
  settle : Call
  summary : Call

-- what a path names: the objects of a kind in a namespace, one of them, or a part of the control plane
pub data Resource : Type 0 where
  collection : Kind → List ℕ → Resource
  one : Kind → List ℕ → List ℕ → Resource
  reports : Resource
  clock : Resource
  steps : Resource
  settling : Resource
  overview : Resource

-- what stands beside a text in a table
abbrev pub beside : {A : Type 0} → List ℕ → List (List ℕ × A) → Option A
beside text [] = None
beside text (row ∷ rows) = if bytes_eq text row.0 then Some row.1 else beside text rows

-- ---- paths

-- what stands behind a front, where the bytes begin with it
abbrev pub behind : List ℕ → List ℕ → Option (List ℕ)
behind front bytes = if bytes_eq (take (length front) bytes) front then Some (drop (length front) bytes) else None

abbrev pub is_slash : ℕ → Bool
is_slash b = b == 47

-- the two parts round the first slash, where there is one
abbrev pub at_slash : List ℕ → Option (List ℕ × List ℕ)
at_slash bytes =
    if nat_lt (position_or_len is_slash bytes) (length bytes) then Some (before_first is_slash bytes, after_first is_slash bytes) else None

abbrev pub is_no_slash : ℕ → Bool
is_no_slash b = not (b == 47)

-- one segment of a path that isn't empty
abbrev pub is_segment : List ℕ → Bool
is_segment bytes = nat_lt 0 (length bytes) && list_all is_no_slash bytes

-- the paths of the control plane; the Tables are those of all namespaces
abbrev pub control_paths : List (List ℕ × Resource)
control_paths =
    (codes "/control/reports", reports)
    ∷ ((codes "/control/clock", clock)
    ∷ ((codes "/control/steps", steps)
    ∷ ((codes "/control/settle", settling)
    ∷ ((codes "/control/tables", collection kind.Table [])
    ∷ ((codes "/control/summary", overview)
    ∷ [])))))

-- the kinds in paths
abbrev pub plurals : List (List ℕ × Kind)
plurals =
    (codes "services", kind.Service)
    ∷ ((codes "configurations", kind.Configuration)
    ∷ ((codes "revisions", kind.Revision)
    ∷ ((codes "routes", kind.Route)
    ∷ [])))

-- the objects of a kind in a namespace
abbrev pub collection_of : Option Kind → List ℕ → Option Resource
collection_of None space = None
collection_of (Some k) space = Some (collection k space)

-- one of them
abbrev pub one_of : Option Kind → List ℕ → List ℕ → Option Resource
one_of None space name = None
one_of (Some k) space name = if is_segment name then Some (one k space name) else None

-- what stands behind a namespace: a kind, or a kind, a slash and a name
abbrev pub kind_path : List ℕ → List ℕ → Option (List ℕ × List ℕ) → Option Resource
kind_path space rest None = collection_of (beside rest plurals) space
kind_path space rest (Some parts) = one_of (beside parts.0 plurals) space parts.1

-- a namespace that is a label of at most 63 bytes, a slash, and what stands behind it
abbrev pub space_path : Option (List ℕ × List ℕ) → Option Resource
space_path None = None
space_path (Some parts) = if is_label_of parts.0 63 then kind_path parts.0 parts.1 (at_slash parts.1) else None

-- a path of objects, or else one of the control plane
abbrev pub path_from : List ℕ → Option (List ℕ) → Option Resource
path_from path None = beside path control_paths
path_from path (Some rest) = space_path (at_slash rest)

-- what a path names
unfoldable pub resource_of : List ℕ → Option Resource
resource_of path = path_from path (behind (codes "/apis/serving.knative.dev/v1/namespaces/") path)

-- ---- methods

abbrev pub collection_methods : Kind → List ℕ → Option ClientKind → List (List ℕ × Call)
collection_methods k space None = (codes "GET", list k space) ∷ []
collection_methods k space (Some c) = (codes "GET", list k space) ∷ ((codes "POST", create c space) ∷ [])

abbrev pub object_methods : Kind → List ℕ → List ℕ → Option ClientKind → List (List ℕ × Call)
object_methods k space name None = (codes "GET", read k space name) ∷ ((codes "DELETE", remove k space name) ∷ [])
object_methods k space name (Some c) =
    (codes "GET", read k space name)
    ∷ ((codes "PUT", replace c space name)
    ∷ ((codes "PATCH", patch c space name)
    ∷ ((codes "DELETE", remove k space name)
    ∷ [])))

-- the methods of what a path names, and the call that each makes
abbrev pub methods_of : Resource → List (List ℕ × Call)
methods_of (collection k space) = collection_methods k space (client_kind k)
methods_of (one k space name) = object_methods k space name (client_kind k)
methods_of reports = (codes "POST", report) ∷ []
methods_of clock = (codes "POST", set_clock) ∷ []
methods_of steps = (codes "POST", step) ∷ []
methods_of settling = (codes "POST", settle) ∷ []
methods_of overview = (codes "GET", summary) ∷ []

abbrev pub collection_allow : Option ClientKind → Allow
collection_allow None = allow.Get
collection_allow (Some c) = allow.GetPost

abbrev pub object_allow : Option ClientKind → Allow
object_allow None = allow.GetDelete
object_allow (Some c) = allow.GetPutPatchDelete

-- the same methods by their names alone
abbrev pub allow_of : Resource → Allow
allow_of (collection k space) = collection_allow (client_kind k)
allow_of (one k space name) = object_allow (client_kind k)
allow_of reports = allow.Post
allow_of clock = allow.Post
allow_of steps = allow.Post
allow_of settling = allow.Post
allow_of overview = allow.Get

-- ---- where an object stands

-- a call on one object, or one that makes an object, has a label of at most 63 bytes as its namespace
abbrev pub HasLabel : Call → Type 0
HasLabel (create c space) = is_label_of space 63 ≡ true
HasLabel (read k space name) = is_label_of space 63 ≡ true
HasLabel (replace c space name) = is_label_of space 63 ≡ true
HasLabel (patch c space name) = is_label_of space 63 ≡ true
HasLabel (remove k space name) = is_label_of space 63 ≡ true
HasLabel other = Unit {0}
