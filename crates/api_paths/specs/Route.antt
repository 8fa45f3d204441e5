-- The call of a method and a target.
use Rattle.std.specs.Prelude.{ℕ, Bool, ◌==◌, List, Option, Some, None, Result, Ok, Err, if◌then◌else◌}
use Rattle.std.specs.List.{before_first, after_first}
use Rattle.resource_types.specs.declared.names.Kind.{Kind}
use Rattle.api_paths.specs.declared.calls.PathError.{PathError}
use Rattle.api_paths.specs.declared.calls.PathError.TheVariants.{NoSuchPath, NoSuchMethod, BadQuery}
use Rattle.api_paths.specs.Paths.{Call, list, poll, Resource, beside, resource_of, methods_of, allow_of}
use Rattle.api_paths.specs.Queries.{has_dry_run, is_good_list, is_watching, version_after}

abbrev pub is_mark : ℕ → Bool
is_mark b = b == 63

-- the path, and behind the first `?` the query, which is empty where there is none
abbrev pub path_of : List ℕ → List ℕ
path_of target = before_first is_mark target

abbrev pub query_of : List ℕ → List ℕ
query_of target = after_first is_mark target

-- the objects of a kind, or where the query watches, what changed among them
abbrev pub listed : Kind → List ℕ → List ℕ → Result Call PathError
listed k space query =
    if is_good_list query
    then Ok (if is_watching query then poll k space (version_after query) else list k space)
    else Err BadQuery

-- a call with its query; only that of a list is looked at
abbrev pub with_query : Call → List ℕ → Result Call PathError
with_query (list k space) query = listed k space query
with_query call query = Ok call

-- no query may ask for a dry run
unfoldable pub asked : Call → List ℕ → Result Call PathError
asked call query = if has_dry_run query then Err BadQuery else with_query call query

-- the call that a method makes on what a path names
abbrev pub call_on : Resource → Option Call → List ℕ → Result Call PathError
call_on resource None query = Err (NoSuchMethod (allow_of resource))
call_on resource (Some call) query = asked call query

abbrev pub call_at : Option Resource → List ℕ → List ℕ → Result Call PathError
call_at None method query = Err NoSuchPath
call_at (Some resource) method query = call_on resource (beside method (methods_of resource)) query

-- the call of a method and a target, or the first fault: the path, the method, the query
unfoldable pub call_of : List ℕ → List ℕ → Result Call PathError
call_of method target = call_at (resource_of (path_of target)) method (query_of target)
