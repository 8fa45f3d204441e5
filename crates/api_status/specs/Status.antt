-- What a Status says.
use Rattle.std.specs.Prelude.{ℕ, List, codes}
use Rattle.serde_json.specs.Data.{Data, object, member, no_members, string, number, unsigned}

-- a request failed: a code, a reason in one word, and a message for a reader
abbrev pub failure : ℕ → List ℕ → List ℕ → Data
failure code reason message = object
    (member (codes "apiVersion") (string (codes "v1"))
    (member (codes "code") (number (unsigned code))
    (member (codes "kind") (string (codes "Status"))
    (member (codes "message") (string message)
    (member (codes "reason") (string reason)
    (member (codes "status") (string (codes "Failure"))
    no_members))))))

-- it was done
abbrev pub success : Data
success = object
    (member (codes "apiVersion") (string (codes "v1"))
    (member (codes "kind") (string (codes "Status"))
    (member (codes "status") (string (codes "Success"))
    no_members)))
