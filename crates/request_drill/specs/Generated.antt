-- The stream of requests that a number makes.
use Rattle.std.specs.Prelude.{ℕ, zero, suc, ◌+◌, ◌*◌, ◌%◌, ◌^◌, ◌==◌, List, [], ◌∷◌, ◌++◌, length, flat_map, codes, decimal as decimal_text, Option, Some, None, if◌then◌else◌}

-- ---- numbers

abbrev pub decimal : ℕ → List ℕ
decimal n = decimal_text n

-- the number behind another
unfoldable pub next_number : ℕ → ℕ
next_number x = (x * 6364136223846793005 + 1442695040888963407) % 2 ^ 64

-- the number of each place; that of place 0 is the count of Services
abbrev pub number_at : ℕ → ℕ → ℕ
number_at count zero = count
number_at count (suc place) = next_number (number_at count place)

-- ---- requests

-- a request: its method, its target, and the body of a POST
pub record Generated : Type 0 where
  pub method : List ℕ
  pub target : List ℕ
  pub body : Option (List ℕ)

-- a body, and the field that tells its length; other requests have neither
abbrev pub body_bytes : Option (List ℕ) → List ℕ
body_bytes None = codes "\r\n"
body_bytes (Some body) = codes "Content-Length: " ++ decimal (length body) ++ codes "\r\n\r\n" ++ body

-- the request line, and the field that each request has
abbrev pub request_line : List ℕ → List ℕ → List ℕ
request_line method target = method ++ codes " " ++ target ++ codes " HTTP/1.1\r\nHost: gen\r\n"

-- the bytes of a request
unfoldable pub request_bytes : Generated → List ℕ
request_bytes r = request_line r.method r.target ++ body_bytes r.body

abbrev pub post : List ℕ → List ℕ → Generated
post target body = record { method = codes "POST"; target = target; body = Some body }

abbrev pub get : List ℕ → Generated
get target = record { method = codes "GET"; target = target; body = None }

abbrev pub delete : List ℕ → Generated
delete target = record { method = codes "DELETE"; target = target; body = None }

-- ---- the requests of one place, by its number

-- the path of the Services
abbrev pub services : List ℕ
services = codes "/apis/serving.knative.dev/v1/namespaces/default/services"

abbrev pub service_name : ℕ → List ℕ
service_name place = codes "s" ++ decimal place

unfoldable pub service_path : ℕ → List ℕ
service_path place = services ++ codes "/" ++ service_name place

-- its manifest, with one container
unfoldable pub service_body : ℕ → ℕ → List ℕ
service_body place number =
    codes "{\"apiVersion\":\"serving.knative.dev/v1\",\"kind\":\"Service\",\"metadata\":{\"name\":\"" ++ service_name place
    ++ codes "\"},\"spec\":{\"template\":{\"spec\":{\"containers\":[{\"image\":\"img-" ++ decimal (number % 1000)
    ++ codes "\"}],\"timeoutSeconds\":" ++ decimal (number % 601) ++ codes "}}}}"

-- the report that its first Revision is well in both parts
unfoldable pub report_body : ℕ → List ℕ
report_body place =
    codes "{\"containerHealthy\":{\"status\":\"True\"},\"resourcesAvailable\":{\"status\":\"True\"},\"revisionName\":\""
    ++ service_name place ++ codes "-00001\"}"

-- its Service is created
unfoldable pub creation : ℕ → ℕ → List Generated
creation place number = post services (service_body place number) ∷ []

-- its first Revision is reported well, save where four divides its number
unfoldable pub report : ℕ → ℕ → List Generated
report place number = if number % 4 == 0 then [] else post (codes "/control/reports") (report_body place) ∷ []

-- its Service is removed where five divides its number
unfoldable pub removal : ℕ → ℕ → List Generated
removal place number = if number % 5 == 0 then delete (service_path place) ∷ [] else []

-- ---- all requests

-- the requests of the places from 1 to the last, in order
abbrev pub each_place : (ℕ → ℕ → List Generated) → ℕ → ℕ → List Generated
each_place requests count zero = []
each_place requests count (suc last) = each_place requests count last ++ requests (suc last) (number_at count (suc last))

abbrev pub settle : Generated
settle = post (codes "/control/settle") []

-- the clock moves on by a week
abbrev pub clock : Generated
clock = post (codes "/control/clock") (codes "{\"now\":604800}")

-- a week goes by, and a settle
abbrev pub week : List Generated
week = clock ∷ settle ∷ []

-- what stands is asked for
abbrev pub views : List Generated
views = get (codes "/control/tables") ∷ get (codes "/control/summary") ∷ []

unfoldable pub requests_of : ℕ → List Generated
requests_of count =
    each_place creation count count ++ settle ∷ []
    ++ each_place report count count ++ settle ∷ []
    ++ each_place removal count count ++ week ++ views

-- requests, one behind another
abbrev pub bytes_of : List Generated → List ℕ
bytes_of requests = flat_map request_bytes requests

-- the stream
unfoldable pub generated : ℕ → List ℕ
generated count = bytes_of (requests_of count)
