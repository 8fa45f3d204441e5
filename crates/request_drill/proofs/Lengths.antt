-- A stream is short enough for a session.
use Rattle.std.proofs.Common.{◌≡◌, ℕ, zero, suc, ◌+◌, ◌*◌, ◌%◌, ◌^◌, ◌==◌, ◌<◌, ◌≤◌, Bool, true, false, List, [], ◌∷◌, ◌++◌, length, codes, decimal, refl, ap, ◌∙◌, length-append, append-nil, mod-lt, arith}
use Rattle.std.specs.Prelude.{if◌then◌else◌}
use Rattle.std.proofs.lemmas.Fmt.{length-decimal-le}
use Rattle.std.proofs.lemmas.Grind.{flat_map-append}
use Rattle.request_drill.specs.Generated.{Generated, request_bytes, bytes_of, post, get, delete, services, service_name, service_path, service_body, report_body, creation, report, removal, number_at, each_place, settle, clock, week, views, requests_of, generated}

size : List Generated → ℕ
size requests = length (bytes_of requests)

decimal_short : (n : ℕ) → n < 2 ^ 64 → length (decimal n) ≤ 20
decimal_short n fits = length-decimal-le 20 n (omega arith) (omega (arith, fits)) fits

post_size : (target body : List ℕ) → length (decimal (length body)) ≤ 20 → length (request_bytes (post target body)) ≤ length target + length body + 100
unfolding request_bytes
post_size target body short = grind (arith, length-append, short)

get_size : (target : List ℕ) → length (request_bytes (get target)) ≤ length target + 100
unfolding request_bytes
get_size target = grind (arith, length-append)

delete_size : (target : List ℕ) → length (request_bytes (delete target)) ≤ length target + 100
unfolding request_bytes
delete_size target = grind (arith, length-append)

-- a rest is below what divides
rest_fits : (n m : ℕ) → 0 < m → m ≤ 2 ^ 64 → n % m < 2 ^ 64
rest_fits n m some le = let below : n % m < m = mod-lt n some in omega (arith, below, le)

services_size : length services ≤ 100
services_size = omega arith

name_size : (place : ℕ) → place < 2 ^ 64 → length (service_name place) ≤ 21
name_size place fits = let short = decimal_short place fits in grind (arith, length-append, short)

path_size : (place : ℕ) → place < 2 ^ 64 → length (service_path place) ≤ 200
unfolding service_path
path_size place fits = let short = name_size place fits in grind (arith, length-append, short, services_size)

body_size : (place number : ℕ) → length (service_name place) ≤ 21 → length (decimal (number % 1000)) ≤ 20 → length (decimal (number % 601)) ≤ 20 → length (service_body place number) ≤ 500
unfolding service_body
body_size place number name image seconds = grind (arith, length-append, name, image, seconds)

report_size : (place : ℕ) → length (service_name place) ≤ 21 → length (report_body place) ≤ 500
unfolding report_body
report_size place name = grind (arith, length-append, name)

-- ---- requests

one_size : (r : Generated) → size (r ∷ []) ≡ length (request_bytes r)
unfolding size
one_size r = ap length (append-nil (request_bytes r))

more_size : (xs ys : List Generated) → size (xs ++ ys) ≡ size xs + size ys
unfolding size
more_size xs ys = ap length (flat_map-append request_bytes xs ys) ∙ length-append (bytes_of xs) (bytes_of ys)

none_size : size [] ≡ 0
unfolding size
none_size = refl

either_size : (b : Bool) (xs ys : List Generated) → size xs ≤ 1000 → size ys ≤ 1000 → size (if b then xs else ys) ≤ 1000
either_size true xs ys first second = first
either_size false xs ys first second = second

posted_size : (target body : List ℕ) → length target ≤ 200 → length body ≤ 500 → size (post target body ∷ []) ≤ 1000
posted_size target body first second =
    omega (arith, one_size (post target body), post_size target body (decimal_short (length body) (omega (arith, second))), first, second)

got_size : (target : List ℕ) → length target ≤ 200 → size (get target ∷ []) ≤ 1000
got_size target short = omega (arith, one_size (get target), get_size target, short)

deleted_size : (target : List ℕ) → length target ≤ 200 → size (delete target ∷ []) ≤ 1000
deleted_size target short = omega (arith, one_size (delete target), delete_size target, short)

-- ---- the requests of one place

creation_size : (place number : ℕ) → place < 2 ^ 64 → size (creation place number) ≤ 1000
unfolding creation
creation_size place number fits =
    posted_size services (service_body place number) (omega (arith, services_size))
    (body_size place number (name_size place fits) (decimal_short (number % 1000) (rest_fits number 1000 (omega arith) (omega arith)))
    (decimal_short (number % 601) (rest_fits number 601 (omega arith) (omega arith))))

reported_size : (place number : ℕ) → place < 2 ^ 64 → size (report place number) ≤ 1000
unfolding report
reported_size place number fits =
    either_size (number % 4 == 0) [] (post (codes "/control/reports") (report_body place) ∷ []) (omega (arith, none_size))
    (posted_size (codes "/control/reports") (report_body place) (omega arith) (report_size place (name_size place fits)))

removal_size : (place number : ℕ) → place < 2 ^ 64 → size (removal place number) ≤ 1000
unfolding removal
removal_size place number fits =
    either_size (number % 5 == 0) (delete (service_path place) ∷ []) [] (deleted_size (service_path place) (path_size place fits)) (omega (arith, none_size))

-- ---- all requests

each_size : (made : ℕ → ℕ → List Generated) → ((place number : ℕ) → place < 2 ^ 64 → size (made place number) ≤ 1000) → (count last : ℕ) → last ≤ 500
    → size (each_place made count last) ≤ 1000 * last
each_size made short count zero le = omega (arith, none_size)
each_size made short count (suc last) le =
    omega (
      arith,
      more_size (each_place made count last) (made (suc last) (number_at count (suc last))),
      each_size made short count last (omega (arith, le)),
      short (suc last) (number_at count (suc last)) (omega (arith, le)),
    )

settle_size : size (settle ∷ []) ≤ 1000
settle_size = posted_size (codes "/control/settle") [] (omega arith) (omega arith)

clock_size : size (clock ∷ []) ≤ 1000
clock_size = posted_size (codes "/control/clock") (codes "{\"now\":604800}") (omega arith) (omega arith)

week_size : size week ≤ 2000
week_size = omega (arith, more_size (clock ∷ []) (settle ∷ []), clock_size, settle_size)

views_size : size views ≤ 2000
views_size =
    omega (
      arith,
      more_size (get (codes "/control/tables") ∷ []) (get (codes "/control/summary") ∷ []),
      got_size (codes "/control/tables") (omega arith),
      got_size (codes "/control/summary") (omega arith),
    )

pub generated_short : (count : ℕ) → count ≤ 500 → length (generated count) < 4294967295
unfolding generated requests_of size
generated_short count le =
    let a : List Generated = each_place creation count count in
    let b : List Generated = each_place report count count in
    let c : List Generated = each_place removal count count in
    let s : List Generated = settle ∷ [] in
    omega (
      arith,
      more_size (a ++ s ++ b ++ s ++ c ++ week) views,
      more_size (a ++ s ++ b ++ s ++ c) week,
      more_size (a ++ s ++ b ++ s) c,
      more_size (a ++ s ++ b) s,
      more_size (a ++ s) b,
      more_size a s,
      each_size creation creation_size count count le,
      each_size report reported_size count count le,
      each_size removal removal_size count count le,
      settle_size,
      week_size,
      views_size,
      le,
    )
