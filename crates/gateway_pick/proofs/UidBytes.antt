-- What the bytes of a uid are read as.
use Rattle.std.proofs.Common.{◌≡◌, ℕ, ◌^◌, ◌<◌, List, take, drop, Bool, true, false, ◌&&◌, nat_le, Option, Some, None, IfSome, refl, sym, arith, length}
use Rattle.std.specs.Str.{bytes_eq}
use Rattle.std.specs.Str.Parse.{digits_value}
use Rattle.std.specs.List.{list_all}
use Rattle.std.proofs.lemmas.Slice.Eq.{bytes_eq-Decides}
use Rattle.std.proofs.lemmas.Bool.Decides.{nat_tests}
use Rattle.serve_names.specs.Uids.{prefix, is_hex_digit, is_hex_number, uid_bytes}
use Rattle.serve_names.proofs.UidLemmas.{hex_below, uid_found, uid_finds}
use Rattle.gateway_pick.specs.Reading.{when, uid_of}

both : (a b : Bool) → (a && b) ≡ true → (a ≡ true) × (b ≡ true)
both true b e = (refl, e)
both false b e = cc

-- the number of a uid's digits is one of 64 bits
small : (bytes : List ℕ) → is_hex_number bytes ≡ true → digits_value 16 bytes < 2 ^ 64
small bytes e =
    let more = both _ _ (both (nat_le 12 (length bytes)) _ e).1 in
    let digits = both (list_all is_hex_digit bytes) _ more.1 in
    let few : nat_le (length bytes) 16 ≡ true = more.0 in
    hex_below bytes digits.0 (grind (arith, nat_tests))

pub uid_read : (bytes : List ℕ) (uid : ℕ) → uid < 2 ^ 64 → bytes ≡ uid_bytes uid → uid_of bytes ≡ Some uid
uid_read bytes uid bound e =
    let is = uid_finds uid bytes bound e in
    let front : bytes_eq (take 24 bytes) prefix ≡ true = (bytes_eq-Decides (take 24 bytes) prefix).1 is.front in
    rw (front, is.number, is.value) refl

pub uid_is : (bytes : List ℕ) (r : Option ℕ) → IfSome r (λ uid. uid < 2 ^ 64) → IfSome r (λ uid. bytes ≡ uid_bytes uid)
    → ((uid : ℕ) → uid < 2 ^ 64 → bytes ≡ uid_bytes uid → r ≡ Some uid) → r ≡ uid_of bytes
uid_is bytes (Some uid) bound found finds = sym (uid_read bytes uid bound found)
uid_is bytes None bound found finds = go (bytes_eq (take 24 bytes) prefix) refl (is_hex_number (drop 24 bytes)) refl
  where
    go : (a : Bool) → bytes_eq (take 24 bytes) prefix ≡ a → (b : Bool) → is_hex_number (drop 24 bytes) ≡ b → None ≡ when (a && b) (digits_value 16 (drop 24 bytes))
    go false e b f = refl
    go true e false f = refl
    go true e true f = finds (digits_value 16 (drop 24 bytes)) (small (drop 24 bytes) f) (uid_found bytes ((bytes_eq-Decides (take 24 bytes) prefix).0 e) f)
