-- What the fields of a head say of the body and of the connection. A field is its name and its value.
use Rattle.std.specs.Prelude.{ℕ, ◌&&◌, ◌||◌, ◌==◌, nat_lt, Bool, List, [], ◌∷◌, length, Option, Some, None, Result, Ok, Err, if◌then◌else◌, codes}
use Rattle.std.specs.List.{list_any, list_all, slice_split}
use Rattle.std.specs.Str.{str_eq_ignore_ascii_case}
use Rattle.std.specs.Char.{is_ascii_digit}
use Rattle.std.specs.Str.Parse.{digits_value}
use Rattle.httparse.specs.Ascii.{comma}
use Rattle.httparse.specs.Grammar.{trim_ows}
use Rattle.http_session.specs.declared.report.HeadFault.{HeadFault}
use Rattle.http_session.specs.declared.report.HeadFault.TheVariants.{BadLength, TransferEncoding, BodyTooLarge}

-- the values of the fields of a name, in any ASCII case
abbrev pub values_of : List ℕ → List (List ℕ × List ℕ) → List (List ℕ)
values_of name [] = []
values_of name (field ∷ fields) =
    if str_eq_ignore_ascii_case field.0 name then field.1 ∷ values_of name fields else values_of name fields

-- the number that one or more decimal digits write
abbrev pub number_of : List ℕ → Option ℕ
number_of value = if nat_lt 0 (length value) && list_all is_ascii_digit value then Some (digits_value 10 value) else None

-- the length that the values of `Content-Length` give: 0 where there is none
abbrev pub given_len : List (List ℕ) → Option ℕ
given_len [] = Some 0
given_len (value ∷ []) = number_of value
given_len (value ∷ other ∷ values) = None

-- the length of a body, or the first of the faults
abbrev pub checked_len : Bool → Option ℕ → Result ℕ HeadFault
checked_len coded None = Err BadLength
checked_len coded (Some n) =
    if coded then Err TransferEncoding else if nat_lt 65536 n then Err BodyTooLarge else Ok n

-- there is a value
abbrev pub is_some_value : List (List ℕ) → Bool
is_some_value values = nat_lt 0 (length values)

-- the length of the body that the fields give, or the first of their faults
abbrev pub body_len : List (List ℕ × List ℕ) → Result ℕ HeadFault
body_len fields =
    checked_len (is_some_value (values_of (codes "transfer-encoding") fields)) (given_len (values_of (codes "content-length") fields))

-- the value has `close` among its parts between commas
abbrev pub has_close : List ℕ → Bool
has_close value = list_any (λ part. str_eq_ignore_ascii_case (trim_ows part) (codes "close")) (slice_split (λ b. b == comma) value)

-- HTTP/1.0 closes, and so does a `Connection` field with `close`
abbrev pub asks_close : ℕ → List (List ℕ × List ℕ) → Bool
asks_close minor fields = (minor == 0) || list_any has_close (values_of (codes "connection") fields)
