-- Replies, and their bytes.
use Rattle.std.specs.Prelude.{◌≡◌, ◌≢◌, ℕ, ◌⊎◌, Bool, true, List, [], ◌++◌, length, codes, decimal, unwrap_or, if◌then◌else◌}
use Rattle.std.specs.Str.{bytes_eq}
use Rattle.http.specs.StatusCode.{reason_phrase}
use Rattle.http_session.specs.declared.message.Allow.{Allow}
use Rattle.http_session.specs.declared.message.Allow.TheVariants.{None, Get, GetPost, GetDelete, GetPutPatchDelete, Post}
use Rattle.http_session.specs.declared.message.Asked.{Asked}
use Rattle.http_session.specs.declared.message.Reply.{Reply}
use Rattle.http_session.specs.declared.report.HeadFault.{HeadFault}
use Rattle.http_session.specs.declared.report.HeadFault.TheVariants.{Malformed, HeadTooLarge, BadLength, TransferEncoding, BodyTooLarge}

-- the codes of replies
abbrev pub IsReplyCode : ℕ → Type 0
IsReplyCode code =
    (code ≡ 200) ⊎ ((code ≡ 201) ⊎ ((code ≡ 400) ⊎ ((code ≡ 404) ⊎ ((code ≡ 405)
    ⊎ ((code ≡ 409) ⊎ ((code ≡ 413) ⊎ ((code ≡ 422) ⊎ ((code ≡ 431) ⊎ (code ≡ 501)))))))))

-- methods are named exactly with the code 405
abbrev pub AllowsFor : Allow → ℕ → Type 0
AllowsFor None code = code ≢ 405
AllowsFor Get code = code ≡ 405
AllowsFor GetPost code = code ≡ 405
AllowsFor GetDelete code = code ≡ 405
AllowsFor GetPutPatchDelete code = code ≡ 405
AllowsFor Post code = code ≡ 405

-- a reply that a handler may give
pub record IsReply (reply : Reply) : Type 0 where
  pub code : IsReplyCode reply.code
  pub allow : AllowsFor reply.allow reply.code

-- the reason phrase of a code
abbrev pub phrase_of : ℕ → List ℕ
phrase_of code = unwrap_or (reason_phrase code) []

-- the line of the field `Allow`
abbrev pub allow_line : Allow → List ℕ
allow_line None = []
allow_line Get = codes "Allow: GET\r\n"
allow_line GetPost = codes "Allow: GET, POST\r\n"
allow_line GetDelete = codes "Allow: GET, DELETE\r\n"
allow_line GetPutPatchDelete = codes "Allow: GET, PUT, PATCH, DELETE\r\n"
allow_line Post = codes "Allow: POST\r\n"

-- the line of the field `Connection`
abbrev pub close_line : Bool → List ℕ
close_line closes = if closes then codes "Connection: close\r\n" else []

-- the head of a reply of this code, with the length of its body
unfoldable pub head_bytes : Bool → ℕ → Allow → ℕ → List ℕ
head_bytes closes code allow count =
    codes "HTTP/1.1 " ++ decimal code ++ codes " " ++ phrase_of code ++ codes "\r\n"
    ++ codes "Content-Type: application/json\r\n" ++ codes "Content-Length: " ++ decimal count ++ codes "\r\n"
    ++ allow_line allow ++ close_line closes ++ codes "\r\n"

-- the head of a reply
abbrev pub reply_head : Bool → Reply → List ℕ
reply_head closes reply = head_bytes closes reply.code reply.allow (length reply.body)

-- the body of a reply: none where the method is HEAD
abbrev pub reply_body : List ℕ → Reply → List ℕ
reply_body method reply = if bytes_eq method (codes "HEAD") then [] else reply.body

-- the bytes of the reply to a request
abbrev pub reply_bytes : Asked → Reply → List ℕ
reply_bytes asked reply = reply_head asked.closes reply ++ reply_body asked.request.method reply

-- the reply to a head that is refused has this code
abbrev pub fault_code : HeadFault → ℕ
fault_code Malformed = 400
fault_code HeadTooLarge = 431
fault_code BadLength = 400
fault_code TransferEncoding = 501
fault_code BodyTooLarge = 413

-- this reason
abbrev pub fault_reason : HeadFault → List ℕ
fault_reason Malformed = codes "BadRequest"
fault_reason HeadTooLarge = codes "HeadTooLarge"
fault_reason BadLength = codes "BadRequest"
fault_reason TransferEncoding = codes "NotImplemented"
fault_reason BodyTooLarge = codes "RequestEntityTooLarge"

-- and this message
abbrev pub fault_message : HeadFault → List ℕ
fault_message Malformed = codes "the head is malformed"
fault_message HeadTooLarge = codes "the head is too large"
fault_message BadLength = codes "the length of the body is malformed"
fault_message TransferEncoding = codes "transfer encodings are not supported"
fault_message BodyTooLarge = codes "the body is too large"

-- its body: a Status of failure, as compact JSON with its names in order of bytes
unfoldable pub fault_body : HeadFault → List ℕ
fault_body fault =
    codes "{\"apiVersion\":\"v1\",\"code\":" ++ decimal (fault_code fault)
    ++ codes ",\"kind\":\"Status\",\"message\":\"" ++ fault_message fault
    ++ codes "\",\"reason\":\"" ++ fault_reason fault ++ codes "\",\"status\":\"Failure\"}"

-- its bytes: it closes, and has its body for every method
unfoldable pub fault_bytes : HeadFault → List ℕ
fault_bytes fault = head_bytes true (fault_code fault) None (length (fault_body fault)) ++ fault_body fault
