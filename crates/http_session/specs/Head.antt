-- What the code keeps of a head.
use Rattle.std.specs.Prelude.{◌≡◌, ℕ, ◌≤◌, List, length, IfOk, IsUtf8}
use Rattle.httparse.specs.Grammar.{RequestHead}
use Rattle.httparse.specs.Spans.{span_bytes, IsWithin}
use Rattle.http_session.specs.declared.head.Head.{Head}
use Rattle.http_session.specs.Fields.{body_len}
use Rattle.http_session.specs.Stream.{IsHead, closes, fields_of}

-- the head that was read is that head of the grammar
pub record Describes (bytes : List ℕ) (read : Head) (head : RequestHead) : Type 0 where
  pub is_head : IsHead bytes head
  pub method : span_bytes bytes read.method ≡ head.method
  pub target : span_bytes bytes read.target ≡ head.target
  pub closes : read.closes ≡ closes head
  pub body : read.body ≡ body_len (fields_of head)

-- the parts of a head that was read lie in its bytes, and are texts
pub record IsHeadIn (bytes : List ℕ) (read : Head) : Type 0 where
  pub method : IsWithin (length bytes) read.method
  pub method_text : IsUtf8 (span_bytes bytes read.method)
  pub target : IsWithin (length bytes) read.target
  pub target_text : IsUtf8 (span_bytes bytes read.target)
  pub body : IfOk read.body (λ (k : ℕ). k ≤ 65536)
