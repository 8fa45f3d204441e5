use Rattle.std.proofs.Common.{◌≡◌, ◌++◌, drop, map, length}
use Rattle.std.specs.Prelude.{codes, IfSome}
use Rattle.std.specs.Option.{option_map, option_to_list}
use Rattle.httparse.specs.Spans.{header_bytes, span_bytes, IsWithin}
use Rattle.http_session.specs.Fields.{values_of}
use Rattle.http_session.proofs.fields.content_length.Given as goal

abbrev pub invariant-loop-header : goal.invariant-loop-header
invariant-loop-header l = record {
  values :
      values_of (codes "content-length") (map (header_bytes l.head) l.headers)
      ≡ option_to_list (option_map (span_bytes l.head) l.found)
      ++ values_of (codes "content-length") (map (header_bytes l.head) (drop l.header-index l.headers));
  within : IfSome l.found (IsWithin (length l.head));
}
