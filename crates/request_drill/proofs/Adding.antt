-- Requests that are added behind others.
use Rattle.std.proofs.Common.{◌≡◌, ℕ, List, [], ◌++◌, sym, ap, ◌∙◌, append_assoc, append-nil, length-append, arith}
use Rattle.std.proofs.lemmas.Grind.{flat_map-append}
use Rattle.request_drill.specs.declared.stream.Stream.{Stream}
use Rattle.request_drill.specs.Generated.{Generated, request_bytes, bytes_of}
use Rattle.request_drill.specs.Streams.{Adds}

pub adds_none : (s : Stream) → Adds s s []
adds_none s = record { bytes = sym (append-nil s.bytes.items); count = omega arith }

pub adds_more : (a b c : Stream) (xs ys : List Generated) → Adds a b xs → Adds b c ys → Adds a c (xs ++ ys)
adds_more a b c xs ys p q = record {
  bytes = q.bytes ∙ ap (λ zs. zs ++ bytes_of ys) p.bytes ∙ append_assoc a.bytes.items (bytes_of xs) (bytes_of ys)
      ∙ ap (λ zs. a.bytes.items ++ zs) (sym (flat_map-append request_bytes xs ys));
  count = omega (arith, p.count, q.count, length-append xs ys);
}

-- four texts that are written one behind another
pub four : (a b c d e p q r s : List ℕ) → b ≡ a ++ p → c ≡ b ++ q → d ≡ c ++ r → e ≡ d ++ s → e ≡ a ++ (p ++ q ++ r ++ s)
four a b c d e p q r s ab bc cd de =
    let one : e ≡ a ++ p ++ q ++ r ++ s = de ∙ ap (λ zs. zs ++ s) (cd ∙ ap (λ zs. zs ++ r) (bc ∙ ap (λ zs. zs ++ q) ab)) in
    one ∙ ap (λ zs. zs ++ r ++ s) (append_assoc a p q) ∙ ap (λ zs. zs ++ s) (append_assoc a (p ++ q) r) ∙ append_assoc a (p ++ q ++ r) s
