-- A manifest of what may be put is read again from its text.
use Rattle.std.proofs.Common.{◌≡◌, ℕ, true, List, [], Option, Some, None, codes, refl, sym, ap, ◌∙◌, subst}
use Rattle.std.specs.Prelude.{IsUtf8}
use Rattle.json_tree.specs.Tree.{data_of}
use Rattle.json_tree.specs.declared.value.Json.{Json}
use Rattle.json_tree.specs.declared.value.Json.TheOpen.{Json-F}
use Rattle.resource_types.specs.Manifests.{kind_text}
use Rattle.resource_types.specs.declared.names.ClientKind.{ClientKind}
use Rattle.resource_types.specs.declared.names.ClientKind.TheVariants as client
use Rattle.resource_types.specs.declared.manifests.Manifest.{Manifest}
use Rattle.resource_types.specs.declared.objects.Object.{Object}
use Rattle.resource_codec.specs.Reading.{layer, under}
use Rattle.resource_codec.specs.Written.{text_field, document_fields, document_members, manifest_document, written, kind_of}
use Rattle.resource_codec.proofs.Again.{out_obj}
use Rattle.resource_codec.proofs.PutLemmas.{or_else, find_fields}
use Rattle.resource_codec.proofs.Texts.{out_str}
use Rattle.validation.specs.Rules.{rules_of}
use Rattle.manifest_intake.specs.Bodies.{IsBody}
use Rattle.manifest_intake.specs.Good.{is_good, asked_of, IsGood}
use Rattle.manifest_intake.proofs.Exact.{deep_enough, good_exact}
use Rattle.manifest_intake.proofs.Exactly.{good_checked, good_readable}
use Rattle.journal_text.specs.Lines.{unversioned, manifest_text}
use Rattle.journal_text.specs.Reads.{are_short}
use Rattle.journal_reader.specs.declared.deeds.Deed.TheVariants.{Put}
use Rattle.journal_reader.specs.Deeds.{kind_in, asked_in, IsAsked}
use Rattle.journal_reader.proofs.Bodies.{body_of}
use Rattle.journal_reader.proofs.Named.{client_kind_again}

-- ---- what a client puts

-- a manifest is good whatever its version
unversioned_good : (o : Object) → IsGood (asked_of o) → IsGood (unversioned o)
unfolding rules_of
unversioned_good o g = record {
  valid = g.valid;
  full = ap (λ (m : Manifest). record (unversioned o) { spec = m.spec }) g.full;
  regular = record { api = g.regular.api; name = g.regular.name; kind = g.regular.kind; plain = g.regular.plain };
  rest = g.rest;
  rise = g.rise;
  namespace = g.namespace;
  deep = deep_enough (unversioned o) g.rest g.rise;
}

-- what a client would write of a good object is a manifest of what may be put
pub asked : (o : Object) → is_good (asked_of o) ≡ true → are_short (data_of (written (unversioned o))) ≡ true → IsAsked (unversioned o)
asked o good numbers = record { good = unversioned_good o ((good_exact (asked_of o)).0 good); api = refl; version = refl; numbers = numbers }

-- ---- its text

or_none : (o : Option Json) → or_else o None ≡ o
or_none None = refl
or_none (Some j) = refl

kind_field : (k : ClientKind) → layer (text_field (kind_text k)) ≡ Json-F.Str (kind_text k)
unfolding text_field
kind_field client.Service = out_str _
kind_field client.Configuration = out_str _
kind_field client.Route = out_str _

kind_under : (m : Manifest) → m.kind ≡ kind_text (kind_of m.spec) → under (codes "kind") (document_members (manifest_document m)) ≡ Json-F.Str (kind_text (kind_of m.spec))
unfolding document_members
kind_under m is =
    ap layer (find_fields (codes "kind") (document_fields (manifest_document m)) [] ∙ or_none (text_field m.kind))
    ∙ ap (λ k. layer (text_field k)) is ∙ kind_field (kind_of m.spec)

kind_again : (m : Manifest) → m.kind ≡ kind_text (kind_of m.spec) → kind_in (written m) ≡ Some (kind_of m.spec)
unfolding kind_in
kind_again m is =
    rw (out_obj (record { entries = document_members (manifest_document m) }), kind_under m is) (client_kind_again (kind_of m.spec))

-- what is written of the manifest is read as its put
pub asked_again : (m : Manifest) → IsAsked m → asked_in (written m) ≡ Some (Put (kind_of m.spec) m)
unfolding asked_in
asked_again m h = rw (kind_again m h.good.regular.kind, good_checked m h.good h.api h.version, h.good.namespace) refl

-- its text is one of what is written of it
pub asked_body : (bytes : List ℕ) (m : Manifest) → IsAsked m → bytes ≡ manifest_text m → IsUtf8 bytes → IsBody bytes (Some (written m))
asked_body bytes m h is utf8 =
    let readable = good_readable m h.good in
    subst (λ bs. IsBody bs (Some (written m))) (sym is) (body_of (written m) (record { well = readable.0; deep = readable.1 }) h.numbers (subst IsUtf8 is utf8))
