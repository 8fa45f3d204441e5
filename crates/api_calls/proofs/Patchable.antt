-- What clients write and may be stored has a document that a patch can change.
use Rattle.std.proofs.Common.{◌≡◌, ℕ, ◌≤◌, List, sym, ap, subst, ◌∙◌, arith}
use Rattle.std.specs.Prelude.{Result, Ok, Err, IfOk, IsTrue}
use Rattle.json_tree.specs.Tree.{is_well_formed, depth_of}
use Rattle.json_tree.specs.declared.value.Json.{Json}
use Rattle.resource_types.specs.declared.names.Kind.{Kind}
use Rattle.resource_types.specs.declared.names.ClientKind.{ClientKind}
use Rattle.resource_types.specs.declared.names.Key.{Key}
use Rattle.resource_types.specs.declared.manifests.Manifest.{Manifest}
use Rattle.resource_types.specs.declared.objects.Object.{Object}
use Rattle.resource_types.specs.Lookups.{Journal}
use Rattle.resource_types.specs.Manifests.{object_kind, manifest_of}
use Rattle.resource_codec.specs.Written.{Rises, IsWell, IsWellSpec}
use Rattle.resource_codec.specs.Sound.{RestOfSpecFits}
use Rattle.resource_codec.specs.Storable.{IsStorable}
use Rattle.resource_codec.proofs.Storing.{storable_spec, storable_rest}
use Rattle.manifest_intake.specs.Bodies.{IsReadable}
use Rattle.manifest_intake.proofs.Storing.{client_from}
use Rattle.api_puts.specs.Puts.{StandsAs}
use Rattle.api_calls.specs.Agreement.{IsPatchable}

-- one that stands under a kind that clients write is one that a patch changes
pub patchable : (journal : Journal) (kind : ClientKind) (space name : List ℕ) (o : Object) → StandsAs journal (object_kind kind) space name o → IsPatchable o
patchable journal kind space name o s =
    let of_kind : o.key.kind ≡ object_kind kind = ap (λ (k : Key). k.kind) s.key in
    record { storable = s.storable; client = client_from kind o of_kind (s.storable.kind ∙ of_kind) }

-- the same of an object that was found under such a kind
pub stands_of_kind : (journal : Journal) (kind : ClientKind) (k : Kind) (space name : List ℕ) (o : Object) → k ≡ object_kind kind → StandsAs journal k space name o
    → StandsAs journal (object_kind kind) space name o
stands_of_kind journal kind k space name o e s = subst (λ (x : Kind). StandsAs journal x space name o) e s

both_ok : {E : Type 0} (r : Result Json E) → IfOk r (λ (j : Json). IsTrue (is_well_formed j) × (depth_of j ≤ 35)) → IfOk r (λ (j : Json). depth_of j ≤ 32) → IfOk r IsReadable
both_ok (Ok j) a b = record { well = a.0; deep = b }
both_ok (Err e) a b = tt

-- what is written of the manifest of what may be stored, with any version, is well formed and at most 32 deep
pub document_is_readable : {E : Type 0} (o : Object) (m : Manifest) (v : List ℕ) (r : Result Json E) → IsStorable o → m ≡ manifest_of o
    → (IsWell (record m { version = v }) → IfOk r (λ (j : Json). IsTrue (is_well_formed j) × (depth_of j ≤ 35)))
    → ((n : ℕ) → 5 ≤ n → IsWell (record m { version = v }) → RestOfSpecFits 3 n m.spec → IfOk r (λ (j : Json). depth_of j ≤ n))
    → IfOk r IsReadable
document_is_readable o m v r h e well deep =
    let labels : Rises m.labels = subst (λ (x : Manifest). Rises x.labels) (sym e) h.labels in
    let annotations : Rises m.annotations = subst (λ (x : Manifest). Rises x.annotations) (sym e) h.annotations in
    let spec : IsWellSpec m.spec = subst (λ (x : Manifest). IsWellSpec x.spec) (sym e) (storable_spec o h) in
    let w : IsWell (record m { version = v }) = record { labels = labels; annotations = annotations; spec = spec } in
    let rest : RestOfSpecFits 3 32 m.spec = subst (λ (x : Manifest). RestOfSpecFits 3 32 x.spec) (sym e) (storable_rest o h) in
    both_ok r (well w) (deep 32 (omega arith) w rest)
