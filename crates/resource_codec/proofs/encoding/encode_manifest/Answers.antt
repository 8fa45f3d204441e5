use Rattle.std.proofs.Common.{◌≡◌, ◌≤◌, ◌∙◌, ap, sym, subst, true, List, ℕ, None, Ok}
use Rattle.std.proofs.lemmas.Result.{IfOk-weaker}
use Rattle.json_tree.specs.Tree.{is_well_formed, depth_of}
use Rattle.json_tree.specs.declared.value.Json.{Json}
use Rattle.resource_types.specs.declared.manifests.Manifest.{Manifest}
use Rattle.resource_codec.specs.Reading.{Member}
use Rattle.resource_codec.specs.Shape.{shape}
use Rattle.resource_codec.specs.Written.{metadata_members, spec_members, document_json, manifest_metadata, kind_of, written}
use Rattle.resource_codec.proofs.Again.{again}
use Rattle.resource_codec.proofs.Well.{written_fits, written_deep}
use Rattle.resource_codec.proofs.encoding.encode_manifest.Goals as goal

-- a document of a manifest's parts is its written form
same_json : (m : Manifest) (a k : List ℕ) (h s : List Member) (j : Json) → a ≡ m.api → k ≡ m.kind → h ≡ metadata_members (manifest_metadata m) → s ≡ spec_members m.spec
    → j ≡ document_json (record { api = a; kind = k; metadata = h; spec = s; status = None }) → j ≡ written m
same_json m a k h s j p q r t e =
    e ∙ ap (λ (x : List ℕ). document_json (record { api = x; kind = k; metadata = h; spec = s; status = None })) p
    ∙ ap (λ (x : List ℕ). document_json (record { api = m.api; kind = x; metadata = h; spec = s; status = None })) q
    ∙ ap (λ (x : List Member). document_json (record { api = m.api; kind = m.kind; metadata = x; spec = s; status = None })) r
    ∙ ap (λ (x : List Member). document_json (record { api = m.api; kind = m.kind; metadata = metadata_members (manifest_metadata m); spec = x; status = None })) t

pub returns-clause-written : goal.returns-clause-written
returns-clause-written c =
    let m = c.args.manifest.now in
    IfOk-weaker c.document.result
    (λ (j : Json). j ≡ document_json (record { api = c.as_str-api.result.now; kind = c.as_str-kind.result.now; metadata = c.in_ok-metadata.metadata.entries; spec = c.in_ok-spec.spec.entries; status = None }))
    (λ (j : Json). j ≡ written m)
    (λ j e. same_json m c.as_str-api.result.now c.as_str-kind.result.now c.in_ok-metadata.metadata.entries c.in_ok-spec.spec.entries j c.as_str-api.ensures c.as_str-kind.ensures c.in_ok-metadata.ensures c.in_ok-spec.ensures e)
    c.document.ensures

pub returns-clause-again : goal.returns-clause-again
returns-clause-again c regular =
    let m = c.args.manifest.now in
    IfOk-weaker c.document.result (λ (j : Json). j ≡ written m) (λ (j : Json). shape (kind_of m.spec) j ≡ Ok m)
    (λ j e. ap (shape (kind_of m.spec)) e ∙ again m regular)
    (returns-clause-written c)

pub returns-clause-well : goal.returns-clause-well
returns-clause-well c w =
    let m = c.args.manifest.now in
    let fits = written_fits m w in
    IfOk-weaker c.document.result (λ (j : Json). j ≡ written m) (λ (j : Json). (is_well_formed j ≡ true) × (depth_of j ≤ 35))
    (λ j e. subst (λ (x : Json). (is_well_formed x ≡ true) × (depth_of x ≤ 35)) (sym e) (fits.well, fits.deep))
    (returns-clause-written c)

pub returns-clause-deep : goal.returns-clause-deep
returns-clause-deep c n le w r =
    let m = c.args.manifest.now in
    IfOk-weaker c.document.result (λ (j : Json). j ≡ written m) (λ (j : Json). depth_of j ≤ n)
    (λ j e. subst (λ (x : Json). depth_of x ≤ n) (sym e) (written_deep n m le w r))
    (returns-clause-written c)
