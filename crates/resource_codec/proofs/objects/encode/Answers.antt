use Rattle.std.proofs.Common.{◌≡◌, ◌≤◌, ◌∙◌, ap, sym, subst, true, Ok}
use Rattle.std.proofs.lemmas.Result.{IfOk-weaker}
use Rattle.json_tree.specs.Tree.{is_well_formed, depth_of}
use Rattle.json_tree.specs.declared.value.Json.{Json}
use Rattle.resource_types.specs.Manifests.{manifest_of}
use Rattle.resource_codec.specs.Shape.{shape}
use Rattle.resource_codec.specs.Written.{kind_of}
use Rattle.resource_codec.specs.Objects.{encoded}
use Rattle.resource_codec.proofs.Shown.{encoded_again, encoded_fits}
use Rattle.resource_codec.proofs.objects.encode.Goals as goal

pub returns-clause-again : goal.returns-clause-again
returns-clause-again c client regular =
    let o = c.args.object.now in
    IfOk-weaker c.object_json.result (λ (j : Json). j ≡ encoded o) (λ (j : Json). shape (kind_of (manifest_of o).spec) j ≡ Ok (manifest_of o))
    (λ j e. ap (shape (kind_of (manifest_of o).spec)) e ∙ encoded_again o client regular)
    c.object_json.ensures

pub returns-clause-well : goal.returns-clause-well
returns-clause-well c w =
    let o = c.args.object.now in
    let fits = encoded_fits o w in
    IfOk-weaker c.object_json.result (λ (j : Json). j ≡ encoded o) (λ (j : Json). (is_well_formed j ≡ true) × (depth_of j ≤ 40))
    (λ j e. subst (λ (x : Json). (is_well_formed x ≡ true) × (depth_of x ≤ 40)) (sym e) (fits.well, fits.deep))
    c.object_json.ensures
