-- What controllers make of what may be stored may be stored, too, and so may whatever changes only a status or pins.
use Rattle.std.proofs.Common.{◌≡◌, ℕ, Bool, true, false, cond, not, List, [], ◌∷◌, Option, Some, None, refl, sym, ◌∙◌, arith}
use Rattle.std.specs.Prelude.{filter, codes, decimal}
use Rattle.std.specs.Ordering.{nat_cmp, is_lt}
use Rattle.std.specs.Cmp.Lexicographic.{slice_cmp}
use Rattle.std.proofs.lemmas.Bool.{and_parts, and_from}
use Rattle.json_tree.specs.Tree.{names_of, names_rise, is_before_all, put_entry}
use Rattle.json_tree.proofs.Rising.{rises-put_entry}
use Rattle.version_store.specs.declared.item.Stamp.{Stamp}
use Rattle.resource_types.specs.declared.names.Kind.{Kind}
use Rattle.resource_types.specs.declared.names.Kind.TheVariants as kind
use Rattle.resource_types.specs.declared.names.Name.{Name}
use Rattle.resource_types.specs.declared.metadata.Owner.{Owner}
use Rattle.resource_types.specs.declared.specification.PodSpec.{PodSpec}
use Rattle.resource_types.specs.declared.specification.Template.{Template}
use Rattle.resource_types.specs.declared.conditions.Part.{Part}
use Rattle.resource_types.specs.declared.status.ObjectStatus.{ObjectStatus}
use Rattle.resource_types.specs.declared.objects.Body.{Body}
use Rattle.resource_types.specs.declared.objects.Body.TheVariants.{Service, Configuration, Revision, Route, Health, Table as Published}
use Rattle.resource_types.specs.declared.objects.Object.{Object}
use Rattle.resource_types.specs.Objects.{kind_of_body}
use Rattle.resource_types.specs.Spec.{stamped}
use Rattle.resource_types.specs.Manifests.{manifest_spec}
use Rattle.resource_codec.specs.Written.{IsWellTemplate, IsWellRest}
use Rattle.resource_codec.specs.Objects.{IsClientBody, IsWellBody}
use Rattle.resource_codec.specs.Sound.{RestFits, RestOfSpecFits, SpecRises}
use Rattle.resource_codec.specs.Views.{IsShown}
use Rattle.control_rules.specs.Standing.{key_at, listed, template_of, with_status, with_pins}
use Rattle.control_entries.proofs.Bodies.{kind-with_status, kind-with_pins}
use Rattle.control_rules.specs.Differences.{new_object, no_labels, service_label, rebodied}
use Rattle.control_rules.specs.NextConfiguration.{without_shown, shown_names, with_service, with_owner, revision_labels, revision_annotations, made_revision}
use Rattle.control_rules.specs.Lawful.{asked_of}
use Rattle.control_rules.specs.Steps.{health_of}
use Rattle.manifest_intake.specs.Good.{IsGood}
use Rattle.resource_codec.specs.Storable.{IsStorableTemplate, IsStorableBody, IsStorable}

-- ---- a Revision of a good Configuration

module _ {A : Type 0} (test : (List ℕ × A) → Bool) where
  before_kept : (k : List ℕ) (es : List (List ℕ × A)) → is_before_all k (names_of es) ≡ true → is_before_all k (names_of (filter test es)) ≡ true
  before_kept k [] h = refl
  before_kept k (e ∷ es) h = (let p = and_parts (is_lt (slice_cmp nat_cmp k e.0)) (is_before_all k (names_of es)) h in go (test e) p.0 (before_kept k es p.1))
    where
      go : (b : Bool) → is_lt (slice_cmp nat_cmp k e.0) ≡ true → is_before_all k (names_of (filter test es)) ≡ true
          → is_before_all k (names_of (cond b (e ∷ filter test es) (filter test es))) ≡ true
      go true first ih = and_from _ _ first ih
      go false first ih = ih

  -- of names that rise, those that are left rise
  filter_rises : (es : List (List ℕ × A)) → names_rise (names_of es) ≡ true → names_rise (names_of (filter test es)) ≡ true
  filter_rises [] h = refl
  filter_rises (e ∷ es) h = (let p = and_parts (is_before_all e.0 (names_of es)) (names_rise (names_of es)) h in go (test e) (before_kept e.0 es p.0) (filter_rises es p.1))
    where
      go : (b : Bool) → is_before_all e.0 (names_of (filter test es)) ≡ true → names_rise (names_of (filter test es)) ≡ true
          → names_rise (names_of (cond b (e ∷ filter test es) (filter test es))) ≡ true
      go true first ih = and_from _ _ first ih
      go false first ih = ih

-- labels without the names that are shown rise
left_rises : (es : List (List ℕ × List ℕ)) → names_rise (names_of es) ≡ true → names_rise (names_of (without_shown es)) ≡ true
left_rises es h = filter_rises (λ (e : List ℕ × List ℕ). not (listed e.0 shown_names)) es h

numbered_rises : (name number : List ℕ) (es : List (List ℕ × List ℕ)) → names_rise (names_of es) ≡ true
    → names_rise (names_of (put_entry (codes "serving.knative.dev/configurationGeneration") number (put_entry (codes "serving.knative.dev/configuration") name es))) ≡ true
numbered_rises name number es h =
    rises-put_entry (codes "serving.knative.dev/configurationGeneration") number (put_entry (codes "serving.knative.dev/configuration") name es)
    (rises-put_entry (codes "serving.knative.dev/configuration") name es h)

service_rises : (k : Kind) (name : List ℕ) (es : List (List ℕ × List ℕ)) → names_rise (names_of es) ≡ true → names_rise (names_of (with_service k name es)) ≡ true
service_rises kind.Service name es h = rises-put_entry service_label name es h
service_rises kind.Configuration name es h = h
service_rises kind.Revision name es h = h
service_rises kind.Route name es h = h
service_rises kind.Health name es h = h
service_rises kind.Table name es h = h

owner_rises : (w : Option Owner) (es : List (List ℕ × List ℕ)) → names_rise (names_of es) ≡ true → names_rise (names_of (with_owner w es)) ≡ true
owner_rises None es h = h
owner_rises (Some w) es h = service_rises w.kind w.name es h

template_storable : (b : Body) → kind_of_body b ≡ kind.Configuration → IsStorableBody b → IsStorableTemplate (template_of b)
template_storable (Service template traffic status) e h = h
template_storable (Configuration template status) e h = h
template_storable (Revision pod generation pins active status) e h = absurd cc
template_storable (Route traffic status) e h = absurd cc
template_storable (Health uid resources container ever) e h = absurd cc
template_storable (Published route rows targets) e h = absurd cc

-- the labels of a Configuration's Revision, before its Service is named
abbrev numbered_labels : Object → List (List ℕ × List ℕ)
numbered_labels c =
    put_entry (codes "serving.knative.dev/configurationGeneration") (decimal c.meta.stamp.generation)
    (put_entry (codes "serving.knative.dev/configuration") c.key.name.name (without_shown (template_of c.body).labels.entries))

-- the Revision that is made of a Configuration may be stored, where the Configuration may
pub revision_storable : (c : Object) → kind_of_body c.body ≡ kind.Configuration → IsStorable c → IsStorable (made_revision c)
unfolding revision_labels revision_annotations
revision_storable c e h =
    let t = template_storable c.body e h.body in
    record {
      kind = refl;
      labels = owner_rises c.meta.owner (numbered_labels c) (numbered_rises c.key.name.name (decimal c.meta.stamp.generation) (without_shown (template_of c.body).labels.entries) (left_rises (template_of c.body).labels.entries t.labels));
      annotations = left_rises (template_of c.body).annotations.entries t.annotations;
      body = t.rest;
    }

-- ---- changes of what is stored

body_stated : (s : ObjectStatus) (b : Body) → IsStorableBody b → IsStorableBody (with_status s b)
body_stated s (Service template traffic status) h = h
body_stated s (Configuration template status) h = h
body_stated s (Revision pod generation pins active status) h = h
body_stated s (Route traffic status) h = h
body_stated s (Health uid resources container ever) h = h
body_stated s (Published route rows targets) h = h

-- with another status
pub stated_storable : (o : Object) (s : ObjectStatus) → IsStorable o → IsStorable (rebodied o (with_status s o.body))
stated_storable o s h = record { kind = kind-with_status s o.body ∙ h.kind; labels = h.labels; annotations = h.annotations; body = body_stated s o.body h.body }

body_pinned : (pins : List (List ℕ)) (moment : Option ℕ) (b : Body) → IsStorableBody b → IsStorableBody (with_pins pins moment b)
body_pinned pins moment (Service template traffic status) h = h
body_pinned pins moment (Configuration template status) h = h
body_pinned pins moment (Revision pod generation old active status) h = h
body_pinned pins moment (Route traffic status) h = h
body_pinned pins moment (Health uid resources container ever) h = h
body_pinned pins moment (Published route rows targets) h = h

-- with other pins
pub pinned_storable : (o : Object) (pins : List (List ℕ)) (moment : Option ℕ) → IsStorable o → IsStorable (rebodied o (with_pins pins moment o.body))
pinned_storable o pins moment h = record { kind = kind-with_pins pins moment o.body ∙ h.kind; labels = h.labels; annotations = h.annotations; body = body_pinned pins moment o.body h.body }

body_of_table : (b : Body) → kind_of_body b ≡ kind.Table → IsStorableBody b
body_of_table (Service template traffic status) e = absurd cc
body_of_table (Configuration template status) e = absurd cc
body_of_table (Revision pod generation pins active status) e = absurd cc
body_of_table (Route traffic status) e = tt
body_of_table (Health uid resources container ever) e = tt
body_of_table (Published route rows targets) e = tt

-- a Table that is made, and one that stands with another body
pub table_storable : (r : Name) (b : Body) → kind_of_body b ≡ kind.Table → IsStorable (new_object (key_at kind.Table r) None no_labels no_labels b)
table_storable r b e = record { kind = e; labels = refl; annotations = refl; body = body_of_table b e }

pub tabled_storable : (o : Object) (b : Body) → kind_of_body b ≡ kind.Table → o.key.kind ≡ kind.Table → IsStorable o → IsStorable (rebodied o b)
tabled_storable o b e k h = record { kind = e ∙ sym k; labels = h.labels; annotations = h.annotations; body = body_of_table b e }

-- a Health that is reported
pub health_storable : (name : Name) (uid : ℕ) (resources container : Part) (old : Option Object) → IsStorable (health_of name uid resources container old)
health_storable name uid resources container old = record { kind = refl; labels = refl; annotations = refl; body = tt }
