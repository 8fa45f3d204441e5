-- Objects of one uid are of one making, and Revisions of one owner differ in generation.
use Rattle.serve_names.specs.Generated.{generated_bytes}
use Rattle.std.proofs.Common.{◌≡◌, ◌⊎◌, inl, inr, ℕ, ◌≤◌, ◌<◌, Bool, List, length, Some, refl, sym, ap, ◌∙◌, subst, arith, cond}
use Rattle.std.proofs.lemmas.Bool.{cases_lt}
use Rattle.version_store.proofs.Standing.{distinct_uids, stands_since}
use Rattle.resource_types.specs.declared.names.Kind.TheVariants as kind
use Rattle.resource_types.specs.declared.names.Name.{Name}
use Rattle.resource_types.specs.declared.names.Key.{Key}
use Rattle.resource_types.specs.declared.metadata.Owner.{Owner}
use Rattle.resource_types.specs.declared.specification.Template.{Template}
use Rattle.resource_types.specs.declared.objects.Body.{Body}
use Rattle.resource_types.specs.declared.objects.Body.TheVariants.{Service}
use Rattle.resource_types.specs.declared.objects.Object.{Object}
use Rattle.resource_types.specs.declared.manifests.Manifest.{Manifest}
use Rattle.resource_types.specs.contracts.names.KeyOrd.TheImpl as key_order
use Rattle.resource_types.specs.contracts.names.KeyOrd.TheImpl.Laws as key_laws
use Rattle.resource_types.specs.contracts.item.ObjectItem.TheImpl as object_item
use Rattle.resource_types.specs.Spec.{spec_of}
use Rattle.resource_types.specs.Lookups.{Journal, find, is_empty}
use Rattle.resource_types.proofs.Exact.{key-exact, spec-exact}
use Rattle.control_rules.specs.declared.settings.Settings.{Settings}
use Rattle.control_rules.specs.Standing.{beside, key_at, standing, template_of}
use Rattle.control_rules.specs.Readings.{simple_revision_name, revision_name}
use Rattle.control_rules.specs.Slots.{state_at}
use Rattle.control_rules.specs.Lawful.{IsLawful}
use Rattle.control_rules.specs.Facts.{HaveDistinctUids, HaveDistinctGenerations}
use Rattle.control_rules.specs.FurtherFacts.{Stood, WasMade}
use Rattle.control_entries.proofs.Tests.{some_same, name_same}
use Rattle.control_entries.proofs.Standing.{stands}
use Rattle.control_entries.proofs.Stamps.{IsNumbered, numbered, stood}
use Rattle.control_safety.proofs.Owners.{revision_made}

template-spec : (b : Body) → template_of (spec_of b) ≡ template_of b
template-spec (Service t ts s) = refl
template-spec _ = refl

module _ {is_good : Manifest → Bool} {settings : Settings} {j : Journal} (lawful : IsLawful is_good settings j) where
  -- objects of one uid have one key
  pub one_key : (m n : ℕ) (a b : Key) (o p : Object) → m ≤ length j → n ≤ length j → find a (state_at j m) ≡ Some o → find b (state_at j n) ≡ Some p
      → o.meta.stamp.uid ≡ p.meta.stamp.uid → a ≡ b
  one_key m n a b o p lm ln at bt u = key-exact a b (distinct_uids object_item.ghosts key_order.ghosts.cmp key_laws.total-law j lawful.stamps m n lm ln a b o p at bt u)

  one_creation : (m n : ℕ) (k : Key) (o p : Object) → m ≤ n → n ≤ length j → find k (state_at j m) ≡ Some o → find k (state_at j n) ≡ Some p
      → o.meta.stamp.uid ≡ p.meta.stamp.uid → o.meta.stamp.created ≡ p.meta.stamp.created
  one_creation m n k o p le len at bt u =
      (let w : IsNumbered j m o = numbered lawful m (omega arith) k o at in
      let since = stands_since object_item.ghosts key_order.ghosts.cmp key_laws.total-law j lawful.stamps n len k p bt m (let a = w.uid in let b = w.version in omega arith) le in
      ap (λ (z : Object). z.meta.stamp.created) (some_same (sym at ∙ since.found)) ∙ since.created)

  -- objects of one uid have one key and one creation
  pub distinct : HaveDistinctUids j
  distinct m n a b o p lm ln at bt u = (one_key m n a b o p lm ln at bt u, go (cases_lt m n))
    where
      key : a ≡ b
      key = one_key m n a b o p lm ln at bt u

      go : (m < n) ⊎ (n ≤ m) → o.meta.stamp.created ≡ p.meta.stamp.created
      go (inl l) = one_creation m n b o p (omega arith) ln (subst (λ k. find k (state_at j m) ≡ Some o) key at) bt u
      go (inr l) = sym (one_creation n m b p o l lm bt (subst (λ k. find k (state_at j m) ≡ Some o) key at) (sym u))

  -- two Configurations of one uid and one generation name their Revisions alike
  makers_alike : (a b : ℕ) → a ≤ b → b ≤ length j → (k l : Name) (c d : Object) → standing kind.Configuration k (state_at j a) ≡ Some c
      → standing kind.Configuration l (state_at j b) ≡ Some d
      → c.meta.stamp.uid ≡ d.meta.stamp.uid → c.meta.stamp.generation ≡ d.meta.stamp.generation → revision_name c ≡ revision_name d
  unfolding revision_name
  makers_alike a b le len k l c d ct dt u g = λ i. beside (names i) (simple i)
    where
      first : find (key_at kind.Configuration k) (state_at j a) ≡ Some c
      first = (stands kind.Configuration k (state_at j a) c ct).found

      second : find (key_at kind.Configuration l) (state_at j b) ≡ Some d
      second = (stands kind.Configuration l (state_at j b) d dt).found

      key : key_at kind.Configuration k ≡ key_at kind.Configuration l
      key = one_key a b _ _ c d (omega arith) len first second u

      names : c.key.name ≡ d.key.name
      names = name_same ((stands kind.Configuration k (state_at j a) c ct).key ∙ key ∙ sym (stands kind.Configuration l (state_at j b) d dt).key)

      was : Stood j a (key_at kind.Configuration l) d
      was = stood lawful b len (key_at kind.Configuration l) d second a (let w = numbered lawful a (omega arith) (key_at kind.Configuration k) c first in let x = w.uid in let y = w.version in omega arith) le

      same : was.then ≡ c
      same = some_same (sym was.stands ∙ ap (λ z. find z (state_at j a)) (sym key) ∙ first)

      templates : template_of c.body ≡ template_of d.body
      templates =
          ap (λ (z : Object). template_of z.body) (sym same)
          ∙ sym (template-spec was.then.body) ∙ ap template_of (spec-exact was.then d (was.spec (ap (λ (z : Object). z.meta.stamp.generation) same ∙ g))) ∙ template-spec d.body

      simple : simple_revision_name c ≡ simple_revision_name d
      simple = λ i. named (templates i) (ap (λ (z : Name). z.name) names i) (g i)
        where
          named : Template → List ℕ → ℕ → List ℕ
          named t name generation = cond (is_empty t.name) (generated_bytes name generation) t.name

  -- two Revisions of one owner and one generation are one
  pub distinct_generations : (n : ℕ) → n ≤ length j → HaveDistinctGenerations j n
  distinct_generations n len v w o p x y at bt ox py u g = sym (name v o at) ∙ named ∙ name w p bt
    where
      a : WasMade j n o
      a = revision_made lawful n v o len at

      b : WasMade j n p
      b = revision_made lawful n w p len bt

      name : (v : Name) (o : Object) → standing kind.Revision v (state_at j n) ≡ Some o → o.key.name ≡ v
      name v o at = name_same (stands kind.Revision v (state_at j n) o at).key

      uids : a.maker.meta.stamp.uid ≡ b.maker.meta.stamp.uid
      uids = ap (λ (z : Owner). z.uid) (some_same (sym a.owner ∙ ox)) ∙ u ∙ ap (λ (z : Owner). z.uid) (some_same (sym py ∙ b.owner))

      generations : a.maker.meta.stamp.generation ≡ b.maker.meta.stamp.generation
      generations = sym a.generation ∙ g ∙ b.generation

      named : o.key.name ≡ p.key.name
      named = a.named ∙ go (cases_lt a.place b.place) ∙ sym b.named
        where
          go : (a.place < b.place) ⊎ (b.place ≤ a.place) → revision_name a.maker ≡ revision_name b.maker
          go (inl l) = makers_alike a.place b.place (omega arith) (let z = b.before in omega arith) a.name b.name a.maker b.maker a.stands b.stands uids generations
          go (inr l) = sym (makers_alike b.place a.place l (let z = a.before in omega arith) b.name a.name b.maker a.maker b.stands a.stands (sym uids) (sym generations))
