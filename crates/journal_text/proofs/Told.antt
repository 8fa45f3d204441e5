-- Each entry of a lawful journal of what may be stored has a line.
use Rattle.std.proofs.Common.{◌≡◌, ◌⊎◌, inl, inr, ℕ, Bool, true, [], Some, refl, subst}
use Rattle.std.specs.List.{All}
use Rattle.std.proofs.lemmas.Option.{slice_get-get_or}
use Rattle.std.specs.List.{slice_index_or}
use Rattle.resource_types.specs.declared.names.Actor.{Actor}
use Rattle.resource_types.specs.declared.names.Actor.TheVariants.{Client}
use Rattle.resource_types.specs.declared.names.Name.{Name}
use Rattle.resource_types.specs.declared.conditions.Part.{Part}
use Rattle.resource_types.specs.declared.objects.Body.{Body}
use Rattle.resource_types.specs.declared.objects.Body.TheVariants.{Service, Configuration, Revision, Route, Health, Table}
use Rattle.resource_types.specs.declared.manifests.Manifest.{Manifest}
use Rattle.resource_types.specs.declared.objects.Object.{Object}
use Rattle.resource_types.specs.Objects.{is_of_client}
use Rattle.resource_types.specs.Lookups.{Journal}
use Rattle.resource_codec.specs.Storable.{IsStorable, AreStorable}
use Rattle.resource_codec.specs.Written.{IsWell}
use Rattle.resource_codec.proofs.Storing.{storable_spec}
use Rattle.control_rules.specs.declared.settings.Settings.{Settings}
use Rattle.control_rules.specs.Slots.{ObjectEntry, state_at}
use Rattle.control_rules.specs.Lawful.{PutsObject, RemovesObject, RemovesRevision, IsLawfulAs, IsLawful}
use Rattle.journal_text.specs.Lines.{unversioned, body_line}
use Rattle.journal_text.specs.Texts.{IsTold}

-- the manifest of what is stored is written well
pub unversioned_well : (o : Object) → IsStorable o → IsWell (unversioned o)
unversioned_well o h = record { labels = h.labels; annotations = h.annotations; spec = storable_spec o h }

-- a body that is no Health has no members
pub other_body : (moment : ℕ) (n : Name) (b : Body) → ((uid : ℕ) (r p : Part) (ever : Bool) → ¬ (b ≡ Health uid r p ever)) → body_line moment n b ≡ []
other_body moment n (Service template traffic status) other = refl
other_body moment n (Configuration template status) other = refl
other_body moment n (Revision pod generation pins active status) other = refl
other_body moment n (Route traffic status) other = refl
other_body moment n (Health uid r p ever) other = absurd (other uid r p ever refl)
other_body moment n (Table route rows targets) other = refl

module _ (is_good : Manifest → Bool) (settings : Settings) where
  -- what a client put is of a kind that clients write
  client_put : (j : Journal) (n : ℕ) (e : ObjectEntry) (o : Object) → e.object ≡ Some o
      → PutsObject is_good (state_at j n) e ⊎ (RemovesObject (state_at j n) e ⊎ RemovesRevision (state_at j n) e) → is_of_client o ≡ true
  client_put j n e o is (inl puts) = let same : puts.object ≡ o = (let p = puts.puts in cc) in subst (λ x. is_of_client x ≡ true) same puts.client
  client_put j n e o is (inr (inl removes)) = let p = removes.removes in absurd cc
  client_put j n e o is (inr (inr removes)) = let p = removes.removes in absurd cc

  of_client : (j : Journal) (n : ℕ) (e : ObjectEntry) (o : Object) (a : Actor) → e.actor ≡ Client → e.actor ≡ a → e.object ≡ Some o
      → IsLawfulAs is_good settings a j n e → is_of_client o ≡ true
  of_client j n e o Client by same is lawful = client_put j n e o is lawful.1
  of_client j n e o other by same is lawful = absurd cc

  -- each entry of a lawful journal of what may be stored has a line
  pub all_told : (j : Journal) → IsLawful is_good settings j → AreStorable j → All IsTold j
  all_told j lawful storable k d lt object by is =
      let e : ObjectEntry = slice_index_or j k d in
      (of_client j k e object e.actor by refl is (lawful.entries k e (slice_get-get_or j k d lt)), storable k d lt object is)
