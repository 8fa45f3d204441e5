-- What a round does to what is left: all of it, for the theorems.
use Rattle.std.proofs.Common.{◌≡◌, ◌≢◌, ◌⊎◌, inl, inr, ℕ, suc, ◌+◌, ◌≤◌, refl, sym, ap, ◌∙◌, subst, arith}
use Rattle.resource_types.specs.declared.names.Kind.{Kind}
use Rattle.resource_types.specs.declared.names.Kind.TheVariants as kind
use Rattle.resource_types.specs.declared.names.Controller.{Controller}
use Rattle.resource_types.specs.declared.names.Controller.TheVariants as controller
use Rattle.resource_types.specs.declared.names.Name.{Name}
use Rattle.resource_types.specs.declared.names.SlotKey.{SlotKey}
use Rattle.resource_types.specs.Lookups.{State}
use Rattle.control_rules.specs.declared.settings.Settings.{Settings}
use Rattle.control_rules.specs.Slots.{slot_key}
use Rattle.control_rules.specs.Standing.{key_at, standing}
use Rattle.control_settle.specs.Burden.{burden}
use Rattle.control_settle.specs.Left.{left}
use Rattle.control_entries.proofs.Standing.{key_or_not}
use Rattle.control_entries.proofs.Changes.{here_is}
use Rattle.control_settle.proofs.Effects.{Act, keeper}
use Rattle.control_settle.proofs.Burdens.{no_heavier}
use Rattle.control_settle.proofs.Rests.{service_rests, configuration_rests, revision_rests}
use Rattle.control_settle.proofs.Grounded.{ahead_most}
use Rattle.control_settle.proofs.Aheads.{own, ahead_stays, ahead_rests}
use Rattle.control_settle.proofs.Lefts.{left_most}
use Rattle.control_settle.proofs.Leaving.{left_others}
use Rattle.control_settle.proofs.Owning.{left_own, own_table, left_rests}
use Rattle.control_settle.proofs.Pinning.{table_same}
use Rattle.control_settle.proofs.Waving.{Quiet, Lighter, States, quiet, revision_told, revision_stays, no_revision, configuration_told, configuration_stays, no_configuration, service_told, service_stays, idle}
use Rattle.control_settle.proofs.Settling.{Fixed, Done, RevisionRight, ConfigurationRight, ServiceRight, Rounds}

kept_by_revision : (k : Kind) → controller.Revision ≡ keeper k → k ≡ kind.Revision
kept_by_revision kind.Service e = absurd cc
kept_by_revision kind.Configuration e = absurd cc
kept_by_revision kind.Revision e = refl
kept_by_revision kind.Route e = absurd cc
kept_by_revision kind.Health e = absurd cc
kept_by_revision kind.Table e = absurd cc

kept_by_configuration : (k : Kind) → controller.Configuration ≡ keeper k → k ≡ kind.Configuration
kept_by_configuration kind.Service e = absurd cc
kept_by_configuration kind.Configuration e = refl
kept_by_configuration kind.Revision e = absurd cc
kept_by_configuration kind.Route e = absurd cc
kept_by_configuration kind.Health e = absurd cc
kept_by_configuration kind.Table e = absurd cc

kept_by_service : (k : Kind) → controller.Service ≡ keeper k → k ≡ kind.Service
kept_by_service kind.Service e = refl
kept_by_service kind.Configuration e = absurd cc
kept_by_service kind.Revision e = absurd cc
kept_by_service kind.Route e = absurd cc
kept_by_service kind.Health e = absurd cc
kept_by_service kind.Table e = absurd cc

module _ (settings : Settings) (now : ℕ) where
  left_sum : (key : SlotKey) (n : ℕ) (a b : State) → Act settings now n key a b → Fixed settings.domain a → (r : Name) → left settings.domain b r + burden b ≤ left settings.domain a r + burden a
  left_sum key n a b act fixed r = go key.controller refl (key_or_not (key_at kind.Route key.name) (key_at kind.Route r))
    where
      go : (c : Controller) → key.controller ≡ c → (key_at kind.Route key.name ≡ key_at kind.Route r) ⊎ (key_at kind.Route key.name ≢ key_at kind.Route r) → left settings.domain b r + burden b ≤ left settings.domain a r + burden a
      go c e (inr apart) = left_others settings now key n a b act fixed.calm r (λ _ q. apart (ap (key_at kind.Route) q))
      go controller.Route e (inl q) =
          let z = left_own settings now r n a b (subst (λ k. Act settings now n k a b) (λ i. record { controller = e i; name = (ap (λ k. k.name) q) i }) act) fixed in
          let w = no_heavier settings n now key.controller key.name a b act.before act.after act.order act.effect act.effect in
          omega arith
      go controller.Service e (inl q) = left_others settings now key n a b act fixed.calm r (λ f. absurd (let z = sym e ∙ f in cc))
      go controller.Configuration e (inl q) = left_others settings now key n a b act fixed.calm r (λ f. absurd (let z = sym e ∙ f in cc))
      go controller.Revision e (inl q) = left_others settings now key n a b act fixed.calm r (λ f. absurd (let z = sym e ∙ f in cc))
      go controller.Collector e (inl q) = left_others settings now key n a b act fixed.calm r (λ f. absurd (let z = sym e ∙ f in cc))

  tables : (key : SlotKey) (n : ℕ) (a b : State) → Act settings now n key a b → Fixed settings.domain a → (r : Name) → standing kind.Table r b ≡ standing kind.Table r a
  tables key n a b act fixed r = go key.controller refl (key_or_not (key_at kind.Route key.name) (key_at kind.Route r))
    where
      go : (c : Controller) → key.controller ≡ c → (key_at kind.Route key.name ≡ key_at kind.Route r) ⊎ (key_at kind.Route key.name ≢ key_at kind.Route r) → standing kind.Table r b ≡ standing kind.Table r a
      go c e (inr apart) = table_same settings n now key.controller key.name a b r (λ _ q. apart (ap (key_at kind.Route) q)) act.effect
      go controller.Route e (inl q) = own_table settings now r n a b (subst (λ k. Act settings now n k a b) (λ i. record { controller = e i; name = (ap (λ k. k.name) q) i }) act) fixed
      go controller.Service e (inl q) = table_same settings n now key.controller key.name a b r (λ f. absurd (let z = sym e ∙ f in cc)) act.effect
      go controller.Configuration e (inl q) = table_same settings n now key.controller key.name a b r (λ f. absurd (let z = sym e ∙ f in cc)) act.effect
      go controller.Revision e (inl q) = table_same settings n now key.controller key.name a b r (λ f. absurd (let z = sym e ∙ f in cc)) act.effect
      go controller.Collector e (inl q) = table_same settings n now key.controller key.name a b r (λ f. absurd (let z = sym e ∙ f in cc)) act.effect

  revision_acts : (q : Name) (n : ℕ) (a b : State) (act : Act settings now n (slot_key controller.Revision q) a b) (fixed : Fixed settings.domain a) (done : Done settings.domain a) → (suc (burden b) ≤ burden a) ⊎ RevisionRight q b
  revision_acts q n a b act fixed done = go (quiet settings now (slot_key controller.Revision q) n a b act fixed done)
    where
      go : Quiet settings n now controller.Revision q a b → (suc (burden b) ≤ burden a) ⊎ RevisionRight q b
      go (Lighter l) = inl l
      go (States k o is other d at differs h) = inr (λ x e. revision_told settings now (slot_key controller.Revision q) n a b act fixed done k o x (kept_by_revision k d) is at (here_is _ _ a b h kind.Revision q x e (ap (λ z. key_at z q) (kept_by_revision k d))))

  configuration_acts : (q : Name) (n : ℕ) (a b : State) (act : Act settings now n (slot_key controller.Configuration q) a b) (fixed : Fixed settings.domain a) (done : Done settings.domain a) → ((q : Name) → RevisionRight q a) → (suc (burden b) ≤ burden a) ⊎ ConfigurationRight q b
  configuration_acts q n a b act fixed done rr = go (quiet settings now (slot_key controller.Configuration q) n a b act fixed done)
    where
      go : Quiet settings n now controller.Configuration q a b → (suc (burden b) ≤ burden a) ⊎ ConfigurationRight q b
      go (Lighter l) = inl l
      go (States k o is other d at differs h) = inr (λ x e. configuration_told settings now (slot_key controller.Configuration q) n a b act fixed done k o x (kept_by_configuration k d) (no_revision settings now (slot_key controller.Configuration q) n a b act fixed done k o rr at differs) is at (here_is _ _ a b h kind.Configuration q x e (ap (λ z. key_at z q) (kept_by_configuration k d))) h)

  service_acts : (q : Name) (n : ℕ) (a b : State) (act : Act settings now n (slot_key controller.Service q) a b) (fixed : Fixed settings.domain a) (done : Done settings.domain a) → ((q : Name) → RevisionRight q a) → ((q : Name) → ConfigurationRight q a) → (suc (burden b) ≤ burden a) ⊎ ServiceRight q b
  service_acts q n a b act fixed done rr cr = go (quiet settings now (slot_key controller.Service q) n a b act fixed done)
    where
      go : Quiet settings n now controller.Service q a b → (suc (burden b) ≤ burden a) ⊎ ServiceRight q b
      go (Lighter l) = inl l
      go (States k o is other d at differs h) = inr (λ x e. service_told settings now (slot_key controller.Service q) n a b act fixed done k o x (kept_by_service k d) (no_configuration settings now (slot_key controller.Service q) n a b act fixed done k o cr at differs) other is at (here_is _ _ a b h kind.Service q x e (ap (λ z. key_at z q) (kept_by_service k d))) h)

  pub rounds : Rounds settings now
  rounds = record {
    ahead_stays = ahead_stays settings now;
    ahead_acts = λ r n a b act calm. own settings now r n a b act calm;
    ahead_rests = λ r n a sound order e calm. ahead_rests settings now r a e;
    ahead_most = λ n a r sound. ahead_most settings.domain n a r sound;
    left_sum = left_sum;
    left_acts = λ r n a b act fixed. let z = left_own settings now r n a b act fixed in omega arith;
    left_rests = λ r n a sound order e fixed. left_rests settings now r a e;
    tables = tables;
    left_most = λ n a r sound. left_most settings.domain a r;
    revision_acts = revision_acts;
    revision_rests = λ q n a e v at. revision_rests settings now a q v e at;
    revision_stays = λ key n a b act fixed done q was. revision_stays settings now key n a b act fixed done q was;
    configuration_acts = configuration_acts;
    configuration_rests = λ q n a e o at. (configuration_rests settings now a q o e at).told;
    configuration_stays = λ key n a b act fixed done rr q was. configuration_stays settings now key n a b act fixed done rr q was;
    service_acts = service_acts;
    service_rests = λ q n a e s at. (service_rests settings now a q s e at).told;
    service_stays = λ key n a b act fixed done rr cr q was. service_stays settings now key n a b act fixed done rr cr q was;
    idle = λ key n a b act fixed done rr cr sr. idle settings now key n a b act fixed done rr cr sr;
  }
