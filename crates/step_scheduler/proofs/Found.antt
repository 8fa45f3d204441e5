-- The keys of all controllers that pass a test are those of each, one controller behind the other.
use Rattle.std.proofs.Common.{◌≡◌, Bool, List, [], ◌++◌, sym, ap, ◌∙◌}
use Rattle.std.specs.List.{filter}
use Rattle.std.proofs.lemmas.List.{append_assoc}
use Rattle.std.proofs.lemmas.List.Elements.{filter-append}
use Rattle.resource_types.specs.declared.names.Controller.{Controller}
use Rattle.resource_types.specs.declared.names.Controller.TheVariants as controller
use Rattle.resource_types.specs.declared.names.SlotKey.{SlotKey}
use Rattle.resource_types.specs.Lookups.{State}
use Rattle.control_rules.specs.Slots.{keys_for, all_keys}

module _ (p : SlotKey → Bool) (st : State) where
  -- those of a controller
  abbrev found : Controller → List SlotKey
  found c = filter p (keys_for c st)

  found_each : filter p (all_keys st) ≡ found controller.Service ++ (found controller.Configuration ++ (found controller.Revision ++ (found controller.Collector ++ found controller.Route)))
  unfolding all_keys
  found_each =
      filter-append p (keys_for controller.Service st) _
      ∙ ap (λ ks. found controller.Service ++ ks) (filter-append p (keys_for controller.Configuration st) _
      ∙ ap (λ ks. found controller.Configuration ++ ks) (filter-append p (keys_for controller.Revision st) _
      ∙ ap (λ ks. found controller.Revision ++ ks) (filter-append p (keys_for controller.Collector st) (keys_for controller.Route st))))

  -- a list that took those of each controller in, in order
  pub found_all : (services configurations revisions collectors routes : List SlotKey) → services ≡ [] ++ found controller.Service → configurations ≡ services ++ found controller.Configuration → revisions ≡ configurations ++ found controller.Revision → collectors ≡ revisions ++ found controller.Collector → routes ≡ collectors ++ found controller.Route
      → routes ≡ filter p (all_keys st)
  found_all services configurations revisions collectors routes s c r g t =
      t ∙ ap (λ ks. ks ++ found controller.Route) (g ∙ ap (λ ks. ks ++ found controller.Collector) (r ∙ ap (λ ks. ks ++ found controller.Revision) (c ∙ ap (λ ks. ks ++ found controller.Configuration) s)))
      ∙ append_assoc (found controller.Service ++ found controller.Configuration ++ found controller.Revision) (found controller.Collector) (found controller.Route)
      ∙ append_assoc (found controller.Service ++ found controller.Configuration) (found controller.Revision) _
      ∙ append_assoc (found controller.Service) (found controller.Configuration) _
      ∙ sym found_each
