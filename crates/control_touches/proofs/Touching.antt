-- Nothing becomes due to a key that no entry touches.
use Rattle.std.proofs.Common.{◌≡◌, ℕ, false, List, None, ◌∙◌}
use Rattle.resource_types.specs.declared.names.Controller.{Controller}
use Rattle.resource_types.specs.declared.names.Controller.TheVariants as controller
use Rattle.resource_types.specs.declared.names.Name.{Name}
use Rattle.resource_types.specs.declared.names.SlotKey.{SlotKey}
use Rattle.resource_types.specs.Lookups.{State}
use Rattle.control_rules.specs.declared.settings.Settings.{Settings}
use Rattle.control_rules.specs.Next.{next_of, next_write}
use Rattle.control_rules.specs.Slots.{ObjectEntry, slot_key}
use Rattle.control_touches.specs.Touches.{is_touched_by}
use Rattle.control_touches.specs.Named.{AreNamed}
use Rattle.control_touches.proofs.Paths.{after, ArePuts}
use Rattle.control_touches.proofs.Services.{service_kept}
use Rattle.control_touches.proofs.Configurations.{configuration_kept}
use Rattle.control_touches.proofs.Revisions.{revision_kept}
use Rattle.control_touches.proofs.Collectors.{collector_kept}
use Rattle.control_touches.proofs.Routes.{route_kept}

module _ (settings : Settings) (st : State) (es : List ObjectEntry) (puts : ArePuts es) (named : AreNamed st) (now_named : AreNamed (after st es)) where
  pub next_kept : (pick : SlotKey) (now : ℕ) → is_touched_by (after st es) st es pick ≡ false → next_write settings pick st now ≡ None → next_write settings pick (after st es) now ≡ None
  unfolding next_write
  next_kept pick now calm h = go pick.controller pick.name calm h
    where
      go : (c : Controller) (n : Name) → is_touched_by (after st es) st es (slot_key c n) ≡ false → next_of settings c n st now ≡ None → next_of settings c n (after st es) now ≡ None
      go controller.Service n t h = service_kept (after st es) st es puts n now t ∙ h
      go controller.Configuration n t h = configuration_kept (after st es) st es puts n named now_named t now ∙ h
      go controller.Revision n t h = revision_kept (after st es) st es puts n named now_named t now h
      go controller.Collector n t h = collector_kept (after st es) st es puts n named now_named t settings.gc now ∙ h
      go controller.Route n t h = route_kept st es puts n named now_named t settings.domain now h
