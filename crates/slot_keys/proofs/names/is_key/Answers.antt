use Rattle.std.proofs.Common.{◌∙◌}
use Rattle.resource_types.specs.Lookups.{state}
use Rattle.slot_keys.proofs.Named.{key_of_service, key_of_configuration, key_of_revision, key_of_collector, key_of_route}
use Rattle.slot_keys.proofs.names.is_key.Goals as goal

pub returns-in-Service : goal.returns-in-Service
returns-in-Service c = c.stands.ensures ∙ key_of_service c.args.key.now (state c.args.store.now.entries) c.in-Service.is

pub returns-in-Configuration : goal.returns-in-Configuration
returns-in-Configuration c = c.stands-in-Configuration.ensures ∙ key_of_configuration c.args.key.now (state c.args.store.now.entries) c.in-Configuration.is

pub returns-in-Revision : goal.returns-in-Revision
returns-in-Revision c = c.stands-in-Revision.ensures ∙ key_of_revision c.args.key.now (state c.args.store.now.entries) c.in-Revision.is

pub returns-in-Collector : goal.returns-in-Collector
returns-in-Collector c = c.stands-in-Collector.ensures ∙ key_of_collector c.args.key.now (state c.args.store.now.entries) c.in-Collector.is

pub returns-in-Route : goal.returns-in-Route
returns-in-Route c = c.is_routed.ensures ∙ key_of_route c.args.key.now (state c.args.store.now.entries) c.in-Route.is
