use Rattle.std.proofs.Common.{◌<◌, length}
use Rattle.std.specs.Option.{option_copied}
use Rattle.resource_codec.specs.Views.{most_events}
use Rattle.resource_codec.proofs.Polled.{IsToldTo}
use Rattle.resource_codec.proofs.polls.told_after.Given as goal

abbrev pub invariant-loop-place : goal.invariant-loop-place
invariant-loop-place l = record {
  few : length l.events < most_events;
  so_far : IsToldTo l.entries l.kind (option_copied l.space) l.after l.events l.place;
}
