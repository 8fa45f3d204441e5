use Rattle.std.proofs.Common.{ap, ◌∙◌}
use Rattle.slot_keys.specs.Routed.{put_name, names_in}
use Rattle.slot_keys.proofs.Routing.{names-put}
use Rattle.slot_keys.proofs.routed.put_name.Goals as goal

pub returns : goal.returns
returns c =
    ap names_in c.in_ok-hold.ensures.ok
    ∙ names-put (record { name = record { space = c.in_ok-own_space.own_space; name = c.in_ok-own_name.own_name } }) c.args.names.now
    ∙ ap (λ s. put_name (record { space = s; name = c.in_ok-own_name.own_name }) (names_in c.args.names.now)) c.in_ok-own_space.ensures
    ∙ ap (λ n. put_name (record { space = c.args.space.now; name = n }) (names_in c.args.names.now)) c.in_ok-own_name.ensures
