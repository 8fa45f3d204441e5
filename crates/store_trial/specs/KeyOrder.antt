-- Keys are in order of their kinds.
use Rattle.std.specs.Prelude.{refl}
use Rattle.version_store.specs.Laws.{KeepsKindsTogether}
use Rattle.store_trial.specs.declared.thing.Key.{Key}
use Rattle.store_trial.specs.contracts.thing.KeyOrd.TheImpl as key_order
use Rattle.store_trial.specs.contracts.thing.KindOrd.TheImpl as kind_order

pub kinds_together_of : KeepsKindsTogether key_order.ghosts.cmp (λ (k : Key). k.kind) kind_order.ghosts.cmp
kinds_together_of = λ a b e. rw e refl
