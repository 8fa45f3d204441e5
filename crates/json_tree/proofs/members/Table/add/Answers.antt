use Rattle.std.proofs.Common.{[], ◌∷◌, ◌++◌}
use Rattle.json_tree.proofs.Rising.{rises-push, rises-either}
use Rattle.json_tree.proofs.members.Table.add.Goals as goal

pub returns-clause-order : goal.returns-clause-order
returns-clause-order g c = λ rising after.
    let old = c.args.self.now.entries in
    let name = c.args.name in
    rises-either c.push.result old c.push.new.self (old ++ (name, c.args.value) ∷ []) c.push.ensures.ok c.push.ensures.err (λ h. rises-push name c.args.value old h after) rising
