use Rattle.std.proofs.Common.{◌≡◌, sym, ◌∙◌, true, subst, insert}
use Rattle.json_tree.specs.Tree.{put_entry, names_of, names_rise}
use Rattle.json_tree.proofs.Rising.{rises-put_entry, rises-either}
use Rattle.json_tree.proofs.members.Table.put.Goals as goal

pub returns-in-At-clause-order : goal.returns-in-At-clause-order
returns-in-At-clause-order g c = λ rising.
    let old = c.args.self.now.entries in
    let name = c.args.name in
    let value = c.args.value in
    let put = rw c.as_str.ensures at (c.in-At.ensures.1 value) in
    let same : c.set.new.self ≡ put_entry name value old = c.set.ensures ∙ sym put in
    rw same (rises-put_entry name value old rising)

pub returns-in-Before-clause-order : goal.returns-in-Before-clause-order
returns-in-Before-clause-order g c = λ rising.
    let old = c.args.self.now.entries in
    let name = c.args.name in
    let value = c.args.value in
    let place = c.in-Before.place in
    let put = rw c.as_str.ensures at (c.in-Before.ensures.1 value) in
    let next = λ (h : names_rise (names_of old) ≡ true). subst (λ es. names_rise (names_of es) ≡ true) put (rises-put_entry name value old h) in
    rises-either c.insert.result old c.insert.new.self (insert old place (name, value)) c.insert.ensures.ok c.insert.ensures.err next rising
