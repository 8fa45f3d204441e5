use Rattle.std.proofs.Common.{◌≡◌, ◌≤◌, List, ◌++◌, take, drop, true, Some}
use Rattle.json.specs.Token.{Token}
use Rattle.json.specs.Json as json
use Rattle.json.specs.Tree as tree
use Rattle.serde_json.specs.Data.{members_depth}
use Rattle.serde_json.specs.Read.{of_members}
use Rattle.serde_json.specs.Written.{blank_members, members_outline, WritesItems, WritesMembers}
use Rattle.json_tree.specs.Tree.{items_data, table_data, items_are_well, values_are_well}
use Rattle.json_tree.proofs.write.+write.Given as goal

-- whatever ends the array well from here ends it well from the start
abbrev pub invariant-write_items-loop-item : goal.invariant-write_items-loop-item
invariant-write_items-loop-item l =
    (l.out.before ≡ l.initial.out.before)
    × (items_are_well (items_data (drop l.item-index l.items)) ≡ true)
    × ((end : List Token) → WritesItems (items_data (drop l.item-index l.items)) l.out.tokens end → WritesItems (items_data l.items) l.initial.out.tokens end)

-- and whatever ends the object well
abbrev pub invariant-write_members-loop-member : goal.invariant-write_members-loop-member
invariant-write_members-loop-member l =
    let all = table_data l.members in
    let left = table_data (drop l.member-index l.members) in
    (l.out.before ≡ l.initial.out.before)
    × (values_are_well left ≡ true)
    × ((ms : json.Members) → of_members ms (table_data (take l.member-index l.members)) ≡ Some all → tree.members_depth ms ≤ members_depth left → blank_members ms ≡ members_outline left
    → WritesMembers all l.initial.out.tokens (l.out.tokens ++ tree.members_tokens ms))
