use Rattle.std.proofs.Common.{◌≡◌, ◌+◌, ◌≤◌, length, vec_len, vec_capacity}
use Rattle.std.specs.Vec.Iter.{into_iter_items, into_iter_len}
use Rattle.version_store.specs.Index.{AreInOrder}
use Rattle.gateway_pick.specs.Tables.{name_cmp, name_of, all_changed}
use Rattle.gateway_pick.proofs.tables.make_changes.Given as goal

-- the changes that are left lead to where all lead
abbrev pub invariant-loop-change : goal.invariant-loop-change
invariant-loop-change l = record {
  leads : all_changed (into_iter_items l.change-iterator) l.tables.items ≡ all_changed l.fn.changes.items l.fn.tables.items;
  ordered : AreInOrder name_of name_cmp l.tables.items;
  room : vec_len l.tables + into_iter_len l.change-iterator ≤ vec_capacity l.tables;
  left : into_iter_len l.change-iterator ≡ length (into_iter_items l.change-iterator);
}
