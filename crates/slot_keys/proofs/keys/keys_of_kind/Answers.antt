use Rattle.std.proofs.Common.{[], ◌∷◌, ◌++◌, ◌+◌, ◌≤◌, drop, map, length, sym, ap, ◌∙◌, arith}
use Rattle.resource_types.specs.Lookups.{state}
use Rattle.control_rules.specs.Slots.{names_of, slot_key}
use Rattle.slot_keys.proofs.Keying.{names_kind, key_more, key_less, keys_whole}
use Rattle.slot_keys.proofs.keys.keys_of_kind.Goals.{then-is_of+in_ok-name+in_ok-push, else-is_of}
use Rattle.slot_keys.proofs.keys.keys_of_kind.Goals as goal

pub loop-place-init : goal.loop-place-init
loop-place-init c =
    let named = map (slot_key c.args.controller) (names_of c.args.kind c.walk-objects.result) in
    ap (λ ks. ks ++ named) c.new-keys.ensures.items
    ∙ ap (λ os. map (slot_key c.args.controller) (names_of c.args.kind os)) c.walk-objects.ensures
    ∙ ap (map (slot_key c.args.controller)) (names_kind c.args.kind (state c.args.store.now.entries))

pub loop-place-preserved : goal.loop-place-preserved
loop-place-preserved c =
    let objects = c.walk-objects.result in
    let all = map (slot_key c.args.controller) (names_of c.args.kind (state c.args.store.now.entries)) in
    let left = map (slot_key c.args.controller) (names_of c.args.kind (drop (c.loop-place.place + 1) objects)) in
    elim c.if-is_of.branch [
      | then-is_of+in_ok-name+in_ok-push w ↦
          ap (λ v. v.items ++ left) w.keys-is
          ∙ ap (λ ks. ks ++ left) (w.in_ok-push.ensures.items ∙ ap (λ n. c.loop-place.keys.items ++ slot_key c.args.controller n ∷ []) w.in_ok-name.ensures)
          ∙ key_more c.args.controller c.args.kind objects all c.loop-place.keys.items c.loop-place.place c.loop-place.invariant c.at-object.result.now c.at-object.ensures (sym c.is_of.ensures.value ∙ w.if-is_of.true)
      | else-is_of w ↦
          ap (λ v. v.items ++ left) w.keys-is
          ∙ key_less c.args.controller c.args.kind objects all c.loop-place.keys.items c.loop-place.place c.loop-place.invariant c.at-object.result.now c.at-object.ensures (sym c.is_of.ensures.value ∙ w.if-is_of.false)
    ]

pub returns : goal.returns
returns c =
    let le : length c.walk-objects.result ≤ c.loop-place.place = omega (arith, c.loop-place-test.false, c.len-place-end.ensures) in
    keys_whole c.args.controller c.args.kind c.walk-objects.result c.loop-place.keys.items c.loop-place.place _ c.loop-place.invariant le
