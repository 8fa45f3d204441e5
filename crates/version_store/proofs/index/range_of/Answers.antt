use Rattle.std.proofs.Common.{◌-◌, ◌≤◌, take, drop, ap, sym, ◌∙◌, subst}
use Rattle.std.specs.Ordering.{is_lt, is_le}
use Rattle.version_store.specs.State.{state}
use Rattle.version_store.specs.Index.{IsIndex, keys_at, leading}
use Rattle.version_store.proofs.States.{present_index, keys_present, state_order}
use Rattle.version_store.proofs.SpanRange.{first_place, end_place, leading-map, alike-range, first_end}
use Rattle.version_store.proofs.index.range_of.Goals as goal

pub place_of-first-requires : goal.place_of-first-requires
place_of-first-requires g c =
    let cmp = g.O.Key.Ord.cmp in
    subst (IsIndex cmp c.args.entries.now) (sym c.requires.versions) (present_index g.O.Item cmp g.met.O.Key.Ord.total c.args.entries.now c.requires.stamped)

pub place_of-end-requires : goal.place_of-end-requires
place_of-end-requires g c =
    let cmp = g.O.Key.Ord.cmp in
    subst (IsIndex cmp c.args.entries.now) (sym c.requires.versions) (present_index g.O.Item cmp g.met.O.Key.Ord.total c.args.entries.now c.requires.stamped)

pub returns-clause-objects : goal.returns-clause-objects
returns-clause-objects g c =
    let item = g.O.Item in
    let cmp = g.O.Key.Ord.cmp in
    let side = g.S.Span.side c.args.span.now in
    let entries = c.args.entries.now in
    let st = state item.key cmp entries in
    let keys = ap (keys_at entries) c.requires.versions ∙ keys_present item cmp g.met.O.Key.Ord.total entries c.requires.stamped in
    let low = c.place_of-first.ensures.place ∙ ap (leading (λ key. is_lt (side key))) keys ∙ leading-map (λ key. is_lt (side key)) item.key st in
    let high = c.place_of-end.ensures.place ∙ ap (leading (λ key. is_le (side key))) keys ∙ leading-map (λ key. is_le (side key)) item.key st in
    alike-range item.key cmp side (g.met.S.Span.together c.args.span.now) st (state_order item cmp g.met.O.Key.Ord.total entries)
    ∙ ap (λ n. take (end_place item.key side st - n) (drop n st)) (sym low)
    ∙ ap (λ n. take (n - c.place_of-first.result) (drop c.place_of-first.result st)) (sym high)

pub returns-clause-ordered : goal.returns-clause-ordered
returns-clause-ordered g c =
    let item = g.O.Item in
    let cmp = g.O.Key.Ord.cmp in
    let side = g.S.Span.side c.args.span.now in
    let entries = c.args.entries.now in
    let st = state item.key cmp entries in
    let keys = ap (keys_at entries) c.requires.versions ∙ keys_present item cmp g.met.O.Key.Ord.total entries c.requires.stamped in
    let low = c.place_of-first.ensures.place ∙ ap (leading (λ key. is_lt (side key))) keys ∙ leading-map (λ key. is_lt (side key)) item.key st in
    let high = c.place_of-end.ensures.place ∙ ap (leading (λ key. is_le (side key))) keys ∙ leading-map (λ key. is_le (side key)) item.key st in
    subst (λ n. n ≤ c.place_of-end.result) (sym low) (subst (λ n. first_place item.key side st ≤ n) (sym high)
    (first_end item.key cmp side (g.met.S.Span.together c.args.span.now) st))
